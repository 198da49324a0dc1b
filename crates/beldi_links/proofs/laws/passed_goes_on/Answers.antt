use Rattle.beldi_links.proofs.Meets.{passed_goes_on}
use Rattle.beldi_links.proofs.laws.passed_goes_on.Goals as goal

pub returns : goal.returns
returns c = passed_goes_on
