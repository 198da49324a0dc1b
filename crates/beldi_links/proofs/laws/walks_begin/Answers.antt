use Rattle.beldi_links.proofs.Meets.{walks_begin}
use Rattle.beldi_links.proofs.laws.walks_begin.Goals as goal

pub returns : goal.returns
returns c = walks_begin
