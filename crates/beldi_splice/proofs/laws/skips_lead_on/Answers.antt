use Rattle.beldi_splice.proofs.Onward.{skips_lead_on}
use Rattle.beldi_splice.proofs.laws.skips_lead_on.Goals as goal

pub returns : goal.returns
returns c = skips_lead_on
