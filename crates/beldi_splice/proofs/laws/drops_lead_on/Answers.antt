use Rattle.beldi_splice.proofs.Onward.{drops_lead_on}
use Rattle.beldi_splice.proofs.laws.drops_lead_on.Goals as goal

pub returns : goal.returns
returns c = drops_lead_on
