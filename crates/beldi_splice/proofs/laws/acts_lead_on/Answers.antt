use Rattle.beldi_splice.proofs.Onward.{acts_lead_on}
use Rattle.beldi_splice.proofs.laws.acts_lead_on.Goals as goal

pub returns : goal.returns
returns c = acts_lead_on
