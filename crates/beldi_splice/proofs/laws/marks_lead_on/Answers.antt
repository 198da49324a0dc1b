use Rattle.beldi_splice.proofs.Onward.{marks_lead_on}
use Rattle.beldi_splice.proofs.laws.marks_lead_on.Goals as goal

pub returns : goal.returns
returns c = marks_lead_on
