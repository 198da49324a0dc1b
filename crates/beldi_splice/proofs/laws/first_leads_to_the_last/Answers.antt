use Rattle.beldi_splice.proofs.Alike.{first_leads_to_last}
use Rattle.beldi_splice.proofs.laws.first_leads_to_the_last.Goals as goal

pub returns : goal.returns
returns c = first_leads_to_last
