use Rattle.beldi_invokelog.proofs.InvokedCalls.{registrations_set}
use Rattle.beldi_invokelog.proofs.laws.a_registration_is_set_once.Goals as goal

pub returns : goal.returns
returns c = registrations_set
