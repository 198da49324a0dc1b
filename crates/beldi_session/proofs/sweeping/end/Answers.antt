use Rattle.beldi_session.proofs.SessionCalls.{does_so, does_stop}
use Rattle.beldi_session.proofs.sweeping.end.Goals as goal

pub returns-in-Ok-clause-does : goal.returns-in-Ok-clause-does
returns-in-Ok-clause-does g c = λ held faults. does_so c.args.swept (c.in-Ok.ensures held faults)

pub returns-in-Err-clause-does : goal.returns-in-Err-clause-does
returns-in-Err-clause-does g c = λ held faults. does_stop (c.in-Err.ensures held faults)
