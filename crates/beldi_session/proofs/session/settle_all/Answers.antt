use Rattle.beldi_session.proofs.SessionCalls.{does_so, does_stop}
use Rattle.beldi_session.proofs.session.settle_all.Goals as goal

-- src/session.rt:168:1
pub returns-in-Ok : goal.returns-in-Ok
returns-in-Ok g c = λ held faults. does_so tt (c.in-Ok.ensures.does held faults)

-- src/session.rt:168:1
pub returns-in-Err : goal.returns-in-Err
returns-in-Err g c = λ held faults. does_stop (c.in-Err.ensures.does held faults)
