use Rattle.beldi_session.proofs.SessionCalls.{does_so, does_stop}
use Rattle.beldi_session.proofs.session.sweep_all.Goals as goal

pub returns-in-Ok : goal.returns-in-Ok
returns-in-Ok g c = λ held faults. does_so tt (c.in-Ok.ensures.does held faults)

pub returns-in-Err : goal.returns-in-Err
returns-in-Err g c = λ held faults. does_stop (c.in-Err.ensures.does held faults)
