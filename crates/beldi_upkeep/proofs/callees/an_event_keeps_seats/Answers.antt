use Rattle.beldi_upkeep.proofs.Upkept.{keeps_seats}
use Rattle.beldi_upkeep.proofs.callees.an_event_keeps_seats.Goals as goal

pub returns : goal.returns
returns c = keeps_seats
