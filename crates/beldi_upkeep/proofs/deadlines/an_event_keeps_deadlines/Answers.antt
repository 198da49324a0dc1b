use Rattle.beldi_upkeep.proofs.Nearness.{keeps_near}
use Rattle.beldi_upkeep.proofs.deadlines.an_event_keeps_deadlines.Goals as goal

pub returns : goal.returns
returns c = keeps_near
