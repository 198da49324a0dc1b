use Rattle.beldi_invariant.proofs.OneEvent.{keeps_room}
use Rattle.beldi_invariant.proofs.laws.an_event_keeps_the_room.Goals as goal

pub returns : goal.returns
returns c = keeps_room
