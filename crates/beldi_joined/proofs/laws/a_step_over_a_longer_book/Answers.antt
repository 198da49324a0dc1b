use Rattle.beldi_joined.proofs.RaisedEvents.{steps_behind}
use Rattle.beldi_joined.proofs.laws.a_step_over_a_longer_book.Goals as goal

pub returns : goal.returns
returns c = steps_behind
