use Rattle.beldi_invariant.proofs.Events.{keeps_invariant}
use Rattle.beldi_invariant.proofs.laws.an_event_keeps_the_invariant.Goals as goal

pub returns : goal.returns
returns c = keeps_invariant
