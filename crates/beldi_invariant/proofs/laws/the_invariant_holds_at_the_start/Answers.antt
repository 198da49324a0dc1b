use Rattle.beldi_invariant.proofs.Events.{begins}
use Rattle.beldi_invariant.proofs.laws.the_invariant_holds_at_the_start.Goals as goal

pub returns : goal.returns
returns c = begins
