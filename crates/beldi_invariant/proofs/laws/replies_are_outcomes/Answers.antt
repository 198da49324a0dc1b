use Rattle.beldi_invariant.proofs.Events.{replies}
use Rattle.beldi_invariant.proofs.laws.replies_are_outcomes.Goals as goal

pub returns : goal.returns
returns c = replies
