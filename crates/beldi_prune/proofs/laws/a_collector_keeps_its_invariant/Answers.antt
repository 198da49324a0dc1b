use Rattle.beldi_prune.proofs.CollectorInvariant.{stay_invariant}
use Rattle.beldi_prune.proofs.laws.a_collector_keeps_its_invariant.Goals as goal

pub returns : goal.returns
returns c = stay_invariant
