use Rattle.beldi_core.proofs.RunMaps.{none_kept}
use Rattle.beldi_core.proofs.runs.Runs.new.Goals as goal

pub invariant_of-result : goal.invariant_of-result
invariant_of-result c = none_kept 0 _ _ c.new.ensures c.new-2.ensures
