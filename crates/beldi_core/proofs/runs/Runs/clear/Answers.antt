use Rattle.beldi_core.proofs.RunMaps.{none_kept}
use Rattle.beldi_core.proofs.runs.Runs.clear.Goals as goal

pub invariant_of-self : goal.invariant_of-self
invariant_of-self c = none_kept c.self.inside.given _ _ c.new.ensures c.new-2.ensures
