use Rattle.beldi_core.proofs.{RunMaps.removed}
use Rattle.beldi_core.proofs.runs.Runs.remove.Goals as goal

pub invariant_of-self : goal.invariant_of-self
invariant_of-self c = removed c.self.inside.given c.self.inside.live c.end.new.live c.self.inside.counts c.end.new.counts c.args.number c.self.invariant c.end.ensures.rest c.end.ensures.counts
