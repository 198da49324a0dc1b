use Rattle.beldi_core.proofs.{Names.rules, RunMaps.taken_back}
use Rattle.beldi_core.proofs.runs.Runs.withdraw.Goals as goal

pub invariant_of-self : goal.invariant_of-self
invariant_of-self c = taken_back c.self.inside.given c.self.inside.live c.end.new.live c.self.inside.counts c.end.new.counts (search rules) c.self.invariant c.end.ensures.rest c.end.ensures.counts
