use Rattle.beldi_core.proofs.runs.Runs.stride.Goals as goal

pub invariant_of-self : goal.invariant_of-self
invariant_of-self c = c.set_forward.ensures.kept c.self.inside.given c.self.inside.counts c.self.invariant
