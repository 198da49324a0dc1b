use Rattle.beldi_core.proofs.runs.Runs.resume.Goals as goal

pub invariant_of-self : goal.invariant_of-self
invariant_of-self c = c.tell.ensures.kept c.self.inside.given c.self.invariant
