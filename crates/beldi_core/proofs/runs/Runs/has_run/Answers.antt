use Rattle.beldi_core.proofs.{Names.Numbered, Names.ap, Names.has_run, Names.◌∙◌, Counting.any_counted}
use Rattle.beldi_core.proofs.runs.Runs.has_run.Goals as goal

pub returns : goal.returns
returns c = c.has.ensures ∙ any_counted c.self.inside.given c.self.inside.live c.self.inside.counts c.args.id.now c.self.invariant ∙ ap (λ (v : Numbered). has_run v.runs c.args.id.now) c.self.view_is
