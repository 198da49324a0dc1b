use Rattle.beldi_core.proofs.Names.{Numbered, ap, ◌∙◌}
use Rattle.beldi_core.proofs.Names.map
use Rattle.beldi_core.proofs.runs.Runs.len.Goals as goal

pub returns : goal.returns
returns c = c.len.ensures ∙ ap (λ (v : Numbered). map.len v.runs) c.self.view_is
