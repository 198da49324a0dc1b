use Rattle.beldi_core.proofs.Names.{ap, get_made, id_total, is_some, sym, ◌∙◌}
use Rattle.beldi_core.proofs.Names.map
use Rattle.beldi_core.proofs.counts.Counts.has.Goals as goal

pub returns : goal.returns
returns c = c.contains_key.ensures ∙ ap is_some (sym (get_made id_total c.self.inside.entries.entries c.args.id.now) ∙ ap (λ m. map.get m c.args.id.now) c.self.view_is)
