use Rattle.beldi_core.proofs.Names.{ap, id_exact, id_total, unset_made, ◌∙◌}
use Rattle.beldi_core.proofs.Names.map
use Rattle.beldi_core.proofs.counts.Counts.end.Goals as goal

pub returns : goal.returns
returns c = unset_made id_total id_exact c.self.inside.entries.entries c.remove.new.self.entries c.args.id.now c.remove.ensures.updates.0 ∙ ap (λ m. map.remove m c.args.id.now) c.self.view_is
