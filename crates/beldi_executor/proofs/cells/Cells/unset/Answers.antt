use Rattle.beldi_executor.proofs.Names.{ap, key_exact, key_total, unset_made, ◌∙◌}
use Rattle.beldi_executor.proofs.Names.map
use Rattle.beldi_executor.proofs.cells.Cells.unset.Goals as goal

pub returns : goal.returns
returns c = unset_made key_total key_exact c.self.inside.entries.entries c.remove.new.self.entries c.args.key.now c.remove.ensures.updates.0 ∙ ap (λ m. map.remove m c.args.key.now) c.self.view_is
