use Rattle.beldi_executor.proofs.Names.{ap, get_made, key_total, sym, ◌∙◌}
use Rattle.beldi_executor.proofs.Names.map
use Rattle.beldi_executor.proofs.cells.Cells.get.Goals as goal

pub returns : goal.returns
returns c = c.get.ensures.value ∙ sym (get_made key_total c.self.inside.entries.entries c.args.key.now) ∙ ap (λ m. map.get m c.args.key.now) c.self.view_is
