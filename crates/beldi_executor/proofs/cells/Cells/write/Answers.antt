use Rattle.beldi_executor.proofs.Names.{Cells, List, Value, ap, cells_at, entries_made, items_text, key_total, sym, ℕ, ◌++◌, ◌∙◌}
use Rattle.beldi_executor.proofs.Names.map
use Rattle.beldi_executor.proofs.cells.Cells.write.Goals as goal

pub loop-key-init : goal.loop-key-init
loop-key-init c =
    let entries = c.self.inside.entries.entries in
    let text : List (List ℕ × Value) → List ℕ = λ es. c.args.out.now ++ items_text c.args.code.now (cells_at c.args.table es) in
    ap text (c.into_iter-key-iterator.ensures.into_iter_gives ∙ c.iter-key-items.ensures.rest ∙ sym (entries_made key_total entries c.iter-key-items.ensures.ordered)) ∙ ap (λ (m : Cells). text (map.entries m)) c.self.view_is
