use Rattle.beldi_executor.proofs.Names.{Cells, List, TableId, Tables, ap, entries_made, items_in, items_text, sym, table_total, ℕ, ◌++◌, ◌∙◌}
use Rattle.beldi_executor.proofs.ByTable.{entries_items}
use Rattle.beldi_executor.proofs.Names.map
use Rattle.beldi_executor.proofs.tables.Tables.write.Goals as goal

pub loop-table-init : goal.loop-table-init
loop-table-init c =
    let entries = c.self.inside.entries.entries in
    let text : List (TableId × Cells) → List ℕ = λ es. c.args.out.now ++ items_text c.args.code.now (items_in es) in
    ap text (c.into_iter-table-iterator.ensures.into_iter_gives ∙ c.iter-table-items.ensures.rest ∙ sym (entries_made table_total entries c.iter-table-items.ensures.ordered))
    ∙ ap (λ (m : Tables). text (map.entries m)) c.self.view_is
    ∙ ap (λ es. c.args.out.now ++ items_text c.args.code.now es) (sym (entries_items c.args.self.now))
