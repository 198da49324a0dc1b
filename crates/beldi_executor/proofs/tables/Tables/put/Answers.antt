use Rattle.beldi_executor.proofs.Names.{ap, get_made, is_some, option_copied_mut, rules, set_made, sym, table_exact, table_total, ◌∙◌}
use Rattle.beldi_executor.proofs.ByTable.{none_of, one_put, none_put}
use Rattle.beldi_executor.proofs.Names.map
use Rattle.beldi_executor.proofs.tables.Tables.put.Goals as goal

pub put_first-requires : goal.put_first-requires
put_first-requires c =
    let here = ap (λ m. map.get m c.args.table) (sym c.self.view_is) ∙ get_made table_total c.self.inside.entries.entries c.args.table in
    none_of (map.get c.args.self.now c.args.table) (ap is_some here ∙ sym c.contains_key.ensures ∙ c.if-not-contains_key.true)

pub returns-clause-ok : goal.returns-clause-ok
returns-clause-ok c =
    let d = c.put.new.self in
    let h = c.get_mut.follows.holds d in
    let tree = c.get_mut.follows.lender d in
    let entries = c.self.inside.entries.entries in
    one_put c.args.self.now (map.from_entries tree.entries) c.args.table c.args.key c.args.value c.in-Some.cells.now d c.put.result
    (ap (λ m. map.get m c.args.table) (sym c.self.view_is) ∙ get_made table_total entries c.args.table ∙ sym c.get_mut.ensures.value ∙ ap option_copied_mut c.in-Some.is)
    (set_made table_total table_exact entries tree.entries c.args.table d (h.3 (search rules)).0 ∙ ap (λ m. map.insert m c.args.table d) c.self.view_is)
    c.put.ensures.ok

pub returns-clause-err : goal.returns-clause-err
returns-clause-err c =
    let d = c.put.new.self in
    let h = c.get_mut.follows.holds d in
    let tree = c.get_mut.follows.lender d in
    let entries = c.self.inside.entries.entries in
    none_put c.args.self.now (map.from_entries tree.entries) c.args.table c.args.key c.in-Some.cells.now d c.put.result
    (ap (λ m. map.get m c.args.table) (sym c.self.view_is) ∙ get_made table_total entries c.args.table ∙ sym c.get_mut.ensures.value ∙ ap option_copied_mut c.in-Some.is)
    (set_made table_total table_exact entries tree.entries c.args.table d (h.3 (search rules)).0 ∙ ap (λ m. map.insert m c.args.table d) c.self.view_is)
    c.put.ensures.err
