use Rattle.beldi_executor.proofs.Names.{ap, get_made, option_copied_mut, rules, set_made, sym, table_exact, table_total, unset_cell, ◌∙◌}
use Rattle.beldi_executor.proofs.Names.map
use Rattle.beldi_executor.proofs.tables.Tables.unset.Goals as goal

pub returns : goal.returns
returns c =
    let d = c.unset.new.self in
    let tree = c.get_mut.follows.lender d in
    let entries = c.self.inside.entries.entries in
    let here = ap (λ m. map.get m c.args.table) (sym c.self.view_is) ∙ get_made table_total entries c.args.table ∙ sym c.get_mut.ensures.value ∙ ap option_copied_mut c.in-Some.is in
    set_made table_total table_exact entries tree.entries c.args.table d ((c.get_mut.follows.holds d).3 (search rules)).0 ∙ ap (λ m. map.insert m c.args.table d) c.self.view_is
    ∙ ap (map.insert c.args.self.now c.args.table) c.unset.ensures ∙ sym (ap (unset_cell c.args.self.now c.args.table c.args.key.now) here)

pub returns-in_default : goal.returns-in_default
returns-in_default c =
    let none = ap (λ m. map.get m c.args.table) (sym c.self.view_is) ∙ get_made table_total c.self.inside.entries.entries c.args.table ∙ sym c.get_mut.ensures.value ∙ ap option_copied_mut c.in_default.is in
    let same = c.get_mut.follows.holds-at-none in
    ap (λ t. map.from_entries t.entries) same ∙ c.self.view_is ∙ sym (ap (unset_cell c.args.self.now c.args.table c.args.key.now) none)
