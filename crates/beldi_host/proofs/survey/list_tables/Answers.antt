use Rattle.beldi_host.proofs.Names.{List, None, Option, RowKey, Rows, Some, least_key, next_line_of, next_row, subst, sym, tables_text, ℕ, ◌≡◌}
use Rattle.beldi_host.proofs.HostSteps.{Listed, listed_first, listed_next, listed_last, begins, goes, ends}
use Rattle.beldi_host.proofs.Skips.{listed_past}
use Rattle.beldi_host.proofs.survey.list_tables.Goals as goal

pub loop-init : goal.loop-init
loop-init g c =
    let t = g.T.Table in
    let h = c.args.table.now in
    let d = c.args.code.now in
    let from_least : (m : Rows) → Listed d c.new-text.result c.least.result m =
    λ m. subst (λ (k : RowKey). Listed d c.new-text.result k m) (sym c.least.ensures) (subst (λ (s : List ℕ). Listed d s least_key m) (sym c.new-text.ensures) (listed_first d m)) in
    begins (Listed d c.new-text.result c.in-Ok-or_drop.field-0) (λ m. listed_past d c.new-text.result c.least.result c.in-Ok-or_drop.field-0 m c.in-Ok-or_drop.ensures (from_least m)) (t.state h)

pub returns-in-Ok-None : goal.returns-in-Ok-None
returns-in-Ok-None g c =
    let t = g.T.Table in
    let a = c.args.table.now in
    let b = c.loop.table in
    let k = c.next_line.new.table in
    let d = c.args.code.now in
    let new = c.next_line.new.text in
    ends (Listed d c.loop.text c.loop.at) (λ m (q : Option RowKey). (q, new) ≡ next_line_of d m c.loop.text (next_row m c.loop.at)) (t.state a) (t.state b) (t.state k) c.loop.invariant
    (λ m (s : List ℕ). s ≡ tables_text d m) None new (λ m p q. listed_last d c.loop.text new c.loop.at m p q) (rw c.in-Ok-None.field-0-is at c.in-Ok-None.ensures)

pub loop-preserved : goal.loop-preserved
loop-preserved g c =
    let t = g.T.Table in
    let a = c.args.table.now in
    let b = c.loop.table in
    let k = c.next_line.new.table in
    let d = c.args.code.now in
    let new = c.next_line.new.text in
    goes (Listed d c.loop.text c.loop.at) (λ m (q : Option RowKey). (q, new) ≡ next_line_of d m c.loop.text (next_row m c.loop.at)) (t.state a) (t.state b) (t.state k) c.loop.invariant
    (Listed d new c.in-Ok-or_drop-at.field-0) (Some c.in-Ok-Some.key)
    (λ m p q. listed_past d new c.in-Ok-Some.key c.in-Ok-or_drop-at.field-0 m c.in-Ok-or_drop-at.ensures (listed_next d c.loop.text new c.loop.at c.in-Ok-Some.key m p q)) (rw c.in-Ok-Some.field-0-is at c.in-Ok-Some.ensures)
