use Rattle.beldi_host.proofs.Names.{Ok, Option, RowKey, Some, line_after, next_line_of, next_row, next_listed_of, ◌≡◌}
use Rattle.beldi_host.specs.declared.survey.Wanted.{Wanted}
use Rattle.beldi_host.proofs.{HostSteps.reads_so, HostSteps.reads_then, HostLines.seen_some}
use Rattle.beldi_host.proofs.survey.next_line.Goals as goal

pub returns-in-Ok : goal.returns-in-Ok
returns-in-Ok g c =
    let t = g.T.Table in
    let a = t.state c.args.table.now in
    let b = t.state c.next_listed-seen.new.table in
    let e = t.state c.write_wanted.new.table in
    let d = c.args.code.now in
    let text = c.args.text.now in
    let mid = c.next_listed-seen.new.text in
    let new = c.write_wanted.new.text in
    let k = c.in-Ok-Some.key in
    let w = c.in-Ok-Some.wanted in
    reads_so (λ m (u : Unit {0}). (Some k, new) ≡ next_line_of d m text (next_row m c.args.after)) (λ m (q : Option RowKey). (q, new) ≡ next_line_of d m text (next_row m c.args.after)) a e (Ok tt) (Ok (Some k)) (λ e. cc) (λ m p. p)
    (reads_then (λ m (q : Option (RowKey × Option Wanted)). (q, mid) ≡ next_listed_of d text (next_row m c.args.after)) (λ m (u : Unit {0}). new ≡ line_after d m k.home k.kind (w, mid)) (λ m (u : Unit {0}). (Some k, new) ≡ next_line_of d m text (next_row m c.args.after))
    a b e (Some (k, w)) (Ok tt) (λ m u p q. seen_some d m text mid new c.args.after k w p q) (rw c.in-Ok-Some.field-0-is at c.in-Ok-Some.ensures) c.in-Ok.ensures)
