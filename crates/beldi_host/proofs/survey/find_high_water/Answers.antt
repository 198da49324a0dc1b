use Rattle.beldi_host.proofs.Names.{IsHighWater, None, Option, RowKey, Some, arith, next_mark_of, next_row, rules, subst, sym, ℕ, ◌^◌, ◌≡◌, ◌≤◌}
use Rattle.beldi_host.proofs.HostSteps.{Marks, marks_first, marks_next, marks_last, begins, goes, ends}
use Rattle.beldi_host.specs.declared.high_water.HighWater.{HighWater}
use Rattle.beldi_host.proofs.survey.find_high_water.Goals as goal

pub loop-init : goal.loop-init
loop-init g c =
    let t = g.T.Table in
    let h = c.args.table.now in
    (begins (Marks 0 0 c.least-at.result) (λ m. subst (λ (k : RowKey). Marks 0 0 k m) (sym c.least-at.ensures) (marks_first m)) (t.state h), omega arith)

pub returns-in-Ok-None : goal.returns-in-Ok-None
returns-in-Ok-None g c =
    let t = g.T.Table in
    ends (Marks c.loop.ticket c.loop.moment c.loop.at) (λ m (q : Option (RowKey × ℕ)). q ≡ next_mark_of (next_row m c.loop.at)) (t.state c.args.table.now) (t.state c.loop.table) (t.state c.next_mark.new.table) c.loop.invariant.0
    (λ m (w : HighWater). IsHighWater m w.ticket w.moment) None _ (λ m p q. marks_last c.loop.ticket c.loop.moment c.loop.at m p q) (rw c.in-Ok-None.field-0-is at c.in-Ok-None.ensures.reads)

pub loop-preserved : goal.loop-preserved
loop-preserved g c =
    let t = g.T.Table in
    let some = c.in-Ok-Some in
    let early : some.later ≤ 2 ^ 62 = rw some.field-0-is at some.ensures.early in
    let before = c.loop.invariant.1 in
    let most = c.max-moment.ensures in (
      goes (Marks c.loop.ticket c.loop.moment c.loop.at) (λ m (q : Option (RowKey × ℕ)). q ≡ next_mark_of (next_row m c.loop.at)) (t.state c.args.table.now) (t.state c.loop.table) (t.state c.next_mark.new.table) c.loop.invariant.0
          (Marks c.max-ticket.result c.max-moment.result some.key) (Some (some.key, some.later))
          (λ m p q. marks_next c.max-ticket.result c.loop.ticket c.max-moment.result c.loop.moment some.later c.loop.at some.key m (search rules) c.max-moment.ensures p q) (rw some.field-0-is at some.ensures.reads),
      omega (arith, early, before, most),
    )
