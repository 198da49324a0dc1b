use Rattle.beldi_host.proofs.Names.{Option, rules, sym, ◌≡◌}
use Rattle.beldi_row.specs.Key.{at_row}
use Rattle.beldi_chain.specs.Chain.{chain}
use Rattle.beldi_host.proofs.LastRows.{Follows, follows_first, follows_last, follows_next}
use Rattle.beldi_host.proofs.HostSteps.{begins, ends, goes}
use Rattle.beldi_host.specs.LastRow.{IsLast, row_step}
use Rattle.beldi_host.specs.declared.last_row.{Held.Held, RowStep.RowStep, RowStep.TheVariants.Last, RowStep.TheVariants.Next}
use Rattle.beldi_host.proofs.Names.map
use Rattle.beldi_host.proofs.last_row.last_row.Goals as goal

pub loop-init : goal.loop-init
loop-init g c =
    let t = g.T.Table in
    let k = c.args.head.now in
    begins (λ m. Follows (chain m k) 0) (λ m. follows_first (chain m k)) (t.state c.args.table.now)

pub returns-in-Ok-Last : goal.returns-in-Ok-Last
returns-in-Ok-Last g c =
    let t = g.T.Table in
    let k = c.args.head.now in
    ends (λ m. Follows (chain m k) c.loop.row) (λ m (q : RowStep). q ≡ row_step c.loop.row (map.get m (at_row k c.loop.row))) (t.state c.args.table.now) (t.state c.loop.table) (t.state c.look.new.table) c.loop.invariant
    (λ m (h : Option Held). IsLast (chain m k) h) (Last c.in-Ok-Last.held) c.in-Ok-Last.held (λ m p q. follows_last (chain m k) c.loop.row c.in-Ok-Last.held p (sym q)) (rw c.in-Ok-Last.field-0-is at c.in-Ok-Last.ensures)

pub loop-preserved : goal.loop-preserved
loop-preserved g c =
    let t = g.T.Table in
    let k = c.args.head.now in
    goes (λ m. Follows (chain m k) c.loop.row) (λ m (q : RowStep). q ≡ row_step c.loop.row (map.get m (at_row k c.loop.row))) (t.state c.args.table.now) (t.state c.loop.table) (t.state c.look.new.table) c.loop.invariant
    (λ m. Follows (chain m k) c.in-Ok-Next.next) (Next c.in-Ok-Next.next) (λ m p q. follows_next (chain m k) c.loop.row c.in-Ok-Next.next (search rules) p (sym q)) (rw c.in-Ok-Next.field-0-is at c.in-Ok-Next.ensures)
