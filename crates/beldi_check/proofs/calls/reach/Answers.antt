use Rattle.beldi_check.proofs.Names.{IsGrid, arith, cell, edge, length, over, row_at, subst, ◌+◌}
use Rattle.beldi_check.proofs.Grids.{begins, widens}
use Rattle.beldi_check.proofs.calls.reach.Goals as goal

pub loop-by-init : goal.loop-by-init
loop-by-init c = begins _ _ (edge c.args.link c.args.all.now) c.in_ok-rows.rows.items c.in_ok-rows.ensures

pub loop-by-preserved : goal.loop-by-preserved
loop-by-preserved c =
    let grid = subst (λ rs. IsGrid (length rs) (length (row_at rs c.loop-by.by)) (over (cell rs) c.loop-by.by) c.in_ok-rows-2.rows.items) c.deref.ensures.value c.in_ok-rows-2.ensures in
    widens (length c.args.all.now + 1) (length c.args.all.now) (edge c.args.link c.args.all.now) c.loop-by.by c.loop-by.rows.items c.in_ok-rows-2.rows.items (omega arith) (omega arith) c.loop-by.invariant grid
