use Rattle.beldi_check.proofs.Names.{arith, evaluated_falls}
use Rattle.beldi_check.proofs.site.+walk.Goals as goal

pub list_block-list_inside-requires : goal.list_block-list_inside-requires
list_block-list_inside-requires t c =
    let f = evaluated_falls c.as_slice-stmt-items.result.now c.args.block.now c.loop-stmt.stmt-index c.stmt-item.result c.as_slice-stmt-items.ensures c.loop-stmt-test.true c.stmt-item.is in
    (omega arith, tt)
