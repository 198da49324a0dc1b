use Rattle.beldi_check.proofs.{Names.Call, Names.arith, Names.blocks, Names.reaches, Names.◌∙◌, Names.◌≡◌, Firsts.next_from, Grids.cell_is}
use Rattle.beldi_check.proofs.rules.kept.Goals as goal

pub loop-i-preserved : goal.loop-i-preserved
loop-i-preserved c =
    let v : c.cell.result ≡ reaches Call c.args.all.now (blocks c.args.all.now) c.loop-i.i = c.cell.ensures ∙ cell_is _ _ (reaches Call c.args.all.now) c.args.inside.now c.requires (blocks c.args.all.now) c.loop-i.i (omega arith) (omega arith) in
    next_from c.args.rule c.args.all.now c.loop-i.i c.index-all-i.result c.cell.result (omega arith) c.index-all-i.is v c.in_ok-kept_in.ensures c.loop-i.invariant
