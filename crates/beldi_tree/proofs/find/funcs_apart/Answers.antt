use Rattle.beldi_tree.proofs.{Names.sym, Aparts.one_more, Aparts.all_first}
use Rattle.beldi_tree.proofs.find.funcs_apart.Goals as goal

pub loop-i-preserved : goal.loop-i-preserved
loop-i-preserved c =
    one_more (λ x. x.name) c.args.funcs.now c.loop-i.i c.index-funcs-i.result c.as_bytes.result.now c.func_place.result c.index-funcs-i.is c.loop-i.invariant c.as_bytes.ensures c.func_place.ensures.found (sym c.if-ne.ensures)

pub returns : goal.returns
returns c u = all_first (λ x. x.name) c.args.funcs.now c.loop-i.i c.loop-i-test.false c.loop-i.invariant
