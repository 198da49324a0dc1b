use Rattle.beldi_tree.proofs.{Names.sym, Aparts.one_more, Aparts.all_first}
use Rattle.beldi_tree.proofs.find.tables_apart.Goals as goal

pub loop-i-preserved : goal.loop-i-preserved
loop-i-preserved c =
    one_more (λ x. x.name) c.args.tables.now c.loop-i.i c.index-tables-i.result c.as_bytes.result.now c.table_place.result c.index-tables-i.is c.loop-i.invariant c.as_bytes.ensures c.table_place.ensures (sym c.if-ne.ensures)

pub returns : goal.returns
returns c u = all_first (λ x. x.name) c.args.tables.now c.loop-i.i c.loop-i-test.false c.loop-i.invariant
