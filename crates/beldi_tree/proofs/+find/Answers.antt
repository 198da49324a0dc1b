use Rattle.beldi_tree.proofs.Names.{command_of, map-set_same, rules, ◌∙◌}
use Rattle.beldi_tree.proofs.+find.Goals as goal

pub block::Block::find_names-loop-stmt-preserved :
    goal.block::Block::find_names-loop-stmt-preserved
block::Block::find_names-loop-stmt-preserved t c =
    (search rules, map-set_same command_of c.loop-stmt.stmt-items c.loop-stmt.stmt-index c.find_names.new.self c.stmt-item.result c.find_names.ensures ∙ c.loop-stmt.invariant.1)
