use Rattle.beldi_tree.proofs.Names.{statements_view, ◌≡◌}
use Rattle.beldi_tree.proofs.+find.Given as goal

abbrev pub invariant-block::Block::find_names-loop-stmt :
    goal.invariant-block::Block::find_names-loop-stmt
invariant-block::Block::find_names-loop-stmt l =
    goal.unvisited-block::Block::find_names-loop-stmt l × (statements_view l.stmt-items ≡ statements_view l.initial.stmt-items)
