use Rattle.beldi_executor.proofs.Names.{AllHaveRoom, all_back, ◌≡◌}
use Rattle.beldi_executor.proofs.undo.Undo.restore.Given as goal

-- what is left is put back from here
abbrev pub invariant-loop-was : goal.invariant-loop-was
invariant-loop-was l = AllHaveRoom l.items l.entries.items × (all_back l.items l.entries.items ≡ all_back l.initial.items l.initial.entries.items)

abbrev pub decreases-loop-was : goal.decreases-loop-was
decreases-loop-was l = goal.left-loop-was l
