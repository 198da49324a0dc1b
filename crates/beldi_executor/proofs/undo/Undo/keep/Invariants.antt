use Rattle.beldi_executor.proofs.Names.{all_swept, ◌≡◌}
use Rattle.beldi_executor.proofs.undo.Undo.keep.Given as goal

-- what is left is swept from here
abbrev pub invariant-loop-was : goal.invariant-loop-was
invariant-loop-was l = all_swept l.items l.entries.items ≡ all_swept l.initial.items l.initial.entries.items

abbrev pub decreases-loop-was : goal.decreases-loop-was
decreases-loop-was l = goal.left-loop-was l
