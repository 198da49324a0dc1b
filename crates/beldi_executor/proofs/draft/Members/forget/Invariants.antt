use Rattle.beldi_executor.proofs.Names.{all_gone, ◌≡◌}
use Rattle.beldi_executor.proofs.draft.Members.forget.Given as goal

-- what is left is removed from here
abbrev pub invariant-loop-id : goal.invariant-loop-id
invariant-loop-id l = all_gone l.made l.ids.items ≡ all_gone l.initial.made l.initial.ids.items

abbrev pub decreases-loop-id : goal.decreases-loop-id
decreases-loop-id l = goal.left-loop-id l
