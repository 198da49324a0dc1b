use Rattle.beldi_tree.proofs.Names.{[], drop, ended, fields_value, items_of, items_value, items_view, members_of, members_size, members_view, cow_value, term_of, term_size, term_value, terms_size, ◌*◌, ◌+◌, ◌≡◌}
use Rattle.beldi_tree.proofs.Evaluated.{onto, step_size}
use Rattle.beldi_tree.proofs.evaluation.+evaluate.Given as goal

-- four times the size of what is evaluated, and a step more for each call on the way to a part
abbrev pub decreases-walk : goal.decreases-walk
decreases-walk l = 4 * term_size l.chain.now

abbrev pub decreases-evaluated : goal.decreases-evaluated
decreases-evaluated l = 4 * term_size (term_of l.expr.now) + 1

abbrev pub decreases-evaluate : goal.decreases-evaluate
decreases-evaluate l = 4 * term_size (term_of l.expr.now) + 2

abbrev pub decreases-advance : goal.decreases-advance
decreases-advance l = 4 * step_size l.step.now + 6

abbrev pub decreases-of_lent : goal.decreases-of_lent
decreases-of_lent l = 4 * step_size l.step.now + 5

abbrev pub decreases-of_made : goal.decreases-of_made
decreases-of_made l = 4 * step_size l.step.now + 5

abbrev pub decreases-apply : goal.decreases-apply
decreases-apply l = 4 * step_size l.step.now + 4

abbrev pub decreases-binary : goal.decreases-binary
decreases-binary l = 4 * term_size (term_of l.right.now) + 2

abbrev pub decreases-comparison : goal.decreases-comparison
decreases-comparison l = 4 * term_size (term_of l.right.now) + 2

abbrev pub decreases-at : goal.decreases-at
decreases-at l = 4 * term_size (term_of l.index.now) + 2

abbrev pub decreases-lent_at : goal.decreases-lent_at
decreases-lent_at l = 4 * term_size (term_of l.index.now) + 2

abbrev pub decreases-settled_at : goal.decreases-settled_at
decreases-settled_at l = 4 * term_size (term_of l.expr.now) + 2

abbrev pub decreases-either : goal.decreases-either
decreases-either l = 4 * term_size (term_of l.right.now) + 3

abbrev pub decreases-both : goal.decreases-both
decreases-both l = 4 * term_size (term_of l.right.now) + 3

abbrev pub decreases-push : goal.decreases-push
decreases-push l = 4 * term_size (term_of l.item.now) + 3

abbrev pub decreases-with : goal.decreases-with
decreases-with l = 4 * (term_size (term_of l.key.now) + term_size (term_of l.value.now)) + 3

abbrev pub decreases-list : goal.decreases-list
decreases-list l = 4 * terms_size l.exprs.now + 3

abbrev pub decreases-record : goal.decreases-record
decreases-record l = 4 * members_size l.members.now + 3

-- the items so far, put before those of the rest, are all of them
abbrev pub invariant-list-loop-expr : goal.invariant-list-loop-expr
invariant-list-loop-expr l = onto l.items (items_value l.variables (items_of (items_view (drop l.expr-index l.expr-items)))) ≡ items_value l.variables (items_of (items_view l.expr-items))

-- the fields so far, with those of the rest set in them, are all of them
abbrev pub invariant-record-loop-member : goal.invariant-record-loop-member
invariant-record-loop-member l = fields_value l.variables l.fields (members_of (members_view (drop l.member-index l.member-items))) ≡ fields_value l.variables [] (members_of (members_view l.member-items))

-- what the steps that are left make of the value so far is the value of the chain
abbrev pub invariant-walk-loop-step : goal.invariant-walk-loop-step
invariant-walk-loop-step l = ended l.variables (cow_value l.value) (drop l.step-index l.step-items) ≡ term_value l.variables l.chain
