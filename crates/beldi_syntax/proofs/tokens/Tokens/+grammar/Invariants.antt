use Rattle.beldi_syntax.specs.Expressions.{expr_at}
use Rattle.beldi_syntax.proofs.Names.{Conjunction, Disjunction, Level, Product, Relation, Sum, chain, join, member, more, next_item, next_suffix, post, repeated, side, term_of, ℕ, ◌*◌, ◌+◌, ◌-◌, ◌≡◌}
use Rattle.beldi_syntax.proofs.tokens.Tokens.+grammar.Given as goal

-- how far a level is from the tightest
abbrev pub looseness : Level → ℕ
looseness Disjunction = 4
looseness Conjunction = 3
looseness Relation = 2
looseness Sum = 1
looseness Product = 0

-- thirty for each level of nesting that is left, and a step for each call within one
abbrev pub decreases-expr : goal.decreases-expr
decreases-expr l = 30 * l.depth

abbrev pub decreases-chain : goal.decreases-chain
decreases-chain l = 30 * l.depth + 3 * looseness l.level + 10

abbrev pub decreases-side : goal.decreases-side
decreases-side l = 30 * l.depth + 3 * looseness l.level + 9

abbrev pub decreases-post : goal.decreases-post
decreases-post l = 30 * l.depth + 7

abbrev pub decreases-atom : goal.decreases-atom
decreases-atom l = 30 * l.depth + 6

abbrev pub decreases-bracketed : goal.decreases-bracketed
decreases-bracketed l = 30 * l.depth + 5

abbrev pub decreases-call : goal.decreases-call
decreases-call l = 30 * l.depth + 4

abbrev pub decreases-argument : goal.decreases-argument
decreases-argument l = 30 * l.depth + 1

abbrev pub decreases-items : goal.decreases-items
decreases-items l = 30 * l.depth + 3

abbrev pub decreases-members : goal.decreases-members
decreases-members l = 30 * l.depth + 3

abbrev pub decreases-member : goal.decreases-member
decreases-member l = 30 * l.depth + 1

abbrev pub decreases-part : goal.decreases-part
decreases-part l = 30 * l.depth + 1

abbrev pub decreases-push_of : goal.decreases-push_of
decreases-push_of l = 30 * l.depth + 3

abbrev pub decreases-with_of : goal.decreases-with_of
decreases-with_of l = 30 * l.depth + 3

abbrev pub decreases-suffix : goal.decreases-suffix
decreases-suffix l = 30 * l.depth + 2

abbrev pub decreases-more_items : goal.decreases-more_items
decreases-more_items l = 30 * l.depth + 2

abbrev pub decreases-more_members : goal.decreases-more_members
decreases-more_members l = 30 * l.depth + 2

abbrev pub decreases-unary : goal.decreases-unary
decreases-unary l = 30 * l.depth + 8

abbrev pub decreases-negation : goal.decreases-negation
decreases-negation l = 30 * l.depth + 17

-- what is left goes on to the whole
abbrev pub invariant-chain-loop-turn : goal.invariant-chain-loop-turn
invariant-chain-loop-turn l = repeated (l._turn-end - l._turn) (join l.level (side l.level (expr_at l.depth))) (term_of l.left) l.self ≡ chain l.level (side l.level (expr_at l.depth)) l.fn.self

abbrev pub invariant-post-loop-turn : goal.invariant-post-loop-turn
invariant-post-loop-turn l = repeated (l._turn-end - l._turn) (next_suffix (expr_at l.depth)) (term_of l.expr) l.self ≡ post (expr_at l.depth) l.fn.self

abbrev pub invariant-more_items-loop-turn : goal.invariant-more_items-loop-turn
invariant-more_items-loop-turn l = repeated (l._turn-end - l._turn) (next_item (expr_at l.depth)) l.all l.self ≡ more (expr_at l.depth) l.fn.items l.fn.self

abbrev pub invariant-more_members-loop-turn : goal.invariant-more_members-loop-turn
invariant-more_members-loop-turn l = repeated (l._turn-end - l._turn) (next_item (member (expr_at l.depth))) l.all l.self ≡ more (member (expr_at l.depth)) l.fn.members l.fn.self
