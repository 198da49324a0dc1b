use Rattle.beldi_syntax.specs.{Expressions.expr_at, Statements.block_at}
use Rattle.beldi_syntax.proofs.Names.{next_stmt, repeated, stmts, ◌*◌, ◌+◌, ◌-◌, ◌≡◌}
use Rattle.beldi_syntax.proofs.tokens.Tokens.+statements.Given as goal

abbrev pub decreases-block : goal.decreases-block
decreases-block l = 10 * l.depth

abbrev pub decreases-otherwise : goal.decreases-otherwise
decreases-otherwise l = 10 * l.depth + 1

abbrev pub decreases-if_stmt : goal.decreases-if_stmt
decreases-if_stmt l = 10 * l.depth + 2

abbrev pub decreases-repeat : goal.decreases-repeat
decreases-repeat l = 10 * l.depth + 2

abbrev pub decreases-transaction : goal.decreases-transaction
decreases-transaction l = 10 * l.depth + 2

abbrev pub decreases-stmt : goal.decreases-stmt
decreases-stmt l = 10 * l.depth + 3

abbrev pub decreases-stmts : goal.decreases-stmts
decreases-stmts l = 10 * l.depth + 4

abbrev pub decreases-braced : goal.decreases-braced
decreases-braced l = 10 * l.depth + 5

-- what is left goes on to the whole
abbrev pub invariant-stmts-loop-turn : goal.invariant-stmts-loop-turn
invariant-stmts-loop-turn l = repeated (l._turn-end - l._turn) (next_stmt (expr_at l.depth) (block_at l.depth)) l.block l.self ≡ stmts (expr_at l.depth) (block_at l.depth) l.fn.self
