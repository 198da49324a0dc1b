use Rattle.beldi_syntax.proofs.Names.{negate, term_of, times, ◌≡◌}
use Rattle.beldi_syntax.proofs.expressions.negative.Given as goal

abbrev pub invariant-loop-turn : goal.invariant-loop-turn
invariant-loop-turn l = term_of l.whole ≡ times l._turn negate (term_of l.fn.expr)
