use Rattle.beldi_tree.specs.Term.{not}
use Rattle.beldi_syntax.proofs.Names.{term_of, times, ◌≡◌}
use Rattle.beldi_syntax.proofs.expressions.negated.Given as goal

abbrev pub invariant-loop-turn : goal.invariant-loop-turn
invariant-loop-turn l = term_of l.whole ≡ times l._turn not (term_of l.fn.expr)
