use Rattle.beldi_syntax.proofs.Names.{functions, next_function, repeated, ◌-◌, ◌≡◌}
use Rattle.beldi_syntax.proofs.tokens.Tokens.functions.Given as goal

-- what is left goes on to the whole
abbrev pub invariant-loop-turn : goal.invariant-loop-turn
invariant-loop-turn l = repeated (l._turn-end - l._turn) next_function l.funcs l.self ≡ functions l.fn.self
