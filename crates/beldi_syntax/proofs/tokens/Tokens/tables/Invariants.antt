use Rattle.beldi_syntax.proofs.Names.{next_table, repeated, tables, ◌-◌, ◌≡◌}
use Rattle.beldi_syntax.proofs.tokens.Tokens.tables.Given as goal

-- what is left goes on to the whole
abbrev pub invariant-loop-turn : goal.invariant-loop-turn
invariant-loop-turn l = repeated (l._turn-end - l._turn) next_table l.tables l.self ≡ tables l.fn.self
