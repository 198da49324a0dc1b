use Rattle.std.specs.Prelude.{ℕ, ◌≤◌}
use Rattle.beldi_executor.proofs.Names.{GoesOn, Instance, PlainState, Turned, TxId, going, most, option_copied}
use Rattle.beldi_executor.proofs.state.State.go.Given as goal

-- so many moves were made
abbrev pub invariant-loop-turn : goal.invariant-loop-turn
invariant-loop-turn l = (t : TxId) (p : PlainState) (q : Instance) (start : ℕ) → most ≤ start → GoesOn l.code t p q l.initial.self l.initial.draft l.initial.active → Turned l.code t p q (option_copied l.stop) (going l.initial.self l.initial.draft l.initial.active) start l.self l.draft l.active l.turn
