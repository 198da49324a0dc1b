use Rattle.beldi_session.proofs.Names.{Does, List, Option, sight, times, turn_of, ℕ}
use Rattle.beldi_session.proofs.Went.{fine}
use Rattle.beldi_session.proofs.session.give_turns.Given as goal

abbrev pub invariant-loop-turn : goal.invariant-loop-turn
invariant-loop-turn g l = (held : Option (List ℕ)) (faults : ℕ) → Does (times l.turn (turn_of l.taker)) (sight l.fn.host l.fn.out held faults) (sight l.host l.out held faults) (fine {X = Unit {0}} tt)
