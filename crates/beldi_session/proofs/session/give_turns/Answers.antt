use Rattle.beldi_session.proofs.Names.{[], arith, refl, sight, times, turn_of, ◌++◌, ◌+◌, ◌-◌, ◌∷◌}
use Rattle.beldi_session.proofs.{SessionCalls.does_nothing, SessionCalls.does_then, SessionCalls.does_before, SessionCalls.times_more, SessionCalls.times_left}
use Rattle.beldi_session.proofs.session.give_turns.Goals as goal

pub loop-turn-init : goal.loop-turn-init
loop-turn-init g c = λ held faults. does_nothing (sight c.args.host.now c.args.out.now held faults) tt

pub loop-turn-preserved : goal.loop-turn-preserved
loop-turn-preserved g c = λ held faults.
    let e = turn_of c.args.taker in
    does_then {fs = times c.loop-turn.turn e} {c = sight c.give_turn.new.host c.give_turn.new.out held faults} (times_more c.loop-turn.turn e) (c.loop-turn.invariant held faults) (c.in-Ok.ensures held faults)

pub returns-in-Err : goal.returns-in-Err
returns-in-Err g c = λ held faults.
    let e = turn_of c.args.taker in
    let n = c.loop-turn.turn in
    does_before {fs = times n e ++ e ∷ []} (times (c.args.count - (n + 1)) e) (times_left n c.args.count e (omega arith))
    (does_then {fs = times n e} {c = sight c.give_turn.new.host c.give_turn.new.out held faults} refl (c.loop-turn.invariant held faults) (c.in-Err.ensures held faults))
