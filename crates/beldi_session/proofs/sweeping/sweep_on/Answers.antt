use Rattle.beldi_session.proofs.Names.{Bool, Ok, ReplyAlone, Sweep, [], ap, append-nil, refl, sight, sweep_next, sym, ◌∷◌}
use Rattle.beldi_session.proofs.Responses.{prune_answered, prune_broke}
use Rattle.beldi_session.proofs.sweeping.sweep_on.Goals as goal

pub returns-in-Ok-clause-does : goal.returns-in-Ok-clause-does
returns-in-Ok-clause-does g c = λ budget text held faults.
    let e = c.in-Ok.ensures in
    let k = c.args.number in
    let n = c.args.turns in
    let ended = c.ends_round.result in
    let a = sight c.args.host.now text held faults in
    let b = sight c.prune.new.self text held faults in
    prune_answered a b refl refl e.code k (Sweep k budget n) (sweep_next k budget n ended ∷ []) ReplyAlone c.in-Ok.pruned (sweep_next k budget n ended ∷ []) (Ok ended) (refl, ap (λ z. sweep_next k budget n z ∷ []) c.ends_round.ensures) e.prunes (refl, sym (append-nil text)) (λ w. cc)

pub returns-in-Err-clause-does : goal.returns-in-Err-clause-does
returns-in-Err-clause-does g c = λ budget text held faults.
    let e = c.in-Err.ensures in
    let k = c.args.number in
    let n = c.args.turns in
    prune_broke (sight c.args.host.now text held faults) (sight c.prune.new.self text held faults) refl refl e.code k (Sweep k budget n) [] Bool c.in-Err.field-0 (Sweep k budget n ∷ []) (refl, refl) e.prunes
