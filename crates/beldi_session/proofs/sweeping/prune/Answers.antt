use Rattle.beldi_session.proofs.Names.{Does, OnOk, Prune, Whole, [], by_text, refl, sight, subst, sym, ◌++◌, ◌∷◌, ◌≡◌}
use Rattle.beldi_session.proofs.Responses.{no_fault, prune_answered, prune_broke, text_by}
use Rattle.beldi_session.proofs.sweeping.prune.Goals as goal

pub returns-in-Ok : goal.returns-in-Ok
returns-in-Ok g c = λ held faults.
    let old = c.args.host.now in
    let out = c.push_text.new.self in
    let wrote = c.push_text.result in
    let e = c.in-Ok.ensures in
    let a = sight old c.args.out.now held faults in
    let b = sight c.prune.new.self out held faults in
    let k = c.args.number in
    subst (λ r. Does (Prune k ∷ []) a b r) (sym c.appended.ensures)
    (prune_answered a b refl refl e.code k (Prune k) [] Whole c.in-Ok.pruned [] (by_text wrote) (refl, refl) e.prunes
    (text_by wrote _ (subst (λ t. OnOk wrote (out ≡ c.args.out.now ++ t)) c.pruned_text.ensures c.push_text.ensures.ok)) (no_fault wrote))

pub returns-in-Err : goal.returns-in-Err
returns-in-Err g c = λ held faults.
    let e = c.in-Err.ensures in
    let k = c.args.number in
    prune_broke (sight c.args.host.now c.args.out.now held faults) (sight c.prune.new.self c.args.out.now held faults) refl refl e.code k (Prune k) [] (Unit {0}) c.in-Err.field-0 (Prune k ∷ []) (refl, refl) e.prunes
