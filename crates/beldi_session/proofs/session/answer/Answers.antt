use Rattle.beldi_session.proofs.Names.{Carry, Does, OnOk, Whole, [], answer_text, by_text, refl, sight, subst, sym, ◌++◌, ◌∙◌, ◌∷◌, ◌≡◌}
use Rattle.beldi_session.proofs.Responses.{event_answered, event_broke, no_fault, text_by}
use Rattle.beldi_session.proofs.session.answer.Goals as goal

pub returns-in-Ok : goal.returns-in-Ok
returns-in-Ok g c = λ held faults.
    let old = c.args.host.now in
    let out = c.write_answer.new.out in
    let wrote = c.write_answer.result in
    let seen = c.in-Ok.seen in
    let e = c.in-Ok.ensures in
    let a = sight old c.args.out.now held faults in
    let b = sight c.event.new.self out held faults in
    subst (λ r. Does (Carry c.args.event ∷ []) a b r) (sym c.appended-told.ensures)
    (event_answered a b refl refl e.code c.args.event (Carry c.args.event) [] Whole seen [] (by_text wrote) (refl, refl) e.step
    (text_by wrote _ (subst (λ d. OnOk wrote (out ≡ c.args.out.now ++ answer_text d seen)) (c.code.ensures ∙ e.code) c.write_answer.ensures)) (no_fault wrote))

pub returns-in-Err : goal.returns-in-Err
returns-in-Err g c = λ held faults.
    let e = c.in-Err.ensures in
    event_broke (sight c.args.host.now c.args.out.now held faults) (sight c.event.new.self c.args.out.now held faults) refl refl e.code c.args.event (Carry c.args.event) [] (Unit {0}) c.in-Err.field-0 (Carry c.args.event ∷ []) (refl, refl) e.step
