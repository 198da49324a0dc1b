use Rattle.beldi_session.proofs.Names.{Carry, Does, Event, EventReply, None, Ok, OnOk, Stepped, Whole, [], answer_text, by_text, core_of, refl, sight, subst, sym, ◌++◌, ◌∙◌, ◌∷◌, ◌≡◌}
use Rattle.beldi_core.specs.PlannedEvent.{declined_reply}
use Rattle.beldi_session.proofs.Responses.{event_answered, event_broke, no_fault, text_by}
use Rattle.beldi_session.proofs.session.answer_turn.Goals as goal

pub returns-in-Ok-Told : goal.returns-in-Ok-Told
returns-in-Ok-Told g c = λ held faults.
    let old = c.args.host.now in
    let out = c.write_answer.new.out in
    let wrote = c.write_answer.result in
    let seen = c.turn.new.told in
    let e = c.in-Ok-Told.ensures in
    let step : Stepped old.code (Event.Turn c.args.run) (core_of old) (core_of c.turn.new.self) (g.T.Table.state old.table) (g.T.Table.state c.turn.new.self.table) (Ok seen) = rw c.in-Ok-Told.field-0-is at e.step in
    let a = sight old c.args.out.now held faults in
    let b = sight c.turn.new.self out held faults in
    let turn = Event.Turn c.args.run in
    subst (λ r. Does (Carry turn ∷ []) a b r) (sym c.appended-wrote.ensures)
    (event_answered a b refl refl e.code turn (Carry turn) [] Whole seen [] (by_text wrote) (refl, refl) step
    (text_by wrote _ (subst (λ d. OnOk wrote (out ≡ c.args.out.now ++ answer_text d seen)) (c.code.ensures ∙ e.code) c.write_answer.ensures)) (no_fault wrote))

-- .. that was not made
pub returns-in-Ok-Declined : goal.returns-in-Ok-Declined
returns-in-Ok-Declined g c = λ held faults.
    let old = c.args.host.now in
    let out = c.write_declined.new.out in
    let wrote = c.write_declined.result in
    let seen = declined_reply c.in-Ok-Declined.why in
    let e = c.in-Ok-Declined.ensures in
    let step : Stepped old.code (Event.Turn c.args.run) (core_of old) (core_of c.turn.new.self) (g.T.Table.state old.table) (g.T.Table.state c.turn.new.self.table) (Ok seen) = rw c.in-Ok-Declined.field-0-is at e.step in
    let a = sight old c.args.out.now held faults in
    let b = sight c.turn.new.self out held faults in
    let turn = Event.Turn c.args.run in
    subst (λ r. Does (Carry turn ∷ []) a b r) (sym c.appended-in-Ok-Declined.ensures)
    (event_answered a b refl refl e.code turn (Carry turn) [] Whole seen [] (by_text wrote) (refl, refl) step
    (text_by wrote _ (c.write_declined.ensures old.code)) (no_fault wrote))

-- .. that tells no more than whether its run is over
pub returns-in-Ok-Made : goal.returns-in-Ok-Made
returns-in-Ok-Made g c = λ held faults.
    let old = c.args.host.now in
    let out = c.write_plain.new.out in
    let wrote = c.write_plain.result in
    let seen = EventReply.Acted None None c.in-Ok-Made.over None in
    let e = c.in-Ok-Made.ensures in
    let step : Stepped old.code (Event.Turn c.args.run) (core_of old) (core_of c.turn.new.self) (g.T.Table.state old.table) (g.T.Table.state c.turn.new.self.table) (Ok seen) = rw c.in-Ok-Made.field-0-is at e.step in
    let a = sight old c.args.out.now held faults in
    let b = sight c.turn.new.self out held faults in
    let turn = Event.Turn c.args.run in
    subst (λ r. Does (Carry turn ∷ []) a b r) (sym c.appended.ensures)
    (event_answered a b refl refl e.code turn (Carry turn) [] Whole seen [] (by_text wrote) (refl, refl) step
    (text_by wrote _ (c.write_plain.ensures old.code)) (no_fault wrote))

pub returns-in-Err : goal.returns-in-Err
returns-in-Err g c = λ held faults.
    let e = c.in-Err.ensures in
    let turn = Event.Turn c.args.run in
    event_broke (sight c.args.host.now c.args.out.now held faults) (sight c.turn.new.self c.args.out.now held faults) refl refl e.code turn (Carry turn) [] (Unit {0}) c.in-Err.field-0 (Carry turn ∷ []) (refl, refl) e.step
