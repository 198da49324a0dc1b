use Rattle.beldi_session.proofs.Names.{Err, Event, EventReply, None, Stepped, Working, Ok, OutOfMemory, Settle, Turn, [], append-nil, core_of, refl, sight, subst, sym, on_turn_reply, was_taken, ◌∷◌}
use Rattle.beldi_session.proofs.SettleEvents.{turn_taken, settling_answered, settling_broke}
use Rattle.beldi_session.proofs.settling.give_turn.Goals as goal

pub returns-in-Ok-on_turn_reply-clause-does : goal.returns-in-Ok-on_turn_reply-clause-does
returns-in-Ok-on_turn_reply-clause-does g c = λ s held faults is.
    let e = c.in-Ok.ensures in
    let x = c.into_reply-seen.result in
    let step = subst (λ (y : EventReply). Stepped c.args.host.now.code (Event.Turn c.args.run) (core_of c.args.host.now) (core_of c.turn.new.self) (g.T.Table.state c.args.host.now.table) (g.T.Table.state c.turn.new.self.table) (Ok y)) (sym c.into_reply-seen.ensures) c.in-Ok.ensures.step in
    settling_answered c.args.budget (sight c.args.host.now c.args.out.now held faults) (sight c.turn.new.self c.write_reply_told.new.out held faults) refl refl e.code (Event.Turn c.args.run) s (Turn c.args.at c.args.run) is
    (on_turn_reply c.args.budget c.args.at c.args.run x) x (Ok c.in-Ok-on_turn_reply.next) (refl, refl) step (c.in-Ok-on_turn_reply.ensures.heard, c.in-Ok-write_reply_told.ensures) (λ y. cc)

pub returns-in-Ok-on_turn_reply-clause-taken : goal.returns-in-Ok-on_turn_reply-clause-taken
returns-in-Ok-on_turn_reply-clause-taken g c =
    let t = g.T.Table in
    let old = c.args.host.now in
    let new = c.turn.new.self in
    let x = c.into_reply-seen.result in
    let step = subst (λ (y : EventReply). Stepped c.args.host.now.code (Event.Turn c.args.run) (core_of c.args.host.now) (core_of c.turn.new.self) (g.T.Table.state c.args.host.now.table) (g.T.Table.state c.turn.new.self.table) (Ok y)) (sym c.into_reply-seen.ensures) c.in-Ok.ensures.step in
    turn_taken (core_of old) (core_of new) c.args.budget c.args.at c.args.run x c.in-Ok-on_turn_reply.next c.in-Ok-on_turn_reply.ensures.heard
    (was_taken old.code (Event.Turn c.args.run) (core_of old) (core_of new) (t.state old.table) (t.state new.table) x step)

pub returns-in-Err-on_turn_reply-clause-does : goal.returns-in-Err-on_turn_reply-clause-does
returns-in-Err-on_turn_reply-clause-does g c = λ s held faults is.
    let e = c.in-Ok.ensures in
    let x = c.into_reply-seen.result in
    let step = subst (λ (y : EventReply). Stepped c.args.host.now.code (Event.Turn c.args.run) (core_of c.args.host.now) (core_of c.turn.new.self) (g.T.Table.state c.args.host.now.table) (g.T.Table.state c.turn.new.self.table) (Ok y)) (sym c.into_reply-seen.ensures) c.in-Ok.ensures.step in
    settling_answered c.args.budget (sight c.args.host.now c.args.out.now held faults) (sight c.turn.new.self c.write_reply_told.new.out held faults) refl refl e.code (Event.Turn c.args.run) s (Turn c.args.at c.args.run) is
    (on_turn_reply c.args.budget c.args.at c.args.run x) x (Err OutOfMemory) (refl, refl) step tt (λ y. cc)

pub returns-in-Err-write_reply_told-clause-does : goal.returns-in-Err-write_reply_told-clause-does
returns-in-Err-write_reply_told-clause-does g c = λ s held faults is.
    let e = c.in-Ok.ensures in
    let x = c.into_reply-seen.result in
    let step = subst (λ (y : EventReply). Stepped c.args.host.now.code (Event.Turn c.args.run) (core_of c.args.host.now) (core_of c.turn.new.self) (g.T.Table.state c.args.host.now.table) (g.T.Table.state c.turn.new.self.table) (Ok y)) (sym c.into_reply-seen.ensures) c.in-Ok.ensures.step in
    settling_answered c.args.budget (sight c.args.host.now c.args.out.now held faults) (sight c.turn.new.self c.write_reply_told.new.out held faults) refl refl e.code (Event.Turn c.args.run) s (Turn c.args.at c.args.run) is
    (on_turn_reply c.args.budget c.args.at c.args.run x) x (Err OutOfMemory) (refl, refl) step tt (λ y. cc)

pub returns-in-Err-clause-does : goal.returns-in-Err-clause-does
returns-in-Err-clause-does g c = λ s held faults is.
    let e = c.in-Err.ensures in
    settling_broke c.args.budget (sight c.args.host.now c.args.out.now held faults) (sight c.turn.new.self c.args.out.now held faults) refl refl e.code (Event.Turn c.args.run) s (Turn c.args.at c.args.run) is c.in-Err.field-0 (Settle c.args.budget (Working c.args.at) ∷ []) (refl, refl) e.step

pub returns-in-Ok-on_turn_reply-clause-heard : goal.returns-in-Ok-on_turn_reply-clause-heard
returns-in-Ok-on_turn_reply-clause-heard g c =
    let x = c.into_reply-seen.result in
    let step = subst (λ (y : EventReply). Stepped c.args.host.now.code (Event.Turn c.args.run) (core_of c.args.host.now) (core_of c.turn.new.self) (g.T.Table.state c.args.host.now.table) (g.T.Table.state c.turn.new.self.table) (Ok y)) (sym c.into_reply-seen.ensures) c.in-Ok.ensures.step in
    record { answer = x; step = step; follows_so = c.in-Ok-on_turn_reply.ensures.heard }

-- a turn of which there is no more to tell
pub returns-in-Ok-Made-clause-does : goal.returns-in-Ok-Made-clause-does
returns-in-Ok-Made-clause-does g c = λ s held faults is.
    let e = c.in-Ok-Made.ensures in
    let x = EventReply.Acted None None c.in-Ok-Made.field-0-0 None in
    let step : Stepped c.args.host.now.code (Event.Turn c.args.run) (core_of c.args.host.now) (core_of c.turn.new.self) (g.T.Table.state c.args.host.now.table) (g.T.Table.state c.turn.new.self.table) (Ok x) = rw c.in-Ok-Made.field-0-is at c.in-Ok-Made.ensures.step in
    settling_answered c.args.budget (sight c.args.host.now c.args.out.now held faults) (sight c.turn.new.self c.args.out.now held faults) refl refl e.code (Event.Turn c.args.run) s (Turn c.args.at c.args.run) is
    (on_turn_reply c.args.budget c.args.at c.args.run x) x (Ok c.strode.result) (refl, refl) step (c.strode.ensures.next, sym (append-nil c.args.out.now)) (λ y. cc)

pub returns-in-Ok-Made-clause-taken : goal.returns-in-Ok-Made-clause-taken
returns-in-Ok-Made-clause-taken g c =
    let t = g.T.Table in
    let old = c.args.host.now in
    let new = c.turn.new.self in
    let x = EventReply.Acted None None c.in-Ok-Made.field-0-0 None in
    let step : Stepped c.args.host.now.code (Event.Turn c.args.run) (core_of c.args.host.now) (core_of c.turn.new.self) (g.T.Table.state c.args.host.now.table) (g.T.Table.state c.turn.new.self.table) (Ok x) = rw c.in-Ok-Made.field-0-is at c.in-Ok-Made.ensures.step in
    turn_taken (core_of old) (core_of new) c.args.budget c.args.at c.args.run x c.strode.result c.strode.ensures.next
    (was_taken old.code (Event.Turn c.args.run) (core_of old) (core_of new) (t.state old.table) (t.state new.table) x step)

pub returns-in-Ok-Made-clause-heard : goal.returns-in-Ok-Made-clause-heard
returns-in-Ok-Made-clause-heard g c =
    let x = EventReply.Acted None None c.in-Ok-Made.field-0-0 None in
    let step : Stepped c.args.host.now.code (Event.Turn c.args.run) (core_of c.args.host.now) (core_of c.turn.new.self) (g.T.Table.state c.args.host.now.table) (g.T.Table.state c.turn.new.self.table) (Ok x) = rw c.in-Ok-Made.field-0-is at c.in-Ok-Made.ensures.step in
    record { answer = x; step = step; follows_so = c.strode.ensures.next }
