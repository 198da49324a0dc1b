use Rattle.std.proofs.Common.{IfOk}
use Rattle.beldi_session.proofs.Names.{Does, IsReport, LineRefused, Numbered, OnOk, Refuse, [], actions_of, and_then, ap, arith, by_done, core_of, false, is_ok, refl, report_text, said_at, sight, state_at, subst, sym, true, ◌++◌, ◌∙◌, ◌∷◌, ◌≡◌}
use Rattle.beldi_session.proofs.{SessionCalls.does_then, SessionCalls.does_before, SessionCalls.does_done, SessionCalls.does_none, SessionCalls.done_whole, SessionCalls.flushed, Responses.reported, Responses.tells_same}
use Rattle.beldi_session.proofs.session.do_line.Goals as goal

pub returns-in-Ok-say-clause-does : goal.returns-in-Ok-say-clause-does
returns-in-Ok-say-clause-does g c =
    let k = g.K.Sink in
    let old = c.args.host.now in
    let new = c.say.new.host in
    let line : Numbered = (c.args.number, c.args.line.now) in
    let is = ap (λ d. said_at d line) (sym c.code.ensures) ∙ c.in-Ok.ensures in
    let a = sight old c.args.waiting.now (k.held c.args.sink.now) (k.faults c.args.sink.now) in
    let e = sight new c.flush_if_long.new.waiting (k.held c.flush_if_long.new.sink) (k.faults c.flush_if_long.new.sink) in
    let f = c.flush_if_long.ensures in
    subst (λ r. Does (and_then (said_at old.code line) []) a e r) (sym c.done.ensures)
    (does_done true c.flush_if_long.result (does_then {fs = actions_of c.in-Ok.said} (sym (ap (λ o. and_then o []) is)) (c.in-Ok-say.ensures (k.held c.args.sink.now) (k.faults c.args.sink.now))
    (flushed new.code (core_of new) (g.T.Table.state new.table) c.say.new.out c.flush_if_long.new.waiting (k.held c.args.sink.now) (k.held c.flush_if_long.new.sink) (k.faults c.args.sink.now) (k.faults c.flush_if_long.new.sink) c.flush_if_long.result f.text f.later f.fault)))

pub returns-in-Err-clause-does : goal.returns-in-Err-clause-does
returns-in-Err-clause-does g c =
    let k = g.K.Sink in
    let line : Numbered = (c.args.number, c.args.line.now) in
    let is = ap (λ d. said_at d line) (sym c.code.ensures) ∙ c.in-Ok.ensures in
    does_before {fs = actions_of c.in-Ok.said} [] (sym (ap (λ o. and_then o []) is)) (c.in-Err.ensures (k.held c.args.sink.now) (k.faults c.args.sink.now))

pub returns-in-Err-Refused-clause-does : goal.returns-in-Err-Refused-clause-does
returns-in-Err-Refused-clause-does g c =
    let k = g.K.Sink in
    let old = c.args.host.now in
    let line : Numbered = (c.args.number, c.args.line.now) in
    let x = c.in-Err-Refused.refusal in
    let wrote = c.write_refusal.result in
    let is = ap (λ d. said_at d line) (sym c.code.ensures) ∙ rw c.in-Err-Refused.field-0-is at c.in-Err-Refused.ensures in
    let a = sight old c.args.waiting.now (k.held c.args.sink.now) (k.faults c.args.sink.now) in
    let b = sight old c.write_refusal.new.out (k.held c.args.sink.now) (k.faults c.args.sink.now) in
    let y = LineRefused x in
    subst (λ r. Does (and_then (said_at old.code line) []) a b r) (sym c.done-told.ensures)
    (subst (λ o. Does (and_then o []) a b (by_done false c.appended.result)) (sym is)
    (does_done false c.appended.result
    (subst (λ r. Does (Refuse x ∷ []) a b r) (sym c.appended.ensures)
    (reported a b (record { held = refl; faults = refl; code = refl; room = refl; later = omega arith }) refl (λ m. y) (Refuse x) wrote (λ m. (refl, refl))
    (tells_same a.table.rows (λ m. OnOk wrote (b.waiting ≡ a.waiting ++ report_text a.code y) × IsReport a.code (state_at a m) (state_at b m) y) (λ m. (c.write_refusal.ensures, tt)))))))

pub returns-in-Err-OutOfMemory-clause-does : goal.returns-in-Err-OutOfMemory-clause-does
returns-in-Err-OutOfMemory-clause-does g c =
    let k = g.K.Sink in
    let line : Numbered = (c.args.number, c.args.line.now) in
    does_none (and_then (said_at c.args.host.now.code line) []) (sight c.args.host.now c.args.waiting.now (k.held c.args.sink.now) (k.faults c.args.sink.now))

pub returns-in-Ok-say-clause-whole : goal.returns-in-Ok-say-clause-whole
returns-in-Ok-say-clause-whole g c =
    let line : Numbered = (c.args.number, c.args.line.now) in
    let d = c.args.host.now.code in
    subst (λ r. IfOk r (λ w. is_ok (said_at d line) ≡ w)) (sym c.done.ensures)
    (done_whole (is_ok (said_at d line)) true c.flush_if_long.result (ap is_ok (ap (λ d. said_at d line) (sym c.code.ensures) ∙ c.in-Ok.ensures)))

pub returns-in-Err-Refused-clause-whole : goal.returns-in-Err-Refused-clause-whole
returns-in-Err-Refused-clause-whole g c =
    let line : Numbered = (c.args.number, c.args.line.now) in
    let d = c.args.host.now.code in
    subst (λ r. IfOk r (λ w. is_ok (said_at d line) ≡ w)) (sym c.done-told.ensures)
    (done_whole (is_ok (said_at d line)) false c.appended.result (ap is_ok (ap (λ d. said_at d line) (sym c.code.ensures) ∙ rw c.in-Err-Refused.field-0-is at c.in-Err-Refused.ensures)))
