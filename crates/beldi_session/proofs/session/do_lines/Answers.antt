use Rattle.beldi_session.proofs.Names.{Deployment, Numbered, [], actions_in, and_then, ap, eqb-true, false, is_ok, is_whole, length, lines_of, next, nil_from_length, numbered, refl, said_at, sight, sym, ◌++◌, ◌∙◌, ◌∷◌, ◌≡◌}
use Rattle.beldi_session.proofs.{SessionCalls.does_nothing, SessionCalls.does_then, SessionCalls.does_before, SessionCalls.does_so, SessionCalls.lines_then, SessionCalls.all_whole, SessionLines.after_line, SessionLines.goes_on, SessionLines.is_refused, SessionLines.stops, SessionLines.whole_on, SessionLines.not_whole}
use Rattle.beldi_session.proofs.session.do_lines.Goals as goal

pub loop-rest-init : goal.loop-rest-init
loop-rest-init g c =
    let k = g.K.Sink in
    record { done = []; all = refl; did = does_nothing (sight c.args.host.now c.args.waiting.now (k.held c.args.sink.now) (k.faults c.args.sink.now)) tt; whole = refl }

pub loop-rest-preserved : goal.loop-rest-preserved
loop-rest-preserved g c =
    let k = g.K.Sink in
    let d = c.args.host.now.code in
    let i = c.loop-rest.invariant in
    let number = c.loop-rest.number in
    let line : Numbered = (number, c.cut_line.result.0.now) in
    let lines = numbered c.args.first (lines_of c.args.script.now) in
    let rest = numbered number (lines_of c.loop-rest.rest.now) in
    let more = numbered c.saturating_add-number.result (lines_of c.cut_line.result.1.now) in
    let cut = ap (numbered number) c.cut_line.ensures.lines ∙ ap (λ n. line ∷ numbered n (lines_of c.cut_line.result.1.now)) (sym c.saturating_add-number.ensures) in
    let ok = ap (λ (z : Deployment). is_ok (said_at z line)) (sym i.did.code) ∙ rw c.in-Ok-true.field-0-test at c.in-Ok-true.ensures.whole in
    record {
      done = i.done ++ and_then (said_at d line) [];
      all = goes_on d line lines rest more cut i.done i.all ok;
      did = does_so tt (lines_then i.done (λ (z : Deployment). and_then (said_at z line) []) refl i.did c.in-Ok-true.ensures.does);
      whole = whole_on d line lines rest more cut i.done i.all ok i.whole;
    }

pub returns-in-Ok-false-clause-does : goal.returns-in-Ok-false-clause-does
returns-in-Ok-false-clause-does g c =
    let k = g.K.Sink in
    let d = c.args.host.now.code in
    let i = c.loop-rest.invariant in
    let number = c.loop-rest.number in
    let line : Numbered = (number, c.cut_line.result.0.now) in
    let lines = numbered c.args.first (lines_of c.args.script.now) in
    let rest = numbered number (lines_of c.loop-rest.rest.now) in
    let more = numbered (next number) (lines_of c.cut_line.result.1.now) in
    let bad = ap (λ (z : Deployment). is_ok (said_at z line)) (sym i.did.code) ∙ rw c.in-Ok-false.field-0-test at c.in-Ok-false.ensures.whole in
    does_so false (lines_then i.done (λ (z : Deployment). and_then (said_at z line) []) (is_refused d line lines rest more (ap (numbered number) c.cut_line.ensures.lines) i.done i.all bad) i.did c.in-Ok-false.ensures.does)

pub returns-in-Err-clause-does : goal.returns-in-Err-clause-does
returns-in-Err-clause-does g c =
    let k = g.K.Sink in
    let d = c.args.host.now.code in
    let i = c.loop-rest.invariant in
    let number = c.loop-rest.number in
    let line : Numbered = (number, c.cut_line.result.0.now) in
    let lines = numbered c.args.first (lines_of c.args.script.now) in
    let rest = numbered number (lines_of c.loop-rest.rest.now) in
    let more = numbered (next number) (lines_of c.cut_line.result.1.now) in
    does_before {fs = i.done ++ and_then (said_at d line) []} (after_line (said_at d line) (actions_in d more)) (stops d line lines rest more (ap (numbered number) c.cut_line.ensures.lines) i.done i.all)
    (lines_then i.done (λ (z : Deployment). and_then (said_at z line) []) refl i.did c.in-Err.ensures.does)

pub returns-in-Ok-false-clause-whole : goal.returns-in-Ok-false-clause-whole
returns-in-Ok-false-clause-whole g c =
    let d = c.args.host.now.code in
    let i = c.loop-rest.invariant in
    let number = c.loop-rest.number in
    let line : Numbered = (number, c.cut_line.result.0.now) in
    let bad = ap (λ (z : Deployment). is_ok (said_at z line)) (sym i.did.code) ∙ rw c.in-Ok-false.field-0-test at c.in-Ok-false.ensures.whole in
    not_whole d line (numbered c.args.first (lines_of c.args.script.now)) (numbered number (lines_of c.loop-rest.rest.now)) (numbered (next number) (lines_of c.cut_line.result.1.now)) (ap (numbered number) c.cut_line.ensures.lines) i.done i.all bad i.whole

pub returns-clause-does : goal.returns-clause-does
returns-clause-does g c =
    let d = c.args.host.now.code in
    let i = c.loop-rest.invariant in
    let none : c.loop-rest.rest.now ≡ [] = nil_from_length c.loop-rest.rest.now (eqb-true (length c.loop-rest.rest.now) 0 (sym c.is_empty.ensures ∙ c.loop-rest-test.false)) in
    does_then {fs = i.done} (ap (λ z. i.done ++ actions_in d (numbered c.loop-rest.number (lines_of z))) (sym none) ∙ i.all) i.did c.do_listings.ensures.does

pub returns-clause-whole : goal.returns-clause-whole
returns-clause-whole g c =
    let d = c.args.host.now.code in
    let i = c.loop-rest.invariant in
    let lines = numbered c.args.first (lines_of c.args.script.now) in
    let none : c.loop-rest.rest.now ≡ [] = nil_from_length c.loop-rest.rest.now (eqb-true (length c.loop-rest.rest.now) 0 (sym c.is_empty.ensures ∙ c.loop-rest-test.false)) in
    all_whole (is_whole d lines) c.do_listings.result (sym i.whole ∙ ap (λ z. is_whole d (numbered c.loop-rest.number (lines_of z))) none) c.do_listings.ensures.whole
