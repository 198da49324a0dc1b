use Rattle.std.proofs.Common.{IfOk}
use Rattle.beldi_session.proofs.Names.{Does, actions_in, append-nil, core_of, is_whole, lines_of, numbered, sight, subst, sym, ◌≡◌}
use Rattle.beldi_session.proofs.SessionCalls.{does_then, does_done, done_whole, flushed}
use Rattle.beldi_session.proofs.session.run_script.Goals as goal

pub returns-in-Ok-clause-does : goal.returns-in-Ok-clause-does
returns-in-Ok-clause-does g c =
    let k = g.K.Sink in
    let new = c.do_lines.new.host in
    let f = c.flush.ensures in
    let all = actions_in c.args.host.now.code (numbered c.args.first (lines_of c.args.script.now)) in
    let a = sight c.args.host.now c.args.waiting.now (k.held c.args.sink.now) (k.faults c.args.sink.now) in
    let e = sight new c.flush.new.waiting (k.held c.flush.new.sink) (k.faults c.flush.new.sink) in
    subst (λ r. Does all a e r) (sym c.done.ensures)
    (does_done c.in-Ok.whole c.flush.result (does_then {fs = all} (append-nil all) c.in-Ok.ensures.does
    (flushed new.code (core_of new) (g.T.Table.state new.table) c.do_lines.new.waiting c.flush.new.waiting (k.held c.do_lines.new.sink) (k.held c.flush.new.sink) (k.faults c.do_lines.new.sink) (k.faults c.flush.new.sink) c.flush.result f.text f.later f.fault)))

pub returns-in-Ok-clause-whole : goal.returns-in-Ok-clause-whole
returns-in-Ok-clause-whole g c =
    let all = is_whole c.args.host.now.code (numbered c.args.first (lines_of c.args.script.now)) in
    subst (λ r. IfOk r (λ w. all ≡ w)) (sym c.done.ensures) (done_whole all c.in-Ok.whole c.flush.result c.in-Ok.ensures.whole)
