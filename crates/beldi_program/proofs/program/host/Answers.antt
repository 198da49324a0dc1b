use Rattle.beldi_program.proofs.Names.{Deployment, Ended, IfOk, List, SessionEnds, Observed, Writes, inl, is_whole, lines_of, numbered, sight, subst, sym, ℕ, ◌≡◌}
use Rattle.beldi_program.proofs.Ends.{SessionBy, hosted, session_ends, not_opened}
use Rattle.beldi_program.proofs.program.host.Goals as goal

pub returns-in-Ok : goal.returns-in-Ok
returns-in-Ok g c =
    let t = g.T.Table in
    let k = g.K.Sink in
    let lines = numbered c.args.first (lines_of c.args.script.now) in
    let first = c.in-Ok.host in
    let last = c.run_script-ran.new.host in
    let sink = c.run_script-ran.new.sink in
    let r = c.run_script-ran.result in
    let old = t.state c.args.table in
    let a = sight first c.new-waiting.result (k.held c.args.sink.now) (k.faults c.args.sink.now) in
    let b = sight last c.run_script-ran.new.waiting (k.held sink) (k.faults sink) in
    let ran = hosted c.sessions_are_plain_runs.ensures c.args.code old a b lines r c.in-Ok.ensures.ok c.new-waiting.ensures c.run_script-ran.ensures.empty c.run_script-ran.ensures.does in
    let closed = subst (λ (x : g.row.T.Denot). (w : List ℕ) × Writes a.held b.held w × Observed old.rows (t.state x).rows (λ m n. SessionBy r c.args.code lines m n old.faults (t.state x).faults w)) (sym c.close.ensures.table) ran in
    subst (λ (e : Ended). SessionEnds k.held k.faults t.state c.args.code lines c.args.sink.now sink c.args.table c.close.result e) (sym c.end_of.ensures)
    (session_ends k.held k.faults t.state c.args.code lines c.args.sink.now sink c.args.table c.close.result r
    (subst (λ (d : Deployment). IfOk r (λ w. is_whole d lines ≡ w)) c.in-Ok.ensures.ok.code_kept c.run_script-ran.ensures.whole) c.run_script-ran.ensures.does.fault closed)

pub returns-in-Err-default-Failed : goal.returns-in-Err-default-Failed
returns-in-Err-default-Failed g c =
    let e = c.in-Err-default-Failed in
    (e.ensures.err.failed e.field-0-1-is, not_opened g.K.Sink.held g.K.Sink.faults g.T.Table.state c.args.sink.now c.args.table e.table e.field-0-1 e.ensures.err)

pub returns-in-Err-default-OutOfMemory : goal.returns-in-Err-default-OutOfMemory
returns-in-Err-default-OutOfMemory g c =
    let e = c.in-Err-default-OutOfMemory in
    inl (not_opened g.K.Sink.held g.K.Sink.faults g.T.Table.state c.args.sink.now c.args.table e.table e.field-0-1 e.ensures.err)
