use Rattle.beldi_program.proofs.Names.{Accepted, Err, Refusal, Result, SessionEnds, SourceEnds, lines_of, numbered, refl, source_at, subst, sym, ◌≡◌}
use Rattle.beldi_program.proofs.Ends.{unread_source}
use Rattle.beldi_program.proofs.program.run_source.Goals as goal

pub returns-in-Ok : goal.returns-in-Ok
returns-in-Ok g c =
    let k = g.K.Sink in
    let t = g.T.Table in
    let r = c.host.result in
    let bytes = c.args.bytes.now in
    let p = c.in-Ok.field-0 in
    subst (λ (o : Result Accepted Refusal). SourceEnds k.held k.faults t.state bytes o c.args.sink.now c.host.new.sink c.args.table r.1 r.0) (sym c.in-Ok.ensures)
    (subst (λ z. SessionEnds k.held k.faults t.state p.code (numbered p.line (lines_of z)) c.args.sink.now c.host.new.sink c.args.table r.1 r.0) c.script_at.ensures c.host.ensures)

pub returns-in-Err-Refused : goal.returns-in-Err-Refused
returns-in-Err-Refused g c =
    let k = g.K.Sink in
    let refused : source_at c.args.bytes.now ≡ Err c.in-Err-Refused.refusal = rw c.in-Err-Refused.field-0-is at c.in-Err-Refused.ensures in
    subst (λ (o : Result Accepted Refusal). SourceEnds k.held k.faults g.T.Table.state c.args.bytes.now o c.args.sink.now c.refuse_source-ended.new.sink c.args.table c.args.table c.refuse_source-ended.result) (sym refused)
    (refl, c.refuse_source-ended.ensures)

pub returns-in-Err-OutOfMemory : goal.returns-in-Err-OutOfMemory
returns-in-Err-OutOfMemory g c = unread_source g.K.Sink.held g.K.Sink.faults g.T.Table.state c.args.bytes.now (source_at c.args.bytes.now) c.args.sink.now c.args.table
