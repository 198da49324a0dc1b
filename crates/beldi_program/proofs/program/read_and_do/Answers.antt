use Rattle.beldi_program.proofs.{Names.Rose, Names.Serving, Names.length, Names.max_source, Names.subst, Names.sym, Names.◌≤◌, Ends.command_ends, Ends.is_proper, Ends.was_read}
use Rattle.beldi_program.proofs.program.read_and_do.Goals as goal

pub returns-in-Ok-clause-ends : goal.returns-in-Ok-clause-ends
returns-in-Ok-clause-ends g c =
    let s = g.S.Source in
    let k = g.K.Sink in
    let t = g.T.Table in
    let n = g.N.Link in
    let d = c.do_with in
    let r = d.result in
    let refused = Rose (n.refusals c.args.link.now) (n.refusals d.new.link) in
    let tells = g.C.Clock.tells in
    let before = n.seen c.args.link.now in
    let after = n.seen d.new.link in
    command_ends s.left s.faults k.held k.faults t.state refused (Serving k.held k.faults t.state tells before after c.args.clock.now refused) (is_proper k.held k.faults t.state tells before after c.args.clock.now refused) c.args.source.now c.read_all.new.source c.args.sink.now d.new.sink c.args.table r.1 c.args.command r.0
    (c.as_slice.result.now, subst (λ z. length z ≤ max_source) (sym c.as_slice.ensures.value) c.in-Ok.ensures.most, was_read (s.left c.args.source.now) (s.left c.read_all.new.source) c.in-Ok.bytes c.as_slice.result.now c.as_slice.ensures.value c.in-Ok.ensures.bytes, d.ensures.ends)
