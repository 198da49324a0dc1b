use Rattle.beldi_gateway.proofs.Names.{[], inr, rules, ◌≡◌}
use Rattle.beldi_gateway.proofs.Moves.{gathers_then, lost_then, ends_then}
use Rattle.beldi_gateway.proofs.gather.fill.Goals as goal

pub returns-in-Err-clause-takes : goal.returns-in-Err-clause-takes
returns-in-Err-clause-takes g c =
    let n = g.N.Link in
    let h = c.loop-body.invariant.gathers in
    lost_then (n.seen c.args.link.now) (n.seen c.loop-body.link) (n.seen c.take_some.new.link) h.took h.moves c.in-Err.ensures.takes

pub returns-in-Ok-eq0-clause-takes : goal.returns-in-Ok-eq0-clause-takes
returns-in-Ok-eq0-clause-takes g c =
    let n = g.N.Link in
    let h = c.loop-body.invariant.gathers in
    let t = c.in-Ok-eq0.ensures.takes in
    let none : c.in-Ok-eq0.field-0 ≡ 0 = search rules in
    let a = n.seen c.args.link.now in
    let b = n.seen c.loop-body.link in
    let d = n.seen c.take_some.new.link in (
      gathers_then a b d c.args.body.now.items c.loop-body.body.items c.take_some.new.into.items h t.0,
      inr (ends_then a b d h.took [] h.moves (t.3 none)),
    )
