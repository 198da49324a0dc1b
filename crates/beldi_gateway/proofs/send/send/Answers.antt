use Rattle.beldi_gateway.proofs.Names.{LinkWrote, Ok, Observed, arith, drop, length, length-drop, subst, take, take-append-drop, take_all, ◌+◌, ◌-◌, ◌≡◌, ◌≤◌}
use Rattle.beldi_gateway.proofs.Moves.{wrote_nothing, wrote_more}
use Rattle.beldi_gateway.proofs.send.send.Goals as goal

pub returns-in-Err-clause-sends : goal.returns-in-Err-clause-sends
returns-in-Err-clause-sends g c =
    let n = g.N.Link in
    let at = c.loop-at.at in
    let bytes = c.args.bytes.now in
    (take at bytes, (drop at bytes, take-append-drop at bytes), wrote_nothing (take at bytes) (drop at bytes) _ (n.seen c.args.link.now) (n.seen c.loop-at.link) (n.seen c.write.new.self) c.loop-at.invariant.moves c.in-Err.ensures.bytes)

pub returns-in-Ok-eq0-clause-sends : goal.returns-in-Ok-eq0-clause-sends
returns-in-Ok-eq0-clause-sends g c =
    let n = g.N.Link in
    let at = c.loop-at.at in
    let bytes = c.args.bytes.now in
    let m = c.in-Ok-eq0.field-0 in
    let rest : take (length bytes - at) (drop at bytes) ≡ drop at bytes = take_all (length bytes - at) (drop at bytes) (omega (arith, length-drop at bytes)) in
    let told = subst (λ p. Observed (n.seen c.loop-at.link) (n.seen c.write.new.self) (LinkWrote p (Ok m))) rest c.in-Ok-eq0.ensures.bytes in
    (take (at + m) bytes, (drop (at + m) bytes, take-append-drop (at + m) bytes), wrote_more at m bytes (n.seen c.args.link.now) (n.seen c.loop-at.link) (n.seen c.write.new.self) c.loop-at.invariant.moves told)

pub loop-at-preserved : goal.loop-at-preserved
loop-at-preserved g c =
    let n = g.N.Link in
    let at = c.loop-at.at in
    let bytes = c.args.bytes.now in
    let m = c.in-Ok.count in
    let rest : take (length bytes - at) (drop at bytes) ≡ drop at bytes = take_all (length bytes - at) (drop at bytes) (omega (arith, length-drop at bytes)) in
    let told = subst (λ p. Observed (n.seen c.loop-at.link) (n.seen c.write.new.self) (LinkWrote p (Ok m))) rest c.in-Ok.ensures.bytes in
    let bound = subst (λ p. m ≤ length p) rest c.in-Ok.ensures.bound in
    record {
      within = omega (arith, c.loop-at.invariant.within, bound, length-drop at bytes);
      later = omega (arith, c.loop-at.invariant.later, c.in-Ok.ensures.cause.later);
      refusals = omega (arith, c.loop-at.invariant.refusals, c.in-Ok.ensures.later);
      moves = wrote_more at m bytes (n.seen c.args.link.now) (n.seen c.loop-at.link) (n.seen c.write.new.self) c.loop-at.invariant.moves told;
    }
