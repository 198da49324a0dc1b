use Rattle.beldi_gateway.proofs.Names.{ap, arith, drop, length, length-drop, rules, scan_on, take, take_all, ◌+◌, ◌-◌, ◌∙◌, ◌≡◌}
use Rattle.beldi_gateway.proofs.{Moves.head_grows, Moves.head_ends, Moves.lost_then, Scans.scan_grows}
use Rattle.beldi_gateway.proofs.gather.gather.Goals as goal

pub returns-in-Err-clause-takes : goal.returns-in-Err-clause-takes
returns-in-Err-clause-takes g c =
    let n = g.N.Link in
    lost_then (n.seen c.args.link.now) (n.seen c.loop-scan.link) (n.seen c.take_some.new.link) c.loop-scan.bytes.items c.loop-scan.invariant.moves c.in-Err.ensures.takes

pub returns-in-Ok-eq0-clause-takes : goal.returns-in-Ok-eq0-clause-takes
returns-in-Ok-eq0-clause-takes g c =
    let n = g.N.Link in
    let h = c.loop-scan.invariant in
    let t = c.in-Ok-eq0.ensures.takes in
    let none : c.in-Ok-eq0.field-0 ≡ 0 = search rules in
    head_ends (n.seen c.args.link.now) (n.seen c.loop-scan.link) (n.seen c.take_some.new.link) c.loop-scan.bytes.items c.take_some.new.into.items c.loop-scan.scan
    h.moves h.scan h.short h.size t.0 (t.1 ∙ ap (λ k. length c.loop-scan.bytes.items + k) none) (t.3 none)

pub loop-scan-preserved : goal.loop-scan-preserved
loop-scan-preserved g c =
    let n = g.N.Link in
    let h = c.loop-scan.invariant in
    let t = c.in-Ok.ensures.takes in
    let x = c.loop-scan.bytes.items in
    let y = c.take_some.new.into.items in
    let d = length-drop (length x) y in
    let all : take (length y - length x) (drop (length x) y) ≡ drop (length x) y = take_all (length y - length x) (drop (length x) y) (omega (arith, d)) in
    let from : c.len-from.result ≡ length x = search rules in
    let scanned = rw (c.deref.ensures.value, from) at c.pass_all-scan.ensures.scanned in
    let size = rw (c.deref.ensures.value, from) at c.pass_all-scan.ensures.size in
    let lines = rw (c.deref.ensures.value, from) at c.pass_all-scan.ensures.lines in
    record {
      later = omega (arith, h.later, c.in-Ok.ensures.later);
      refusals = omega (arith, h.refusals, c.in-Ok.ensures.refusals);
      moves = head_grows (n.seen c.args.link.now) (n.seen c.loop-scan.link) (n.seen c.take_some.new.link) x y h.moves t.0;
      scan = scan_grows c.loop-scan.scan c.pass_all-scan.result x y t.0.took h.scan t.0.into (scanned ∙ ap (scan_on c.loop-scan.scan) all);
      short = omega (arith, h.short, t.1, t.2);
      size = omega (arith, h.size, t.1, d, ap length all, size);
      lines = omega (arith, h.lines, t.1, d, ap length all, lines);
    }
