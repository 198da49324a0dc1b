use Rattle.std.proofs.Common.{List, [], append-nil, append_assoc, ap, arith, subst, sym, ℕ, ◌++◌, ◌+◌, ◌∙◌, ◌≡◌}
use Rattle.beldi_outside.proofs.Observed.{told_same, told_then}
use Rattle.beldi_serve.specs.ServedConnections.{Passes, sight}
use Rattle.beldi_serve.proofs.Serving.{SoFar, broken_off, none_yet, one_more, untold}
use Rattle.beldi_serve.proofs.connections.serve.Goals as goal

pub loop-number-init : goal.loop-number-init
loop-number-init g c =
    let k = g.K.Sink in
    record {
      told = ([], told_same (λ h j. j ≡ h ++ []) (k.held c.args.sink.now) (λ h. sym (append-nil h)), none_yet g.C.Clock.tells (sight c.args.desk.now.host (g.N.Link.seen c.args.link.now) c.args.clock.now));
      later = omega arith;
      refusals = omega arith;
    }

pub returns-in-Err-tell_line-clause-serves : goal.returns-in-Err-tell_line-clause-serves
returns-in-Err-tell_line-clause-serves g c =
    let k = g.K.Sink in
    let i = c.loop-number.invariant.told in
    let t = c.in-Err-tell_line.ensures in
    record {
      written = i.0 ++ t.written;
      sink = told_then {P = λ h j. j ≡ h ++ i.0} {Q = λ h j. j ≡ h ++ t.written} {R = λ h j. j ≡ h ++ (i.0 ++ t.written)} (k.held c.args.sink.now) (k.held c.loop-number.sink) (k.held c.tell_line.new.sink) (λ a b d v w. w ∙ ap (λ z. z ++ t.written) v ∙ append_assoc a i.0 t.written) i.1 t.sink;
      passes = untold g.C.Clock.tells (Unit {0}) (Unit {0}) c.args.requests c.loop-number.number i.0 t.written c.in-Ok.served c.in-Err-tell_line.why t.line_by i.2 c.in-Ok.ensures.passes;
    }

pub returns-in-Err-clause-serves : goal.returns-in-Err-clause-serves
returns-in-Err-clause-serves g c =
    let i = c.loop-number.invariant.told in
    record { written = i.0; sink = i.1; passes = broken_off g.C.Clock.tells (Unit {0}) c.args.requests c.loop-number.number i.0 c.in-Err.why c.loop-number-test.true i.2 c.in-Err.ensures.passes }

pub returns-in-Err-clause-fault : goal.returns-in-Err-clause-fault
returns-in-Err-clause-fault g c = λ is. absurd (c.in-Err.ensures.no_sink (cc is))

pub loop-number-preserved : goal.loop-number-preserved
loop-number-preserved g c =
    let k = g.K.Sink in
    let n = g.N.Link in
    let i = c.loop-number.invariant in
    let t = c.in-Ok-tell_line.ensures in
    let w = i.told.0 in
    record {
      told = (
        w ++ t.written,
        told_then {P = λ h j. j ≡ h ++ w} {Q = λ h j. j ≡ h ++ t.written} {R = λ h j. j ≡ h ++ (w ++ t.written)} (k.held c.args.sink.now) (k.held c.loop-number.sink) (k.held c.tell_line.new.sink) (λ a b d v u. u ∙ ap (λ z. z ++ t.written) v ∙ append_assoc a w t.written) i.told.1 t.sink,
        subst (λ (z : List ℕ). Passes (SoFar g.C.Clock.tells (c.loop-number.number + 1) (w ++ z)) (sight c.args.desk.now.host (n.seen c.args.link.now) c.args.clock.now) (sight c.connect.new.desk.host (n.seen c.connect.new.link) c.connect.new.clock)) (sym t.line_by)
            (one_more g.C.Clock.tells c.loop-number.number w c.in-Ok.served i.told.2 c.in-Ok.ensures.passes),
      );
      later = omega (arith, i.later, t.later);
      refusals = omega (arith, i.refusals, c.in-Ok.ensures.later);
    }
