use Rattle.beldi_value.proofs.Names.{ap, arith, length, option_copied, rest_parts, steps_at, sym, ◌∙◌}
use Rattle.beldi_value.proofs.Slashes.{onto, cut_is, too_many, no_step, one_step}
use Rattle.beldi_value.proofs.read_id.read_hops.Goals as goal

pub returns-then-len-eq63 : goal.returns-then-len-eq63
returns-then-len-eq63 c =
    let e = ap (λ o. length (rest_parts (option_copied o))) c.in-Some.is in
    too_many c.len.result (rest_parts (option_copied c.args.rest)) c.in-Some.bytes.now (omega arith) c.if-len-eq63.true

pub returns-in-None : goal.returns-in-None
returns-in-None c =
    let part = c.cut_at.result.0.now in
    let left = rest_parts (option_copied c.cut_at.result.1) in
    let cut = ap (λ o. rest_parts (option_copied o)) c.in-Some.is ∙ cut_is c.in-Some.bytes.now part (option_copied c.cut_at.result.1) c.cut_at.ensures.front c.cut_at.ensures.rest in
    no_step c.loop-left.steps.items part left (rest_parts (option_copied c.args.rest)) (ap (λ ps. onto c.loop-left.steps.items (steps_at ps)) (sym cut) ∙ c.loop-left.invariant.all) (sym c.in-None.ensures)

pub loop-left-preserved : goal.loop-left-preserved
loop-left-preserved c =
    let part = c.cut_at.result.0.now in
    let left = rest_parts (option_copied c.cut_at.result.1) in
    let cut = ap (λ o. rest_parts (option_copied o)) c.in-Some.is ∙ cut_is c.in-Some.bytes.now part (option_copied c.cut_at.result.1) c.cut_at.ensures.front c.cut_at.ensures.rest in
    let grown = c.in_ok-push-in-Some-read_step.ensures in
    record {
      number = omega (arith, ap length cut, grown.len);
      all = ap (λ ns. onto ns (steps_at left)) grown.items
          ∙ one_step c.loop-left.steps.items c.in-Some-read_step.step part left (steps_at (rest_parts (option_copied c.args.rest))) (ap (λ ps. onto c.loop-left.steps.items (steps_at ps)) (sym cut) ∙ c.loop-left.invariant.all) (sym c.in-Some-read_step.ensures);
      few = omega (arith, grown.len);
    }
