use Rattle.std.proofs.Common.{◌<◌, ℕ, subst}
use Rattle.beldi_generator.proofs.Requests.{moved_on}
use Rattle.beldi_generator.proofs.generator.generate.Goals as goal

pub loop-request-preserved : goal.loop-request-preserved
loop-request-preserved c = record {
  text = moved_on c.loop-request.out c.write_request.new.out _ c.loop-request.request c.args.requests c.loop-request.seed c.in_ok-seed.seed
      (subst (λ (n : ℕ). c.loop-request.request < n) c.from-request-end.ensures c.loop-request-test.true) c.in_ok-seed.ensures.text c.in_ok-seed.ensures.next c.loop-request.invariant.text;
  small = c.in_ok-seed.ensures.small;
}
