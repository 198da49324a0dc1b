use Rattle.std.proofs.Common.{◌≡◌, ◌+◌, ◌-◌, ◌<◌, ◌^◌, ◌++◌}
use Rattle.beldi_generator.specs.Generated.{bank, requests_from}
use Rattle.beldi_generator.proofs.generator.generate.Given as goal

abbrev pub invariant-loop-request : goal.invariant-loop-request
invariant-loop-request l = record {
  text : l.out ++ requests_from (l.requests - l.request) (l.request + 1) l.seed ≡ l.fn.out ++ (bank ++ requests_from l.requests 1 l.fn.seed);
  small : l.seed < 2 ^ 32;
}
