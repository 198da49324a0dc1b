use Rattle.std.proofs.Common.{◌≡◌, ℕ, List, ◌++◌, drop}
use Rattle.beldi_bytes.specs.KeyBytes.{hops_bytes}
use Rattle.beldi_bytes.proofs.key_out.put_hops.Given as goal

abbrev pub invariant-loop-hop : goal.invariant-loop-hop
invariant-loop-hop l = (s : List ℕ) → l.out.items ++ hops_bytes (drop l.hop-index l.hops) s ≡ l.initial.out.items ++ hops_bytes l.hops s
