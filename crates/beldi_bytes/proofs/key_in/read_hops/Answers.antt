use Rattle.std.proofs.Common.{arith}
use Rattle.beldi_bytes.proofs.Texts.{next_hop, all_hops, no_hop}
use Rattle.beldi_bytes.proofs.key_in.read_hops.Goals as goal

pub returns-in-Err : goal.returns-in-Err
returns-in-Err c = no_hop _ _ c.loop-value.steps.items c.in-Err.why c.loop-value.invariant.way c.in-Err.ensures

pub returns-in-None : goal.returns-in-None
returns-in-None c = rw c.in_ok-from_vec-in-None.ensures (all_hops _ _ _ c.loop-value.steps.items c.in-Ok.value c.loop-value.invariant.way c.in-Ok.ensures.0 c.in-None.is, c.loop-value.invariant.few)

pub loop-value-preserved : goal.loop-value-preserved
loop-value-preserved c = record {
  few = omega (arith, c.in-Ok-push.ensures.len);
  way = rw c.in-Ok-push.ensures.items (next_hop _ _ _ c.loop-value.steps.items c.in-Ok.value c.in-Some.step c.loop-value.invariant.way c.in-Ok.ensures.0 c.in-Some.is);
}
