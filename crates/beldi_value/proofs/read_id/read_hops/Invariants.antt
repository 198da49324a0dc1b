use Rattle.beldi_value.proofs.Names.{length, option_copied, rest_parts, steps_at, vec_len, ◌+◌, ◌-◌, ◌≡◌, ◌≤◌}
use Rattle.beldi_value.proofs.Slashes.{onto}
use Rattle.beldi_value.proofs.read_id.read_hops.Given as goal

-- the steps so far and those that are left are all, and there is room for 63
abbrev pub invariant-loop-left : goal.invariant-loop-left
invariant-loop-left l = record {
  number : vec_len l.steps + length (rest_parts (option_copied l.left)) ≡ length (rest_parts (option_copied l.rest));
  all : onto l.steps.items (steps_at (rest_parts (option_copied l.left))) ≡ steps_at (rest_parts (option_copied l.rest));
  few : vec_len l.steps ≤ 63;
}

abbrev pub decreases-loop-left : goal.decreases-loop-left
decreases-loop-left l = 63 - vec_len l.steps
