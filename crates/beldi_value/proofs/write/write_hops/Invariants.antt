use Rattle.beldi_value.proofs.Names.{drop, hops_text, ◌++◌, ◌≡◌}
use Rattle.beldi_value.proofs.write.write_hops.Given as goal

-- what is written and the hops that are left are the whole text
abbrev pub invariant-loop-step : goal.invariant-loop-step
invariant-loop-step l = l.out ++ hops_text (drop l.step-index l.steps) ≡ l.fn.out ++ hops_text l.steps
