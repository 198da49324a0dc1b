-- The newest ticket that the table's keys name is that of the kept rows.
use Rattle.std.specs.FinMap as map
use Rattle.std.specs.FinMap.{get-entries}
use Rattle.std.proofs.Common.{◌≡◌, ◌⊎◌, inl, inr, ◌≤◌, true, is_some, ap, sym, ◌∙◌, arith}
use Rattle.beldi_tree.specs.declared.deployment.Deployment.{Deployment}
use Rattle.beldi_row.specs.{Table.Rows}
use Rattle.beldi_intent.specs.Intent.{root_key}
use Rattle.beldi_step.specs.HostStep.{Core, newest_of}
use Rattle.beldi_invariant.proofs.NewestTicket.{at_most, bounded, newest_named, tickets_issued}
use Rattle.beldi_kept.specs.KeptRows.{HasKept}
use Rattle.beldi_kept.proofs.Step.{was_kept}

module _ (d : Deployment) (c : Core) (m : Rows) (h : HasKept d c m) where
  no_newer : newest_of m ≤ c.newest
  no_newer = bounded c.newest (map.entries m) (λ k there. tickets_issued d c h.kept h.upkeep.invariant k (was_kept d c m h k (ap is_some (get-entries m k) ∙ there)))

  its_own : (c.newest ≡ 0) ⊎ (is_some (map.get m (root_key c.newest)) ≡ true) → c.newest ≤ newest_of m
  its_own (inl none) = omega (arith, none)
  its_own (inr there) = at_most (root_key c.newest) (map.entries m) (sym (ap is_some (get-entries m (root_key c.newest))) ∙ there)

  pub newest_is : newest_of m ≡ c.newest
  newest_is = let low = no_newer in let high = its_own h.newest in omega (arith, low, high)

  pub same_newest : newest_of m ≡ newest_of h.kept
  same_newest = newest_is ∙ sym (newest_named d c h.kept h.upkeep.invariant)
