-- A round ends, whatever the rows are.
use Rattle.std.specs.FinMap as map
use Rattle.std.proofs.Common.{◌≡◌, ◌⊎◌, inl, inr, ℕ, zero, suc, ◌≤◌, Bool, true, false, refl, subst, arith}
use Rattle.beldi_row.specs.Table.{Rows}
use Rattle.beldi_prune.specs.{PruneLaws.HasCollectorInvariant, PruneLaws.rows_turned, PruneLaws.turned}
use Rattle.beldi_prune.specs.declared.collector.LogCollector.{LogCollector}
use Rattle.beldi_prune.proofs.CollectorInvariant.{stay_invariant}
use Rattle.beldi_sweep.specs.{Rounds.AreOrdered, Rounds.RoundsEnd, Sweep.EndsAt, Sweep.Sweep, Sweep.after_turn, Sweep.is_last_turn}
use Rattle.beldi_sweep.proofs.{Going.sweep, Old.row_left, Old.was_there, Ordered.ordered_stay, Spending.AreOf, Spending.few_to_go, Spending.pays, Spending.turns_to_go}

module _ (newest life now : ℕ) where
  record Ends (most : ℕ) (s : Sweep) : Type 0 where
    turns : ℕ
    few : turns ≤ most
    left : Sweep
    ends : EndsAt newest life now turns s left

  ends_now : (most : ℕ) (s : Sweep) → is_last_turn life now s ≡ true → Ends most s
  ends_now most s last = record { turns = 0; few = omega arith; left = after_turn newest life now s; ends = record { before = s; path = refl; last = last; done = refl } }

  ends_later : (most : ℕ) (s : Sweep) → is_last_turn life now s ≡ false → Ends most (after_turn newest life now s) → Ends (suc most) s
  ends_later most s on e = let few = e.few in record { turns = suc e.turns; few = omega (arith, few); left = e.left; ends = record { before = e.ends.before; path = (on, e.ends.path); last = e.ends.last; done = e.ends.done } }

  -- a turn makes no row
  of_turned : (first : Rows) (w : LogCollector) (m : Rows) → AreOf first m → AreOf first (rows_turned life now w m)
  of_turned first w m of q there = of q (was_there (map.get m q) (map.get (rows_turned life now w m) q) (row_left life now w m q) there)

  module _ (first : Rows) (w : LogCollector) (m : Rows) where
    ends_by : (b : Bool) → is_last_turn life now (sweep w m) ≡ b → (is_last_turn life now (sweep w m) ≡ true) ⊎ (suc (turns_to_go first (turned newest life now w m)) ≤ turns_to_go first w) → (most : ℕ) → turns_to_go first w ≤ most
        → ((rest : ℕ) → most ≡ suc rest → turns_to_go first (turned newest life now w m) ≤ rest → Ends rest (after_turn newest life now (sweep w m))) → Ends most (sweep w m)
    ends_by true last paid most few go = ends_now most (sweep w m) last
    ends_by false on (inl last) most few go = ends_now most (sweep w m) last
    ends_by false on (inr less) zero few go = absurd (omega (arith, few, less))
    ends_by false on (inr less) (suc rest) few go = ends_later rest (sweep w m) on (go rest refl (omega (arith, few, less)))

  ends : (first : Rows) (most : ℕ) (w : LogCollector) (m : Rows) → HasCollectorInvariant newest w → AreOrdered m → AreOf first m → turns_to_go first w ≤ most → Ends most (sweep w m)
  ends first zero w m right ordered of few =
      ends_by first w m (is_last_turn life now (sweep w m)) refl (pays newest life now first m of ordered w right) zero few (λ rest same less. absurd (omega (arith, same)))
  ends first (suc most) w m right ordered of few =
      ends_by first w m (is_last_turn life now (sweep w m)) refl (pays newest life now first m of ordered w right) (suc most) few
      (λ rest same less. let is : most ≡ rest = omega (arith, same) in subst (λ z. Ends z (after_turn newest life now (sweep w m))) is
      (ends first most (turned newest life now w m) (rows_turned life now w m) (stay_invariant.2 newest life now w m right) (ordered_stay life now w m ordered) (of_turned first w m of) (omega (arith, less, is))))

pub rounds_end : RoundsEnd
rounds_end newest life now w m right ordered =
    let e = ends newest life now m (turns_to_go m w) w m right ordered (λ q there. there) (omega arith) in
    let few = e.few in
    let all = few_to_go m w in
    record { turns = e.turns; few = omega (arith, few, all); left = e.left; ends = e.ends }
