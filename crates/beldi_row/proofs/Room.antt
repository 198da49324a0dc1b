-- Whether a log has room for an entry.
use Rattle.std.proofs.Common.{◌≡◌, ℕ, ◌==◌, ◌+◌, ◌≤◌, ◌<◌, Bool, true, false, List, length, ap, sym, ◌∙◌, subst, eqb-true, eq-eqb, refl, arith}
use Rattle.beldi_row.specs.Log.{most_entries, most_entries_are}

pub full_at_eight : (b : Bool) (n : ℕ) → b ≡ (n == 8) → b ≡ (n == most_entries)
full_at_eight b n h = subst (λ k. b ≡ (n == k)) (sym most_entries_are) h

pub below_eight : {X : Type 0} (es fs : List X) → es ≡ fs → length es ≤ 8 → (length fs == most_entries) ≡ false → length es < 8
below_eight es fs same few h =
    let apart : length es ≡ 8 → ⊥ = λ eight. let clash : true ≡ false = sym (eq-eqb (length fs) most_entries (sym (ap length same) ∙ eight ∙ sym most_entries_are)) ∙ h in cc in
    omega (arith, few, apart)

pub still_few : (n k : ℕ) → n < 8 → k ≡ n + 1 → k ≤ 8
still_few n k few more = omega (arith, few, more)

pub has_room : (n : ℕ) → n < 8 → (n == most_entries) ≡ false
has_room n h = elim (n == most_entries) as (λ b. (n == most_entries) ≡ b → b ≡ false) [
  | true ↦ λ e. let eight : n ≡ 8 = eqb-true n most_entries e ∙ most_entries_are in absurd (omega (arith, h, eight))
  | false ↦ λ e. refl
] refl

pub at_most : {X : Type 0} (es fs : List X) → es ≡ fs → length es ≤ 8 → length fs ≤ most_entries
at_most es fs same few = subst (λ n. length fs ≤ n) (sym most_entries_are) (subst (λ xs. length xs ≤ 8) same few)
