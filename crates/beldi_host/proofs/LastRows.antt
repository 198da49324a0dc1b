-- The last row of a chain is come to by looks from row to row.
use Rattle.beldi_host.proofs.Names.{None, Option, Row, Some, ap, arith, refl, subst, suc, sym, zero, nat_lt, true, false, Bool, if◌then◌else◌, ltb-true, ℕ, ◌+◌, ◌<◌, ◌≤◌, ◌^◌, ◌∙◌, ◌≡◌}
use Rattle.beldi_chain.specs.Chain.{Chain, above, most_rows, most_rows_are, next_of, on_next, tail, tail_from}
use Rattle.beldi_host.specs.LastRow.{IsLast, held_at, row_step, row_step_of}
use Rattle.beldi_host.specs.declared.last_row.{Held.Held, RowStep.TheVariants.Next, RowStep.TheVariants.Last}

-- a chain's last row is that from here on, and the steps that are left are enough
pub record Follows (f : Chain) (n : ℕ) : Type 0 where
  pub steps : ℕ
  pub enough : most_rows ≤ steps + n
  pub from : tail f ≡ tail_from steps f n

pub follows_first : (f : Chain) → Follows f 0
follows_first f = record { steps = most_rows; enough = omega arith; from = refl }

tells_next : (r : Option Row) (o : Option ℕ) (k : ℕ) → row_step_of r o ≡ Next k → o ≡ Some k
tells_next r None k is = cc
tells_next r (Some n) k is = cc

tells_last : (r : Option Row) (o : Option ℕ) (h : Option Held) → row_step_of r o ≡ Last h → (o ≡ None) × (h ≡ held_at r)
tells_last r None h is = (refl, cc)
tells_last r (Some n) h is = let clash : Next n ≡ Last h = is in cc

rises : (n : ℕ) (o : Option ℕ) (k : ℕ) → above n o ≡ Some k → n < k
rises n None k is = let clash : None ≡ Some k = is in cc
rises n (Some j) k is = by_test (nat_lt n j) refl is
  where
    by_test : (b : Bool) → nat_lt n j ≡ b → (if b then Some j else None) ≡ Some k → n < k
    by_test true less is = let same : j ≡ k = cc in subst (λ z. n < z) same (ltb-true n j less)
    by_test false less is = let clash : None ≡ Some k = is in cc

pub follows_next : (f : Chain) (n k : ℕ) → n < 2 ^ 32 → Follows f n → row_step n (f n) ≡ Next k → Follows f k
follows_next f n k small h is = by_steps h.steps h.enough h.from
  where
    next : above n (next_of (f n)) ≡ Some k
    next = tells_next (f n) (above n (next_of (f n))) k is

    less : n < k
    less = rises n (next_of (f n)) k next

    by_steps : (s : ℕ) → most_rows ≤ s + n → tail f ≡ tail_from s f n → Follows f k
    by_steps zero enough from = let most : most_rows ≡ 2 ^ 32 = most_rows_are in absurd (omega (arith, enough, small, most))
    by_steps (suc s) enough from = record { steps = s; enough = omega (arith, enough, less); from = from ∙ ap (λ o. on_next o (f n) (tail_from s f)) next }

pub follows_last : (f : Chain) (n : ℕ) (h : Option Held) → Follows f n → row_step n (f n) ≡ Last h → IsLast f h
follows_last f n h follows is = by_steps follows.steps follows.from
  where
    told : (above n (next_of (f n)) ≡ None) × (h ≡ held_at (f n))
    told = tells_last (f n) (above n (next_of (f n))) h is

    by_steps : (s : ℕ) → tail f ≡ tail_from s f n → IsLast f h
    by_steps zero from = told.1 ∙ ap held_at (sym from)
    by_steps (suc s) from = told.1 ∙ ap held_at (sym (from ∙ ap (λ o. on_next o (f n) (tail_from s f)) told.0))
