-- A text cut at its first mark, by the mark's place.
use Rattle.beldi_value.proofs.Names.{List, None, Some, [], after, ap, arith, before, between_to_end, cond, cond_some, drop, false, if◌then◌else◌, length, ltb-true, nat_lt, nat_tests, not, position, position_or_len, refl, suc, sym, take, take_all, true, ℕ, ◌+◌, ◌-◌, ◌<◌, ◌==◌, ◌∙◌, ◌∷◌, ◌≡◌, ◌≤◌}

-- how many bytes stand before the first mark
abbrev place : ℕ → List ℕ → ℕ
place m bs = position_or_len (λ b. b == m) bs

one_more : (n : ℕ) → 1 + n ≡ suc n
one_more n = omega arith

front_is : (m : ℕ) (bs : List ℕ) → take (place m bs) bs ≡ before m bs
front_is m [] = refl
front_is m (b ∷ bs) = elim (b == m) as (λ t. take (cond (not t) (1 + place m bs) 0) (b ∷ bs) ≡ (if t then [] else b ∷ before m bs)) [
  | true ↦ refl
  | false ↦ ap (λ n. take n (b ∷ bs)) (one_more (place m bs)) ∙ ap (λ r. b ∷ r) (front_is m bs)
]

rest_is : (m : ℕ) (bs : List ℕ) → place m bs < length bs → after m bs ≡ Some (drop (place m bs + 1) bs)
rest_is m [] h = absurd (omega arith)
rest_is m (b ∷ bs) h = elim (b == m) as (λ t. cond (not t) (1 + place m bs) 0 < length (b ∷ bs) → (if t then Some bs else after m bs) ≡ Some (drop (cond (not t) (1 + place m bs) 0 + 1) (b ∷ bs))) [
  | true ↦ λ h. refl
  | false ↦ λ h. rest_is m bs (omega arith) ∙ ap (λ n. Some (drop n (b ∷ bs))) (let e : suc (place m bs + 1) ≡ 1 + place m bs + 1 = omega arith in e)
] h

no_rest : (m : ℕ) (bs : List ℕ) → length bs ≤ place m bs → after m bs ≡ None
no_rest m [] h = refl
no_rest m (b ∷ bs) h = elim (b == m) as (λ t. length (b ∷ bs) ≤ cond (not t) (1 + place m bs) 0 → (if t then Some bs else after m bs) ≡ None) [
  | true ↦ λ h. absurd (omega arith)
  | false ↦ λ h. no_rest m bs (omega arith)
] h

-- a mark's place cuts the text
pub record Cuts (m : ℕ) (bs : List ℕ) (i : ℕ) : Type 0 where
  pub front : take i bs ≡ before m bs
  pub rest : Some (take (length bs - (i + 1)) (drop (i + 1) bs)) ≡ after m bs

pub found : (m : ℕ) (bs : List ℕ) (i : ℕ) → Some i ≡ position (λ b. b == m) bs → Cuts m bs i
found m bs i h =
    let at = cond_some (nat_lt (place m bs) (length bs)) (place m bs) i (sym h) in
    let within = ltb-true (place m bs) (length bs) at.0 in
    record {
      front = ap (λ n. take n bs) (sym at.1) ∙ front_is m bs;
      rest = ap Some (between_to_end bs (i + 1) (length bs) (omega arith)) ∙ ap (λ n. Some (drop (n + 1) bs)) (sym at.1) ∙ sym (rest_is m bs within);
    }

none_below : (n k : ℕ) → cond (nat_lt n k) (Some n) None ≡ None → k ≤ n
none_below n k h = elim (nat_lt n k) as (λ t. nat_lt n k ≡ t → cond t (Some n) None ≡ None → k ≤ n) [
  | true ↦ λ e g. absurd (cc)
  | false ↦ λ e g. grind (arith, nat_tests)
] refl h

pub record Whole (m : ℕ) (bs : List ℕ) : Type 0 where
  pub front : bs ≡ before m bs
  pub rest : None ≡ after m bs

pub missing : (m : ℕ) (bs : List ℕ) → None ≡ position (λ b. b == m) bs → Whole m bs
missing m bs h =
    let past = none_below (place m bs) (length bs) (sym h) in
    record { front = sym (take_all (place m bs) bs past) ∙ front_is m bs; rest = sym (no_rest m bs past) }
