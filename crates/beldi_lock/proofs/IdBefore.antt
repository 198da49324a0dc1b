-- The id directly before another.
use Rattle.beldi_lock.proofs.Names.{IntentId, List, [], ap, append-nil, arith, before_split, filled, id_before, length, most, refl, replicate, split_last, suc, sym, zero, ℕ, ◌++◌, ◌-◌, ◌<◌, ◌∙◌, ◌∷◌, ◌≡◌}
use Rattle.beldi_lock.proofs.Last.{split_front}

-- ---- hops with the greatest behind them
less_one : (a : ℕ) → suc a - 1 ≡ a
less_one a = omega arith

less_none : (a : ℕ) → suc a - 0 ≡ suc a
less_none a = omega arith

pub less_each : (a b : ℕ) → suc a - suc b ≡ a - b
less_each a b = omega arith

one_more : (room : ℕ) (xs : List ℕ) → length xs < room → filled room (xs ++ most ∷ []) ≡ filled room xs
one_more zero xs h = absurd (omega (arith, h))
one_more (suc room) [] h = ap (λ n. most ∷ replicate n most) (less_one room) ∙ sym (ap (λ n. replicate n most) (less_none room))
one_more (suc room) (x ∷ xs) h =
    ap (λ n. x ∷ (xs ++ most ∷ []) ++ replicate n most) (less_each room (length (xs ++ most ∷ [])))
    ∙ ap (λ ys. x ∷ ys) (one_more room xs (omega (arith, h)))
    ∙ sym (ap (λ n. x ∷ xs ++ replicate n most) (less_each room (length xs)))

pub filled_more : (xs : List ℕ) → length xs < 63 → filled 63 (xs ++ most ∷ []) ≡ filled 63 xs
filled_more xs h = one_more 63 xs h

pub filled_whole : (xs : List ℕ) → length xs ≡ 63 → filled 63 xs ≡ xs
filled_whole xs h = ap (λ n. xs ++ replicate (63 - n) most) h ∙ append-nil xs

-- ---- the last hop
pub before_zero : (id : IntentId) (front : List ℕ) → id.hops ≡ front ++ 0 ∷ [] → record { ticket = id.ticket; hops = front } ≡ id_before id
before_zero id front is = ap (before_split id.ticket) (sym (split_front front 0)) ∙ ap (λ hs. before_split id.ticket (split_last hs)) (sym is)

pub before_more : (id : IntentId) (front : List ℕ) (l : ℕ) → id.hops ≡ front ++ l ∷ [] → (l ≡ 0 → ⊥) → record { ticket = id.ticket; hops = filled 63 (front ++ (l - 1) ∷ []) } ≡ id_before id
before_more id front zero is some = absurd (some refl)
before_more id front (suc l) is some =
    ap (λ n. record { ticket = id.ticket; hops = filled 63 (front ++ n ∷ []) }) (less_one l)
    ∙ ap (before_split id.ticket) (sym (split_front front (suc l))) ∙ ap (λ hs. before_split id.ticket (split_last hs)) (sym is)
