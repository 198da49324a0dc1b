-- A connection that gives some bytes more.
use Rattle.std.proofs.Common.{arith, ℕ, zero, suc, ◌≡◌, ◌+◌, ◌++◌, List, [], ◌∷◌, take, drop, ap}
use Rattle.beldi_outside.specs.Connection.{Connection, took}

pub take_more : {A : Type 0} (n m : ℕ) (xs : List A) → take (n + m) xs ≡ take n xs ++ take m (drop n xs)
take_more zero m xs = ap (λ k. take k xs) (omega arith)
take_more (suc n) zero [] = let e : suc n + zero ≡ suc n = omega arith in rw e
take_more (suc n) (suc m) [] = let e : suc n + suc m ≡ suc (n + suc m) = omega arith in rw e
take_more (suc n) m (x ∷ xs) = let e : suc n + m ≡ suc (n + m) = omega arith in rw e (ap (λ ys. x ∷ ys) (take_more n m xs))

drop_more : {A : Type 0} (n m : ℕ) (xs : List A) → drop (n + m) xs ≡ drop m (drop n xs)
drop_more zero m xs = ap (λ k. drop k xs) (omega arith)
drop_more (suc n) zero [] = let e : suc n + zero ≡ suc n = omega arith in rw e
drop_more (suc n) (suc m) [] = let e : suc n + suc m ≡ suc (n + suc m) = omega arith in rw e
drop_more (suc n) m (x ∷ xs) = let e : suc n + m ≡ suc (n + m) = omega arith in rw e (drop_more n m xs)

abbrev pub at : List ℕ → List ℕ → List ℕ → ℕ → Connection
at taken left written faults = record { taken = taken; left = left; written = written; faults = faults }

pub give_more : (g n faults : ℕ) (bytes written : List ℕ)
    → at (take (g + n) bytes) (drop (g + n) bytes) written faults ≡ took n (at (take g bytes) (drop g bytes) written faults)
give_more g n faults bytes written = rw (take_more g n bytes, drop_more g n bytes)
