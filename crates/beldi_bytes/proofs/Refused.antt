-- Where a part is refused, so is what has it.
use Rattle.std.proofs.Common.{◌≡◌, ℕ, ℤ, pos, negsuc, suc, ◌==◌, Bool, false, true, Option, Some, None, List, ◌∷◌, length, sym, ap, ◌∙◌, arith}
use Rattle.std.proofs.lemmas.Bool.Decides.{nat_tests}
use Rattle.beldi_value.specs.{declared.place.Owner.Owner, declared.place.Owner.TheVariants.Intent as OfIntent, declared.place.Owner.TheVariants.Tx as OfTx}
use Rattle.beldi_bytes.specs.KeyBytes.{id_bytes, tx_bytes}
use Rattle.beldi_bytes.specs.declared.cursor.ReadErr.{ReadErr}
use Rattle.beldi_bytes.specs.declared.cursor.ReadErr.TheVariants.{OutOfMemory, Foreign}
use Rattle.beldi_bytes.specs.Coding.{Refuses, truth_bytes, option_bytes}
use Rattle.beldi_bytes.specs.RowBytes.{eight, int_bytes, owner_bytes}
use Rattle.beldi_bytes.proofs.Exact.{Exact}

-- where the whole would stand at `old`, a part would stand at `mid`
pub refused : {A B : Type 0} (p : A → List ℕ → List ℕ) (P : A → Type 0) (q : B → List ℕ → List ℕ) (Q : B → Type 0) (old mid : List ℕ) (why : ReadErr)
    → Refuses p P mid why → ((x : B) (s : List ℕ) → Q x → old ≡ q x s → (a : A) × (t : List ℕ) × P a × (mid ≡ p a t)) → Refuses q Q old why
refused p P q Q old mid OutOfMemory h f = tt
refused p P q Q old mid Foreign h f = λ x s i e. let w = f x s i e in h w.0 w.1 w.2 w.3

-- what follows a part that was read
pub behind : {A : Type 0} (p : A → List ℕ → List ℕ) → Exact p → (a b : A) (old s t : List ℕ) → old ≡ p a s → old ≡ p b t → s ≡ t
behind p exact a b old s t h e = (exact a b s t (sym h ∙ e)).1

-- no bytes have a byte at their front
pub none_left : (l : List ℕ) (n : ℕ) (s : List ℕ) → true ≡ (length l == 0) → l ≡ n ∷ s → ⊥
none_left l n s h e = let g : length l ≡ suc (length s) = ap length e in grind (arith, nat_tests)

-- what may be there begins with a truth
pub option_flag : {A : Type 0} (put : A → List ℕ → List ℕ) (old : List ℕ) (o : Option A) (s : List ℕ) → old ≡ option_bytes put o s → (b : Bool) × (t : List ℕ) × Unit {0} × (old ≡ truth_bytes b t)
option_flag put old None s e = (false, s, tt, e)
option_flag put old (Some x) s e = (true, put x s, tt, e)

-- a whole number begins with whether it is below 0
pub int_flag : (old : List ℕ) (z : ℤ) (s : List ℕ) → old ≡ int_bytes z s → (b : Bool) × (t : List ℕ) × Unit {0} × (old ≡ truth_bytes b t)
int_flag old (pos n) s e = (false, eight n s, tt, e)
int_flag old (negsuc n) s e = (true, eight n s, tt, e)

-- an owner begins with whether it is a transaction
pub owner_flag : (old : List ℕ) (o : Owner) (s : List ℕ) → old ≡ owner_bytes o s → (b : Bool) × (t : List ℕ) × Unit {0} × (old ≡ truth_bytes b t)
owner_flag old (OfIntent a) s e = (false, id_bytes a s, tt, e)
owner_flag old (OfTx x) s e = (true, tx_bytes x s, tt, e)
