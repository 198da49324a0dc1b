-- Cases of a value, with what it is.
use Rattle.beldi_invariant.proofs.Names.{Bool, List, None, Option, Some, [], false, refl, true, ◌∷◌, ◌≡◌}

pub by_option : {A P : Type 0} (o : Option A) → (o ≡ None → P) → ((x : A) → o ≡ Some x → P) → P
by_option None none some = none refl
by_option (Some x) none some = some x refl

pub by_list : {A P : Type 0} (xs : List A) → (xs ≡ [] → P) → ((x : A) (rest : List A) → xs ≡ x ∷ rest → P) → P
by_list [] none some = none refl
by_list (x ∷ rest) none some = some x rest refl

pub false_by : (b : Bool) → (b ≡ true → ⊥) → b ≡ false
false_by true never = absurd (never refl)
false_by false never = refl
