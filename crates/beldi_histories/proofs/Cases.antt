-- Both ways of a test, and of an option.
use Rattle.beldi_histories.proofs.Names.{Bool, None, Option, Some, false, if◌then◌else◌, refl, true, ◌≡◌}

-- what holds either way holds
pub by_cases : {P : Type 0} (b : Bool) → (b ≡ true → P) → (b ≡ false → P) → P
by_cases true f g = f refl
by_cases false f g = g refl

-- a choice is what it is either way
pub if_is : {A : Type 0} {x y z : A} (b : Bool) → (b ≡ true → x ≡ z) → (b ≡ false → y ≡ z) → (if b then x else y) ≡ z
if_is true f g = f refl
if_is false f g = g refl

pub if_same : {A : Type 0} (b : Bool) (x : A) → (if b then x else x) ≡ x
if_same true x = refl
if_same false x = refl

-- .. and of an option
pub by_option : {A P : Type 0} (o : Option A) → (o ≡ None → P) → ((a : A) → o ≡ Some a → P) → P
by_option None f g = f refl
by_option (Some a) f g = g a refl
