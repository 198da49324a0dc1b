-- Things of which no two have one name.
use Rattle.std.specs.Prelude.{◌≡◌, ℕ, List, Some, slice_get}
use Rattle.std.specs.List.{position}
use Rattle.beldi_tree.specs.Bindings.{is_name}

-- each is the first one of its name
abbrev pub AreApart : {A : Type 0} → (A → List ℕ) → List A → Type 0
AreApart {A} name xs = (i : ℕ) (x : A) → slice_get xs i ≡ Some x → position (λ y. is_name (name y) (name x)) xs ≡ Some i
