-- What follows the last space of a line.
use Rattle.std.proofs.Common.{◌≡◌, ℕ, ◌==◌, true, false, List, [], ◌∷◌, ◌++◌, None, Some, refl, ap}
use Rattle.std.specs.Prelude.{if◌then◌else◌}
use Rattle.std.proofs.lemmas.Option.{same_Some}
use Rattle.beldi_value.specs.ByteCut.{after}
use Rattle.beldi_generator.specs.Summary.{last_of}

pub no_space : (w bs : List ℕ) → after 32 bs ≡ None → last_of w bs ≡ w
no_space w [] h = refl
no_space w (b ∷ bs) h = elim (b == 32) as (λ t. (if t then Some bs else after 32 bs) ≡ None → last_of (if t then bs else w) bs ≡ w) [
  | true ↦ λ g. cc
  | false ↦ λ g. no_space w bs g
] h

pub past_space : (w bs r : List ℕ) → after 32 bs ≡ Some r → last_of w bs ≡ last_of r r
past_space w [] r h = cc
past_space w (b ∷ bs) r h = elim (b == 32) as (λ t. (if t then Some bs else after 32 bs) ≡ Some r → last_of (if t then bs else w) bs ≡ last_of r r) [
  | true ↦ λ g. ap (λ s. last_of s s) (same_Some bs r g)
  | false ↦ λ g. past_space w bs r g
] h

-- a last word with no space in it
pub last_is : (w xs ds : List ℕ) → after 32 ds ≡ None → last_of w (xs ++ 32 ∷ ds) ≡ ds
last_is w [] ds h = no_space ds ds h
last_is w (x ∷ xs) ds h = last_is (if x == 32 then xs ++ 32 ∷ ds else w) xs ds h
