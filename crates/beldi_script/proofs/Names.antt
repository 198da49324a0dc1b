-- Which bytes are a name.
use Rattle.std.{specs.Str.is_utf8, proofs.lemmas.Str.IsUtf8-from_is_utf8, proofs.lemmas.Str.is_utf8-from_IsUtf8}
use Rattle.std.proofs.Common.{◌≡◌, ℕ, ◌==◌, Bool, true, false, ◌&&◌, List, [], ◌∷◌, length, Some, None, IsUtf8, refl, ap, sym, ◌∙◌, if◌then◌else◌}
use Rattle.beldi_script.specs.ScriptWords.{has_no_space, is_word, name_at}

tested : (w : List ℕ) (u : Bool) → (length w == 0) ≡ false → has_no_space w ≡ true → is_utf8 w ≡ u → is_word w ≡ u
tested [] u some clear e = cc
tested (b ∷ bs) u some clear e = ap (λ t. t && is_utf8 (b ∷ bs)) clear ∙ e

pub is_name : (w : List ℕ) → (length w == 0) ≡ false → has_no_space w ≡ true → IsUtf8 w → Some w ≡ name_at w
is_name w some clear h = sym (ap (λ t. if t then Some w else None) (tested w true some clear (is_utf8-from_IsUtf8 w h)))

not_utf8 : (w : List ℕ) → ¬ (IsUtf8 w) → is_utf8 w ≡ false
not_utf8 w h = elim (is_utf8 w) as (λ t. is_utf8 w ≡ t → is_utf8 w ≡ false) [ true ↦ λ e. absurd (h (IsUtf8-from_is_utf8 w e)) | false ↦ λ e. e ] refl

pub no_name : (w : List ℕ) → (length w == 0) ≡ false → has_no_space w ≡ true → ¬ (IsUtf8 w) → None ≡ name_at w
no_name w some clear h = sym (ap (λ t. if t then Some w else None) (tested w false some clear (not_utf8 w h)))
