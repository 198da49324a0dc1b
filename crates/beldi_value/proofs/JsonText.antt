-- What is read as JSON.
use Rattle.std.specs.Str.{IsUtf8}
use Rattle.beldi_value.proofs.Names.{Data, IsUtf8-from_is_utf8, List, None, Some, ap, false, if◌then◌else◌, is_utf8, is_utf8-from_IsUtf8, json_at, refl, true, ℕ, ◌∙◌, ◌≡◌}
use Rattle.beldi_value.proofs.Names.serde

pub json_read : (bytes : List ℕ) (d : Data) → IsUtf8 bytes → serde.read bytes ≡ Some d → json_at bytes ≡ Some d
json_read bytes d utf8 e = ap (λ b. if b then serde.read bytes else None) (is_utf8-from_IsUtf8 bytes utf8) ∙ e

pub no_json : (bytes : List ℕ) → (IsUtf8 bytes → serde.read bytes ≡ None) → json_at bytes ≡ None
no_json bytes h = elim (is_utf8 bytes) as (λ b. is_utf8 bytes ≡ b → (if b then serde.read bytes else None) ≡ None) [
  | true ↦ λ e. h (IsUtf8-from_is_utf8 bytes e)
  | false ↦ λ e. refl
] refl
