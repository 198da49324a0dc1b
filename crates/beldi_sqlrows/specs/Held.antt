-- The rows that bytes stand for.
use Rattle.std.specs.Prelude.{◌≡◌, ℕ, List, Option, Some, None, option_map, IfSome}
use Rattle.std.specs.{FinMap.same_map, Coded.Coded-set, Coded.Unit-prop, Coded.Π_prop, Coded.coded_option, Coded.coded_list, Coded.coded_ℕ}
use Rattle.std.specs.FinMap as map
use Rattle.std.proofs.Common.{refl, sym, ap, ◌∙◌}
use mathlib.Core.HLevel.{Σ_prop_path}
use Rattle.beldi_row.specs.{Key.RowKey, KeyOrder.key_exact, KeyOrder.key_total, Table.Rows, declared.row.Row.Row}
use Rattle.beldi_bytes.{specs.KeyBytes.key_bytes, specs.RowBytes.row_bytes, proofs.RowExact.rows_are_one}
use Rattle.beldi_blobs.specs.BlobEntries.{Entries}

-- each row's bytes are at the bytes of its key, and none are at those of a key without a row
abbrev pub Holds : Rows → Entries → Type 0
Holds m e = (k : RowKey) → map.get e (key_bytes k) ≡ option_map row_bytes (map.get m k)

-- where entries are told, they hold rows
abbrev pub Held : Option Entries → Type 0
Held told = IfSome told (λ e. (m : Rows) × Holds m e)

-- the rows that they hold
abbrev pub rows_told : (told : Option Entries) → Held told → Option Rows
rows_told None h = None
rows_told (Some e) h = Some h.0

-- the bytes of an entry
abbrev pub bytes_of : RowKey × Row → List ℕ × List ℕ
bytes_of e = (key_bytes e.0, row_bytes e.1)

-- ---- entries hold the rows of one map alone
pub same_row : (a b : Option Row) → option_map row_bytes a ≡ option_map row_bytes b → a ≡ b
same_row None None h = refl
same_row None (Some s) h = cc
same_row (Some r) None h = cc
same_row (Some r) (Some s) h = let bytes : row_bytes r ≡ row_bytes s = cc in ap Some (rows_are_one r s bytes)

pub same_rows : (m n : Rows) (e : Entries) → Holds m e → Holds n e → m ≡ n
same_rows m n e h j = same_map key_total key_exact m n (λ k. same_row (map.get m k) (map.get n k) (sym (h k) ∙ j k))

pub held_prop : (told : Option Entries) → IsProp (Held told)
held_prop None = Unit-prop
held_prop (Some e) = λ u v. Σ_prop_path (λ m. Π_prop (λ k. Coded-set (coded_option (coded_list coded_ℕ)) _ _)) (same_rows u.0 v.0 e u.1 v.1)
