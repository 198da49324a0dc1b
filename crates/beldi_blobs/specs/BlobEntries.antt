-- The entries that a database holds in its one table.
use Rattle.std.specs.Prelude.{◌≡◌, ◌≢◌, ℕ, ℤ, false, ⊤, List, [], ◌∷◌, map}
use Rattle.std.specs.List.{AllByRecursion}
use Rattle.std.specs.Ordering.{nat_cmp}
use Rattle.std.specs.Cmp.Lexicographic.{slice_cmp}
use Rattle.std.specs.FinMap.{FinMap, from_entries}
use Rattle.sqlite.specs.declared.types.Value.TheVariants.{Int, Blob}
use Rattle.sqlite.specs.Order.{Row, bytes, column}
use Rattle.sqlite.specs.Tree.{rowid}
use Rattle.sqlite.specs.State.{State}
use Rattle.beldi_blobs.specs.Texts.{one_table}

-- values by keys, in dictionary order of the keys
abbrev pub Entries : Type 0
Entries = FinMap (slice_cmp nat_cmp) (List ℕ)

-- a row as it is stored: its rowid, a key and a value
abbrev pub stored : ℤ → List ℕ → List ℕ → Row
stored id key value = Int id ∷ Blob key ∷ Blob value ∷ []

-- its key and its value
abbrev pub entry_of : Row → List ℕ × List ℕ
entry_of row = (bytes (column row 1), bytes (column row 2))

abbrev pub entries_of : List Row → Entries
entries_of rows = from_entries (map entry_of rows)

pub record IsStored (row : Row) : Type 0 where
  pub id : ℤ
  pub key : List ℕ
  pub value : List ℕ
  pub is : row ≡ stored id key value

-- two rows have neither a rowid nor a key in common
abbrev pub AreApart : Row → Row → Type 0
AreApart a b = (rowid a ≢ rowid b) × (column a 1 ≢ column b 1)

-- each row is one of the table, and no two have a rowid or a key in common
abbrev pub AreStored : List Row → Type 0
AreStored [] = ⊤
AreStored (row ∷ rows) = IsStored row × AllByRecursion (AreApart row) rows × AreStored rows

-- the rows of the table
abbrev pub rows_in : State → List Row
rows_in s = s.now.trees 0

-- the entries that a connection shows
abbrev pub entries_in : State → Entries
entries_in s = entries_of (rows_in s)

-- The database has the one table and nothing else, and no transaction is open.
pub record IsTable (s : State) : Type 0 where
  pub schema : s.now.schema ≡ one_table
  pub rows : AreStored (rows_in s)
  pub autocommit : s.in_transaction ≡ false
  pub committed : s.committed ≡ s.now
