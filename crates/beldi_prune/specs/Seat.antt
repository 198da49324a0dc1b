-- Whose a row is, and where the row of that intent stands.
use Rattle.std.specs.Prelude.{ℕ, Option, Some, None}
use Rattle.beldi_value.specs.declared.id.IntentId.{IntentId}
use Rattle.beldi_row.specs.{Key.RowKey, declared.key.Kind.Kind}
use Rattle.beldi_intent.specs.Intent.{intent_key}

-- the intent that a row belongs to; a row of an item is nobody's
abbrev pub belongs_to : Kind → Option IntentId
belongs_to (Kind.Intent id) = Some id
belongs_to (Kind.ReadLog a) = Some a.intent
belongs_to (Kind.Invoke a) = Some a.intent
belongs_to (Kind.Data t k n) = None
belongs_to (Kind.Shadow s t k n) = Some s.intent
belongs_to (Kind.Lockset i b t k) = Some i

-- the function of that intent: that of the row's home, and of a shadow the function which began the transaction
abbrev pub home_in : ℕ → Kind → ℕ
home_in home (Kind.Shadow s t k n) = s.func
home_in home k = home

-- the key of that intent's row: a root's stands in the host's home, a callee's in that of its function
abbrev pub seat_of : RowKey → IntentId → RowKey
seat_of k i = intent_key i (home_in k.home k.kind)

-- .. where it is somebody's
abbrev pub seat_if : RowKey → Option IntentId → RowKey
seat_if k None = k
seat_if k (Some i) = seat_of k i

abbrev pub seat : RowKey → RowKey
seat k = seat_if k (belongs_to k.kind)
