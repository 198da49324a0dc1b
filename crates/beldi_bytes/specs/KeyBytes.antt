-- The bytes of a key.
use Rattle.std.specs.Prelude.{◌≡◌, ◌≤◌, ℕ, zero, suc, ◌/◌, ◌%◌, List, [], ◌∷◌, length, IsUtf8, Option, Some, None}
use Rattle.std.specs.Ordering.{nat_cmp}
use Rattle.std.specs.declared.cmp.Ordering.{Ordering}
use Rattle.std.specs.Cmp.Lexicographic.{slice_cmp}
use Rattle.beldi_value.specs.declared.{id.IntentId.IntentId, place.Place.Place, place.TxId.TxId}
use Rattle.beldi_row.specs.declared.key.Kind.{Kind}
use Rattle.beldi_row.specs.declared.key.Kind.TheVariants.{Intent, ReadLog, Invoke, Data, Shadow, Lockset}
use Rattle.beldi_row.specs.Key.{RowKey, key_cmp}

-- each part stands before the bytes that follow it
-- a number in two bytes, the greatest first
abbrev pub two : ℕ → List ℕ → List ℕ
two n s = n / 256 ∷ n % 256 ∷ s

-- a number in four bytes, the greatest first
abbrev pub four : ℕ → List ℕ → List ℕ
four n s = two (n / 65536) (two (n % 65536) s)

-- the hops of an id: a byte 1 before each, and a byte 0 after all
abbrev pub hops_bytes : List ℕ → List ℕ → List ℕ
hops_bytes [] s = 0 ∷ s
hops_bytes (h ∷ hs) s = 1 ∷ four h (hops_bytes hs s)

-- an id: the ticket, and the hops
abbrev pub id_bytes : IntentId → List ℕ → List ℕ
id_bytes a s = four a.ticket (hops_bytes a.hops s)

-- a text: each byte 0 is followed by 255, and two bytes 0 end it
abbrev pub text_bytes : List ℕ → List ℕ → List ℕ
text_bytes [] s = 0 ∷ 0 ∷ s
text_bytes (zero ∷ cs) s = 0 ∷ 255 ∷ text_bytes cs s
text_bytes (suc c ∷ cs) s = suc c ∷ text_bytes cs s

-- a byte of a text, or its end
abbrev pub char_bytes : Option ℕ → List ℕ → List ℕ
char_bytes None s = 0 ∷ 0 ∷ s
char_bytes (Some zero) s = 0 ∷ 255 ∷ s
char_bytes (Some (suc c)) s = suc c ∷ s

-- a place: the intent, and the step
abbrev pub place_bytes : Place → List ℕ → List ℕ
place_bytes p s = id_bytes p.intent (four p.step s)

-- a transaction: the intent that began it, the step of its begin, and the function
abbrev pub tx_bytes : TxId → List ℕ → List ℕ
tx_bytes x s = id_bytes x.intent (four x.begin (two x.func s))

-- the number of a kind, and its fields in their order
abbrev pub kind_bytes : Kind → List ℕ → List ℕ
kind_bytes (Intent a) s = 0 ∷ id_bytes a s
kind_bytes (ReadLog p) s = 1 ∷ place_bytes p s
kind_bytes (Invoke p) s = 2 ∷ place_bytes p s
kind_bytes (Data t k r) s = 3 ∷ two t (text_bytes k (four r s))
kind_bytes (Shadow x t k r) s = 4 ∷ tx_bytes x (two t (text_bytes k (four r s)))
kind_bytes (Lockset a b t k) s = 5 ∷ id_bytes a (four b (two t (text_bytes k s)))

-- a key: the home, and what the row is about
abbrev pub key_then : RowKey → List ℕ → List ℕ
key_then k s = two k.home (kind_bytes k.kind s)

-- the bytes of a key
abbrev pub key_bytes : RowKey → List ℕ
key_bytes k = key_then k []

-- what the types of keys keep: an id has at most 63 hops, and a text is UTF-8
abbrev pub AreFew : List ℕ → Type 0
AreFew hops = length hops ≤ 63

-- an id
abbrev pub IsId : IntentId → Type 0
IsId a = AreFew a.hops

-- a place
abbrev pub IsPlace : Place → Type 0
IsPlace p = IsId p.intent

-- a transaction
abbrev pub IsTx : TxId → Type 0
IsTx x = IsId x.intent

-- what a row is about
abbrev pub IsKind : Kind → Type 0
IsKind (Intent a) = IsId a
IsKind (ReadLog p) = IsPlace p
IsKind (Invoke p) = IsPlace p
IsKind (Data t k r) = IsUtf8 k
IsKind (Shadow x t k r) = IsTx x × IsUtf8 k
IsKind (Lockset a b t k) = IsId a × IsUtf8 k

-- a key: every key that a program has is one
abbrev pub IsKey : RowKey → Type 0
IsKey k = IsKind k.kind

-- bytes in dictionary order
abbrev pub bytes_cmp : List ℕ → List ℕ → Ordering
bytes_cmp = slice_cmp nat_cmp

-- the bytes of keys are ordered as the keys
abbrev pub BytesAreOrderedAsKeys : Type 0
BytesAreOrderedAsKeys = (a b : RowKey) → bytes_cmp (key_bytes a) (key_bytes b) ≡ key_cmp a b

-- keys with the same bytes are one
abbrev pub NoTwoKeysHaveOneBytes : Type 0
NoTwoKeysHaveOneBytes = (a b : RowKey) → key_bytes a ≡ key_bytes b → a ≡ b

-- what reading gives: the key that has these bytes, or none where no key has them
abbrev pub ReadsKey : List ℕ → Option RowKey → Type 0
ReadsKey bytes (Some k) = (key_bytes k ≡ bytes) × IsKey k
ReadsKey bytes None = (k : RowKey) → IsKey k → key_bytes k ≡ bytes → ⊥

-- a key that was written is read again
abbrev pub WrittenKeysAreRead : Type 0
WrittenKeysAreRead = (k : RowKey) (o : Option RowKey) → IsKey k → ReadsKey (key_bytes k) o → o ≡ Some k
