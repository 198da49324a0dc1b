-- The keys of the open intents of a table, kept beside its rows.
use Rattle.std.specs.Prelude.{◌≡◌, Bool, true, false, ◌||◌, cond, Option, Some, None, IsTrue}
use Rattle.std.specs.FinMap as map
use Rattle.std.specs.{declared.cmp.Ordering.TheVariants.Less, BTreeMap.BTreeMap, BTreeMap.get, BTreeMap.is_at, BTreeSet.BTreeSet, BTreeSet.contains}
use Rattle.beldi_row.specs.{Key.RowKey, Key.key_cmp, Table.Rows, Table.is_open, declared.row.Row.Row, declared.act.Act.Act, declared.table.Opens.Opens}

-- the row of a key, where there is one, is that of an open intent
abbrev pub opened : RowKey → Option Row → Bool
opened q None = false
opened q (Some r) = is_open q.kind r

-- these are the keys of the open intents
abbrev pub Indexed : BTreeMap RowKey Row → BTreeSet RowKey → Type 0
Indexed rows keys = (q : RowKey) → contains key_cmp keys q ≡ opened q (get key_cmp rows q)

-- the acts that may open an intent whose row is there, and those that may open or close one
abbrev pub binds : Act → Bool
binds (Act.Bind f a) = true
binds a = false

abbrev pub switches : Act → Bool
switches (Act.Bind f a) = true
switches (Act.End o s) = true
switches Act.Stamp = true
switches a = false

-- it says whether there is an open intent past a key, and what it gives is the key of one
abbrev pub IsOpenPast : RowKey → Opens → Rows → Type 0
IsOpenPast k Opens.Untold m = ⊥
IsOpenPast k Opens.None m = Unit {0}
IsOpenPast k (Opens.First q) m = (key_cmp k q.now ≡ Less) × IsTrue (opened q.now (map.get m q.now))

-- whether one key is there is changed so, and that of no other
abbrev pub Sets : RowKey → (Bool → Bool) → BTreeSet RowKey → BTreeSet RowKey → Type 0
Sets k f s t = (q : RowKey) → contains key_cmp t q ≡ cond (is_at (key_cmp k) q) (f (contains key_cmp s q)) (contains key_cmp s q)

-- the key is put there, where it is wanted; where there was no memory for it, all is as before
abbrev pub Noted : Bool → RowKey → BTreeSet RowKey → BTreeSet RowKey → Bool → Type 0
Noted wanted k s t true = Sets k (λ b. wanted || b) s t
Noted wanted k s t false = t ≡ s
