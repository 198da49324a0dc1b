-- The rows of what a transaction asked the locks of, one after another.
use Rattle.std.specs.Prelude.{◌≡◌, ◌≤◌, ◌<◌, ℕ, ◌-◌, ◌^◌, zero, suc, ◌&&◌, ◌==◌, List, [], ◌∷◌, ◌++◌, length, replicate, Option, Some, None, if◌then◌else◌}
use Rattle.std.specs.declared.cmp.Ordering.TheVariants.{Less}
use denote.Bor.{Bor}
use Rattle.std.specs.FinMap as map
use Rattle.beldi_value.specs.declared.id.IntentId.{IntentId}
use Rattle.beldi_row.specs.{declared.key.Kind.Kind, declared.row.Row.Row, Key.RowKey, Key.key_cmp, Log.id_eq, Table.Rows, Table.IsNext}
use Rattle.beldi_query.specs.{declared.query.Query.Query, declared.query.Query.TheVariants.After, Query.QueryReply, Query.found, Walk.Promises}
use Rattle.beldi_lock.specs.{Last.split_last, Lock.lockset_key}

-- ---- the id directly before one
-- the greatest hop, and hops with the greatest behind them, as many as there is room for
abbrev pub most : ℕ
most = 2 ^ 32 - 1

abbrev pub filled : ℕ → List ℕ → List ℕ
filled room hops = hops ++ replicate (room - length hops) most

-- hops of which the last is 0 come directly after those before it; others after the same with one less, and then the greatest hops
abbrev pub before_last : ℕ → List ℕ → ℕ → List ℕ
before_last room front zero = front
before_last room front (suc n) = filled room (front ++ n ∷ [])

-- a root comes directly after the last callee of the ticket before
abbrev pub before_split : ℕ → Option (List ℕ × ℕ) → IntentId
before_split ticket None = record { ticket = ticket - 1; hops = filled 63 [] }
before_split ticket (Some s) = record { ticket = ticket; hops = before_last 63 s.0 s.1 }

abbrev pub id_before : IntentId → IntentId
id_before a = before_split a.ticket (split_last a.hops)

-- ---- the row after
-- the last intent and step before a begin
abbrev pub begin_before : IntentId → ℕ → IntentId × ℕ
begin_before id zero = (id_before id, most)
begin_before id (suc b) = (id, b)

-- after an item, or below the first one: behind all items of the begin before, in whose last table no item is
abbrev pub lockset_after : ℕ → IntentId → ℕ → Option (ℕ × List ℕ) → RowKey
lockset_after home id begin (Some at) = lockset_key home id begin at.0 at.1
lockset_after home id begin None = lockset_key home (begin_before id begin).0 (begin_before id begin).1 (2 ^ 16 - 1) []

abbrev pub lockset_asks : ℕ → IntentId → ℕ → Option (ℕ × List ℕ) → Query
lockset_asks home id begin after = After (lockset_after home id begin after)

-- the item of a row, where it is one of the locks that the intent asked for in this transaction
abbrev pub item_of : ℕ → IntentId → ℕ → RowKey → Kind → Option (ℕ × List ℕ)
item_of home id begin k (Kind.Lockset i b t n) = if (id_eq i id && (b == begin)) && (k.home == home) then Some (t, n) else None
item_of home id begin k kind = None

abbrev pub item_after : ℕ → IntentId → ℕ → Option (RowKey × Row) → Option (ℕ × List ℕ)
item_after home id begin None = None
item_after home id begin (Some e) = item_of home id begin e.0 e.0.kind

abbrev pub lockset_found : ℕ → IntentId → ℕ → QueryReply → Option (ℕ × List ℕ)
lockset_found home id begin (found e) = item_after home id begin e
lockset_found home id begin t = None

-- an item, without where its key lies in memory
abbrev pub item_lent : Option (ℕ × Bor (List ℕ)) → Option (ℕ × List ℕ)
item_lent None = None
item_lent (Some e) = Some (e.0, e.1.now)

-- ---- what the row after is
-- hops of an id: not more than there is room for, each of 32 bits
abbrev pub AreHops : ℕ → List ℕ → Type 0
AreHops room [] = Unit {0}
AreHops zero (h ∷ hs) = ⊥
AreHops (suc room) (h ∷ hs) = (h ≤ most) × AreHops room hs

-- the key of a row that a transaction put, or of a call: its numbers are of their widths, and no table has the greatest number
abbrev pub IsFit : Kind → Type 0
IsFit (Kind.Lockset i b t n) = AreHops 63 i.hops × (b ≤ most) × (t < 2 ^ 16 - 1)
IsFit (Kind.Invoke p) = AreHops 63 p.intent.hops × (p.step ≤ most)
IsFit kind = Unit {0}

abbrev pub AreFit : Rows → Type 0
AreFit m = (q : RowKey) (r : Row) → map.get m q ≡ Some r → IsFit q.kind

-- the row of the least key that is not below this one; none, where all keys of rows are below
abbrev pub IsFirstFrom : Rows → RowKey → Option (RowKey × Row) → Type 0
IsFirstFrom m k None = (q : RowKey) → (key_cmp q k ≡ Less → ⊥) → map.get m q ≡ None
IsFirstFrom m k (Some e) = (key_cmp e.0 k ≡ Less → ⊥) × (map.get m e.0 ≡ Some e.1) × ((q : RowKey) → (key_cmp q k ≡ Less → ⊥) → key_cmp q e.0 ≡ Less → map.get m q ≡ None)

-- without an item, what is found is the first row at the least key of the transaction or past it: its item, or none where the row is
-- absent or of another kind, intent or begin
abbrev pub FindsFirst : ℕ → IntentId → ℕ → Rows → Rows → Option (ℕ × List ℕ) → Type 0
FindsFirst home id begin m n r = (n ≡ m) × (AreFit m → (e : Option (RowKey × Row)) × IsFirstFrom m (lockset_key home id begin 0 []) e × (r ≡ item_after home id begin e))

abbrev pub LocksetsBegin : Type 0
LocksetsBegin = (home : ℕ) (id : IntentId) (begin : ℕ) → 1 ≤ id.ticket → AreHops 63 id.hops → Promises (lockset_asks home id begin None) 0 (lockset_found home id begin) (FindsFirst home id begin)

-- after an item, it is the row after that of the item
abbrev pub FindsNext : ℕ → IntentId → ℕ → ℕ × List ℕ → Rows → Rows → Option (ℕ × List ℕ) → Type 0
FindsNext home id begin at m n r = (n ≡ m) × ((e : Option (RowKey × Row)) × IsNext m (lockset_key home id begin at.0 at.1) e × (r ≡ item_after home id begin e))

abbrev pub LocksetsFollow : Type 0
LocksetsFollow = (home : ℕ) (id : IntentId) (begin : ℕ) (at : ℕ × List ℕ) → Promises (lockset_asks home id begin (Some at)) 0 (lockset_found home id begin) (FindsNext home id begin at)
