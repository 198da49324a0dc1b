-- Rows that match what the histories have: key by key, item by item, and shadow by shadow.
use Rattle.std.specs.Prelude.{◌≡◌, ℕ, ◌&&◌, ◌||◌, not, Bool, true, false, Option, Some, None, is_some}
use Rattle.std.specs.Option.{is_none}
use Rattle.std.specs.FinMap as map
use Rattle.beldi_value.specs.{Id.has_no_hops, declared.id.IntentId.IntentId, declared.place.Owner.Owner, declared.place.Owner.TheVariants.Intent, declared.place.Owner.TheVariants.Tx, declared.place.Place.Place, declared.place.TxId.TxId}
use Rattle.beldi_tree.specs.declared.deployment.Deployment.{Deployment}
use Rattle.beldi_plain.specs.{Holds.holds, Item.Item, Plain.Instance, Plain.effect_of, Operation.touched}
use Rattle.beldi_plain_laws.specs.Txs.{tx_now}
use Rattle.beldi_row.specs.{Key.RowKey, declared.key.Kind.Kind, declared.row.Row.Row, Log.note_at, Table.Rows}
use Rattle.beldi_chain.specs.Content.{Content}
use Rattle.beldi_histories.specs.Histories.{Histories, is_item, begins_at, expected_read, expected_call, expected_note, expected_shadow, expected_lockset, tx_end, is_mark, Got}
use Rattle.beldi_histories.specs.{Contents.content_of, Contents.is_owner, Contents.IsAside, Contents.IsLinkedItem, Contents.shadow_chain, Contents.shadow_of, RowMatching.IntentMatches, RowMatching.CallMatches, RowMatching.LogMatches}

-- ---- row by row
-- a lockset row: where one is expected; and it may be ahead
abbrev pub LocksetMatches : Option Row → Bool → Bool → Type 0
LocksetMatches None owed ahead = owed ≡ false
LocksetMatches (Some Row.Lockset) owed ahead = (owed || ahead) ≡ true
LocksetMatches (Some r) owed ahead = ⊥

-- a transaction has ended
abbrev pub has_ended : Deployment → Histories → TxId → Bool
has_ended d histories t = is_some (tx_end d histories t)

-- .. or not yet
abbrev pub is_open : Deployment → Histories → Option TxId → Bool
is_open d histories None = false
is_open d histories (Some t) = not (has_ended d histories t)

-- the row is ahead of an instance that stands at such an operation, in a transaction that has not ended
abbrev pub lockset_ahead : Deployment → Histories → ℕ → Item → IntentId → Option Instance → Bool
lockset_ahead d histories b x id None = false
lockset_ahead d histories b x id (Some q) = is_none q.outcome && (is_open d histories (tx_now d id q) && (begins_at b (tx_now d id q) && is_item x q.func (touched (effect_of d q))))

-- a plain item: who holds its own lock, and its notes but at the places of releases
pub record ItemMatches (d : Deployment) (histories : Histories) (lock_ahead : IntentId → Bool) (x : Item) (c : Content) : Type 0 where
  pub owner : (j : IntentId) → is_owner c.owner (Intent j) ≡ holds d x (map.get histories j)
  pub notes : (a : Place) → is_mark d histories a.step (map.get histories a.intent) ≡ false → note_at c.notes a ≡ expected_note d x a.intent (lock_ahead a.intent) a.step (map.get histories a.intent)

-- a shadow: its notes
abbrev pub ShadowMatches : Deployment → Histories → TxId → Item → Content → Type 0
ShadowMatches d histories t x c = (a : Place) → note_at c.notes a ≡ expected_shadow d t x a.intent a.step (map.get histories a.intent)

-- who owns an item under a transaction
pub record TxsMatch (d : Deployment) (histories : Histories) (lock_ahead : IntentId → Bool) (x : Item) (owner : Option Owner) : Type 0 where
  pub owned_is_got : (t : TxId) → owner ≡ Some (Tx t) → Got d histories lock_ahead t x
  pub got_is_owned : (t : TxId) → Got d histories lock_ahead t x → tx_end d histories t ≡ None → owner ≡ Some (Tx t)

-- ---- all rows
-- the row of a key, by its kind; those of items and of shadows match by their chains
abbrev pub RowMatches : Deployment → Histories → ℕ → Kind → Option Row → Type 0
RowMatches d histories home (Kind.Intent id) r = IntentMatches (has_ended d histories) (has_no_hops id.hops) home r (map.get histories id)
RowMatches d histories home (Kind.ReadLog a) r = LogMatches r (expected_read d histories home a)
RowMatches d histories home (Kind.Invoke a) r = CallMatches r (expected_call histories home a)
RowMatches d histories home (Kind.Lockset i b t k) r = LocksetMatches r (expected_lockset d b (record { func = home; table = t; key = k }) i (map.get histories i)) (lockset_ahead d histories b (record { func = home; table = t; key = k }) i (map.get histories i))
RowMatches d histories home (Kind.Data t k n) r = Unit {0}
RowMatches d histories home (Kind.Shadow s t k n) r = Unit {0}

pub record Matches (d : Deployment) (m : Rows) (histories : Histories) (lock_ahead : IntentId → Bool) : Type 0 where
  -- every row, there or absent, matches at its key
  pub keys : (k : RowKey) → RowMatches d histories k.home k.kind (map.get m k)
  -- the rows of every item and of every shadow are linked, and nobody owns a shadow
  pub chains : (x : Item) → IsLinkedItem m x
  pub asides : (t : TxId) (x : Item) → IsAside (shadow_chain m t x)
  -- every item and every shadow matches by its content
  pub items : (x : Item) → ItemMatches d histories lock_ahead x (content_of m x)
  pub shadows : (t : TxId) (x : Item) → ShadowMatches d histories t x (shadow_of m t x)
  pub txs : (x : Item) → TxsMatch d histories lock_ahead x (content_of m x).owner

-- a place that is locked: of an instance that stands at an operation in a transaction
pub record IsAheadAt (d : Deployment) (id : IntentId) (q : Instance) : Type 0 where
  pub open_still : q.outcome ≡ None
  pub inside : is_some (tx_now d id q) ≡ true
  pub operation : is_some (touched (effect_of d q)) ≡ true

abbrev pub IsAheadIf : Deployment → IntentId → Option Instance → Type 0
IsAheadIf d id None = ⊥
IsAheadIf d id (Some q) = IsAheadAt d id q

abbrev pub LocksAreAheadAtEnds : Deployment → Histories → (IntentId → Bool) → Type 0
LocksAreAheadAtEnds d histories lock_ahead = (id : IntentId) → lock_ahead id ≡ true → IsAheadIf d id (map.get histories id)
