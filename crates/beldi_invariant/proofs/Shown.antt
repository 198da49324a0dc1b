-- What rows show of a plain state: what the histories have beside it, and that they match that. An event keeps it as the two move together.
use Rattle.beldi_invariant.proofs.Names.{AllShort, Bool, Core, Deployment, IsConsistent, HoldersInsideAreMade, IntentId, IsSound, Item, Histories, LocksAreAheadAtEnds, Matches, Option, OwnedAreUnmarked, OwnersCallNobody, OwnersHaveNotEnded, ParticipantsAreReleased, ParticipantsHaveRows, PlainState, Invariant, Row, RowKey, Rows, WellFormedHistories, Some, TxId, content_of, holds, is_row_log, legal_is_well_formed, listed, log_lists, own_value, set_row, sym, true, value_at, ◌∙◌, ◌≡◌, Owner}
use Rattle.beldi_invariant.proofs.Outside.{holds_recorded}
use Rattle.beldi_invariant.proofs.Names.map
use Rattle.beldi_invariant.proofs.Names.plain

-- what the rows keep of transactions
pub record Settled (d : Deployment) (m : Rows) (p : PlainState) (histories : Histories) : Type 0 where
  pub marks : OwnedAreUnmarked d m histories
  pub latest : OwnersCallNobody d m histories
  pub unended : OwnersHaveNotEnded d m histories
  pub holders : HoldersInsideAreMade d p histories
  pub seated : ParticipantsHaveRows m histories
  pub released : ParticipantsAreReleased d m histories
  pub short : AllShort histories

pub record Shows (d : Deployment) (m : Rows) (p : PlainState) (histories : Histories) (lock_ahead : IntentId → Bool) : Type 0 where
  pub goes : IsConsistent d m p histories lock_ahead
  pub ahead_at_ends : LocksAreAheadAtEnds d histories lock_ahead
  pub well_formed : WellFormedHistories d histories
  pub rows : Matches d m histories lock_ahead
  pub values : (x : Item) → listed m x ≡ value_at p x
  pub settled : Settled d m p histories

-- ---- of a host that has the invariant
module _ {d : Deployment} {c : Core} {m : Rows} (h : Invariant d c m) where
  pub legal_well_formed : plain.WellFormed d h.plain
  legal_well_formed = legal_is_well_formed d c.book h.plain h.legal

  pub settled : Settled d m h.plain h.histories
  settled = record { marks = h.marks; latest = h.latest; unended = h.unended; holders = h.holders; seated = h.seated; released = h.released; short = h.short }

  pub shown : Shows d m h.plain h.histories h.lock_ahead
  shown = record { goes = record { extends = h.extends; shadows = h.shadows }; ahead_at_ends = h.ahead_at_ends; well_formed = h.well_formed; rows = h.rows; values = h.values; settled = settled }

  pub sound : IsSound d m h.plain h.histories h.lock_ahead
  sound = record { shadows = h.shadows; extends = h.extends; matches = h.rows; well_formed = h.well_formed; plain_well_formed = legal_well_formed }

  -- an item that no transaction owns has its plain value
  pub value_here : (x : Item) → ((t : TxId) → (content_of m x).owner ≡ Some (Owner.Tx t) → ⊥) → (content_of m x).value ≡ value_at h.plain x
  value_here x free = sym (own_value m x free) ∙ h.values x

  -- a row of an intent or of a call leaves the values
  pub log_values : (k : RowKey) (v : Option Row) → is_row_log k.kind ≡ true → (x : Item) → listed (set_row m k v) x ≡ value_at h.plain x
  log_values k v kind x = log_lists m k v kind x ∙ h.values x

  -- who holds a lock is known to hold it
  pub holds_here : (x : Item) (j : IntentId) → holds d x (map.get h.histories j) ≡ holds d x (map.get h.plain.made j)
  holds_here x j = holds_recorded d h.plain h.histories h.extends j h.well_formed x
