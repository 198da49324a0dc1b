-- What the shadows of an open transaction show: one that is there has the value that the transaction sees. But its first row is made
-- null for a write, and is so until that write is answered.
use Rattle.std.specs.Prelude.{◌≡◌, ℕ, ◌&&◌, ◌⊎◌, Bool, true, false, Option, Some, None, is_some}
use Rattle.std.specs.FinMap as map
use Rattle.beldi_value.specs.declared.{id.IntentId.IntentId, place.TxId.TxId, value.Value.Value}
use Rattle.beldi_tree.specs.declared.deployment.Deployment.{Deployment}
use Rattle.beldi_lang.specs.declared.effect.Effect.{Effect}
use Rattle.beldi_plain.specs.{Item.Item, Transaction.Going, Transaction.tx_begun, Plain.Instance, Plain.PlainState, Plain.effect_of, Plain.value_at}
use Rattle.beldi_row.specs.{Table.Rows, declared.row.Row.Row}
use Rattle.beldi_chain.specs.Content.{content_in}
use Rattle.beldi_histories.specs.{Extends.OpenTx, Extends.begins, Contents.shadow_row, Histories.Histories, Histories.Got, Histories.is_item}

-- a write of the item
abbrev pub writes_on : Item → ℕ → Effect → Bool
writes_on x func (Effect.Write t k v) = is_item x func (Some (t, k))
writes_on x func e = false

-- the last row of a shadow, by whether the one that can step stands at a write of it with the lock ahead
abbrev pub ShadowShows : Bool → Option Row → Value → Type 0
ShadowShows writing None v = Unit {0}
ShadowShows writing (Some r) v = (writing ≡ true) ⊎ ((content_in (Some r)).value ≡ v)

abbrev pub writing_at : Deployment → (IntentId → Bool) → Item → IntentId → Option Instance → Bool
writing_at d lock_ahead x id None = false
writing_at d lock_ahead x id (Some k) = lock_ahead id && writes_on x k.func (effect_of d k)

abbrev pub is_writing : Deployment → (IntentId → Bool) → Item → Going → Bool
is_writing d lock_ahead x s = writing_at d lock_ahead x s.active (map.get s.state.made s.active)

-- an open transaction, by its owner and that as the plain state has it
pub record Shows (d : Deployment) (m : Rows) (p : PlainState) (histories : Histories) (lock_ahead : IntentId → Bool) (id : IntentId) (q : Instance) : Type 0 where
  pub tx : OpenTx d p histories id q
  pub shadows : (x : Item) → ShadowShows (is_writing d lock_ahead x tx.going) (shadow_row m (tx_begun id q) x) (value_at tx.going.state x)

-- all of them
abbrev pub AllShow : Deployment → Rows → PlainState → Histories → (IntentId → Bool) → Type 0
AllShow d m p histories lock_ahead = (id : IntentId) (q : Instance) → map.get p.made id ≡ Some q → begins d q ≡ true → Shows d m p histories lock_ahead id q

-- a shadow is there only of an item that its transaction got: so one that is yet to begin has none
abbrev pub AllGot : Deployment → Rows → Histories → (IntentId → Bool) → Type 0
AllGot d m histories lock_ahead = (t : TxId) (x : Item) → is_some (shadow_row m t x) ≡ true → Got d histories lock_ahead t x

pub record Shadows (d : Deployment) (m : Rows) (p : PlainState) (histories : Histories) (lock_ahead : IntentId → Bool) : Type 0 where
  pub shows : AllShow d m p histories lock_ahead
  pub got : AllGot d m histories lock_ahead
