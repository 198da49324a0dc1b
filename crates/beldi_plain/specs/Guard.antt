-- That entries are guarded by locks: nobody else holds the lock of an item that an entry touches. Who holds a lock is read off
-- the answers of the instances, so the run of a book is as it is.
use Rattle.std.specs.Prelude.{◌≡◌, true, List, [], ◌∷◌, Option, Some, None}
use Rattle.std.specs.Option.{option_map}
use Rattle.std.specs.FinMap as map
use Rattle.beldi_value.specs.{Id.root_of, declared.id.IntentId.IntentId, declared.place.Place.Place}
use Rattle.beldi_tree.specs.declared.deployment.Deployment.{Deployment}
use Rattle.beldi_lang.specs.declared.effect.Effect.{Effect}
use Rattle.beldi_book.specs.declared.entry.Entry.{Entry, TheVariants.Start, TheVariants.Read, TheVariants.Step, TheVariants.CommittedTx, TheVariants.AbortedTx}
use Rattle.beldi_plain.specs.{Item.Item, Operation.op_of, Operation.item_in, Holds.holds, Moves.Commits, Moves.Aborts, Moves.TouchedIn, Transaction.opened, Transaction.tx_begun, Plain.Instance, Plain.PlainState, Plain.effect_of, Plain.item_of, PlainEntries.after}

-- the item that an instance's next effect touches, if any
abbrev pub item_touched : Instance → Effect → Option Item
item_touched q (Effect.Read t k) = Some (item_of q t k)
item_touched q e = option_map (item_in q.func) (op_of e)

abbrev pub touched_by : Deployment → Option Instance → Option Item
touched_by d None = None
touched_by d (Some q) = item_touched q (effect_of d q)

-- the instance that an entry is of
abbrev pub actor : Entry → IntentId
actor (Start t f a) = root_of t
actor (Read id version) = id
actor (Step id) = id
actor (CommittedTx id) = id
actor (AbortedTx id place holder) = id

-- a transaction that commits made a read or an operation on an item ..
pub record TouchedInCommit (d : Deployment) (p : PlainState) (id : IntentId) (x : Item) : Type 0 where
  pub state : PlainState
  pub commit : Commits d p id state
  pub touched_it : TouchedIn d (tx_begun id commit.instance) (opened p id commit.instance) commit.moves x

-- .. and one that aborts did so before its place
pub record TouchedInAbort (d : Deployment) (p : PlainState) (id : IntentId) (place : Place) (holder : Option IntentId) (x : Item) : Type 0 where
  pub state : PlainState
  pub abort : Aborts d p id place holder state
  pub touched_it : TouchedIn d (tx_begun id abort.instance) (opened p id abort.instance) abort.before x

-- an entry touches an item: that of its instance's next effect, or those of its transaction
abbrev pub Touches : Deployment → PlainState → Entry → Item → Type 0
Touches d p (Start t f a) x = touched_by d (map.get p.made (root_of t)) ≡ Some x
Touches d p (Read id version) x = touched_by d (map.get p.made id) ≡ Some x
Touches d p (Step id) x = touched_by d (map.get p.made id) ≡ Some x
Touches d p (CommittedTx id) x = TouchedInCommit d p id x
Touches d p (AbortedTx id place holder) x = TouchedInAbort d p id place holder x

-- nobody else holds the lock of an item that an entry touches ..
abbrev pub IsFree : Deployment → PlainState → Entry → Type 0
IsFree d p e = (x : Item) → Touches d p e x → (j : IntentId) → holds d x (map.get p.made j) ≡ true → j ≡ actor e

-- .. at each entry in its turn
abbrev pub IsGuarded : Deployment → PlainState → List Entry → Type 0
IsGuarded d p [] = Unit {0}
IsGuarded d p (e ∷ es) = IsFree d p e × ((q : PlainState) → after d p e ≡ Some q → IsGuarded d q es)
