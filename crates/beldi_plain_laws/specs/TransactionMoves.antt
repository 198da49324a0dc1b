-- The laws of a transaction as a list of moves.
use Rattle.std.specs.Prelude.{◌≡◌, ◌⊎◌, ◌<◌, ℕ, true, List, [], ◌∷◌, ◌++◌, length, Option, None, Some}
use Rattle.std.specs.{Option.option_map, FinMap.FinMap}
use Rattle.std.specs.FinMap as map
use Rattle.beldi_value.specs.{Id.id_cmp, declared.id.IntentId.IntentId, declared.place.Place.Place, declared.place.TxId.TxId}
use Rattle.beldi_tree.specs.declared.deployment.Deployment.{Deployment}
use Rattle.beldi_lang.specs.declared.effect.Effect.{Effect}
use Rattle.beldi_book.specs.declared.entry.Entry.{Entry, TheVariants.CommittedTx, TheVariants.AbortedTx}
use Rattle.beldi_plain.specs.Moves.{Move, plain, fell, after_move, Leads, Runs, Commits, Aborts, NotBefore, TouchedIn, is_there}
use Rattle.beldi_plain.specs.{PlainEntries.after, Item.Item, Operation.op_of, Operation.item_in, Guard.actor, Guard.Touches, Transaction.Going, Transaction.opened, Transaction.tx_begun, Plain.Instance, Plain.PlainState, Plain.callee_of, Plain.calls_at, Plain.effect_of, Plain.value_at}
use Rattle.beldi_plain_laws.specs.WellFormedState.{WellFormed}

-- these are the entries of transactions
pub record TransactionsAreMoves : Type 0 where
  pub commits : (d : Deployment) (p : PlainState) (id : IntentId) (r : PlainState) → after d p (CommittedTx id) ≡ Some r → Commits d p id r
  pub committed : (d : Deployment) (p : PlainState) (id : IntentId) (r : PlainState) → Commits d p id r → after d p (CommittedTx id) ≡ Some r
  pub aborts : (d : Deployment) (p : PlainState) (id : IntentId) (place : Place) (holder : Option IntentId) (r : PlainState) → after d p (AbortedTx id place holder) ≡ Some r → Aborts d p id place holder r
  pub aborted : (d : Deployment) (p : PlainState) (id : IntentId) (place : Place) (holder : Option IntentId) (r : PlainState) → Aborts d p id place holder r → after d p (AbortedTx id place holder) ≡ Some r

-- ---- who is in a transaction
-- what was called in it, at any depth: at a later step of its owner than its Begin
pub record IsBelow (t : TxId) (i : IntentId) : Type 0 where
  pub step : ℕ
  pub later : t.begin < step
  pub hops : List ℕ
  pub is : i ≡ record { ticket = t.intent.ticket; hops = t.intent.hops ++ step ∷ hops }

abbrev pub IsIn : TxId → IntentId → Type 0
IsIn t i = (i ≡ t.intent) ⊎ IsBelow t i

-- the owner, after its Begin
pub record IsOpenOwner (d : Deployment) (t : TxId) (f : FinMap id_cmp Instance) (i : IntentId) : Type 0 where
  pub own : i ≡ t.intent
  pub instance : Instance
  pub made : map.get f i ≡ Some instance
  pub open_still : instance.outcome ≡ None
  pub begun : t.begin < length instance.answers

-- a callee, whose caller waits for it
pub record IsMember (d : Deployment) (t : TxId) (f : FinMap id_cmp Instance) (k i : IntentId) : Type 0 where
  pub waiter : Instance
  pub waits : map.get f k ≡ Some waiter
  pub instance : Instance
  pub made : map.get f i ≡ Some instance
  pub called : effect_of d waiter ≡ Effect.Call instance.func instance.args
  pub is_callee : i ≡ callee_of k waiter
  pub parent : instance.parent ≡ Some (calls_at k waiter true)
  pub enclosing : instance.enclosing ≡ Some t
  pub open_still : instance.outcome ≡ None

-- from the owner to the one that can step each waits for the next
pub data CallStack (d : Deployment) (t : TxId) (f : FinMap id_cmp Instance) : IntentId → Type 0 where
  top : (i : IntentId) → IsOpenOwner d t f i → CallStack d t f i
  next : (k i : IntentId) → CallStack d t f k → IsMember d t f k i → CallStack d t f i

abbrev pub OnCallStack : Deployment → TxId → Going → Type 0
OnCallStack d t s = CallStack d t s.state.made s.active

-- ---- what moves read and change
-- one of them is to an operation on the item, which may write it
abbrev pub written_on : Instance → Effect → Option Item
written_on q e = option_map (item_in q.func) (op_of e)

abbrev pub written_at : Deployment → Option Instance → Option Item
written_at d None = None
written_at d (Some q) = written_on q (effect_of d q)

abbrev pub WrittenBy : Deployment → Going → Move → Item → Type 0
WrittenBy d s plain x = written_at d (map.get s.state.made s.active) ≡ Some x
WrittenBy d s (fell h) x = ⊥

abbrev pub WrittenIn : Deployment → TxId → Going → List Move → Item → Type 0
WrittenIn d t s [] x = ⊥
WrittenIn d t s (m ∷ ms) x = WrittenBy d s m x ⊎ ((r : Going) × (after_move d t m s ≡ Some r) × WrittenIn d t r ms x)

-- the same instances in a transaction, and the same one can step
pub record Alike (t : TxId) (s other : Going) : Type 0 where
  pub active : other.active ≡ s.active
  pub members : (i : IntentId) → IsIn t i → map.get other.state.made i ≡ map.get s.state.made i

-- from other items the same moves lead on, and an item that had the same value has the same value then
pub record LeadsAlike (d : Deployment) (t : TxId) (s other : Going) (moves : List Move) (l : Going) : Type 0 where
  pub going : Going
  pub leads : Leads d t other moves going
  pub alike : Alike t l going
  pub same : (x : Item) → value_at other.state x ≡ value_at s.state x → value_at going.state x ≡ value_at l.state x

pub record MovesReadTheirItems : Type 0 where
  -- who can step is the last of the line
  pub in_line : (d : Deployment) (t : TxId) (s : Going) (moves : List Move) (l : Going) → OnCallStack d t s → Leads d t s moves l → OnCallStack d t l
  -- what is not written stays
  pub kept : (d : Deployment) (t : TxId) (s : Going) (moves : List Move) (l : Going) → OnCallStack d t s → Leads d t s moves l → (x : Item) → (WrittenIn d t s moves x → ⊥) → map.get l.state.items x ≡ map.get s.state.items x
  -- and who is not in the transaction
  pub others : (d : Deployment) (t : TxId) (s : Going) (moves : List Move) (l : Going) → OnCallStack d t s → Leads d t s moves l → (i : IntentId) → (IsIn t i → ⊥) → map.get l.state.made i ≡ map.get s.state.made i
  -- and only the items that are touched are read
  pub leads_alike : (d : Deployment) (t : TxId) (s other : Going) (moves : List Move) (l : Going) → OnCallStack d t s → Leads d t s moves l → Alike t s other → ((x : Item) → TouchedIn d t s moves x → value_at other.state x ≡ value_at s.state x) → LeadsAlike d t s other moves l

-- what an entry touches for the guard is what its moves touch: nothing that was aborted
pub record TransactionsTouchTheirItems : Type 0 where
  pub commits : (d : Deployment) (p : PlainState) (id : IntentId) (r : PlainState) (h : Commits d p id r) (x : Item) → Touches d p (CommittedTx id) x → TouchedIn d (tx_begun id h.instance) (opened p id h.instance) h.moves x
  pub aborts : (d : Deployment) (p : PlainState) (id : IntentId) (place : Place) (holder : Option IntentId) (r : PlainState) (h : Aborts d p id place holder r) (x : Item) → Touches d p (AbortedTx id place holder) x → TouchedIn d (tx_begun id h.instance) (opened p id h.instance) h.before x

-- an entry changes no item that it does not touch
abbrev pub EntriesTouchWhatTheyChange : Type 0
EntriesTouchWhatTheyChange = (d : Deployment) (p r : PlainState) (e : Entry) → after d p e ≡ Some r → (x : Item) → (Touches d p e x → ⊥) → map.get r.items x ≡ map.get p.items x

-- ---- the entries of others
-- a transaction that runs goes on from the state after an entry of another that leaves the items that it has touched
pub record RunsOn (d : Deployment) (p r : PlainState) (id : IntentId) (q : Instance) (moves : List Move) (s : Going) : Type 0 where
  pub going : Going
  pub runs : Runs d r id q moves going
  pub alike : Alike (tx_begun id q) s going
  pub same : (x : Item) → value_at r x ≡ value_at p x → value_at going.state x ≡ value_at s.state x

abbrev pub OthersLeaveTransactions : Type 0
OthersLeaveTransactions = (d : Deployment) (p r : PlainState) (e : Entry) (id : IntentId) (q : Instance) (moves : List Move) (s : Going) → WellFormed d p → Runs d p id q moves s → after d p e ≡ Some r → (actor e ≡ id → ⊥)
    → ((x : Item) → TouchedIn d (tx_begun id q) (opened p id q) moves x → value_at r x ≡ value_at p x) → RunsOn d p r id q moves s

-- nobody stands at one place twice: who stands at a place after some moves did not before any of them
abbrev pub PlacesComeOnce : Type 0
PlacesComeOnce = (d : Deployment) (t : TxId) (place : Place) (s : Going) (moves : List Move) (l : Going) → OnCallStack d t s → Leads d t s moves l → is_there place l ≡ true → NotBefore d t place s moves
