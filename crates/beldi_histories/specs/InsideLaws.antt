-- The laws of open transactions: each act inside keeps what shadows show, and the histories still extend the plain state.
use Rattle.std.specs.Prelude.{◌≡◌, ℕ, ◌⊎◌, Bool, true, false, List, [], ◌∷◌, length, Option, Some, None, is_some, slice_get, if◌then◌else◌}
use Rattle.std.specs.FinMap as map
use Rattle.beldi_value.specs.{Id.child_of, Id.has_callees, declared.id.IntentId.IntentId, declared.outcome.Cause.Cause, declared.outcome.Outcome.Outcome, declared.place.Owner.TheVariants.Tx, declared.place.Place.Place, declared.place.TxId.TxId, declared.rel.Rel.Rel, declared.value.Value.Value}
use Rattle.beldi_tree.specs.declared.deployment.Deployment.{Deployment}
use Rattle.beldi_lang.specs.{Callee.answer_of, declared.effect.Answer.Answer, declared.effect.Effect.Effect}
use Rattle.beldi_plain.specs.Plain.{Instance, PlainState, answered, callee_of, calls_at, effect_of, ended, value_at, with_instance}
use Rattle.beldi_plain.specs.{Item.Item, Moves.Commits, Moves.Aborts, Moves.TouchedIn, Transaction.opened, Transaction.new_member, Transaction.tx_begun}
use Rattle.beldi_plain_laws.specs.{WellFormedState.IsAnswer, Txs.tx_at, Txs.tx_now}
use Rattle.beldi_plain_laws.specs.WellFormedState as plain
use Rattle.beldi_row.specs.{Table.Rows, Table.set_row, declared.row.Row.Row}
use Rattle.beldi_chain.specs.Chain.{ChangedAlone}
use Rattle.beldi_readlog.specs.ReadLog.{log_key}
use Rattle.beldi_step.specs.{Run.place_of, Tables.value_in, Tables.is_committed, Tables.decision_key}
use Rattle.beldi_histories.specs.{Acts.did, Acts.tested, Acts.write_on, Acts.test_on, Extends.Extends, Extends.begins, Contents.head_key, Contents.content_of, Contents.SameShadows, Contents.shadow_key, Contents.shadow_of, Contents.shadow_row, Frame.LockedOut, Histories.Histories, Histories.local_steps, Histories.advanced, Behind.IsPending, Listed.listed, Matches.Matches, WellFormedHistories.WellFormedHistories, Shadows.Shadows, Shadows.writes_on}

-- what is kept together
pub record IsConsistent (d : Deployment) (n : Rows) (p : PlainState) (histories : Histories) (after : IntentId → Bool) : Type 0 where
  pub extends : Extends d p histories
  pub shadows : Shadows d n p histories after

-- what the histories have is well formed, and the rows match it, beside a well formed plain state
pub record IsSound (d : Deployment) (m : Rows) (p : PlainState) (histories : Histories) (lock_ahead : IntentId → Bool) : Type 0 where
  pub shadows : Shadows d m p histories lock_ahead
  pub extends : Extends d p histories
  pub matches : Matches d m histories lock_ahead
  pub well_formed : WellFormedHistories d histories
  pub plain_well_formed : plain.WellFormed d p

-- .. and this transaction is open: the plain state has its owner at the begin
pub record IsOpen (d : Deployment) (m : Rows) (p : PlainState) (histories : Histories) (lock_ahead : IntentId → Bool) (s : TxId) : Type 0 where
  pub sound : IsSound d m p histories lock_ahead
  pub owner : Instance
  pub made : map.get p.made s.intent ≡ Some owner
  pub begun : begins d owner ≡ true
  pub is : s ≡ tx_begun s.intent owner

-- so is the transaction of who can step inside, but at a begin
abbrev pub OpensAreOpen : Type 0
OpensAreOpen = (d : Deployment) (m : Rows) (p : PlainState) (histories : Histories) (lock_ahead : IntentId → Bool) (id : IntentId) (k : Instance) (s : TxId) → IsSound d m p histories lock_ahead → map.get histories id ≡ Some k → k.outcome ≡ None → tx_now d id k ≡ Some s → IsOpen d m p histories lock_ahead s

abbrev pub item_of : Instance → ℕ → List ℕ → Item
item_of k t y = record { func = k.func; table = t; key = y }

-- ---- operations
-- a read is answered: by the shadow's value where the shadow is there, and else by the plain one
abbrev pub ReadsGo : Type 0
ReadsGo = (d : Deployment) (m : Rows) (p : PlainState) (histories : Histories) (lock_ahead after : IntentId → Bool) (id : IntentId) (k : Instance) (s : TxId) (t : ℕ) (y : List ℕ) (v : Value) → IsOpen d m p histories lock_ahead s → IsPending d histories id k s t y → LockedOut lock_ahead after id
    → effect_of d k ≡ Effect.Read t y → value_in (shadow_row m s (item_of k t y)) (value_at p (item_of k t y)) ≡ v
    → IsConsistent d (set_row m (log_key k.func (place_of id (length k.answers))) (Some (Row.ReadLog v))) p (map.insert histories id (advanced d id k (Answer.Value v))) after

-- it dies
abbrev pub DeathsGo : Type 0
DeathsGo = (d : Deployment) (m : Rows) (p : PlainState) (histories : Histories) (lock_ahead after : IntentId → Bool) (id : IntentId) (k : Instance) (s : TxId) (t : ℕ) (y : List ℕ) (n : Rows) (c : Cause) → IsOpen d m p histories lock_ahead s → IsPending d histories id k s t y → LockedOut lock_ahead after id
    → ChangedAlone (head_key (item_of k t y)) m n → lock_ahead id ≡ false → IsAnswer (place_of id (length k.answers)) (Some s) (effect_of d k) (Answer.Aborted c) → IsConsistent d n p (map.insert histories id (advanced d id k (Answer.Aborted c))) after

-- a write of the shadow, and a test
abbrev pub WritesGo : Type 0
WritesGo = (d : Deployment) (m : Rows) (p : PlainState) (histories : Histories) (lock_ahead after : IntentId → Bool) (id : IntentId) (k : Instance) (s : TxId) (t : ℕ) (y : List ℕ) (v : Value) (n : Rows) → IsOpen d m p histories lock_ahead s → IsPending d histories id k s t y → LockedOut lock_ahead after id
    → ChangedAlone (shadow_key s (item_of k t y)) m n → lock_ahead id ≡ true → effect_of d k ≡ Effect.Write t y v → write_on (place_of id (length k.answers)) (Tx s) v (shadow_of m s (item_of k t y)) ≡ (shadow_of n s (item_of k t y), did) → IsConsistent d n p (map.insert histories id (advanced d id k Answer.Done)) after

abbrev pub TestsGo : Type 0
TestsGo = (d : Deployment) (m : Rows) (p : PlainState) (histories : Histories) (lock_ahead after : IntentId → Bool) (id : IntentId) (k : Instance) (s : TxId) (t : ℕ) (y : List ℕ) (u : Rel) (w v : Value) (b : Bool) (n : Rows) → IsOpen d m p histories lock_ahead s → IsPending d histories id k s t y → LockedOut lock_ahead after id
    → ChangedAlone (shadow_key s (item_of k t y)) m n → lock_ahead id ≡ true → effect_of d k ≡ Effect.CondWrite t y u w v → is_some (shadow_row m s (item_of k t y)) ≡ true → test_on (place_of id (length k.answers)) (Tx s) u w v (shadow_of m s (item_of k t y)) ≡ (shadow_of n s (item_of k t y), tested b)
    → IsConsistent d n p (map.insert histories id (advanced d id k (Answer.Value (Value.Bool b)))) after

-- the first row of a shadow is made, with this value, or a shadow that is there keeps its value
abbrev pub KeepsValue : Rows → Rows → TxId → Item → Value → Type 0
KeepsValue m n s x v = ((shadow_row m s x ≡ None) × ((shadow_of n s x).value ≡ v)) ⊎ ((is_some (shadow_row m s x) ≡ true) × ((shadow_of n s x).value ≡ (shadow_of m s x).value))

-- the rows of its shadow change before it is answered: for a write, or with the plain value
abbrev pub FirstRowsGo : Type 0
FirstRowsGo = (d : Deployment) (m : Rows) (p : PlainState) (histories : Histories) (lock_ahead : IntentId → Bool) (id : IntentId) (k : Instance) (s : TxId) (t : ℕ) (y : List ℕ) (n : Rows) → IsOpen d m p histories lock_ahead s → IsPending d histories id k s t y → lock_ahead id ≡ true
    → ChangedAlone (shadow_key s (item_of k t y)) m n → ((writes_on (item_of k t y) k.func (effect_of d k) ≡ true) ⊎ KeepsValue m n s (item_of k t y) (value_at p (item_of k t y))) → Shadows d n p histories lock_ahead

-- all other rows, and locks that are taken
abbrev pub RowsGo : Type 0
RowsGo = (d : Deployment) (m n : Rows) (p : PlainState) (histories : Histories) (lock_ahead after : IntentId → Bool) → ((j : IntentId) → lock_ahead j ≡ true → after j ≡ true) → SameShadows m n → Shadows d m p histories lock_ahead → Shadows d n p histories after

-- ---- calls
-- a callee is made, in the transaction; it expects no shadow yet
abbrev pub CallsGo : Type 0
CallsGo = (d : Deployment) (m n : Rows) (p : PlainState) (histories : Histories) (lock_ahead : IntentId → Bool) (id : IntentId) (k : Instance) (s : TxId) (f : ℕ) (v : Value) → IsOpen d m p histories lock_ahead s → map.get histories id ≡ Some k → tx_now d id k ≡ Some s → effect_of d k ≡ Effect.Call f v → has_callees id ≡ true
    → map.get histories (callee_of id k) ≡ None → SameShadows m n → IsConsistent d n p (map.insert histories (callee_of id k) (local_steps d (callee_of id k) (new_member s f v (calls_at id k true)))) lock_ahead

-- it gives its outcome back, which answers its caller
abbrev pub ReturnsGo : Type 0
ReturnsGo = (d : Deployment) (m n : Rows) (p : PlainState) (histories : Histories) (lock_ahead : IntentId → Bool) (id : IntentId) (i j : Instance) (c : ℕ) (s : TxId) (o : Outcome) → IsOpen d m p histories lock_ahead s → map.get histories id ≡ Some i → map.get histories (child_of id c) ≡ Some j → j.enclosing ≡ Some s → j.outcome ≡ None
    → effect_of d j ≡ Effect.Return o → SameShadows m n → IsConsistent d n p (map.insert (map.insert histories (child_of id c) (ended j o)) id (advanced d id i (answer_of o))) lock_ahead

-- ---- the decision
abbrev pub decided : Rows → TxId → Bool → Rows
decided m s c = set_row m (decision_key s) (Some (Row.ReadLog (Value.Bool c)))

-- what its moves touched it owns
abbrev pub OwnsWhatItTouched : Deployment → Rows → PlainState → TxId → (Item → Type 0) → Type 0
OwnsWhatItTouched d m p s touched = (x : Item) → touched x → (content_of m x).owner ≡ Some (Tx s)

-- with commit it is the transaction's commit, and each item is listed with its value after it
pub record IsCommit (d : Deployment) (m n : Rows) (p : PlainState) (histories : Histories) (lock_ahead : IntentId → Bool) (s : TxId) : Type 0 where
  pub state : PlainState
  pub commits : Commits d p s.intent state
  pub touched : OwnsWhatItTouched d m p s (TouchedIn d s (opened p s.intent commits.instance) commits.moves)
  pub lists : (x : Item) → listed n x ≡ value_at state x
  pub goes : IsConsistent d n state histories lock_ahead

abbrev pub CommitsAreEntries : Type 0
CommitsAreEntries = (d : Deployment) (m : Rows) (p : PlainState) (histories : Histories) (lock_ahead : IntentId → Bool) (s : TxId) (k : Instance) → IsOpen d m p histories lock_ahead s → map.get histories s.intent ≡ Some k → effect_of d k ≡ Effect.End true → lock_ahead s.intent ≡ false
    → ((x : Item) → listed m x ≡ value_at p x) → IsCommit d m (decided m s true) p (map.insert histories s.intent (advanced d s.intent k Answer.Done)) lock_ahead s

-- what an instance was answered last
abbrev pub last_answer : List Answer → Option Answer
last_answer [] = None
last_answer (a ∷ []) = Some a
last_answer (a ∷ b ∷ rest) = last_answer (b ∷ rest)

-- where it fell: at the place that its owner was told last, or else at its End
abbrev pub FellAt : IntentId → ℕ → Option Answer → Place → Option IntentId → Type 0
FellAt id n (Some (Answer.Aborted c)) p h = (p ≡ c.place) × (h ≡ c.holder)
FellAt id n a p h = (p ≡ place_of id n) × (h ≡ None)

-- without, it is its abort, at what was aborted or at the End itself, and all items are listed as before
pub record IsAbort (d : Deployment) (m n : Rows) (p : PlainState) (histories : Histories) (lock_ahead : IntentId → Bool) (s : TxId) (k : Instance) : Type 0 where
  pub place : Place
  pub holder : Option IntentId
  pub aborts : Aborts d p s.intent place holder (with_instance p s.intent (answered k Answer.Done))
  pub touched : OwnsWhatItTouched d m p s (TouchedIn d s (opened p s.intent aborts.instance) aborts.before)
  pub fell : FellAt s.intent (length k.answers) (last_answer k.answers) place holder
  pub lists : (x : Item) → listed n x ≡ listed m x
  pub goes : IsConsistent d n (with_instance p s.intent (answered k Answer.Done)) histories lock_ahead

-- .. where who let a step inside a transaction die was made
abbrev pub HoldersInsideAreMade : Deployment → PlainState → Histories → Type 0
HoldersInsideAreMade d p histories = (id : IntentId) (q : Instance) (n : ℕ) (c : Cause) (h : IntentId) → map.get histories id ≡ Some q → is_some (tx_at d id q n) ≡ true → slice_get q.answers n ≡ Some (Answer.Aborted c) → c.holder ≡ Some h → is_some (map.get p.made h) ≡ true

abbrev pub AbortsAreEntries : Type 0
AbortsAreEntries = (d : Deployment) (m : Rows) (p : PlainState) (histories : Histories) (lock_ahead : IntentId → Bool) (s : TxId) (k : Instance) → IsOpen d m p histories lock_ahead s → map.get histories s.intent ≡ Some k → effect_of d k ≡ Effect.End false → lock_ahead s.intent ≡ false
    → HoldersInsideAreMade d p histories → IsAbort d m (decided m s false) p (map.insert histories s.intent (advanced d s.intent k Answer.Done)) lock_ahead s k

-- ---- a release leaves the value that was listed
abbrev pub ReleasesList : Type 0
ReleasesList = (m n : Rows) (x : Item) (s : TxId) → ChangedAlone (head_key x) m n → (content_of m x).owner ≡ Some (Tx s) → (content_of n x).owner ≡ None
    → (content_of n x).value ≡ (if is_committed (map.get m (decision_key s)) then value_in (shadow_row m s x) (content_of m x).value else (content_of m x).value) → (y : Item) → listed n y ≡ listed m y
