-- What runs of a deployment that passed the checks never come to.
use Rattle.std.specs.Prelude.{◌≡◌, ◌||◌, ℕ, Bool, true, false, IsTrue, List, length, Option, None, Some, is_some, slice_get, Result}
use Rattle.std.specs.declared.alloc.AllocError.{AllocError}
use Rattle.std.specs.FinMap as map
use Rattle.beldi_value.specs.{Id.has_callees, declared.id.IntentId.IntentId, declared.place.Caller.Caller, declared.place.Owner.Owner, declared.place.TxId.TxId, declared.value.Value.Value}
use Rattle.beldi_tree.specs.{declared.deployment.Deployment.Deployment, Names.func_at}
use Rattle.beldi_check.specs.Keeps.{KeepsRules}
use Rattle.beldi_lang.specs.{Wants.wants_answer, declared.effect.Answer.Answer, declared.effect.Effect.Effect, declared.machine.Machine.Machine, Machine.begun as machine_begun}
use Rattle.beldi_book.specs.{LinearOrder.count_changes, declared.entry.Entry.Entry}
use Rattle.beldi_plain.specs.{Item.Item, Plain.Instance, Replies.starts_of}
use Rattle.beldi_plain_laws.specs.{WellFormedState.call_of, Txs.effect_after}
use Rattle.beldi_row.specs.{Log.note_at, Table.Rows, declared.notes.Note.Note, declared.row.Body.Body, declared.row.Row.Row}
use Rattle.beldi_query.specs.Query.{query_reply}
use Rattle.beldi_intent.specs.Intent.{root_key}
use Rattle.beldi_step.specs.{declared.event.Event.Event, declared.event.EventReply.EventReply, declared.run.Begun.Begun, declared.run.OpenTx.OpenTx, declared.run.Run.Run, declared.run.RunAt.RunAt, declared.run.RunTx.RunTx, declared.run.StageOutput.StageOutput, declared.run.Stage.Stage, HostStep.Core, HostStep.EventOn, Run.local_answer, Run.answer_noted, Run.local_steps, Run.body_found, Run.first_stage, Run.own_tx, Run.place_of, Run.run_asks, Run.run_told, Run.stage_asks, Run.stage_output, Run.takes, Run.Turned, Run.inherited_tx, Tables.decision_key}
use Rattle.beldi_histories.specs.{Contents.content_of, Contents.is_owner, Contents.shadow_of, RowMatching.IsBodyOf}
use Rattle.beldi_invariant.specs.{OneAnswer.IsBegun, Invariant.Invariant, Invariant.open_of}

-- ---- shadows
-- where the host has the invariant, nobody owns a shadow
abbrev pub ShadowsAreFree : Type 0
ShadowsAreFree = (d : Deployment) (c : Core) (m : Rows) (t : TxId) (x : Item) → Invariant d c m → (shadow_of m t x).owner ≡ None

-- ---- roots
-- the deployment has the function of this number
abbrev pub has_func : Deployment → ℕ → Bool
has_func d f = is_some (func_at d f)

-- a request is of a function of the deployment
abbrev pub IsOfIt : Deployment → Event → Type 0
IsOfIt d (Event.Request t f a) = has_func d f ≡ true
IsOfIt d e = Unit {0}

-- the body of a row, if it is an intent's that has one
abbrev pub body_at : Option Row → Option Body
body_at (Some (Row.Intent i)) = i.body
body_at r = None

-- the function of each root that was bound is one of the deployment
abbrev pub RootsAreOfIt : Deployment → Rows → Type 0
RootsAreOfIt d m = (t : ℕ) (b : Body) → body_at (map.get m (root_key t)) ≡ Some b → has_func d b.func ≡ true

-- where the host has the invariant, every event keeps it whose request is of such a function
abbrev pub RootsStayOfIt : Type 0
RootsStayOfIt = (d : Deployment) (room old new : ℕ) (e : Event) (c b : Core) (m n : Rows) (r : Result EventReply AllocError) → Invariant d c m → IsOfIt d e → RootsAreOfIt d m → EventOn d room old new e c m b n r → RootsAreOfIt d n

-- .. and whatever is requested, the book starts it
pub record Starts (book : List Entry) (t f : ℕ) : Type 0 where
  pub number : ℕ
  pub args : Value
  pub there : slice_get (starts_of book) number ≡ Some (t, (f, args))

abbrev pub RootsAreStarted : Core → Rows → Type 0
RootsAreStarted c m = (t : ℕ) (b : Body) → body_at (map.get m (root_key t)) ≡ Some b → Starts c.book t b.func

abbrev pub RootsStayStarted : Type 0
RootsStayStarted = (d : Deployment) (room old new : ℕ) (e : Event) (c b : Core) (m n : Rows) (r : Result EventReply AllocError) → Invariant d c m → RootsAreStarted c m → EventOn d room old new e c m b n r → RootsAreStarted b n

-- over no rows both are so
abbrev pub NoRootAtFirst : Type 0
NoRootAtFirst = (d : Deployment) (c : Core) → RootsAreOfIt d map.empty × RootsAreStarted c map.empty

-- so where the book starts functions of the deployment alone, the roots are of it
abbrev pub StartsAreOfIt : Deployment → List Entry → Type 0
StartsAreOfIt d book = (t f : ℕ) → Starts book t f → has_func d f ≡ true

abbrev pub StartedRootsAreOfIt : Type 0
StartedRootsAreOfIt = (d : Deployment) (c : Core) (m : Rows) → RootsAreStarted c m → StartsAreOfIt d c.book → RootsAreOfIt d m

-- ---- a deployment that passed the checks
-- the host has the invariant, and runs such a deployment, on requests of its functions
pub record Checked (d : Deployment) (c : Core) (m : Rows) : Type 0 where
  pub invariant : Invariant d c m
  pub rules : KeepsRules d.funcs
  pub roots : RootsAreOfIt d m

-- what the histories have is of its functions
abbrev pub InstancesAreOfIt : Type 0
InstancesAreOfIt = (d : Deployment) (c : Core) (m : Rows) (h : Checked d c m) (id : IntentId) (q : Instance) → map.get h.invariant.histories id ≡ Some q → has_func d q.func ≡ true

-- ---- what a run finds at its place
-- an effect that works on an item
abbrev pub works_on : Effect → Bool
works_on (Effect.Read t k) = true
works_on (Effect.Write t k v) = true
works_on (Effect.CondWrite t k r o v) = true
works_on (Effect.Lock t k) = true
works_on (Effect.Unlock t k) = true
works_on e = false

-- the note of a lock inside a transaction: it was got, or its place died
abbrev pub is_of_lock : Note → Bool
is_of_lock Note.Got = true
is_of_lock (Note.Died h) = true
is_of_lock w = false

-- a note that the effect leaves, by whether it is one inside a transaction: outside it answers the effect, and inside it is its lock's
abbrev pub is_own_note : Option RunTx → Effect → Note → Bool
is_own_note None e w = is_some (answer_noted e w)
is_own_note (Some o) e w = is_of_lock w

-- a note that it leaves in the shadow
abbrev pub is_shadow_note : Effect → Note → Bool
is_shadow_note (Effect.Write t k v) Note.Wrote = true
is_shadow_note (Effect.CondWrite t k r o v) (Note.Cond b) = true
is_shadow_note e w = false

-- an item has no note at the place of a live run but that of the effect that the run is at ..
abbrev pub NotesAreOwn : Type 0
NotesAreOwn = (d : Deployment) (c : Core) (m : Rows) (r : Run) (g : Begun) (x : Item) (w : Note) → Invariant d c m → IsBegun c r.id r g → works_on g.machine.effect ≡ true
    → note_at (content_of m x).notes (place_of r.id g.machine.steps) ≡ Some w → is_own_note g.tx g.machine.effect w ≡ true

-- .. and neither has a shadow
abbrev pub ShadowNotesAreOwn : Type 0
ShadowNotesAreOwn = (d : Deployment) (c : Core) (m : Rows) (r : Run) (g : Begun) (t : TxId) (x : Item) (w : Note) → Invariant d c m → IsBegun c r.id r g
    → note_at (shadow_of m t x).notes (place_of r.id g.machine.steps) ≡ Some w → is_shadow_note g.machine.effect w ≡ true

-- the decision that is kept where a live run is at the end of its transaction is the run's own
abbrev pub DecisionsAreOwn : Type 0
DecisionsAreOwn = (d : Deployment) (c : Core) (m : Rows) (r : Run) (g : Begun) (o : OpenTx) (commit : Bool) (w : Row) → Invariant d c m → IsBegun c r.id r g → g.tx ≡ Some (RunTx.Own o) → g.machine.effect ≡ Effect.End commit
    → map.get m (decision_key (own_tx r.id r.func o)) ≡ Some w → w ≡ Row.ReadLog (Value.Bool commit)

-- ---- locks outside transactions
-- a live run that is to free a lock owns it, unless it was freed at its place
abbrev pub UnlocksAreOwned : Type 0
UnlocksAreOwned = (d : Deployment) (c : Core) (m : Rows) (r : Run) (g : Begun) (t : ℕ) (k : List ℕ) → let x : Item = record { func = r.func; table = t; key = k } in Invariant d c m → IsBegun c r.id r g → g.machine.effect ≡ Effect.Unlock t k
    → note_at (content_of m x).notes (place_of r.id g.machine.steps) ≡ None → is_owner (content_of m x).owner (Owner.Intent r.id) ≡ true

-- ---- where effects stand
-- what is carried out outside a transaction alone
abbrev pub is_for_outside : Effect → Bool
is_for_outside (Effect.Lock t k) = true
is_for_outside (Effect.Unlock t k) = true
is_for_outside (Effect.Async f a) = true
is_for_outside e = false

-- an instance that wants it is in none, neither its own nor one that it was called in
abbrev pub NoneIsInside : Type 0
NoneIsInside = (d : Deployment) (c : Core) (m : Rows) (h : Checked d c m) (id : IntentId) (q : Instance) (given : List Answer) → map.get h.invariant.histories id ≡ Some q → is_for_outside (effect_after d q given) ≡ true → open_of d q given ≡ None

-- one that is to begin a transaction is in none, and one that is to end one is in its own; that needs no checks
pub record BoundsStand (d : Deployment) (q : Instance) (given : List Answer) : Type 0 where
  pub begins : effect_after d q given ≡ Effect.Begin → open_of d q given ≡ None
  pub ends : (commit : Bool) → effect_after d q given ≡ Effect.End commit → (o : OpenTx) × (open_of d q given ≡ Some (RunTx.Own o))

abbrev pub BoundsAreOwn : Type 0
BoundsAreOwn = (d : Deployment) (q : Instance) (given : List Answer) → BoundsStand d q given

-- who calls has an id that is short enough
abbrev pub CallersAreShort : Type 0
CallersAreShort = (d : Deployment) (c : Core) (m : Rows) (h : Checked d c m) (id : IntentId) (q : Instance) (given : List Answer) (waits : Bool) (f : ℕ) (a : Value) → map.get h.invariant.histories id ≡ Some q → effect_after d q given ≡ call_of waits f a → has_callees id ≡ true

-- ---- what an instance wants next is carried out
-- it has a stage in which it begins, or takes no turn
abbrev pub IsCarriedOut : Deployment → IntentId → Instance → List Answer → Type 0
IsCarriedOut d id q given = (is_some (local_answer id (length given) (effect_after d q given)) || is_some (first_stage id q.parent (open_of d q given) (length given) (effect_after d q given))) ≡ true

-- so it is of all that the histories have, whatever it was answered
abbrev pub EffectsAreCarriedOut : Type 0
EffectsAreCarriedOut = (d : Deployment) (c : Core) (m : Rows) (h : Checked d c m) (id : IntentId) (q : Instance) (given : List Answer) → map.get h.invariant.histories id ≡ Some q → IsCarriedOut d id q given

-- where a machine stands in this transaction, past what takes no turn, there is such a stage
abbrev pub Begins : Deployment → IntentId → Option Caller → Machine × Option RunTx → Type 0
Begins d id c s = let z = local_steps d id s in is_some (first_stage id c z.1 z.0.steps z.0.effect) ≡ true

-- so a live run that has begun goes on from any answer
abbrev pub NoRunIsStranded : Type 0
NoRunIsStranded = (d : Deployment) (c : Core) (m : Rows) (r : Run) (g : Begun) (a : Answer) → Checked d c m → IsBegun c r.id r g → IsTrue (wants_answer g.machine.effect) → Begins d r.id g.caller (takes d g.machine g.tx a)

-- .. and a body that is known of its instance begins
abbrev pub NoBodyIsStranded : Type 0
NoBodyIsStranded = (d : Deployment) (c : Core) (m : Rows) (h : Checked d c m) (r : Run) (b : Body) → IsBodyOf b (map.get h.invariant.histories r.id) → b.func ≡ r.func → (has_func d r.func ≡ true) × Begins d r.id b.parent (machine_begun d r.func b.args (is_some b.tx), inherited_tx b.tx)

-- ---- a turn
-- how a live run that has begun stands after its next turn, over these rows
abbrev pub next_turn : Deployment → Core → Rows → Run → Turned
next_turn d c m r = run_told d (count_changes c.book) r (query_reply (run_asks r) c.now m)

abbrev pub is_close : Stage → Bool
is_close Stage.Close = true
is_close s = false

-- it is over only at the stage that closes its intent
abbrev pub NoTurnIsOver : Type 0
NoTurnIsOver = (d : Deployment) (c : Core) (m : Rows) (r : Run) (g : Begun) → Checked d c m → IsBegun c r.id r g → (next_turn d c m r).next ≡ None → is_close g.stage ≡ true

-- what the stage of a live run says of the next turn
abbrev pub next_output : Core → Rows → Run → Begun → StageOutput
next_output c m r g = stage_output r.id r.func g.caller g.tx (count_changes c.book) g.machine.steps g.machine.effect g.stage (query_reply (stage_asks r.id r.func g.caller g.tx g.machine.steps g.machine.effect g.stage) c.now m)

-- it stays where it stood
abbrev pub IsStill : Stage → StageOutput → Type 0
IsStill s StageOutput.Stays = Unit {0}
IsStill s (StageOutput.On z m) = z ≡ s
IsStill s x = ⊥

-- the visits at an end, which stand at one stage
abbrev pub is_visit : Stage → Bool
is_visit (Stage.End v) = true
is_visit s = false

-- at no other stage does a run stay where it stood; it waits, or goes on
abbrev pub NoTurnStays : Type 0
NoTurnStays = (d : Deployment) (c : Core) (m : Rows) (r : Run) (g : Begun) → Invariant d c m → IsBegun c r.id r g → is_visit g.stage ≡ false → IsStill g.stage (next_output c m r g) → ⊥

-- ---- the first turn
-- the body that a run which has not begun finds in what it is told of the next turn: that of its row, or the one that it registers
abbrev pub next_body : Core → Rows → Run → Option Body
next_body c m r = body_found r.func r.at (query_reply (run_asks r) c.now m)

abbrev pub has_begun : RunAt → Bool
has_begun (RunAt.Begins g) = true
has_begun at = false

-- it is its instance's ..
abbrev pub FoundBodiesAreRecorded : Type 0
FoundBodiesAreRecorded = (d : Deployment) (c : Core) (m : Rows) (h : Invariant d c m) (n : ℕ) (r : Run) (b : Body) → map.get c.runs n ≡ Some r → has_begun r.at ≡ false → next_body c m r ≡ Some b → IsBodyOf b (map.get h.histories r.id) × (b.func ≡ r.func)

-- .. and such a run begins with it
abbrev pub NoFirstTurnIsOver : Type 0
NoFirstTurnIsOver = (d : Deployment) (c : Core) (m : Rows) (n : ℕ) (r : Run) (b : Body) → Checked d c m → map.get c.runs n ≡ Some r → has_begun r.at ≡ false → next_body c m r ≡ Some b → (next_turn d c m r).next ≡ None → ⊥
