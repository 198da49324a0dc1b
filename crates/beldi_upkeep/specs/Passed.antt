-- That who goes on past a call that it makes has registered it, or has its result: what the rows keep of it, and live runs.
use Rattle.std.specs.Prelude.{◌≡◌, ◌⊎◌, ◌<◌, ◌||◌, ℕ, Bool, true, false, length, Option, Some, None, is_some, Result}
use Rattle.std.specs.declared.alloc.AllocError.{AllocError}
use Rattle.std.specs.FinMap as map
use Rattle.beldi_value.specs.{Id.child_of, declared.id.IntentId.IntentId, declared.place.Place.Place, declared.value.Value.Value}
use Rattle.beldi_tree.specs.declared.deployment.Deployment.{Deployment}
use Rattle.beldi_lang.specs.declared.effect.Effect.{Effect}
use Rattle.beldi_plain.specs.{Legal.run_of, Plain.Instance, Plain.PlainState, Plain.effect_before}
use Rattle.beldi_row.specs.{Key.RowKey, Log.note_at, Table.Rows, declared.key.Kind.Kind, declared.row.InvokeRow.InvokeRow, declared.row.Row.Row}
use Rattle.beldi_chain.specs.Content.{content_in}
use Rattle.beldi_invokelog.specs.InvokeLog.{call_in, invoke_key, result_in}
use Rattle.beldi_step.specs.{HostStep.Core, HostStep.EventOn, HostStep.first_core, Run.local_answer, Run.place_of, declared.event.Event.Event, declared.event.EventReply.EventReply, declared.run.Run.Run, declared.run.RunAt.TheVariants.Begins, declared.run.Begun.Begun}
use Rattle.beldi_histories.specs.Histories.{Histories, last_step}
use Rattle.beldi_invariant.specs.Invariant.{Invariant}
use Rattle.beldi_upkeep.specs.Callees.{HasCallee, Seats}

-- ---- calls that may be passed
-- the row of a call says that it is registered, or has its result; or there is none
abbrev pub may_pass : Option Row → Bool
may_pass (Some (Row.Invoke c)) = c.registered || is_some c.result
may_pass r = true

-- the call that an intent made at a step, if it made one, is registered, or has its result
abbrev pub MayPass : Rows → IntentId → ℕ → Type 0
MayPass m i n = (f : ℕ) → may_pass (map.get m (invoke_key f (place_of i n))) ≡ true

-- ---- what shows that an intent has gone past a step
-- a later step of it; the releases that others make for it have a place past all steps
pub record IsLater (p : Place) (i : IntentId) (n : ℕ) : Type 0 where
  pub intent : p.intent ≡ i
  pub later : n < p.step
  pub short : p.step < last_step

abbrev pub is_log : Option Row → Bool
is_log (Some (Row.ReadLog v)) = true
is_log r = false

abbrev pub is_call : Option Row → Bool
is_call (Some (Row.Invoke c)) = true
is_call r = false

abbrev pub has_result : Option Row → Bool
has_result r = is_some (result_in (call_in r))

abbrev pub has_outcome : Option Row → Bool
has_outcome (Some (Row.Intent r)) = is_some r.outcome
has_outcome r = false

abbrev pub has_note : Place → Option Row → Bool
has_note p r = is_some (note_at (content_in r).notes p)

-- a note that an item has at a later step
pub record HasNoted (r : Option Row) (i : IntentId) (n : ℕ) : Type 0 where
  pub place : Place
  pub later : IsLater place i n
  pub noted : has_note place r ≡ true

-- a row shows it: what was read or decided, a note, or a call at a later step; the intent's outcome, in its row or as the result of its
-- call
abbrev pub ShowsPast : Kind → Option Row → IntentId → ℕ → Type 0
ShowsPast (Kind.ReadLog p) r i n = IsLater p i n × (is_log r ≡ true)
ShowsPast (Kind.Invoke p) r i n = (IsLater p i n × (is_call r ≡ true)) ⊎ ((child_of p.intent p.step ≡ i) × (has_result r ≡ true))
ShowsPast (Kind.Data t k z) r i n = HasNoted r i n
ShowsPast (Kind.Intent j) r i n = (j ≡ i) × (has_outcome r ≡ true)
ShowsPast (Kind.Shadow s t k z) r i n = ⊥
ShowsPast (Kind.Lockset j b t k) r i n = ⊥

-- ---- what every event keeps
-- a call that its intent is past, by the rows, may be passed
pub record PastCalls (m : Rows) : Type 0 where
  pub each : (k : RowKey) (i : IntentId) (n : ℕ) → ShowsPast k.kind (map.get m k) i n → MayPass m i n

-- .. and one that a live run is past
pub record RunsPast (c : Core) (m : Rows) : Type 0 where
  pub each : (n : ℕ) (r : Run) (g : Begun) → map.get c.runs n ≡ Some r → r.at ≡ Begins g → (s : ℕ) → s < g.machine.steps → MayPass m r.id s

-- so it is over no rows, with no run ..
abbrev pub BeginsPast : Type 0
BeginsPast = (now : ℕ) → PastCalls map.empty × RunsPast (first_core 0 now) map.empty

-- .. and after every event, whatever it came to
abbrev pub KeepsPast : Type 0
KeepsPast = (d : Deployment) (room old new : ℕ) (e : Event) (c b : Core) (m n : Rows) (r : Result EventReply AllocError) → Invariant d c m → PastCalls m → RunsPast c m → EventOn d room old new e c m b n r → PastCalls n × RunsPast b n

-- ---- so who went on past a call that nobody waits for has registered it
-- an instance went on past a step: it was answered at a later step whose answer takes a turn, called at a later step, or has its outcome.
-- An answer to the step itself is no sign of it: the call is answered as it is opened, and registered in later turns. Nor is a later Begin,
-- which is answered at once.
abbrev pub WentOn : Deployment → Histories → IntentId → Instance → ℕ → Type 0
WentOn d histories i q n = ((s : ℕ) × (n < s) × (s < length q.answers) × (local_answer i s (effect_before d q s) ≡ None)) ⊎ (((s : ℕ) × (n < s) × (is_some (map.get histories (child_of i s)) ≡ true)) ⊎ (is_some q.outcome ≡ true))

-- the row of a call that is registered, and of its callee
pub record IsEnrolled (m : Rows) (f : ℕ) (i : IntentId) (n : ℕ) : Type 0 where
  pub call : InvokeRow
  pub there : map.get m (invoke_key f (place_of i n)) ≡ Some (Row.Invoke call)
  pub registered : call.registered ≡ true
  pub callee : HasCallee m f i n call

-- of all that the histories have, inside transactions as well ..
abbrev pub RecordedAsyncsAreRegistered : Type 0
RecordedAsyncsAreRegistered = (d : Deployment) (c : Core) (m : Rows) (h : Invariant d c m) → Seats m → PastCalls m → (i : IntentId) (q : Instance) (n f : ℕ) (v : Value) → map.get h.histories i ≡ Some q → n < length q.answers → effect_before d q n ≡ Effect.Async f v → WentOn d h.histories i q n → IsEnrolled m q.func i n

-- .. and of the run of the book
abbrev pub AsyncsAreRegistered : Type 0
AsyncsAreRegistered = (d : Deployment) (c : Core) (m : Rows) (p : PlainState) → Invariant d c m → Seats m → PastCalls m → run_of d c.book ≡ Some p → (i : IntentId) (q : Instance) (n f : ℕ) (v : Value) → map.get p.made i ≡ Some q → n < length q.answers → effect_before d q n ≡ Effect.Async f v → WentOn d p.made i q n → IsEnrolled m q.func i n
