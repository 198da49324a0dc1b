-- The facts that the argument is made of, as statements: what events leave, what a run has left, and what is so at an end.
use Rattle.std.specs.Prelude.{◌≡◌, ◌⊎◌, ℕ, ◌+◌, ◌<◌, ◌≤◌, true, false, List, [], ◌∷◌, ◌++◌, length, Some, is_some, Result}
use Rattle.std.specs.declared.alloc.AllocError.{AllocError}
use Rattle.std.specs.FinMap as map
use Rattle.beldi_value.specs.declared.{id.IntentId.IntentId, place.Owner.Owner}
use Rattle.beldi_tree.specs.declared.deployment.Deployment.{Deployment}
use Rattle.beldi_lang.specs.{Machine.IsAt, declared.effect.Answer.Answer}
use Rattle.beldi_plain.specs.Plain.{effect_of}
use Rattle.beldi_row.specs.{Key.RowKey, Table.Rows, declared.key.Kind.Kind, declared.row.Body.Body, declared.row.IntentRow.IntentRow, declared.row.Row.Row}
use Rattle.beldi_query.specs.Query.{rows_after}
use Rattle.beldi_intent.specs.Intent.{IntentGoesOn, is_ended}
use Rattle.beldi_step.specs.{HostStep.Core, HostStep.EventOn, HostStep.has_run, HostStep.most_runs, Run.first_stage, Run.run_asks, declared.event.Event.Event, declared.event.EventReply.EventReply, declared.run.Begun.Begun, declared.run.Run.Run, declared.run.RunAt.RunAt, declared.run.Wait.Wait}
use Rattle.beldi_schedule.specs.{Settle.first_at, Settle.go_on, Settles.Settles, Settles.State, declared.machine.Settled.Settled, declared.machine.Settled.TheVariants.All, declared.machine.Settled.TheVariants.Shut, declared.machine.Settled.TheVariants.Stuck, declared.machine.Standing.TheVariants.Over}
use Rattle.beldi_invariant.specs.{OneAnswer.AnswersStay, Invariant.open_of}
use Rattle.beldi_upkeep.specs.Checked.{next_output, next_turn}
use Rattle.beldi_bound.specs.{Cost.AreAsked, Cost.cost_from, Cost.step_cost, Cost.with_answers, Ends.AllHaveEnded, Ends.HasCause, Ends.HasNoLock, Ends.IsBelowEnd, Ends.IsIn, Ends.IsLate, Ends.NoneIsLate, Ends.Sound, Ends.is_hindered, Left.OutputLower, Left.left_at, SettleWork.has_ended, SettleWork.seat}

-- ---- rows that go on: no row goes, an intent keeps what was set, and an answer that is held stays
pub record GoesOn (m n : Rows) : Type 0 where
  pub keys : (k : RowKey) → is_some (map.get m k) ≡ true → is_some (map.get n k) ≡ true
  pub intents : (k : RowKey) → IntentGoesOn (map.get m k) (map.get n k)
  pub answers : AnswersStay m n

abbrev pub EventsGoOn : Type 0
EventsGoOn = (d : Deployment) (room old new : ℕ) (e : Event) (c b : Core) (m n : Rows) (r : Result EventReply AllocError) → EventOn d room old new e c m b n r → GoesOn m n

-- ---- where a run stands in the answers that are asked of its intent
pub record Along (d : Deployment) (id : IntentId) (b : Body) (given : List Answer) (r : Run) (g : Begun) : Type 0 where
  pub answers : List Answer
  pub later : List Answer
  pub all : answers ++ later ≡ given
  pub func : b.func ≡ r.func
  pub caller : g.caller ≡ b.parent
  pub steps : length answers ≡ g.machine.steps
  pub machine : IsAt d b.func b.args (is_some b.tx) g.machine answers
  pub effect : g.machine.effect ≡ effect_of d (with_answers b answers)
  pub tx : g.tx ≡ open_of d (with_answers b answers) answers

-- the row of a run's intent in the end, with its body, and where the run stands in its answers
pub record Stands (d : Deployment) (e : Rows) (asked : IntentId → List Answer) (r : Run) (g : Begun) : Type 0 where
  pub row : IntentRow
  pub body : Body
  pub there : map.get e (seat r) ≡ Some (Row.Intent row)
  pub has : row.body ≡ Some body
  pub along : Along d r.id body (asked r.id) r g

-- every live run that has begun stands so, whatever the rows become
abbrev pub RunsStand : Type 0
RunsStand = (d : Deployment) (c : Core) (m e : Rows) (asked : IntentId → List Answer) (i : ℕ) (r : Run) (g : Begun) → Sound d c m → GoesOn m e → AreAsked d e asked → map.get c.runs i ≡ Some r → r.at ≡ RunAt.Begins g → Stands d e asked r g

-- ---- what is left of a run that has begun: of its effect, and of those after it
abbrev pub rest_cost : Deployment → Rows → IntentId → Body → List Answer → List Answer → ℕ
rest_cost d e id b given [] = 0
rest_cost d e id b given (a ∷ rest) = cost_from d e id b (given ++ a ∷ []) rest

module _ {d : Deployment} {e : Rows} {asked : IntentId → List Answer} {r : Run} {g : Begun} where
  abbrev pub rest_left : Stands d e asked r g → ℕ
  rest_left s = rest_cost d e r.id s.body s.along.answers s.along.later

  abbrev pub begun_left : Rows → Stands d e asked r g → ℕ
  begun_left m s = left_at e m r.func r.id g.tx g.machine.steps g.machine.effect g.stage + rest_left s

-- an effect that begins has no more left than it costs
abbrev pub FirstStagesAreFew : Type 0
FirstStagesAreFew = (d : Deployment) (e m : Rows) (id : IntentId) (b : Body) (given : List Answer) (r : Run) (g : Begun) → r.id ≡ id → (s : Along d id b given r g) → first_stage id g.caller g.tx g.machine.steps g.machine.effect ≡ Some g.stage
    → left_at e m r.func id g.tx g.machine.steps g.machine.effect g.stage ≤ step_cost d e id b s.answers

-- ---- a turn of a live run that has begun, over rows that go on to those in the end
abbrev pub TurnsLower : Type 0
TurnsLower = (d : Deployment) (c : Core) (m e : Rows) (i : ℕ) (r : Run) (g : Begun) → Sound d c m → GoesOn (rows_after (run_asks r) c.now m) e → map.get c.runs i ≡ Some r → r.at ≡ RunAt.Begins g
    → OutputLower (left_at e (rows_after (run_asks r) c.now m) r.func r.id g.tx g.machine.steps g.machine.effect) (left_at e m r.func r.id g.tx g.machine.steps g.machine.effect g.stage) (next_output c m r g)

-- where it waits, the rows are as they were
abbrev pub WaitsLeaveRows : Type 0
WaitsLeaveRows = (d : Deployment) (c : Core) (m : Rows) (i : ℕ) (r : Run) (w : Wait) → Sound d c m → map.get c.runs i ≡ Some r → (next_turn d c m r).wait ≡ Some w → rows_after (run_asks r) c.now m ≡ m

-- ---- the ends of a settling
-- what a turn of a live run would be answered now, where it waits
pub data WaitsNow (d : Deployment) (c : Core) (m : Rows) (i : ℕ) : EventReply → Type 0 where
  hindered : (x : EventReply) → is_hindered x ≡ true → WaitsNow d c m i x
  held : (r : Run) (o : Owner) → map.get c.runs i ≡ Some r → (next_turn d c m r).wait ≡ Some (Wait.Held o) → WaitsNow d c m i (EventReply.Held o)
  not_yet : (r : Run) (j : IntentId) → map.get c.runs i ≡ Some r → (next_turn d c m r).wait ≡ Some (Wait.Result j) → has_run c.runs j ≡ true → WaitsNow d c m i (EventReply.NotYet j)

-- all that live wait
abbrev pub AllWait : Deployment → Core → Rows → List (ℕ × EventReply) → Type 0
AllWait d c m waiting = (i : ℕ) (r : Run) → map.get c.runs i ≡ Some r → (x : EventReply) × IsIn (i, x) waiting × WaitsNow d c m i x

-- each intent that has a body and has not ended has a live run
abbrev pub EachHasRun : Core → Rows → Type 0
EachHasRun c m = (home : ℕ) (id : IntentId) (i : IntentRow) (b : Body) → map.get m (record { home = home; kind = Kind.Intent id }) ≡ Some (Row.Intent i) → i.body ≡ Some b → is_ended i ≡ false → has_run c.runs id ≡ true

-- what is so at its end
abbrev pub AtEnd : Deployment → Core → Rows → Settled → Type 0
AtEnd d c m (All n) = (c.runs ≡ map.empty) × EachHasRun c m
AtEnd d c m (Stuck n waiting) = AllWait d c m waiting × (EachHasRun c m ⊎ (most_runs ≤ map.len c.runs)) × (c.runs ≡ map.empty → ⊥)
AtEnd d c m (Shut n) = c.shut ≡ true
AtEnd d c m x = Unit {0}

abbrev pub SettlesSo : Type 0
SettlesSo = (d : Deployment) (room budget : ℕ) (s t : State) (x : Settled) → Sound d s.core s.rows → Settles d room budget (go_on budget first_at) s (Over x) t → AtEnd d t.core t.rows x

abbrev pub SettledHaveEnded : Type 0
SettledHaveEnded = (d : Deployment) (c : Core) (m : Rows) → Sound d c m → c.runs ≡ map.empty → EachHasRun c m → AllHaveEnded d c m

abbrev pub WaitsHaveCause : Type 0
WaitsHaveCause = (d : Deployment) (c : Core) (m : Rows) (waiting : List (ℕ × EventReply)) → Sound d c m → HasNoLock d → AllWait d c m waiting → EachHasRun c m → (c.runs ≡ map.empty → ⊥) → HasCause c m waiting

-- a late run of an intent that has not ended has beside it a live run that was answered more
abbrev pub AreFollowed : Core → Rows → Type 0
AreFollowed c m = (i : ℕ) (r : Run) (late : IsLate m r) → map.get c.runs i ≡ Some r → has_ended (map.get m (seat r)) ≡ false
    → (j : ℕ) × (s : Run) × (g : Begun) × (map.get c.runs j ≡ Some s) × (s.id ≡ r.id) × (s.at ≡ RunAt.Begins g) × (late.begun.machine.steps < g.machine.steps)

abbrev pub LatesAreFollowed : Type 0
LatesAreFollowed = (d : Deployment) (room budget : ℕ) (s t : State) (x : Settled) → Sound d s.core s.rows → NoneIsLate s.core s.rows → Settles d room budget (go_on budget first_at) s (Over x) t → t.faults ≡ s.faults → IsBelowEnd t.faults → AreFollowed t.core t.rows
