-- What a settling promises: how many turns it counts, and what its ends say.
use Rattle.std.specs.Prelude.{◌≡◌, ◌⊎◌, ◌^◌, ◌-◌, ℕ, ◌<◌, ◌≤◌, Bool, true, false, List, [], ◌∷◌, Some, is_some, slice_get}
use Rattle.std.specs.FinMap as map
use Rattle.beldi_value.specs.declared.{id.IntentId.IntentId, place.Owner.Owner}
use Rattle.beldi_tree.specs.{StatementCommand.Command, StatementCommand.lock, declared.deployment.Deployment.Deployment, declared.deployment.Func.Func}
use Rattle.beldi_check.specs.{Keeps.KeepsRules, Site.Spot, Site.sites_of}
use Rattle.beldi_lang.specs.declared.effect.Answer.{Answer}
use Rattle.beldi_plain.specs.{Legal.run_of, Plain.Instance, Plain.PlainState}
use Rattle.beldi_row.specs.{Key.RowKey, Table.Rows, declared.row.Body.Body, declared.row.IntentRow.IntentRow, declared.row.Row.Row}
use Rattle.beldi_readlog.specs.ReadLog.{log_key}
use Rattle.beldi_intent.specs.Intent.{is_ended}
use Rattle.beldi_step.specs.{HostStep.Core, HostStep.last_moment, HostStep.most_runs, Run.place_of, declared.event.EventReply.EventReply, declared.run.Begun.Begun, declared.run.Run.Run, declared.run.RunAt.TheVariants.Begins, declared.run.Stage.Stage}
use Rattle.beldi_schedule.specs.{Settle.first_at, Settle.go_on, Settle.turns_of, Settles.Settles, Settles.State, declared.machine.Settled.Settled, declared.machine.Settled.TheVariants.All, declared.machine.Settled.TheVariants.Shut, declared.machine.Settled.TheVariants.Spent, declared.machine.Settled.TheVariants.Stuck, declared.machine.Settled.TheVariants.Unsettled, declared.machine.Standing.TheVariants.Over}
use Rattle.beldi_upkeep.specs.{Checked.StartsAreOfIt, Upkeep.Upkeep}
use Rattle.beldi_bound.specs.{Cost.AreAsked, SettleWork.has_ended, SettleWork.seat, SettleWork.work_of}

-- ---- before
-- the host keeps what every event keeps, runs a deployment that passed the checks, and its book starts functions of it alone
pub record Sound (d : Deployment) (c : Core) (m : Rows) : Type 0 where
  pub upkeep : Upkeep d c m
  pub rules : KeepsRules d.funcs
  pub starts : StartsAreOfIt d c.book

-- a count of failures stands still at its end; below it, each failure raises it
abbrev pub IsBelowEnd : ℕ → Type 0
IsBelowEnd faults = faults < 2 ^ 64 - 1

-- no function takes a lock by a statement of its own
abbrev pub is_lock : Command → Bool
is_lock (lock l t x) = true
is_lock c = false

abbrev pub HasNoLock : Deployment → Type 0
HasNoLock d = (n : ℕ) (f : Func) (i : ℕ) (s : Spot) → slice_get d.funcs n ≡ Some f → slice_get (sites_of f.body) i ≡ Some s → is_lock s.1 ≡ false

-- it looks at its item
abbrev pub is_walk : Stage → Bool
is_walk (Stage.Walk r) = true
is_walk s = false

-- a run is late where it is to find the value of a read that another run of its intent has kept
pub record IsLate (m : Rows) (r : Run) : Type 0 where
  pub begun : Begun
  pub at : r.at ≡ Begins begun
  pub walks : is_walk begun.stage ≡ true
  pub kept : is_some (map.get m (log_key r.func (place_of r.id begun.machine.steps))) ≡ true

abbrev pub NoneIsLate : Core → Rows → Type 0
NoneIsLate c m = (i : ℕ) (r : Run) → map.get c.runs i ≡ Some r → IsLate m r → ⊥

-- ---- after
-- nothing lives, and nothing is left to end: no intent with a body, and no instance of the book's run
pub record AllHaveEnded (d : Deployment) (c : Core) (m : Rows) : Type 0 where
  pub runs : c.runs ≡ map.empty
  pub intents : (k : RowKey) (i : IntentRow) (b : Body) → map.get m k ≡ Some (Row.Intent i) → i.body ≡ Some b → is_ended i ≡ true
  pub instances : (p : PlainState) (id : IntentId) (q : Instance) → run_of d c.book ≡ Some p → map.get p.made id ≡ Some q → is_some q.outcome ≡ true

abbrev pub IsIn : {X : Type 0} → X → List X → Type 0
IsIn x [] = ⊥
IsIn x (y ∷ ys) = (x ≡ y) ⊎ IsIn x ys

-- a wait for room in the table, or among the runs, or for a row that may follow the last one of an item
abbrev pub is_hindered : EventReply → Bool
is_hindered (EventReply.Full live room) = true
is_hindered EventReply.Crowded = true
is_hindered EventReply.Worn = true
is_hindered x = false

-- a late run of an intent that has not ended waits for the owner of its item, and no live run of its intent was answered more
pub record IsLeft (c : Core) (m : Rows) (waiting : List (ℕ × EventReply)) : Type 0 where
  pub number : ℕ
  pub run : Run
  pub owner : Owner
  pub live : map.get c.runs number ≡ Some run
  pub waits : IsIn (number, EventReply.Held owner) waiting
  pub late : IsLate m run
  pub unended : has_ended (map.get m (seat run)) ≡ false
  pub furthest : (j : ℕ) (r : Run) (g : Begun) → map.get c.runs j ≡ Some r → r.id ≡ run.id → r.at ≡ Begins g → g.machine.steps ≤ late.begun.machine.steps

-- why all that live wait
pub data HasCause (c : Core) (m : Rows) (waiting : List (ℕ × EventReply)) : Type 0 where
  hindered : (w : ℕ × EventReply) → IsIn w waiting → is_hindered w.1 ≡ true → HasCause c m waiting
  crowded : most_runs ≤ map.len c.runs → HasCause c m waiting
  left : IsLeft c m waiting → HasCause c m waiting

-- an end that nothing beside the runs hindered
abbrev pub IsUnhindered : Core → Settled → Type 0
IsUnhindered c (Spent n) = ⊥
IsUnhindered c (Shut n) = ⊥
IsUnhindered c (Stuck n waiting) = ((w : ℕ × EventReply) → IsIn w waiting → is_hindered w.1 ≡ false) × (map.len c.runs < most_runs)
IsUnhindered c x = Unit {0}

pub record Promises (d : Deployment) (budget : ℕ) (s t : State) (x : Settled) : Type 0 where
  -- the turns are at most the work, whatever the runs died of, failed at or did twice
  pub few : (asked : IntentId → List Answer) → AreAsked d t.rows asked → IsBelowEnd t.faults → turns_of x ≤ work_of d asked s t
  -- a budget is used up only where it is not above the work
  pub used : (n : ℕ) → x ≡ Unsettled n → budget ≤ n
  -- it is settled only where all have ended
  pub ended : (n : ℕ) → x ≡ All n → AllHaveEnded d t.core t.rows
  -- it ends as shut only where the reading of the last halt failed
  pub shut : (n : ℕ) → x ≡ Shut n → t.core.shut ≡ true
  -- it is stuck only with a cause
  pub cause : (n : ℕ) (waiting : List (ℕ × EventReply)) → HasNoLock d → x ≡ Stuck n waiting → HasCause t.core t.rows waiting
  -- with a budget above the work what can end ends
  pub completes : (asked : IntentId → List Answer) → AreAsked d t.rows asked → HasNoLock d → NoneIsLate s.core s.rows → t.faults ≡ s.faults → IsBelowEnd t.faults → IsUnhindered t.core x → work_of d asked s t < budget → (n : ℕ) × (x ≡ All n)

-- so it is of every settling, from its first event on
abbrev pub SettlesAsPromised : Type 0
SettlesAsPromised = (d : Deployment) (room budget : ℕ) (s t : State) (x : Settled) → Sound d s.core s.rows → s.core.now ≤ last_moment → Settles d room budget (go_on budget first_at) s (Over x) t → Promises d budget s t x

-- and where the rows have the invariant, each intent that has a body has a list of answers that they hold
abbrev pub IntentsAreAsked : Type 0
IntentsAreAsked = (d : Deployment) (c : Core) (m : Rows) → Upkeep d c m → (asked : IntentId → List Answer) × AreAsked d m asked
