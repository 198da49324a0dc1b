-- The turns to come, as a ledger: an amount for each live run, which covers what it may still take, and the keys of the intents for which a
-- run may be started.
use Rattle.std.specs.Prelude.{◌≡◌, ◌⊎◌, ℕ, suc, ◌+◌, ◌*◌, ◌-◌, ◌<◌, ◌≤◌, ◌==◌, ◌^◌, Bool, true, false, List, [], ◌∷◌, length, Option, Some, None, Ok, if◌then◌else◌}
use Rattle.std.specs.FinMap as map
use Rattle.beldi_value.specs.{Id.child_of, declared.id.IntentId.IntentId, declared.value.Value.Value}
use Rattle.beldi_tree.specs.declared.deployment.Deployment.{Deployment}
use Rattle.beldi_lang.specs.declared.effect.{Answer.Answer, Effect.Effect}
use Rattle.beldi_plain.specs.Plain.{effect_of}
use Rattle.beldi_row.specs.{Key.RowKey, Table.Rows, declared.key.Kind.Kind, declared.row.Body.Body, declared.row.Row.Row}
use Rattle.beldi_invokelog.specs.InvokeLog.{call_at, invoke_key, registered_in}
use Rattle.beldi_intent.specs.Intent.{intent_key}
use Rattle.beldi_call.specs.declared.{async_call.AsyncAt.AsyncAt}
use Rattle.beldi_step.specs.{HostStep.Core, HostStep.EventOn, HostStep.last_moment, Next.next_run, Run.place_of, declared.event.Event.Event, declared.event.EventReply.EventReply, declared.run.Begun.Begun, declared.run.Run.Run, declared.run.RunAt.RunAt, declared.run.Stage.Stage}
use Rattle.beldi_schedule.specs.{Settle.is_turned_away, Settle.counts, Settle.is_waiting}
use Rattle.beldi_bound.specs.{Cost.AreAsked, Cost.cost_at, Cost.with_answers, Ends.IsIn, Ends.Sound, SettleWork.has_ended, SettleWork.one_more, SettleWork.seat, SettleWork.sum_of}
use Rattle.beldi_upkeep.specs.Checked.{body_at}
use Rattle.beldi_bound.proofs.{Facts.GoesOn, Facts.Stands, Facts.begun_left, ResultsCome.ResultsCome}

-- ---- amounts by the numbers of runs; the first one counts
abbrev pub find : ℕ → List (ℕ × ℕ) → Option ℕ
find i [] = None
find i (x ∷ xs) = if i == x.0 then Some x.1 else find i xs

abbrev pub amount : ℕ × ℕ → ℕ
amount x = x.1

abbrev pub total : (RowKey → ℕ) → List (ℕ × ℕ) → List RowKey → ℕ
total cost runs keys = sum_of amount runs + sum_of (one_more cost) keys

-- ---- what an amount covers
-- a live run that was started since, of the intent with this key
pub record IsStarted (first : ℕ) (c : Core) (k : RowKey) : Type 0 where
  pub number : ℕ
  pub run : Run
  pub since : first < number
  pub live : map.get c.runs number ≡ Some run
  pub own : seat run ≡ k

module _ (d : Deployment) (room : ℕ) (e : Rows) (asked : IntentId → List Answer) (first most : ℕ) where
  abbrev pub cost : RowKey → ℕ
  cost k = cost_at d e asked k

  -- ---- calls that are never answered
  -- the callee of the last effect that is asked of an intent, where that is a call whose callee has no body in the end. Nobody gets past
  -- it, so its Look is a turn that no run of the intent needs: it pays for the start of the callee's run, whose key is there from the start.
  abbrev pub callee_key : IntentId → ℕ → Effect → Option RowKey
  callee_key id step (Effect.Call f v) = Some (intent_key (child_of id step) f)
  callee_key id step f = None

  abbrev pub if_free : Option RowKey → Option RowKey
  if_free None = None
  if_free (Some j) = if cost j == 0 then Some j else None

  abbrev pub stuck_by : IntentId → Option Body → Option RowKey
  stuck_by id None = None
  stuck_by id (Some b) = if_free (callee_key id (length (asked id)) (effect_of d (with_answers b (asked id))))

  abbrev pub stuck_in : Kind → Option Row → Option RowKey
  stuck_in (Kind.Intent id) r = stuck_by id (body_at r)
  stuck_in k r = None

  abbrev pub stuck : RowKey → Option RowKey
  stuck k = stuck_in k.kind (map.get e k)

  abbrev pub spare_of : Option RowKey → ℕ
  spare_of None = 0
  spare_of (Some j) = 1

  -- the turn that is not needed, and what is due for an intent without it
  abbrev pub spare : RowKey → ℕ
  spare k = spare_of (stuck k)

  abbrev pub due : RowKey → ℕ
  due k = cost k - spare k

  -- an intent that may get a run, or has one that was started since
  abbrev pub IsPaid : Core → List RowKey → RowKey → Type 0
  IsPaid c keys k = IsIn k keys ⊎ IsStarted first c k

  -- a run between the opening of its asynchronous call and the note of it: it is the one that is given turns, and its callee is not yet
  -- registered; or the table is full, and its callee's row is not there
  pub data IsMidway (past : ℕ) (c : Core) (m : Rows) (i : ℕ) (r : Run) (g : Begun) : Type 0 where
    acts : next_run c past ≡ Some i → registered_in (call_at m (invoke_key r.func (place_of r.id g.machine.steps))) ≡ false → IsMidway past c m i r g
    stands : (f : ℕ) (v : Value) → g.machine.effect ≡ Effect.Async f v → g.stage ≡ Stage.Async AsyncAt.Register → room ≤ map.len m → map.get m (intent_key (child_of r.id g.machine.steps) f) ≡ None → IsMidway past c m i r g

  -- by where a run stands in its effect; this much is left of it. One that is midway covers what is left, any other such run a turn more, of
  -- the run that it may start for a callee that has ended.
  abbrev pub CoversAt : ℕ → Core → Rows → ℕ → Run → Begun → ℕ → ℕ → Stage → Type 0
  CoversAt past c m i r g left n (Stage.Async AsyncAt.Open) = left ≤ n
  CoversAt past c m i r g left n (Stage.Async w) = (suc left ≤ n) ⊎ ((left ≤ n) × IsMidway past c m i r g)
  CoversAt past c m i r g left n w = left ≤ n

  abbrev pub Covers : ℕ → Core → Rows → List RowKey → ℕ → Run → ℕ → RunAt → Type 0
  Covers past c m keys i r n RunAt.Looks = (1 ≤ n) × (has_ended (map.get m (seat r)) ≡ false → cost (seat r) ≤ spare (seat r) + n)
  Covers past c m keys i r n (RunAt.Registers b) = cost (seat r) ≤ spare (seat r) + n
  Covers past c m keys i r n (RunAt.Begins g) = (s : Stands d e asked r g) × CoversAt past c m i r g (begun_left m s) (spare (seat r) + n) g.stage × ((j : RowKey) → stuck (seat r) ≡ Some j → IsPaid c keys j)

  -- a run that looks finds its body
  pub record HasBody (m : Rows) (r : Run) : Type 0 where
    pub body : Body
    pub there : body_at (map.get m (seat r)) ≡ Some body
    pub func : body.func ≡ r.func

  pub record IsCovered (past : ℕ) (c : Core) (m : Rows) (keys : List RowKey) (i : ℕ) (r : Run) (n : ℕ) : Type 0 where
    pub covers : Covers past c m keys i r n r.at
    -- one that is past its deadline has a turn to expire in; one that was started since has time
    pub late : r.deadline < c.now → (1 ≤ n) × (i ≤ first)
    -- a failure of the table is worth what its intent costs, unless that ended before and the run was started since
    pub worth : (i ≤ first) ⊎ (has_ended (map.get m (seat r)) ≡ false) → cost (seat r) ≤ most
    pub some : first < i → 1 ≤ most
    pub looks : first < i → r.at ≡ RunAt.Looks → HasBody m r

  -- ---- the ledger
  pub record Ledger (past : ℕ) (c : Core) (m : Rows) (runs : List (ℕ × ℕ)) (keys : List RowKey) : Type 0 where
    pub runs_covered : (i : ℕ) (r : Run) → map.get c.runs i ≡ Some r → (n : ℕ) × (find i runs ≡ Some n) × IsCovered past c m keys i r n
    -- an intent with a body in the end that has not ended may get a run, or has one that was started since
    pub open_covered : (k : RowKey) → 1 ≤ cost k → has_ended (map.get m k) ≡ false → IsPaid c keys k
    -- and so has the callee of a call that is never answered, of an intent that has not ended
    pub stuck_paid : (k j : RowKey) → stuck k ≡ Some j → has_ended (map.get m k) ≡ false → IsPaid c keys j
    pub keys_worth : (k : RowKey) → IsIn k keys → cost k ≤ most
    pub since : first ≤ c.last_run

  -- what an event makes of it: its entries after that, which count `turns` less, but for failures
  pub record Pays (past : ℕ) (runs : List (ℕ × ℕ)) (keys : List RowKey) (turns failures : ℕ) (b : Core) (n : Rows) : Type 0 where
    pub runs_then : List (ℕ × ℕ)
    pub keys_then : List RowKey
    pub ledger : Ledger past b n runs_then keys_then
    pub less : turns + total due runs_then keys_then ≤ total due runs keys + failures * (most + 1)

  -- ---- the statements
  abbrev pub turn_of : Bool → ℕ
  turn_of true = 0
  turn_of false = 1

  abbrev pub past_after : Bool → ℕ → ℕ → ℕ
  past_after true i past = i
  past_after false i past = past

  -- a turn of the least live run past a number: it waits, or counts one
  abbrev pub TurnsPay : Type 0
  TurnsPay = (past old new i : ℕ) (c b : Core) (m n : Rows) (x : EventReply) (runs : List (ℕ × ℕ)) (keys : List RowKey) (z : Core) → Sound d c m → Sound d b n → Sound d z e → AreAsked d e asked → GoesOn n e → ResultsCome n e → new < 2 ^ 64 - 1 → next_run c past ≡ Some i
      → EventOn d room old new (Event.Turn i) c m b n (Ok x) → is_turned_away x ≡ false → Ledger past c m runs keys → Pays (past_after (is_waiting x) i past) runs keys (turn_of (is_waiting x)) (new - old) b n

  -- an event of the intent collector, while no run past that number is given turns: it counts one where it started a run, or the table failed
  abbrev pub RoundsPay : Type 0
  RoundsPay = (past old new : ℕ) (c b : Core) (m n : Rows) (x : EventReply) (runs : List (ℕ × ℕ)) (keys : List RowKey) (z : Core) → Sound d c m → Sound d b n → Sound d z e → AreAsked d e asked → GoesOn n e → new < 2 ^ 64 - 1 → c.now ≤ last_moment
      → ((i : ℕ) (r : Run) (g : Begun) → next_run c past ≡ Some i → map.get c.runs i ≡ Some r → r.at ≡ RunAt.Begins g → ⊥)
      → EventOn d room old new Event.Ic c m b n (Ok x) → is_turned_away x ≡ false → Ledger past c m runs keys → Pays past runs keys (if counts x then 1 else 0) (new - old) b n
