-- The history of each instance, and what it expects of the rows: by its answers alone, inside transactions and outside.
use Rattle.std.specs.Prelude.{◌≡◌, ℕ, ◌==◌, ◌&&◌, ◌||◌, not, Bool, true, false, List, [], ◌∷◌, ◌++◌, length, take, slice_get, Option, Some, None, is_some, if◌then◌else◌}
use Rattle.std.specs.{FinMap.FinMap, Option.option_map, Ordering.is_eq}
use Rattle.std.specs.FinMap as map
use Rattle.beldi_value.specs.{Id.id_cmp, Id.child_of, declared.id.IntentId.IntentId, declared.outcome.Outcome.Outcome, declared.place.Owner.TheVariants.Tx, declared.place.Place.Place, declared.place.TxId.TxId, declared.value.Value.Value}
use Rattle.beldi_tree.specs.declared.deployment.Deployment.{Deployment}
use Rattle.beldi_lang.specs.declared.effect.{Answer.Answer, Effect.Effect}
use Rattle.beldi_plain.specs.{Plain.answered_if, Plain.Instance, Plain.answered, Plain.effect_of, Item.Item, Item.item_cmp, Operation.OnItem, Operation.op_of, Operation.touched, Transaction.is_aborted}
use Rattle.beldi_plain_laws.specs.Txs.{effect_after, along, end_of, tx_after, tx_now}
use Rattle.beldi_row.specs.{declared.notes.Note.Note, Log.owner_eq}
pub use Rattle.beldi_step.specs.Run.{local_answer}
use Rattle.beldi_histories.specs.Expected.{note_of, value_for, called_by}

-- the histories of the instances
abbrev pub Histories : Type 0
Histories = FinMap id_cmp Instance

-- ---- what takes no turn
-- nothing follows an outcome
abbrev pub local_step_if : Deployment → IntentId → Instance → Option Outcome → Instance
local_step_if d id q None = answered_if q (local_answer id (length q.answers) (effect_of d q))
local_step_if d id q (Some o) = q

abbrev pub local_step : Deployment → IntentId → Instance → Instance
local_step d id q = local_step_if d id q q.outcome

-- after a Begin comes no Begin, and after an Abort neither: so twice is enough
abbrev pub local_steps : Deployment → IntentId → Instance → Instance
local_steps d id q = local_step d id (local_step d id q)

-- an answer, and then what takes no turn
abbrev pub advanced : Deployment → IntentId → Instance → Answer → Instance
advanced d id q a = local_steps d id (answered q a)

-- ---- what a run goes on to: its answers, and those that take no turn
abbrev pub and_local : List Answer → Option Answer → List Answer
and_local given None = given
and_local given (Some a) = given ++ a ∷ []

abbrev pub run_local : Deployment → IntentId → Instance → List Answer → List Answer
run_local d id q given = and_local given (local_answer id (length given) (effect_after d q given))

abbrev pub run_on : Deployment → IntentId → Instance → List Answer → List Answer
run_on d id q given = run_local d id q (run_local d id q given)

-- a run's answers are the first that are known
pub record Prefix (given : List Answer) (q : Instance) : Type 0 where
  pub later : List Answer
  pub all : given ++ later ≡ q.answers

-- what a step expects, by the answers before it and its answer; nothing before it is answered
abbrev pub at_step : {X : Type 0} → (List Answer → Answer → Option X) → List Answer → Option Answer → Option X
at_step f given None = None
at_step f given (Some a) = f given a

abbrev pub tx_eq : TxId → TxId → Bool
tx_eq s t = owner_eq (Tx s) (Tx t)

abbrev pub is_tx : TxId → Option TxId → Bool
is_tx t None = false
is_tx t (Some s) = tx_eq t s

-- ---- what operations touch
abbrev pub is_item : Item → ℕ → Option (ℕ × List ℕ) → Bool
is_item x func None = false
is_item x func (Some o) = is_eq (item_cmp (record { func = func; table = o.0; key = o.1 }) x)

-- an operation that writes
abbrev pub write_op : Effect → Option OnItem
write_op (Effect.Write t k v) = op_of (Effect.Write t k v)
write_op (Effect.CondWrite t k r o v) = op_of (Effect.CondWrite t k r o v)
write_op e = None

-- ---- the rows of reads and decisions
-- a read's value, outside and inside
abbrev pub read_at : Deployment → Instance → ℕ → Option Value
read_at d q n = at_step (λ given a. value_for (effect_after d q given) a) (take n q.answers) (slice_get q.answers n)

abbrev pub decision_by : Option (ℕ × Bool) → Option Value
decision_by None = None
decision_by (Some e) = Some (Value.Bool e.1)

abbrev pub value_or : Option Value → Option Value → Option Value
value_or None b = b
value_or (Some v) b = Some v

-- .. or, at a Begin whose End was answered, whether it is a commit
abbrev pub row_at : Deployment → Instance → ℕ → Option Value
row_at d q n = value_or (decision_by (end_of d q n)) (read_at d q n)

-- what the log of a function has of an instance's step
abbrev pub expected_value : Deployment → ℕ → ℕ → Option Instance → Option Value
expected_value d func n None = None
expected_value d func n (Some q) = if q.func == func then row_at d q n else None

abbrev pub expected_read : Deployment → Histories → ℕ → Place → Option Value
expected_read d histories func a = expected_value d func a.step (map.get histories a.intent)

-- ---- calls
-- the call that the log of a function has at a place: the one that the place's instance made there
abbrev pub expected_call : Histories → ℕ → Place → Option (ℕ × Option Outcome)
expected_call histories f a = called_by f (map.get histories a.intent) (map.get histories (child_of a.intent a.step))

-- ---- the notes of a plain item
-- of the lock of an operation inside: a death, or the lock
abbrev pub lock_note : Answer → Option Note
lock_note (Answer.Aborted c) = option_map Note.Died c.holder
lock_note a = Some Note.Got

-- the note of an answer: outside as the operation's, inside as of its lock
abbrev pub note_by : Item → ℕ → Option TxId → Effect → Answer → Option Note
note_by x func None e a = note_of x func (op_of e) a
note_by x func (Some t) e a = if is_item x func (touched e) then lock_note a else None

abbrev pub answered_note : Deployment → Item → IntentId → ℕ → Instance → Option Note
answered_note d x id n q = at_step (λ given a. note_by x q.func (tx_after d id q given) (effect_after d q given) a) (take n q.answers) (slice_get q.answers n)

-- a lock that is ahead of its answer: of an operation that is not answered yet
abbrev pub ahead_by : Item → ℕ → Option TxId → Effect → Bool → Option Note
ahead_by x func (Some t) e true = if is_item x func (touched e) then Some Note.Got else None
ahead_by x func t e b = None

abbrev pub ahead_note : Deployment → Item → IntentId → Bool → ℕ → Instance → Option Note
ahead_note d x id b n q = if n == length q.answers then ahead_by x q.func (tx_now d id q) (effect_of d q) b else None

abbrev pub note_or : Option Note → Option Note → Option Note
note_or None b = b
note_or (Some n) b = Some n

abbrev pub expected_note : Deployment → Item → IntentId → Bool → ℕ → Option Instance → Option Note
expected_note d x id b n None = None
expected_note d x id b n (Some q) = note_or (answered_note d x id n q) (ahead_note d x id b n q)

-- ---- the notes of a transaction's shadow of an item
abbrev pub shadow_by : TxId → Item → ℕ → Option TxId → Effect → Answer → Option Note
shadow_by t x func s e a = if is_tx t s then note_of x func (write_op e) a else None

abbrev pub shadow_at : Deployment → TxId → Item → IntentId → ℕ → Instance → Option Note
shadow_at d t x id n q = at_step (λ given a. shadow_by t x q.func (tx_after d id q given) (effect_after d q given) a) (take n q.answers) (slice_get q.answers n)

abbrev pub expected_shadow : Deployment → TxId → Item → IntentId → ℕ → Option Instance → Option Note
expected_shadow d t x id n None = None
expected_shadow d t x id n (Some q) = shadow_at d t x id n q

-- ---- lockset rows
abbrev pub begins_at : ℕ → Option TxId → Bool
begins_at b None = false
begins_at b (Some t) = t.begin == b

-- an operation on the item, of the Begin at this step
abbrev pub asks_lock : ℕ → Item → ℕ → Option TxId → Effect → Bool
asks_lock b x func t e = begins_at b t && is_item x func (touched e)

-- some such operation was answered; a death as well
abbrev pub lockset_of : Deployment → ℕ → Item → IntentId → Instance → Bool
lockset_of d b x id q = along (λ given a r. r || asks_lock b x q.func (tx_after d id q given) (effect_after d q given)) [] q.answers false

abbrev pub expected_lockset : Deployment → ℕ → Item → IntentId → Option Instance → Bool
expected_lockset d b x id None = false
expected_lockset d b x id (Some q) = lockset_of d b x id q

-- ---- what a transaction has got
-- an operation of the transaction on the item
abbrev pub is_on : TxId → Item → ℕ → Option TxId → Effect → Bool
is_on t x func s e = is_tx t s && is_item x func (touched e)

-- one was answered, and did not die
abbrev pub got_before : Deployment → TxId → Item → IntentId → Instance → Bool
got_before d t x id q = along (λ given a r. r || (is_on t x q.func (tx_after d id q given) (effect_after d q given) && not (is_aborted a))) [] q.answers false

-- .. or has its lock ahead of its answer
abbrev pub got_by : Deployment → TxId → Item → IntentId → Bool → Option Instance → Bool
got_by d t x id b None = false
got_by d t x id b (Some q) = got_before d t x id q || (b && is_on t x q.func (tx_now d id q) (effect_of d q))

-- some instance has; only members of the transaction can
pub record Got (d : Deployment) (histories : Histories) (lock_ahead : IntentId → Bool) (t : TxId) (x : Item) : Type 0 where
  pub member : IntentId
  pub got : got_by d t x member (lock_ahead member) (map.get histories member) ≡ true

-- how a transaction ended
abbrev pub ended_by : Deployment → ℕ → Option Instance → Option (ℕ × Bool)
ended_by d b None = None
ended_by d b (Some q) = end_of d q b

abbrev pub tx_end : Deployment → Histories → TxId → Option (ℕ × Bool)
tx_end d histories t = ended_by d t.begin (map.get histories t.intent)

-- ---- the places of releases: the End of a decided transaction, and the last step of who was called in one
abbrev pub commit_in : Effect → Option Bool
commit_in (Effect.End c) = Some c
commit_in e = None

-- an End that was answered
abbrev pub ended_at : Deployment → Instance → ℕ → Option Bool
ended_at d q n = at_step (λ given a. commit_in (effect_after d q given)) (take n q.answers) (slice_get q.answers n)

abbrev pub last_step : ℕ
last_step = 4294967295

abbrev pub is_decided : Deployment → Histories → Option TxId → Bool
is_decided d histories None = false
is_decided d histories (Some t) = is_some (tx_end d histories t)

abbrev pub is_mark : Deployment → Histories → ℕ → Option Instance → Bool
is_mark d histories n None = false
is_mark d histories n (Some q) = is_some (ended_at d q n) || (is_decided d histories q.enclosing && (n == last_step))
