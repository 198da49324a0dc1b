-- What every state of a legal book is: each instance went as its body wants.
use Rattle.std.specs.Prelude.{◌≡◌, ℕ, Bool, ◌≤◌, ◌<◌, true, false, not, List, length, take, slice_get, is_some, Option, Some, None}
use Rattle.std.specs.{Option.option_map, FinMap.FinMap}
use Rattle.std.specs.FinMap as map
use Rattle.beldi_value.specs.{Id.id_cmp, Id.is_older, Id.root_of, Id.child_of, declared.id.IntentId.IntentId, declared.outcome.Cause.Cause, declared.outcome.Outcome.Outcome, declared.place.Place.Place, declared.place.TxId.TxId}
use Rattle.beldi_value.specs.declared.value.Value as value
use Rattle.beldi_value.specs.declared.value.Value.TheVariants as values
use Rattle.beldi_tree.specs.declared.deployment.Deployment.{Deployment}
use Rattle.beldi_lang.specs.declared.effect.Effect.TheVariants.{Read, Write, CondWrite, Lock, Unlock, Call, Async, Begin, End, Abort, Return}
use Rattle.beldi_lang.specs.{declared.effect.Answer.Answer, declared.effect.Answer.TheVariants.Value, declared.effect.Answer.TheVariants.Done, declared.effect.Answer.TheVariants.Aborted, declared.effect.Effect.Effect, Callee.answer_of}
use Rattle.beldi_book.specs.declared.entry.Entry.{Entry}
use Rattle.beldi_plain.specs.{Plain.Instance, Plain.PlainState, Plain.effect_of, Plain.effect_before, Legal.run_of}
use Rattle.beldi_plain_laws.specs.Txs.{tx_at, txs_after, end_of}

-- an answer to a call: how its callee ended
abbrev pub CallAnswers : Answer → Type 0
CallAnswers Done = ⊥
CallAnswers a = Unit {0}

-- ---- answers to effects, by the transaction that they stand in
-- inside, an operation may die, of an older holder
pub record IsDeath (p : Place) (t : TxId) (c : Cause) : Type 0 where
  pub holder : IntentId
  pub cause : c ≡ record { place = p; holder = Some holder }
  pub older : is_older holder t.intent ≡ true

-- the answer is one to the effect
abbrev pub IsAnswer : Place → Option TxId → Effect → Answer → Type 0
IsAnswer p t (Read b k) (Value v) = Unit {0}
IsAnswer p t (Write b k v) Done = Unit {0}
IsAnswer p t (CondWrite b k r o v) (Value (values.Bool w)) = Unit {0}
IsAnswer p None (Lock b k) Done = Unit {0}
IsAnswer p None (Unlock b k) Done = Unit {0}
IsAnswer p (Some t) (Read b k) (Aborted c) = IsDeath p t c
IsAnswer p (Some t) (Write b k v) (Aborted c) = IsDeath p t c
IsAnswer p (Some t) (CondWrite b k r o v) (Aborted c) = IsDeath p t c
IsAnswer p t (Call f v) a = CallAnswers a
IsAnswer p None (Async f v) Done = Unit {0}
IsAnswer p t Begin Done = Unit {0}
IsAnswer p t (End c) Done = Unit {0}
IsAnswer p t Abort (Aborted c) = c ≡ record { place = p; holder = None }
IsAnswer p t e a = ⊥

-- what was answered was an effect that is answered so, where it stands
abbrev pub WentSo : Deployment → IntentId → Instance → Type 0
WentSo d id q = (n : ℕ) (a : Answer) → slice_get q.answers n ≡ Some a → IsAnswer (record { intent = id; step = n }) (tx_at d id q n) (effect_before d q n) a

-- an instance that went as its body wants
pub record WellFormedInstance (d : Deployment) (id : IntentId) (q : Instance) : Type 0 where
  pub past : WentSo d id q
  -- an outcome is there only where the body returns it
  pub over : (o : Outcome) → q.outcome ≡ Some o → effect_of d q ≡ Return o
  -- each of its own transactions has ended
  pub ended : (txs_after d q q.answers).begun ≡ None

-- what is at an id, if anything, is well formed
abbrev pub WellFormedAt : Deployment → IntentId → Option Instance → Type 0
WellFormedAt d id None = Unit {0}
WellFormedAt d id (Some q) = WellFormedInstance d id q

-- the effect of a call, whose caller waits or not; and how it is answered, by the outcome of the callee
abbrev pub call_of : Bool → ℕ → value.Value → Effect
call_of true f a = Call f a
call_of false f a = Async f a

abbrev pub answer_given : Bool → Option Outcome → Option Answer
answer_given true o = option_map answer_of o
answer_given false o = Some Done

-- the transaction that a callee is called in: where its caller waits, the one that the call stands in
abbrev pub enclosing_by : Bool → Option TxId → Option TxId
enclosing_by true o = o
enclosing_by false o = None

-- it was called at step n of the instance i, whose effect there is this call
pub record IsCalled (d : Deployment) (i : IntentId) (q : Instance) (n : ℕ) (j : Instance) : Type 0 where
  pub waits : Bool
  pub here : n ≤ length q.answers
  pub call : effect_before d q n ≡ call_of waits j.func j.args
  pub parent : j.parent ≡ Some (record { place = record { intent = i; step = n }; func = q.func; waits = waits })
  pub enclosing : j.enclosing ≡ enclosing_by waits (tx_at d i q n)
  -- where its caller waits, it has an outcome exactly where the call was answered, by that
  pub answered : slice_get q.answers n ≡ answer_given waits j.outcome

abbrev pub CalledBy : Deployment → IntentId → Option Instance → ℕ → Instance → Type 0
CalledBy d i None n j = ⊥
CalledBy d i (Some q) n j = IsCalled d i q n j

-- a step of a transaction that aborted: what it called is forgotten
abbrev pub forgets : Option (ℕ × Bool) → Bool
forgets None = false
forgets (Some e) = not e.1

abbrev pub forgets_begun : (ℕ → Option (ℕ × Bool)) → Option ℕ → Bool
forgets_begun ends None = false
forgets_begun ends (Some b) = forgets (ends b)

abbrev pub is_forgotten : Deployment → Instance → ℕ → Bool
is_forgotten d q n = forgets_begun (end_of d q) (txs_after d q (take n q.answers)).begun

-- a transaction that committed
pub record IsCommitted (d : Deployment) (f : FinMap id_cmp Instance) (t : TxId) : Type 0 where
  pub owner : Instance
  pub made : map.get f t.intent ≡ Some owner
  pub func : owner.func ≡ t.func
  pub outside : owner.enclosing ≡ None
  pub step : ℕ
  pub ends : end_of d owner t.begin ≡ Some (step, true)

pub record WellFormed (d : Deployment) (p : PlainState) : Type 0 where
  -- every instance that was made is
  pub each : (id : IntentId) → WellFormedAt d id (map.get p.made id)
  -- what has an id of a callee was called there
  pub called : (i : IntentId) (n : ℕ) (j : Instance) → map.get p.made (child_of i n) ≡ Some j → CalledBy d i (map.get p.made i) n j
  -- and a call that was answered has its callee, unless its transaction aborted
  pub callees : (i : IntentId) (q : Instance) (n : ℕ) (w : Bool) (f : ℕ) (a : value.Value) → map.get p.made i ≡ Some q → n < length q.answers → effect_before d q n ≡ call_of w f a → is_forgotten d q n ≡ false → is_some (map.get p.made (child_of i n)) ≡ true
  -- nobody called a root
  pub roots : (t : ℕ) (q : Instance) → map.get p.made (root_of t) ≡ Some q → (q.parent ≡ None) × (q.enclosing ≡ None)
  -- what was called in a transaction was called in one that committed
  pub committed : (i : IntentId) (q : Instance) (t : TxId) → map.get p.made i ≡ Some q → q.enclosing ≡ Some t → IsCommitted d p.made t

-- so it is at the end of a legal book
abbrev pub LegalIsWellFormed : Type 0
LegalIsWellFormed = (d : Deployment) (book : List Entry) (p : PlainState) → run_of d book ≡ Some p → WellFormed d p

-- and all that was called in a transaction has its outcome
abbrev pub InsideIsOver : Type 0
InsideIsOver = (d : Deployment) (p : PlainState) → WellFormed d p → (i : IntentId) (q : Instance) (t : TxId) → map.get p.made i ≡ Some q → q.enclosing ≡ Some t → is_some q.outcome ≡ true
