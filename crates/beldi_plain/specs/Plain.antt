-- The plain state, its step, and the state after an entry.
use Rattle.std.specs.Prelude.{◌≡◌, ◌≤◌, ℕ, suc, zero, Bool, true, false, List, [], ◌∷◌, ◌++◌, length, take, Option, Some, None, is_some, if◌then◌else◌}
use Rattle.std.specs.FinMap.{FinMap}
use Rattle.std.specs.FinMap as map
use Rattle.beldi_value.specs.{Id.id_cmp, Id.root_of, Id.child_of, Id.has_callees, declared.id.IntentId.IntentId, declared.value.Value.Value, declared.outcome.Outcome.Outcome, declared.place.Caller.Caller, declared.place.TxId.TxId}
use Rattle.beldi_tree.specs.{declared.deployment.Deployment.Deployment, Bindings.or_null}
use Rattle.beldi_lang.specs.{declared.effect.Answer.Answer, declared.effect.Effect.Effect, Callee.answer_of, Wants.wants}
use Rattle.beldi_plain.specs.Operation.{Operation, OnItem, op_of, item_in, sets, set_if, answer_after}
use Rattle.beldi_plain.specs.{Item.Item, Item.item_cmp, declared.kind.Kind.Kind}

-- an instance of a function: what it was called with, who called it, the transaction that it was called in, what its effects were
-- answered, and how it ended. A root has no caller, and was called in none.
pub record Instance : Type 0 where
  pub func : ℕ
  pub args : Value
  pub parent : Option Caller
  pub enclosing : Option TxId
  pub answers : List Answer
  pub outcome : Option Outcome

-- one that has made no step
abbrev pub new_instance : ℕ → Value → Option Caller → Instance
new_instance f a c = record { func = f; args = a; parent = c; enclosing = None; answers = []; outcome = None }

-- the items that are not null, and the instances that were made
pub record PlainState : Type 0 where
  pub items : FinMap item_cmp Value
  pub made : FinMap id_cmp Instance

-- an id has at most 63 hops
abbrev pub AllShort : FinMap id_cmp Instance → Type 0
AllShort made = (id : IntentId) → is_some (map.get made id) ≡ true → length id.hops ≤ 63

-- neither items nor instances
abbrev pub nothing : PlainState
nothing = record { items = map.empty; made = map.empty }

-- an absent item is null
abbrev pub value_at : PlainState → Item → Value
value_at p x = or_null (map.get p.items x)

-- the instance is so from now on
abbrev pub with_instance : PlainState → IntentId → Instance → PlainState
with_instance p id q = record p { made = map.insert p.made id q }

-- the effect that an instance stands at
abbrev pub effect_of : Deployment → Instance → Effect
effect_of d q = wants d q.func q.args (is_some q.enclosing) q.answers

-- how an effect of an instance is entered in a book: a read as one, an operation on an item, a call and a return as a change. A
-- transaction is entered whole; and what an id of 63 hops calls is not carried out.
abbrev pub kind_of : IntentId → Effect → Kind
kind_of id (Effect.Read t k) = Kind.Read
kind_of id (Effect.Write t k v) = Kind.Change
kind_of id (Effect.CondWrite t k r o v) = Kind.Change
kind_of id (Effect.Lock t k) = Kind.Change
kind_of id (Effect.Unlock t k) = Kind.Change
kind_of id (Effect.Return o) = Kind.Change
kind_of id (Effect.Call f a) = if has_callees id then Kind.Change else Kind.Unbuilt
kind_of id (Effect.Async f a) = if has_callees id then Kind.Change else Kind.Unbuilt
kind_of id Effect.Begin = Kind.Inside
kind_of id (Effect.End b) = Kind.Inside
kind_of id Effect.Abort = Kind.Inside

-- the id of what an instance calls at its next step, and who calls it, and waits or not
abbrev pub callee_of : IntentId → Instance → IntentId
callee_of id q = child_of id (length q.answers)

abbrev pub calls_at : IntentId → Instance → Bool → Caller
calls_at id q waits = record { place = record { intent = id; step = length q.answers }; func = q.func; waits = waits }

-- an instance waits at a call whose callee was made. One that nobody waits for is answered as it is made, and no callee is made
-- twice.
abbrev pub waits_at : FinMap id_cmp Instance → IntentId → Instance → Effect → Bool
waits_at made id q (Effect.Call f a) = is_some (map.get made (callee_of id q))
waits_at made id q (Effect.Async f a) = is_some (map.get made (callee_of id q))
waits_at made id q e = false

-- the effect that it had at a step, from 0
abbrev pub effect_before : Deployment → Instance → ℕ → Effect
effect_before d q n = wants d q.func q.args (is_some q.enclosing) (take n q.answers)

abbrev pub answered : Instance → Answer → Instance
answered q a = record q { answers = q.answers ++ a ∷ [] }

-- .. if it was answered
abbrev pub answered_if : Instance → Option Answer → Instance
answered_if q None = q
answered_if q (Some a) = answered q a

-- an item of an instance's function
abbrev pub item_of : Instance → ℕ → List ℕ → Item
item_of q t k = record { func = q.func; table = t; key = k }

-- an operation on an item, by the value that is there
abbrev pub operate : PlainState → IntentId → Instance → Item → Operation → PlainState
operate p id q x o = with_instance (record p { items = set_if p.items x (sets o (value_at p x)) }) id (answered q (answer_after o (value_at p x)))

abbrev pub operated : PlainState → IntentId → Instance → Option OnItem → PlainState
operated p id q None = p
operated p id q (Some o) = operate p id q (item_in q.func o) o.does

-- an instance ends
abbrev pub ended : Instance → Outcome → Instance
ended q o = record q { outcome = Some o }

-- .. and is answered, if it is there
abbrev pub give : PlainState → IntentId → Answer → Option Instance → PlainState
give p id a None = p
give p id a (Some q) = with_instance p id (answered q a)

-- who waits for an instance is answered by its outcome
abbrev pub answer_to : PlainState → Caller → Outcome → PlainState
answer_to p c o = if c.waits then give p c.place.intent (answer_of o) (map.get p.made c.place.intent) else p

abbrev pub answer_caller : PlainState → Option Caller → Outcome → PlainState
answer_caller p None o = p
answer_caller p (Some c) o = answer_to p c o

-- a callee is made
abbrev pub with_callee : PlainState → IntentId → Instance → ℕ → Value → Bool → PlainState
with_callee p id q f a waits = with_instance p (callee_of id q) (new_instance f a (Some (calls_at id q waits)))

-- what a step does, by the effect that the instance stands at: a read is answered by the item's value, an operation on an item is
-- done, and a call makes its callee, which answers it when it returns, or at once where nobody waits for it. Effects of transactions
-- are no step.
abbrev pub step_by : PlainState → IntentId → Instance → Effect → PlainState
step_by p id q (Effect.Read t k) = with_instance p id (answered q (Answer.Value (value_at p (item_of q t k))))
step_by p id q (Effect.Call f a) = with_callee p id q f a true
step_by p id q (Effect.Async f a) = with_instance (with_callee p id q f a false) id (answered q Answer.Done)
step_by p id q (Effect.Return o) = answer_caller (with_instance p id (ended q o)) q.parent o
step_by p id q e = operated p id q (op_of e)

-- what an instance comes to that was made, has no outcome and does not wait for a callee; there is no step of any other
abbrev pub if_open : {X : Type 0} → Option Outcome → Option X → Option X
if_open None x = x
if_open (Some o) x = None

abbrev pub unless : {X : Type 0} → Bool → Option X → Option X
unless true x = None
unless false x = x

abbrev pub can_step : {X : Type 0} → Option Instance → (Instance → Bool) → (Instance → Option X) → Option X
can_step None w f = None
can_step (Some q) w f = if_open q.outcome (unless (w q) (f q))

-- the instance waits at the effect that it stands at
abbrev pub is_waiting : Deployment → PlainState → IntentId → Instance → Bool
is_waiting d p id q = waits_at p.made id q (effect_of d q)

-- what there is only of an effect that is carried out ..
abbrev pub if_built : {X : Type 0} → Kind → X → Option X
if_built Kind.Read x = Some x
if_built Kind.Change x = Some x
if_built Kind.Inside x = None
if_built Kind.Unbuilt x = None

-- .. only of a read ..
abbrev pub if_read : {X : Type 0} → Kind → X → Option X
if_read Kind.Read x = Some x
if_read Kind.Change x = None
if_read Kind.Inside x = None
if_read Kind.Unbuilt x = None

-- .. and only of a change
abbrev pub if_change : {X : Type 0} → Kind → X → Option X
if_change Kind.Read x = None
if_change Kind.Change x = Some x
if_change Kind.Inside x = None
if_change Kind.Unbuilt x = None

-- the state after the next step of an instance; none where its effect is no step
abbrev pub step : Deployment → PlainState → IntentId → Option PlainState
step d p id = can_step (map.get p.made id) (is_waiting d p id) (λ q. if_built (kind_of id (effect_of d q)) (step_by p id q (effect_of d q)))

-- a root is started once, and tickets begin at 1
abbrev pub start : PlainState → ℕ → ℕ → Value → Option Instance → Option PlainState
start p zero f a q = None
start p (suc t) f a None = Some (with_instance p (root_of (suc t)) (new_instance f a None))
start p (suc t) f a (Some q) = None

-- the outcome of a ticket's root
abbrev pub outcome_of : Option Instance → Option Outcome
outcome_of None = None
outcome_of (Some q) = q.outcome

abbrev pub reply_of : PlainState → ℕ → Option Outcome
reply_of p t = outcome_of (map.get p.made (root_of t))
