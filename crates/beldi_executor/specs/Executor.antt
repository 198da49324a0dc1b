-- What contracts see of the executor, and which machines it keeps.
use Rattle.std.specs.Prelude.{◌≡◌, ◌⊎◌, ℕ, Bool, length, take, List, Option, Some, None, Result, Ok, Err, IsTrue, true, is_some, if◌then◌else◌}
use Rattle.std.specs.{FinMap.FinMap, declared.alloc.AllocError.AllocError}
use Rattle.std.specs.FinMap as map
use Rattle.beldi_value.specs.{Id.id_cmp, declared.id.IntentId.IntentId, declared.value.Value.Value, declared.outcome.Outcome.Outcome, declared.place.Caller.Caller}
use Rattle.beldi_tree.specs.{Bindings.or_null, declared.deployment.Deployment.Deployment}
use Rattle.beldi_lang.specs.{declared.effect.Answer.Answer, declared.effect.Effect.Effect, declared.machine.Machine.Machine, Callee.answer_of, Machine.IsAt, Machine.resumed, Wants.wants, Wants.wants_answer}
use Rattle.beldi_plain.specs.Operation.{Operation, OnItem, op_of, item_in, sets, set_if, answer_after}
use Rattle.beldi_plain.specs.{Item.Item, Item.item_cmp, Plain.PlainState, Plain.Instance, Plain.answered, Plain.item_of, Plain.step_by, Plain.answered_if}
use Rattle.beldi_executor.specs.declared.next.Next.{Next}

-- the deployment whose bodies are run, and the plain state
pub record Executor : Type 0 where
  pub code : Deployment
  pub state : PlainState

-- the machine wants the effect that a body wants after these answers, called in a transaction or not, and where that is answered,
-- it stands where they led
abbrev pub StandsAfter : Deployment → ℕ → Value → Bool → List Answer → Machine → Type 0
StandsAfter d func args inherited answers m = (m.effect ≡ wants d func args inherited answers) × (IsTrue (wants_answer m.effect) → IsAt d func args inherited m answers)

-- .. after the answers of an instance
abbrev pub StandsFor : Deployment → Instance → Machine → Type 0
StandsFor d q m = StandsAfter d q.func q.args (is_some q.enclosing) q.answers m

-- .. that has not returned
abbrev pub StandsForOne : Deployment → Option Instance → Machine → Type 0
StandsForOne d None m = ⊥
StandsForOne d (Some q) m = (q.outcome ≡ None) × StandsFor d q m

-- each machine that is kept stands for the instance of its id, and that has not returned
abbrev pub AllStand : Deployment → FinMap id_cmp Instance → FinMap id_cmp Machine → Type 0
AllStand d made machines = (id : IntentId) (m : Machine) → map.get machines id ≡ Some m → StandsForOne d (map.get made id) m

-- ---- what an effect does, part by part

-- the answer to an operation on an item
abbrev pub answer_on : FinMap item_cmp Value → Item → Operation → Answer
answer_on items x o = answer_after o (or_null (map.get items x))

abbrev pub answer_if : FinMap item_cmp Value → Instance → Option OnItem → Option Answer
answer_if items q None = None
answer_if items q (Some o) = Some (answer_on items (item_in q.func o) o.does)

-- the answer to an effect that is answered at once
abbrev pub answer_by : FinMap item_cmp Value → Instance → Effect → Option Answer
answer_by items q (Effect.Read t k) = Some (Answer.Value (or_null (map.get items (item_of q t k))))
answer_by items q e = answer_if items q (op_of e)

abbrev pub instance_by : FinMap item_cmp Value → Instance → Effect → Instance
instance_by items q e = answered_if q (answer_by items q e)

-- the items, after an operation
abbrev pub items_on : FinMap item_cmp Value → Item → Operation → FinMap item_cmp Value
items_on items x o = set_if items x (sets o (or_null (map.get items x)))

abbrev pub items_if : FinMap item_cmp Value → Instance → Option OnItem → FinMap item_cmp Value
items_if items q None = items
items_if items q (Some o) = items_on items (item_in q.func o) o.does

-- .. and after an effect
abbrev pub items_by : FinMap item_cmp Value → Instance → Effect → FinMap item_cmp Value
items_by items q e = items_if items q (op_of e)

-- an instance makes a read or an operation: Ok with its answer; out of memory, nothing changed
abbrev pub Acted : FinMap item_cmp Value → FinMap item_cmp Value → Instance → Instance → Effect → Result (Option Answer) AllocError → Type 0
Acted old new q r e (Ok o) = (new ≡ items_by old q e) × (r ≡ instance_by old q e) × (o ≡ answer_by old q e)
Acted old new q r e (Err w) = (new ≡ old) × (r ≡ q)

-- .. among all instances
abbrev pub ActedAt : FinMap item_cmp Value → FinMap item_cmp Value → FinMap id_cmp Instance → FinMap id_cmp Instance → IntentId → Instance → Effect → Result (Option Answer) AllocError → Type 0
ActedAt old new a b id q e (Ok o) = (new ≡ items_by old q e) × (b ≡ map.insert a id (instance_by old q e)) × (o ≡ answer_by old q e)
ActedAt old new a b id q e (Err w) = (new ≡ old) × (b ≡ a)

-- the instances, after this became of one that is there
abbrev pub at_one : FinMap id_cmp Instance → IntentId → (Instance → Instance) → Option Instance → FinMap id_cmp Instance
at_one made id f None = made
at_one made id f (Some q) = map.insert made id (f q)

-- its first answers alone
abbrev pub cut_to : ℕ → Instance → Instance
cut_to n q = record q { answers = take n q.answers }

-- who waits for an instance
abbrev pub waiter : Option Caller → Option IntentId
waiter None = None
waiter (Some c) = if c.waits then Some c.place.intent else None

-- ---- what a step leaves for the machines

abbrev pub next_of : Option Answer → Next
next_of None = Next.Stays
next_of (Some a) = Next.Answered a

abbrev pub next_told : Option IntentId → Outcome → Next
next_told None o = Next.Ended
next_told (Some c) o = Next.Tells c (answer_of o)

abbrev pub next_by : FinMap item_cmp Value → Instance → Effect → Next
next_by items q (Effect.Async f a) = Next.Answered Answer.Done
next_by items q (Effect.Return o) = next_told (waiter q.parent) o
next_by items q e = next_of (answer_by items q e)

-- a step has this number, where its effect is answered
abbrev pub IsNumber : ℕ → Instance → Effect → Type 0
IsNumber n q e = wants_answer e ≡ true → n ≡ length q.answers

-- a read or an operation is made ..
abbrev pub IsActed : PlainState → PlainState → IntentId → Instance → Effect → Result Next AllocError → Type 0
IsActed p r id q e (Ok n) = (r ≡ record { items = items_by p.items q e; made = map.insert p.made id (instance_by p.items q e) }) × (n ≡ next_of (answer_by p.items q e))
IsActed p r id q e (Err w) = r ≡ p

-- .. and any effect: Ok with the state after the step; out of memory, nothing changed
abbrev pub Made : PlainState → PlainState → IntentId → Instance → Effect → Result Next AllocError → Type 0
Made p r id q e (Ok n) = (r ≡ step_by p id q e) × (n ≡ next_by p.items q e)
Made p r id q e (Err w) = r ≡ p

-- the machine of this id is kept, or none is
abbrev pub IsKept : FinMap id_cmp Machine → FinMap id_cmp Machine → IntentId → Machine → Type 0
IsKept a b id m = (b ≡ map.remove a id) ⊎ (b ≡ map.insert a id m)

-- the machine of who is answered goes on from the answer, or is not kept
abbrev pub Passes : Deployment → FinMap id_cmp Machine → FinMap id_cmp Machine → IntentId → Answer → Type 0
Passes d a b id x = (b ≡ map.remove a id) ⊎ ((m : Machine) × (map.get a id ≡ Some m) × (wants_answer m.effect ≡ true) × IsKept (map.remove a id) b id (resumed d m x))

-- what becomes of the machines that are kept, where this one made a step
abbrev pub Follows : Deployment → FinMap id_cmp Machine → FinMap id_cmp Machine → IntentId → Machine → Next → Type 0
Follows d a b id m (Next.Answered x) = IsKept a b id (resumed d m x)
Follows d a b id m Next.Stays = IsKept a b id m
Follows d a b id m Next.Ended = b ≡ map.remove a id
Follows d a b id m (Next.Tells c x) = Passes d (map.remove a id) b c x
