-- A transaction under way: the state in place, and as the transaction sees it.
use Rattle.std.specs.Prelude.{◌≡◌, ◌⊎◌, ◌≤◌, ◌<◌, ◌+◌, ◌==◌, ◌&&◌, ◌^◌, ℕ, suc, Bool, true, false, length, List, [], ◌∷◌, ◌++◌, Option, Some, None, is_some, not, option_and_then, Result, Ok, Err, if◌then◌else◌}
use Rattle.std.specs.{FinMap.FinMap, Ordering.is_eq, declared.alloc.AllocError.AllocError}
use Rattle.std.specs.FinMap as map
use Rattle.beldi_value.specs.{Id.id_cmp, Id.child_of, Id.has_callees, declared.id.IntentId.IntentId, declared.outcome.Outcome.Outcome, declared.place.Caller.Caller, declared.place.Place.Place, declared.place.TxId.TxId}
use Rattle.beldi_tree.specs.declared.deployment.Deployment.{Deployment}
use Rattle.beldi_lang.specs.{declared.effect.Answer.Answer, declared.effect.Effect.Effect, declared.machine.Machine.Machine, Callee.answer_of, Machine.IsAt, Wants.wants_answer}
use Rattle.beldi_plain.specs.Plain.{PlainState, Instance, with_instance, answered, ended, can_step, is_waiting, effect_of}
use Rattle.beldi_plain.specs.Transaction.{Going, enough, gives, opened, tx_begun, is_owner, is_same, moves_by, ends_on, abort_on, is_holder, with_answers}
use Rattle.beldi_executor.specs.{Answers.IsReady, Answers.IsFree, Answers.bar_step, Answers.bar_no, Answers.bar_holder, Undo.IsUndone, Undo.all_swept, declared.undo.Was.Was, declared.draft.Actor.Actor, declared.draft.Draft.Draft, declared.plain.Bar.Bar, declared.plain.Bar.TheVariants.OtherEffect, declared.plain.Bar.TheVariants.NoEnd, declared.plain.Bar.TheVariants.NoPlace, declared.plain.PlainErr.PlainErr, declared.plain.PlainErr.TheVariants.OutOfMemory, declared.plain.PlainErr.TheVariants.NotEnabled}

-- ---- in place

-- without those that were made since
abbrev pub all_gone : FinMap id_cmp Instance → List IntentId → FinMap id_cmp Instance
all_gone made [] = made
all_gone made (k ∷ ks) = map.remove (all_gone made ks) k

-- the instance, with more answers
abbrev pub Longer : Instance → Option Instance → Type 0
Longer q None = ⊥
Longer q (Some x) = (more : List Answer) × (x ≡ record q { answers = q.answers ++ more })

-- a state in place, where a transaction of `q` began at `p`: what was set can be put back, those that were made can be removed, and
-- of the other instances its owner alone is another, by its answers
pub record IsDraft (t : TxId) (p : PlainState) (q : Instance) (r : PlainState) (h : Draft) : Type 0 where
  pub tx : h.tx ≡ t
  pub undone : IsUndone p.items r.items h.undo
  pub others : map.insert (all_gone r.made h.members) t.intent q ≡ p.made
  pub longer : Longer q (map.get (all_gone r.made h.members) t.intent)

-- an instance that has not returned, and its machine
pub record Acts (d : Deployment) (r : PlainState) (a : Actor) : Type 0 where
  pub instance : Instance
  pub made : map.get r.made a.id ≡ Some instance
  pub yet : instance.outcome ≡ None
  pub func : a.func ≡ instance.func
  pub stands : IsAt d instance.func instance.args (is_some instance.enclosing) a.machine instance.answers

-- a callee that was made since, and who waits for it
pub record IsCallee (r : PlainState) (members : List IntentId) (id : IntentId) (q : Instance) (w : Actor) : Type 0 where
  pub made : map.get r.made id ≡ Some q
  pub caller : Caller
  pub parent : q.parent ≡ Some caller
  pub told : caller.waits ≡ true
  pub is : caller.place.intent ≡ w.id
  pub since : map.get (all_gone r.made members) id ≡ None
  pub below : length w.id.hops < length id.hops
  pub wants : wants_answer w.machine.effect ≡ true

pub record Waits (d : Deployment) (r : PlainState) (members : List IntentId) (id : IntentId) (w : Actor) : Type 0 where
  pub callee : Instance
  pub called : IsCallee r members id callee w
  pub acts : Acts d r w

-- from the front to the owner each is waited for by the next
abbrev pub CallStack : Deployment → TxId → PlainState → List IntentId → IntentId → List Actor → Type 0
CallStack d t r members id [] = id ≡ t.intent
CallStack d t r members id (w ∷ ws) = Waits d r members id w × CallStack d t r members w.id ws

-- .. and the active one goes on
pub record GoesOn (d : Deployment) (t : TxId) (p : PlainState) (q : Instance) (r : PlainState) (h : Draft) (a : Actor) : Type 0 where
  pub draft : IsDraft t p q r h
  pub acts : Acts d r a
  pub stack : CallStack d t r h.members a.id h.waiting

-- the one who waits that was put there last
abbrev pub Popped : List Actor → List Actor → Option Actor → Type 0
Popped ws us None = ws ≡ []
Popped ws us (Some a) = ws ≡ a ∷ us

-- ---- as it is seen

abbrev pub visible : PlainState → List Was → PlainState
visible r ws = record { items = all_swept r.items ws; made = r.made }

abbrev pub going : PlainState → Draft → Actor → Going
going r h a = record { state = visible r h.undo; active = a.id }

-- the active one is answered
abbrev pub after : PlainState → Draft → Actor → Instance → Answer → Going
after r h a x y = record { state = gives (visible r h.undo) a.id x y; active = a.id }

abbrev pub Gave : Deployment → TxId → PlainState → Instance → PlainState → Draft → Actor → Answer → PlainState → Result Actor AllocError → Type 0
Gave d t p q r h a y s (Ok b) = GoesOn d t p q s h b × (b.id ≡ a.id) × ((x : Instance) → map.get r.made a.id ≡ Some x → s ≡ gives r a.id x y)
Gave d t p q r h a y s (Err w) = IsDraft t p q s h

-- ---- moves

-- whether the active one has a move, where its step has this number
abbrev pub can_move : TxId → FinMap id_cmp Instance → IntentId → ℕ → Effect → Bool
can_move t made id n (Effect.Read b k) = true
can_move t made id n (Effect.Write b k v) = true
can_move t made id n (Effect.CondWrite b k r o v) = true
can_move t made id n (Effect.Call f v) = has_callees id && not (is_some (map.get made (child_of id n)))
can_move t made id n (Effect.Return o) = not (is_owner t id)
can_move t made id n e = false

-- it is made
abbrev pub Moved : Deployment → TxId → PlainState → Instance → PlainState → Draft → Actor → PlainState → Draft → Result Actor AllocError → Type 0
Moved d t p q r h a s k (Ok b) = GoesOn d t p q s k b × ((x : Instance) → map.get r.made a.id ≡ Some x → moves_by t (visible r h.undo) a.id x a.machine.effect ≡ Some (going s k b))
Moved d t p q r h a s k (Err w) = IsDraft t p q s k

-- a callee ends, and who waits for it is answered
abbrev pub Left : Deployment → TxId → PlainState → Instance → PlainState → Draft → IntentId → Instance → Outcome → Actor → PlainState → Result Actor AllocError → Type 0
Left d t p q r h id x o w s (Ok b) = GoesOn d t p q s h b × (b.id ≡ w.id) × ((y : Instance) → map.get r.made w.id ≡ Some y → s ≡ with_instance (with_instance r id (ended x o)) w.id (answered y (answer_of o)))
Left d t p q r h id x o w s (Err e) = IsDraft t p q s h

-- whether it stands where an abort stops
abbrev pub is_stop : Option Place → Actor → Bool
is_stop None a = false
is_stop (Some at) a = is_eq (id_cmp at.intent a.id) && (at.step == a.machine.steps)

-- what is to come is the same from both, in so many steps
pub record Led (d : Deployment) (t : TxId) (stop : Option Place) (a : Going) (start : ℕ) (b : Going) (left : ℕ) : Type 0 where
  pub commit : stop ≡ None → (commit : Bool) → ends_on d start t commit a ≡ ends_on d left t commit b
  pub abort : (at : Place) (h : Option IntentId) → stop ≡ Some at → abort_on d start t at h a ≡ abort_on d left t at h b

-- .. after so many moves
pub record Turned (d : Deployment) (t : TxId) (p : PlainState) (q : Instance) (stop : Option Place) (g : Going) (start : ℕ) (r : PlainState) (h : Draft) (a : Actor) (turns : ℕ) : Type 0 where
  pub goes : GoesOn d t p q r h a
  pub left : ℕ
  pub fuel : left + turns ≡ start
  pub led : Led d t stop g start (going r h a) left

-- so many moves no memory holds
abbrev pub most : ℕ
most = 2 ^ 64

-- the transaction went on as far as it does
pub record Went (d : Deployment) (t : TxId) (p : PlainState) (q : Instance) (stop : Option Place) (g : Going) (start : ℕ) (r : PlainState) (h : Draft) (a : Actor) : Type 0 where
  pub goes : GoesOn d t p q r h a
  pub left : ℕ
  pub fuel : start ≤ left + most
  pub led : Led d t stop g start (going r h a) (suc left)
  pub halts : (is_stop stop a ≡ true) ⊎ (can_move t r.made a.id a.machine.steps a.machine.effect ≡ false)

abbrev pub WentOn : Deployment → TxId → PlainState → Instance → Option Place → Going → ℕ → PlainState → Draft → Result Actor AllocError → Type 0
WentOn d t p q stop g start r h (Ok a) = Went d t p q stop g start r h a
WentOn d t p q stop g start r h (Err w) = IsDraft t p q r h

-- ---- its end

-- the owner's end, with commit or without
abbrev pub ends : Bool → Effect → Bool
ends commit (Effect.End b) = is_same commit b
ends commit e = false

abbrev pub over_at : TxId → Bool → PlainState → IntentId → Instance → Effect → Option PlainState
over_at t commit p id q e = if is_owner t id && ends commit e then Some (gives p id q Answer.Done) else None

abbrev pub no_end : Bool → Bar
no_end true = NoEnd
no_end false = NoPlace

-- .. and came to what the definition says, or to none, for this reason
abbrev pub Comes : Deployment → TxId → PlainState → Instance → Draft → Option PlainState → Bar → PlainState → Result Actor PlainErr → Type 0
Comes d t p q h o why r (Ok a) = GoesOn d t p q r h a × (a.id ≡ t.intent) × (o ≡ Some (visible r h.undo))
Comes d t p q h o why r (Err OutOfMemory) = IsDraft t p q r h
Comes d t p q h o why r (Err (NotEnabled b)) = IsDraft t p q r h × (o ≡ None) × (b ≡ why)

-- the instances that were there are as they were, but for one
abbrev pub AreKept : PlainState → PlainState → IntentId → Type 0
AreKept p r id = (j : IntentId) → is_eq (id_cmp j id) ≡ false → is_some (map.get p.made j) ≡ true → map.get r.made j ≡ map.get p.made j

-- a transaction that commits: Ok with the state after it, and the machine; else nothing changed
abbrev pub CommittedSo : Deployment → PlainState → IntentId → Instance → PlainState → Result Actor PlainErr → Type 0
CommittedSo d p id q r (Ok a) = IsReady d r id a.machine × (a.id ≡ id) × (ends_on d enough (tx_begun id q) true (opened p id q) ≡ Some r) × AreKept p r id
CommittedSo d p id q r (Err OutOfMemory) = r ≡ p
CommittedSo d p id q r (Err (NotEnabled b)) = (r ≡ p) × (ends_on d enough (tx_begun id q) true (opened p id q) ≡ None) × (b ≡ NoEnd)

-- .. and one that aborts
abbrev pub abort_of : Deployment → PlainState → IntentId → Instance → Place → Option IntentId → Option PlainState
abort_of d p id q at h = abort_on d enough (tx_begun id q) at h (opened p id q)

abbrev pub aborted_so : Deployment → PlainState → IntentId → Instance → Place → Option IntentId → Option PlainState
aborted_so d p id q at h = if is_holder p id h then option_and_then (with_answers p id) (abort_of d p id q at h) else None

abbrev pub AbortedSo : Deployment → PlainState → IntentId → Instance → Place → Option IntentId → PlainState → Result Actor PlainErr → Type 0
AbortedSo d p id q at h r (Ok a) = IsReady d r id a.machine × (a.id ≡ id) × (aborted_so d p id q at h ≡ Some r) × (bar_no NoPlace (abort_of d p id q at h) (bar_holder (is_holder p id h)) ≡ None) × AreKept p r id
AbortedSo d p id q at h r (Err OutOfMemory) = r ≡ p
AbortedSo d p id q at h r (Err (NotEnabled b)) = (r ≡ p) × (aborted_so d p id q at h ≡ None) × (bar_no NoPlace (abort_of d p id q at h) (bar_holder (is_holder p id h)) ≡ Some b)

-- ---- its begin

-- the machine of an instance that stands at the begin of a transaction
pub record Begins (d : Deployment) (p : PlainState) (id : IntentId) (m : Machine) : Type 0 where
  pub free : IsFree d p id m
  pub begins : m.effect ≡ Effect.Begin

-- .. or there is none of this
abbrev pub StandsAtBegin : Deployment → PlainState → IntentId → Result Machine PlainErr → Type 0
StandsAtBegin d p id (Ok m) = Begins d p id m
StandsAtBegin d p id (Err OutOfMemory) = Unit {0}
StandsAtBegin d p id (Err (NotEnabled b)) =
    (f : Instance → Effect → Option PlainState) (g : Instance → Effect → Option Bar)
    → ((q : Instance) (e : Effect) → (e ≡ Effect.Begin → ⊥) → (f q e ≡ None) × (g q e ≡ Some OtherEffect))
    → (can_step (map.get p.made id) (is_waiting d p id) (λ q. f q (effect_of d q)) ≡ None) × (bar_step (map.get p.made id) (is_waiting d p id) (λ q. g q (effect_of d q)) ≡ Some b)
