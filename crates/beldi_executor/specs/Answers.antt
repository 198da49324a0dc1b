-- What the executor's calls answer.
use Rattle.std.specs.Prelude.{◌≡◌, ℕ, zero, suc, Bool, true, false, List, ◌∷◌, ◌++◌, Option, Some, None, Result, Ok, Err, is_none}
use Rattle.std.specs.FinMap as map
use Rattle.beldi_value.specs.{Id.root_of, declared.id.IntentId.IntentId, declared.outcome.Outcome.Outcome, declared.place.Place.Place}
use Rattle.beldi_tree.specs.declared.deployment.Deployment.{Deployment}
use Rattle.beldi_lang.specs.declared.{effect.Effect.Effect, machine.Machine.Machine}
use Rattle.beldi_book.specs.declared.entry.Entry.{Entry, TheVariants.Start, TheVariants.Read, TheVariants.Step, TheVariants.CommittedTx, TheVariants.AbortedTx}
use Rattle.beldi_plain.specs.{Plain.PlainState, Plain.Instance, Plain.effect_of, Plain.kind_of, Plain.is_waiting, Plain.step, PlainEntries.after, Legal.run_from, Transaction.enough, Transaction.opened, Transaction.tx_begun, Transaction.ends_on, Transaction.abort_on, Transaction.is_holder, declared.kind.Kind.Kind}
use Rattle.beldi_executor.specs.declared.plain.Bar.TheVariants.{AlreadyStarted, NotStarted, Over, Waiting, OtherEffect, NoEnd, NoPlace, NotOlder}
use Rattle.beldi_executor.specs.{Executor.StandsFor, declared.plain.Bar.Bar, declared.plain.PlainErr.PlainErr, declared.plain.PlainErr.TheVariants.OutOfMemory, declared.plain.PlainErr.TheVariants.NotEnabled}

-- what bars a start: ticket 0, or that the root was made
abbrev pub bar_start : ℕ → Option Instance → Option Bar
bar_start zero q = Some AlreadyStarted
bar_start (suc t) None = None
bar_start (suc t) (Some q) = Some AlreadyStarted

-- what bars a step: that there is no such instance, that it has returned, or that the callee of its call was made, or else what
-- bars its effect
abbrev pub bar_open : Option Outcome → Option Bar → Option Bar
bar_open None b = b
bar_open (Some o) b = Some Over

abbrev pub bar_waiting : Bool → Option Bar → Option Bar
bar_waiting true b = Some Waiting
bar_waiting false b = b

abbrev pub bar_step : Option Instance → (Instance → Bool) → (Instance → Option Bar) → Option Bar
bar_step None w f = Some NotStarted
bar_step (Some q) w f = bar_open q.outcome (bar_waiting (w q) (f q))

-- what bars an effect of this kind from being entered as a read, or else as a change
abbrev pub bar_as : Bool → Kind → Option Bar
bar_as true Kind.Read = None
bar_as true Kind.Change = Some OtherEffect
bar_as false Kind.Read = Some OtherEffect
bar_as false Kind.Change = None
bar_as b Kind.Inside = Some OtherEffect
bar_as b Kind.Unbuilt = Some OtherEffect

-- what bars it from being made at all
abbrev pub bar_made : Kind → Option Bar
bar_made Kind.Read = None
bar_made Kind.Change = None
bar_made Kind.Inside = Some OtherEffect
bar_made Kind.Unbuilt = Some OtherEffect

-- what bars a transaction that commits, at its begin: that it does not reach such an end
abbrev pub bar_no : {X : Type 0} → Bar → Option X → Option Bar → Option Bar
bar_no b None c = Some b
bar_no b (Some x) c = c

abbrev pub bar_commit : Deployment → PlainState → IntentId → Instance → Effect → Option Bar
bar_commit d p id q Effect.Begin = bar_no NoEnd (ends_on d enough (tx_begun id q) true (opened p id q)) None
bar_commit d p id q e = Some OtherEffect

-- .. and one that aborts: that it does not reach the place, or that its holder is none
abbrev pub bar_holder : Bool → Option Bar
bar_holder true = None
bar_holder false = Some NotOlder

abbrev pub bar_abort : Deployment → PlainState → IntentId → Place → Option IntentId → Instance → Effect → Option Bar
bar_abort d p id a h q Effect.Begin = bar_no NoPlace (abort_on d enough (tx_begun id q) a h (opened p id q)) (bar_holder (is_holder p id h))
bar_abort d p id a h q e = Some OtherEffect

abbrev pub bar_of : Deployment → PlainState → Entry → Option Bar
bar_of d p (Start t f a) = bar_start t (map.get p.made (root_of t))
bar_of d p (Read id seen) = bar_step (map.get p.made id) (is_waiting d p id) (λ q. bar_as true (kind_of id (effect_of d q)))
bar_of d p (Step id) = bar_step (map.get p.made id) (is_waiting d p id) (λ q. bar_as false (kind_of id (effect_of d q)))
bar_of d p (CommittedTx id) = bar_step (map.get p.made id) (is_waiting d p id) (λ q. bar_commit d p id q (effect_of d q))
bar_of d p (AbortedTx id place holder) = bar_step (map.get p.made id) (is_waiting d p id) (λ q. bar_abort d p id place holder q (effect_of d q))

-- an entry: Ok exactly where it is enabled, and then the state is the one after it; else nothing changed, and the answer
-- is what bars it, unless out of memory
abbrev pub Did : Deployment → Entry → PlainState → PlainState → Result Unit PlainErr → Type 0
Did d e p q (Ok u) = (after d p e ≡ Some q) × (bar_of d p e ≡ None)
Did d e p q (Err OutOfMemory) = q ≡ p
Did d e p q (Err (NotEnabled b)) = (q ≡ p) × (after d p e ≡ None) × (bar_of d p e ≡ Some b)

-- a step of an instance, whatever its effect: Ok exactly where there is one
abbrev pub DidStep : Deployment → IntentId → PlainState → PlainState → Result Unit PlainErr → Type 0
DidStep d id p q (Ok u) = step d p id ≡ Some q
DidStep d id p q (Err OutOfMemory) = q ≡ p
DidStep d id p q (Err (NotEnabled b)) = (q ≡ p) × (step d p id ≡ None) × (bar_step (map.get p.made id) (is_waiting d p id) (λ q. bar_made (kind_of id (effect_of d q))) ≡ Some b)

-- the next step of an instance, entered as a read or as a change
abbrev pub Entered : Deployment → IntentId → Bool → PlainState → PlainState → Result Unit PlainErr → Type 0
Entered d id true p q r = (seen : ℕ) → Did d (Read id seen) p q r
Entered d id false p q r = Did d (Step id) p q r

-- an instance that has not returned, and a machine that stands for it
pub record IsReady (d : Deployment) (p : PlainState) (id : IntentId) (m : Machine) : Type 0 where
  pub instance : Instance
  pub made : map.get p.made id ≡ Some instance
  pub yet : instance.outcome ≡ None
  pub stands : StandsFor d instance m

-- .. that does not wait for a callee
pub record IsFree (d : Deployment) (p : PlainState) (id : IntentId) (m : Machine) : Type 0 where
  pub ready : IsReady d p id m
  pub free : is_waiting d p id ready.instance ≡ false

-- .. and whose effect is carried out
abbrev pub Makes : Deployment → PlainState → IntentId → Machine → Type 0
Makes d p id m = IsFree d p id m × (is_none (bar_made (kind_of id m.effect)) ≡ true)

-- where a step begins
abbrev pub StandsAt : Deployment → PlainState → IntentId → Result Machine PlainErr → Type 0
StandsAt d p id (Ok m) = IsReady d p id m
StandsAt d p id (Err OutOfMemory) = Unit {0}
StandsAt d p id (Err (NotEnabled b)) = (w : (Instance → Bool)) (f : (Instance → Option Bar)) → bar_step (map.get p.made id) w f ≡ Some b

-- .. where the instance may wait
abbrev pub StandsFree : Deployment → PlainState → IntentId → Result Machine PlainErr → Type 0
StandsFree d p id (Ok m) = IsFree d p id m
StandsFree d p id (Err OutOfMemory) = Unit {0}
StandsFree d p id (Err (NotEnabled b)) = (f : (Instance → Option Bar)) → bar_step (map.get p.made id) (is_waiting d p id) f ≡ Some b

-- the first entries were done, and these are left
pub record Began (d : Deployment) (es : List Entry) (p q : PlainState) (left : List Entry) : Type 0 where
  pub done : List Entry
  pub all : done ++ left ≡ es
  pub run : run_from d p done ≡ Some q

-- entries in their order: Ok exactly where each is enabled in its turn, and then the state is their run; else they have
-- no run, and the answer is what bars the first that is not enabled, after those before it. Out of memory, some first
-- entries were done.
abbrev pub Ran : Deployment → List Entry → PlainState → PlainState → Result Unit PlainErr → Type 0
Ran d es p q (Ok u) = run_from d p es ≡ Some q
Ran d es p q (Err OutOfMemory) = (left : List Entry) × Began d es p q left
Ran d es p q (Err (NotEnabled b)) = (run_from d p es ≡ None) × (e : Entry) × (left : List Entry) × Began d es p q (e ∷ left) × (after d q e ≡ None) × (bar_of d q e ≡ Some b)
