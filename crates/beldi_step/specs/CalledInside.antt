-- Runs that were called in a transaction: they stay in it, and make no entry.
use Rattle.std.specs.Prelude.{◌≡◌, ℕ, Bool, true, false, Option, Some, None}
use Rattle.beldi_value.specs.declared.{id.IntentId.IntentId, place.Caller.Caller, place.TxId.TxId}
use Rattle.beldi_tree.specs.declared.deployment.Deployment.{Deployment}
use Rattle.beldi_lang.specs.{declared.effect.Effect.Effect, declared.effect.Answer.Answer, declared.machine.Machine.Machine, Bounds.is_bound}
use Rattle.beldi_query.specs.Query.{QueryReply}
use Rattle.beldi_step.specs.{declared.run.Stage.Stage, declared.run.Stage.TheVariants.Tx, declared.run.Stage.TheVariants.Call, declared.run.Stage.TheVariants.Back, declared.run.Stage.TheVariants.Close, declared.run.RunTx.TheVariants.Inherited, declared.run.StageOutput.StageOutput, declared.run.StageOutput.TheVariants.On, Run.is_waited, Run.takes, Run.first_stage, Run.stage_output, Run.mark_of}

abbrev pub StaysInherited : Type 0
StaysInherited = (d : Deployment) (m : Machine) (x : TxId) (a : Answer) → is_bound m.effect ≡ false → (takes d m (Some (Inherited x)) a).1 ≡ Some (Inherited x)

-- the stages of what was called in a transaction
abbrev pub is_inside : Option Caller → Stage → Bool
is_inside c (Tx at) = true
is_inside c (Call at) = true
is_inside c Back = true
is_inside c Close = is_waited c
is_inside c s = false

-- its effects begin there, where its caller waits
abbrev pub BeginsInside : Type 0
BeginsInside = (id : IntentId) (c : Option Caller) (x : TxId) (step : ℕ) (e : Effect) (s : Stage) → is_waited c ≡ true → first_stage id c (Some (Inherited x)) step e ≡ Some s → is_inside c s ≡ true

-- .. and no act there makes an entry; where the effect goes on, it goes on there
abbrev pub IsQuiet : Option Caller → StageOutput → Type 0
IsQuiet c (On s m) = (m ≡ None) × (is_inside c s ≡ true)
IsQuiet c x = mark_of x ≡ None

abbrev pub MakesNoEntry : Type 0
MakesNoEntry = (id : IntentId) (func : ℕ) (c : Option Caller) (x : TxId) (changes step : ℕ) (e : Effect) (s : Stage) (t : QueryReply) → is_waited c ≡ true → is_inside c s ≡ true
    → IsQuiet c (stage_output id func c (Some (Inherited x)) changes step e s t)
