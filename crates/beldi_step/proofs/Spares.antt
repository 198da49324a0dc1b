-- No run asks for an act that may remove a row, and no event does.
use Rattle.std.specs.FinMap as map
use Rattle.std.proofs.Common.{◌≡◌, ℕ, Bool, true, false, nat_lt, Option, Some, None, refl, arith}
use Rattle.beldi_value.specs.declared.{id.IntentId.IntentId, place.Caller.Caller}
use Rattle.beldi_lang.specs.declared.effect.Effect.{Effect}
use Rattle.beldi_tree.specs.declared.deployment.Deployment.{Deployment}
use Rattle.beldi_query.specs.Query.{may_remove}
use Rattle.beldi_step.proofs.StepRuns.{either, of_plan}
use Rattle.beldi_step.specs.HostStep.{Core, Plan, asks, immediate, counted, crash_plan, in_time, last_moment, no_run, plan, plan_of, reads_all, request_plan, run_plan, is_crowded}
use Rattle.beldi_step.specs.{declared.event.Event.Event, declared.run.Run.Run, declared.run.RunAt.RunAt, declared.run.RunTx.RunTx, declared.run.Stage.Stage, Run.asks_at, Run.run_asks, Run.stage_asks}

pub stage_spares : (id : IntentId) (func : ℕ) (c : Option Caller) (o : Option RunTx) (step : ℕ) (e : Effect) (w : Stage) → may_remove (stage_asks id func c o step e w) ≡ false
stage_spares id func c o step e Stage.Ask = refl
stage_spares id func c o step e (Stage.Walk r) = grind arith
stage_spares id func c o step e (Stage.Keep v version) = refl
stage_spares id func c o step e (Stage.Write at) = grind arith
stage_spares id func c o step e (Stage.Tx at) = grind arith
stage_spares id func c o step e (Stage.Decide m) = grind arith
stage_spares id func c o step e (Stage.End v) = grind arith
stage_spares id func c o step e (Stage.Call at) = grind arith
stage_spares id func c o step e (Stage.Async at) = grind arith
stage_spares id func c o step e Stage.Back = grind arith
stage_spares id func c o step e Stage.Notify = grind arith
stage_spares id func c o step e Stage.Close = grind arith

pub run_spares : (r : Run) → may_remove (run_asks r) ≡ false
run_spares r = by_at r.at
  where
    by_at : (a : RunAt) → may_remove (asks_at r a) ≡ false
    by_at RunAt.Looks = refl
    by_at (RunAt.Registers b) = refl
    by_at (RunAt.Begins g) = stage_spares r.id r.func g.caller g.tx g.machine.steps g.machine.effect g.stage

-- whether it asks for an act that may remove a row
abbrev pub plan_removes : Plan → Bool
plan_removes (asks q) = may_remove q
plan_removes p = false

abbrev Spares : Plan → Type 0
Spares p = plan_removes p ≡ false

event_spares : (d : Deployment) (e : Event) (c : Core) → Spares (plan_of d e c)
event_spares d Event.Ticket c = grind arith
event_spares d (Event.Request t f a) c = grind arith
event_spares d (Event.Turn i) c = turn_spares (map.get c.runs i)
  where
    turn_spares : (o : Option Run) → Spares (run_plan c i o)
    turn_spares None = refl
    turn_spares (Some r) = either Spares (nat_lt r.deadline c.now) _ _ (λ t. refl) (λ t. run_spares r)
event_spares d (Event.Lost i) c = turn_spares (map.get c.runs i)
  where
    turn_spares : (o : Option Run) → Spares (run_plan c i o)
    turn_spares None = refl
    turn_spares (Some r) = either Spares (nat_lt r.deadline c.now) _ _ (λ t. refl) (λ t. run_spares r)
event_spares d (Event.Crash i) c = grind arith
event_spares d (Event.Restart id f) c = grind arith
event_spares d (Event.Tick n) c = grind arith
event_spares d Event.Ic c = refl
event_spares d Event.Halt c = refl

pub plan_spares : (d : Deployment) (e : Event) (c : Core) → plan_removes (plan d e c) ≡ false
plan_spares d e c = of_plan d e c Spares (λ few. event_spares d e (counted c)) (λ shut. refl) refl
