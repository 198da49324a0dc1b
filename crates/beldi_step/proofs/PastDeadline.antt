-- No run acts past its deadline.
use Rattle.std.{specs.declared.alloc.AllocError.AllocError, proofs.lemmas.Bool.lt-ltb}
use Rattle.std.specs.FinMap as map
use Rattle.std.proofs.Common.{◌≡◌, ℕ, ◌<◌, ◌&&◌, not, Some, Result, Ok, Err, if◌then◌else◌, ap, ◌∙◌, subst}
use Rattle.beldi_tree.specs.declared.deployment.Deployment.{Deployment}
use Rattle.beldi_row.specs.Table.{TableState}
use Rattle.beldi_step.specs.declared.event.Event.TheVariants.{Ticket, Request, Turn, Lost, Crash, Restart, Tick, Ic, Halt}
use Rattle.beldi_step.specs.HostStep.{Core, Plan, immediate, asks, plan, open_plan, plan_of, is_halt, run_plan, crash_plan, in_time, ended_run, counted, most_events, StartsRun, StepBy}
use Rattle.beldi_step.specs.{declared.event.Event.Event, declared.event.EventReply.EventReply, declared.event.EventReply.TheVariants.Expired, declared.event.EventReply.TheVariants.Shut, declared.event.EventReply.TheVariants.Spent, declared.event.EventReply.TheVariants.Crashed, declared.run.Run.Run, Run.run_asks, StepLaws.ExpiresPastDeadline, StepLaws.run_of_event}

-- an event that is answered at once, and starts no run, leaves the table
pub over_by : (d : Deployment) (e : Event) (c z b : Core) (y : EventReply) → (StartsRun y → ⊥) → (old new : TableState) (r : Result EventReply AllocError) → StepBy d e c (immediate z y) b old new r → (r ≡ Ok y) × (b ≡ z) × (new ≡ old)
over_by d e c z b y apart old new (Ok x) h = (ap Ok h.0.1, h.0.0, h.1)
over_by d e c z b y apart old new (Err w) h = absurd (apart h.0.1)

late : (c : Core) (i : ℕ) (r : Run) (p : Plan) → r.deadline < c.now → in_time c i r p ≡ immediate (ended_run c i) Expired
late c i r p h = ap (λ b. if b then immediate (ended_run c i) Expired else p) (lt-ltb r.deadline c.now h)

module _ (d : Deployment) (c : Core) (i : ℕ) (r : Run) (is : map.get c.runs i ≡ Some r) (h : r.deadline < c.now) where
  turns : run_plan c i (map.get c.runs i) ≡ immediate (ended_run c i) Expired
  turns = ap (run_plan c i) is ∙ late c i r (asks (run_asks r)) h

  ends : crash_plan c i (map.get c.runs i) ≡ immediate (ended_run c i) Expired
  ends = ap (crash_plan c i) is ∙ late c i r (immediate (ended_run c i) Crashed) h

  expires_in : (e : Event) → run_of_event e ≡ Some i → plan_of d e c ≡ immediate (ended_run c i) Expired
  expires_in Ticket of = cc
  expires_in (Request t f a) of = cc
  expires_in (Turn j) of = let same : j ≡ i = cc in ap (λ k. run_plan c k (map.get c.runs k)) same ∙ turns
  expires_in (Lost j) of = let same : j ≡ i = cc in ap (λ k. run_plan c k (map.get c.runs k)) same ∙ turns
  expires_in (Crash j) of = let same : j ≡ i = cc in ap (λ k. crash_plan c k (map.get c.runs k)) same ∙ ends
  expires_in (Restart id f) of = cc
  expires_in (Tick n) of = cc
  expires_in Ic of = cc
  expires_in Halt of = cc

pub expires : ExpiresPastDeadline
expires d e c b old new r i run h few unshut of is past =
    let planned : plan d e c ≡ immediate (ended_run (counted c) i) Expired = ap (λ t. if t then open_plan d e (counted c) else immediate c Spent) (lt-ltb c.taken most_events few) ∙ ap (λ t. if t && not (is_halt e) then immediate (counted c) Shut else plan_of d e (counted c)) unshut ∙ expires_in d (counted c) i run is past e of in
    over_by d e (counted c) (ended_run (counted c) i) b Expired (λ starts. starts) old new r (subst (λ p. StepBy d e (counted c) p b old new r) planned h)
