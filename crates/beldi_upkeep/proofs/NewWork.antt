-- Each live run works for who was worked for before, or was unfinished, after whatever event; and whom it works for, and who called it, has
-- its body.
use Rattle.std.specs.FinMap as map
use Rattle.std.proofs.Common.{◌≡◌, ◌⊎◌, inl, inr, ℕ, ◌==◌, Bool, true, false, Option, Some, None, is_some, refl, ap, sym, ◌∙◌, subst}
use Rattle.beldi_value.specs.{Id.child_of, Id.has_no_hops, declared.id.IntentId.IntentId, declared.place.Caller.Caller, declared.place.TxId.TxId}
use Rattle.beldi_tree.specs.declared.deployment.Deployment.{Deployment}
use Rattle.beldi_lang.specs.declared.effect.Effect.{Effect}
use Rattle.beldi_plain.specs.Plain.{Instance}
use Rattle.beldi_row.specs.{Table.Rows, declared.row.Body.Body, declared.row.IntentRow.IntentRow, declared.row.Row.Row}
use Rattle.beldi_call.specs.declared.async_call.AsyncAt.{AsyncAt}
use Rattle.beldi_step.specs.HostStep.{Core, counted}
use Rattle.beldi_step.specs.declared.run.{Begun.Begun, Run.Run, RunAt.TheVariants.Looks, RunAt.TheVariants.Registers, RunAt.TheVariants.Begins, RunTx.RunTx, RunTx.TheVariants.Own, RunTx.TheVariants.Inherited, Stage.Stage}
use Rattle.beldi_step.specs.declared.run.RunAt as standing
use Rattle.beldi_step.proofs.StepRuns.{adds_by, after_event}
use Rattle.beldi_histories.specs.{RowMatching.BodyMatches, RowMatching.CalleeBodyMatches, RowMatching.IntentMatches, RowMatching.RootMatches, Matches.has_ended, Stands.key_in}
use Rattle.beldi_histories.proofs.Cases.{by_option}
use Rattle.beldi_invariant.specs.Invariant.{AtStage, Inside, Knows, KnowsAt, Invariant, RunAt}
use Rattle.beldi_invariant.proofs.OpenOf as open_of
use Rattle.beldi_invariant.proofs.Returns.{has_caller}
use Rattle.beldi_upkeep.specs.WorksFor.{CalledBy, IsCaller, IsOwner, IsRegistered, NewWorkIsUnfinished, WorkIsBound, WorksFor, called_in}
use Rattle.beldi_upkeep.proofs.{Finishes.owner_of, Workers.ToldSo, Workers.WorksSo, Workers.turn_works}

pub new_work : NewWorkIsUnfinished
new_work d room old new e c b m n x h seats s k r i live works =
    (after_event (WorksSo c m) (ToldSo c m) d e c b (λ k r live i works. inl (record { number = k; run = r; live = live; works = works; due = refl }))
    (adds_by (WorksSo c m) (ToldSo c m) d e (counted c) (λ id f i works. absurd works) (λ i r live t told. turn_works d c m h seats i r live t told)) x room old new m n (λ q. refl) s).runs k r live i works

-- ---- whom a live run works for is known
module _ (d : Deployment) (c : Core) (m : Rows) (h : Invariant d c m) where
  abbrev IsRecorded : IntentId → Type 0
  IsRecorded i = (q : Instance) × (map.get h.histories i ≡ Some q)

  owner_recorded : (o : Option TxId) (id : IntentId) (q : Instance) → map.get h.histories id ≡ Some q → ((t : TxId) → o ≡ Some t → q.enclosing ≡ Some t) → (i : IntentId) → IsOwner o i → IsRecorded i
  owner_recorded None id q made inner i of = absurd of
  owner_recorded (Some t) id q made inner i of = let o = owner_of d m h.histories h.lock_ahead h.rows h.well_formed t id q made (inner t refl) in (o.0, ap (map.get h.histories) of ∙ o.1)

  called_tx : (o : Option RunTx) (t : TxId) → called_in o ≡ Some t → o ≡ Some (Inherited t)
  called_tx None t is = cc
  called_tx (Some (Own o)) t is = cc
  called_tx (Some (Inherited u)) t is = cc

  -- the callee that it is to register
  callee_recorded : (r : Run) (g : Begun) (k : Knows d h.histories r g) → Inside m h.plain c.book k g.stage → (i : IntentId) → IsRegistered r g.machine.steps g.machine.effect g.stage i → IsRecorded i
  callee_recorded r g k x i to = by_stage g.machine.effect g.stage g.tx x.here to
    where
      by_stage : (e : Effect) (w : Stage) (o : Option RunTx) → AtStage m h.plain c.book k w e o → IsRegistered r g.machine.steps e w i → IsRecorded i
      by_stage (Effect.Async f a) (Stage.Async AsyncAt.Register) None here to = by_option (map.get h.histories (child_of r.id g.machine.steps)) (λ none. let clash = sym (ap is_some none) ∙ here.1 refl in cc) (λ q some. (q, ap (map.get h.histories) to ∙ some))
      by_stage (Effect.Async f a) (Stage.Async AsyncAt.Register) (Some o) here to = absurd here
      by_stage e w o here to = absurd to

  works_recorded : (r : Run) (at : standing.RunAt) → KnowsAt d m h.plain c.book h.histories r at → (i : IntentId) → WorksFor r at i → IsRecorded i
  works_recorded r Looks k i works = absurd works
  works_recorded r (Registers b) k i (inl own) = (k.body.instance, ap (map.get h.histories) own ∙ k.body.made)
  works_recorded r (Registers b) k i (inr of) = owner_recorded b.tx r.id k.body.instance k.body.made (λ t e. ap (λ (z : Body). z.tx) (sym k.body.body) ∙ e) i of
  works_recorded r (Begins g) k i (inl own) = (k.0.instance, ap (map.get h.histories) own ∙ k.0.made)
  works_recorded r (Begins g) k i (inr (inl of)) = owner_recorded (called_in g.tx) r.id k.0.instance k.0.made (λ t e. open_of.called_in d k.0.instance t k.0.answers (sym k.0.run_open ∙ called_tx g.tx t e)) i of
  works_recorded r (Begins g) k i (inr (inr to)) = callee_recorded r g k.0 k.1 i to

  -- ---- and so is who called it
  caller_recorded : (id : IntentId) (q : Instance) → map.get h.histories id ≡ Some q → (o : Option Caller) → q.parent ≡ o → (i : IntentId) → IsCaller o i → IsRecorded i
  caller_recorded id q made None from i of = absurd of
  caller_recorded id q made (Some z) from i of = let w = has_caller d h.histories id q z h.well_formed made from in (w.caller, ap (map.get h.histories) of ∙ w.made)

  called_recorded : (r : Run) (at : standing.RunAt) → KnowsAt d m h.plain c.book h.histories r at → (i : IntentId) → CalledBy at i → IsRecorded i
  called_recorded r Looks k i by = absurd by
  called_recorded r (Registers b) k i by = absurd by
  called_recorded r (Begins g) k i by = caller_recorded r.id k.0.instance k.0.made g.caller (sym k.0.caller) i by

  either_recorded : (r : Run) (at : standing.RunAt) → KnowsAt d m h.plain c.book h.histories r at → (i : IntentId) → WorksFor r at i ⊎ CalledBy at i → IsRecorded i
  either_recorded r at k i (inl works) = works_recorded r at k i works
  either_recorded r at k i (inr by) = called_recorded r at k i by

  -- ---- so it has its body, where it has its row
  bound_root : (b : Bool) (w : IntentRow) (q : Instance) → RootMatches b (Some (Row.Intent w)) (Some q) → is_some w.body ≡ true
  bound_root true w q f = by_body w.body f.body
    where
      by_body : (b : Option Body) → BodyMatches b w.outcome (Some q) → is_some b ≡ true
      by_body None f = let clash = f in cc
      by_body (Some b) f = refl
  bound_root false w q f = cc

  bound_at : (b : Bool) (home : ℕ) (w : IntentRow) (q : Instance) → IntentMatches (has_ended d h.histories) b home (Some (Row.Intent w)) (Some q) → is_some w.body ≡ true
  bound_at true home w q f = bound_root (home == 0) w q f
  bound_at false home w q f = by_body w.body f.body
    where
      by_body : (b : Option Body) → CalleeBodyMatches home b w.outcome (Some q) → is_some b ≡ true
      by_body None f = absurd f
      by_body (Some b) f = refl

pub work_bound : WorkIsBound
work_bound d c m h k r i live works home w there =
    let q = either_recorded d c m h r r.at (subst (RunAt d m h.plain c.book h.histories) live (h.runs.runs k)) i works in
    let fits = subst (λ o. IntentMatches (has_ended d h.histories) (has_no_hops i.hops) home o (map.get h.histories i)) there (h.rows.keys (key_in home i)) in
    bound_at d c m h (has_no_hops i.hops) home w q.0 (subst (IntentMatches (has_ended d h.histories) (has_no_hops i.hops) home (Some (Row.Intent w))) q.1 fits)
