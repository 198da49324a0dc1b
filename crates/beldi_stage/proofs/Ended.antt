-- The end of a transaction: a visit leaves no mark, and what a run says there.
use Rattle.std.proofs.Common.{◌≡◌, ℕ, Bool, Option, Some, None, refl, sym, subst}
use Rattle.beldi_value.specs.declared.{id.IntentId.IntentId, place.Caller.Caller}
use Rattle.beldi_lang.specs.declared.effect.Effect.{Effect}
use Rattle.beldi_query.specs.Query.{QueryReply}
use Rattle.beldi_txn.specs.{declared.end.EndGoes.EndGoes, declared.end.EndState.EndState, End.end_after}
use Rattle.beldi_step.specs.{declared.run.RunTx.RunTx, declared.run.RunTx.TheVariants.Own, declared.run.Mark.Mark, declared.run.StageOutput.StageOutput, declared.run.StageOutput.TheVariants.On, declared.run.Stage.Stage, declared.run.Stage.TheVariants.Decide, declared.run.Stage.TheVariants.End, Run.visit_output, Run.decide_here_output, Run.end_here_output, Run.stage_output, Run.mark_of}

visit_marks : (commit : Bool) (v : EndState) (g : EndGoes) → None ≡ mark_of (visit_output commit v g)
visit_marks commit v EndGoes.Done = refl
visit_marks commit v EndGoes.Worn = refl
visit_marks commit v g = refl

pub visits_mark : (id : IntentId) (func step : ℕ) (e : Effect) (v : EndState) (o : Option RunTx) (t : QueryReply) → None ≡ mark_of (end_here_output id func step e v o t)
visits_mark id func step (Effect.End commit) v (Some (Own o)) t = visit_marks commit v _
visits_mark id func step e v o t = refl

-- ---- what a run says at an end
pub at_decision : (id : IntentId) (func : ℕ) (c : Option Caller) (o : Option RunTx) (changes step : ℕ) (e f : Effect) (s : Stage) (m : Mark) (t : QueryReply) (P : StageOutput → Type 0) → s ≡ Decide m → f ≡ e
    → P (decide_here_output id func step f m o t) → P (stage_output id func c o changes step e s t)
at_decision id func c o changes step e f s m t P is same h = subst (λ z. P (stage_output id func c o changes step e z t)) (sym is) (subst (λ (z : Effect). P (decide_here_output id func step z m o t)) same h)

pub at_visits : (id : IntentId) (func : ℕ) (c : Option Caller) (o : Option RunTx) (changes j step : ℕ) (e f : Effect) (s : Stage) (v : EndState) (t : QueryReply) (P : StageOutput → Type 0) → s ≡ End v → j ≡ step → f ≡ e
    → P (end_here_output id func j f v o t) → P (stage_output id func c o changes step e s t)
at_visits id func c o changes j step e f s v t P is at same h =
    subst (λ z. P (stage_output id func c o changes step e z t)) (sym is) (subst (λ (z : Effect). P (end_here_output id func step z v o t)) same (subst (λ z. P (end_here_output id func z f v o t)) at h))

-- a visit that is not over and does not wait goes on
pub goes_on : (commit : Bool) (v : EndState) (g : EndGoes) → (g ≡ EndGoes.Worn → ⊥) → (g ≡ EndGoes.Done → ⊥) → visit_output commit v g ≡ On (End (end_after commit v g)) None
goes_on commit v EndGoes.Worn worn done = absurd (worn refl)
goes_on commit v EndGoes.Done worn done = absurd (done refl)
goes_on commit v g worn done = refl
