-- A run that goes on from an answer has more answers: a body that wants one has had few, and each answer is a step.
use Rattle.std.specs.FinMap as map
use Rattle.beldi_upkeep.specs.Checked.{next_output}
use Rattle.beldi_bound.specs.Ends.{Sound}
use Rattle.beldi_step.specs.declared.run.RunAt.{RunAt}
use Rattle.beldi_step.specs.declared.run.Begun.{Begun}
use Rattle.beldi_step.specs.declared.run.Run.{Run}
use Rattle.beldi_step.specs.declared.run.StageOutput.{StageOutput}
use Rattle.beldi_step.specs.HostStep.{Core}
use Rattle.std.proofs.Common.{◌≡◌, ℕ, ◌-◌, ◌^◌, ◌<◌, ◌≤◌, Bool, true, false, List, [], ◌∷◌, length, Option, Some, None, is_some, IsTrue, refl, sym, subst, ◌∙◌, arith}
use Rattle.beldi_value.specs.{declared.id.IntentId.IntentId, declared.outcome.Outcome.Outcome, declared.place.Caller.Caller}
use Rattle.beldi_tree.specs.{Names.func_at, declared.deployment.Deployment.Deployment}
use Rattle.beldi_lang.specs.{Machine.gone_on, Machine.next_step, Machine.released, Machine.standing, BodyRuns.From, BodyRuns.Went, BodyRuns.leaves, BodyRuns.outcome_of, BodyRuns.run_body, BodyRuns.stops, Wants.wants_answer, declared.effect.Answer.Answer, declared.effect.Effect.Effect, declared.machine.Machine.Machine, declared.state.Frame.Frame, declared.state.HeldLock.HeldLock, declared.state.State.State}
use Rattle.beldi_lang.specs.declared.machine.MachinePhase.{MachinePhase as MachineStage}
use Rattle.beldi_lang.proofs.Resumes.{at_effect, few_answers}
use Rattle.beldi_row.specs.Table.{Rows}
use Rattle.beldi_intent.specs.Intent.{is_did}
use Rattle.beldi_query.specs.Query.{QueryReply}
use Rattle.beldi_invokelog.specs.InvokeLog.{back_of}
use Rattle.beldi_invokelog.specs.declared.invoke_log.Back.{Back}
use Rattle.beldi_step.specs.{Run.local_answer, Run.local_steps, Run.back_output, Run.close_output, Run.local_step, Run.stage_output, Run.takes, Run.takes_if, declared.run.RunTx.RunTx, declared.run.Stage.Stage}
use Rattle.beldi_invariant.specs.Invariant.{AtStage, StandsAt}
use Rattle.beldi_plain.specs.Plain.{PlainState}
use Rattle.beldi_book.specs.declared.entry.Entry.{Entry}
use Rattle.beldi_histories.specs.Histories.{Histories}
use Rattle.beldi_bound.proofs.{Ending.knows_it}

-- a run that goes on from an answer has more answers
abbrev pub TellsAnswer : StageOutput → Answer → Type 0
TellsAnswer (StageOutput.Answers b m) a = b ≡ a
TellsAnswer (StageOutput.Starts b) a = b ≡ a
TellsAnswer s a = ⊥

-- ---- steps of a machine
released_steps : (func n : ℕ) (o : Outcome) (s : State) (ls : List HeldLock) (rest : List Answer) → (released func n o s ls rest).steps ≡ n
released_steps func n o s [] rest = refl
released_steps func n o s (l ∷ ls) [] = refl
released_steps func n o s (l ∷ ls) (a ∷ rest) = released_steps func n o s ls rest

standing_steps : (func n : ℕ) (w : Went (List Frame)) → (standing func n w).steps ≡ n
standing_steps func n (stops e at s) = refl
standing_steps func n (leaves x s rest) = released_steps func n (outcome_of x) s s.held rest

gone_steps : (d : Deployment) (func n : ℕ) (e : Effect) (s : State) (z : MachineStage) (a : Answer) (rest : List Answer) → (gone_on d func n e s z a rest).steps ≡ n
gone_steps d func n e s (MachineStage.Running at) a rest = standing_steps func n (run_body d (func_at d func) (From at a) s rest)
gone_steps d func n e s (MachineStage.Releasing o) a rest = released_steps func n o s s.held rest
gone_steps d func n e s MachineStage.Returned a rest = refl

abbrev most : ℕ
most = 2 ^ 32 - 1

takes_steps : (d : Deployment) (m : Machine) (o : Option RunTx) (a : Answer) → (takes d m o a).0.steps ≡ next_step m.steps
takes_steps d m o a = gone_steps d m.func (next_step m.steps) m.effect m.state m.stage a []

more : (n : ℕ) → n < most → (n < next_step n) × (next_step n ≤ most)
more n less = (omega (arith, less), omega arith)

keeps : (n : ℕ) → n ≤ most → (n ≤ next_step n) × (next_step n ≤ most)
keeps n less = (omega (arith, less), omega arith)

-- what takes no turn takes none of them back
once_steps : (d : Deployment) (id : IntentId) (s : Machine × Option RunTx) → s.0.steps ≤ most → (s.0.steps ≤ (local_step d id s).0.steps) × ((local_step d id s).0.steps ≤ most)
once_steps d id s few = by_answer (local_answer id s.0.steps s.0.effect)
  where
    by_answer : (o : Option Answer) → (s.0.steps ≤ (takes_if d s.0 s.1 o).0.steps) × ((takes_if d s.0 s.1 o).0.steps ≤ most)
    by_answer None = (omega arith, few)
    by_answer (Some a) = subst (λ n. (s.0.steps ≤ n) × (n ≤ most)) (sym (takes_steps d s.0 s.1 a)) (keeps s.0.steps few)

local_steps_steps : (d : Deployment) (id : IntentId) (s : Machine × Option RunTx) → s.0.steps ≤ most → s.0.steps ≤ (local_steps d id s).0.steps
local_steps_steps d id s few =
    let one = once_steps d id s few in let two = once_steps d id (local_step d id s) one.1 in
    trans s.0.steps (local_step d id s).0.steps (local_steps d id s).0.steps one.0 two.0
  where
    trans : (x y z : ℕ) → x ≤ y → y ≤ z → x ≤ z
    trans x y z h k = omega arith

-- ---- an effect that a stage answers wants an answer
abbrev is_last : Stage → Bool
is_last Stage.Back = true
is_last Stage.Notify = true
is_last Stage.Close = true
is_last s = false

module _ {d : Deployment} (m : Rows) (p : PlainState) (book : List Entry) {histories : Histories} {id : IntentId} {home : ℕ} {c : Option Caller} {s : Machine} {o : Option RunTx} (k : StandsAt d histories id home c s o) where
  -- a return is at its last stages
  at_return : (w : Stage) (u : Outcome) (z : Option RunTx) → AtStage m p book k w (Effect.Return u) z → is_last w ≡ true
  at_return Stage.Back u z h = refl
  at_return Stage.Notify u z h = refl
  at_return Stage.Close u z h = refl
  at_return (Stage.Write w) u None h = absurd (no_op h.0)
    where
      no_op : false ≡ true → ⊥
      no_op h = cc
  at_return (Stage.Tx w) u (Some x) h = absurd h.0
  at_return w u z h = absurd h

  wanted : (w : Stage) (e : Effect) (z : Option RunTx) → AtStage m p book k w e z → is_last w ≡ false → IsTrue (wants_answer e)
  wanted w (Effect.Return u) z h first = absurd (both (is_last w) (at_return w u z h) first)
    where
      both : (b : Bool) → b ≡ true → b ≡ false → ⊥
      both b p q = let clash : true ≡ false = sym p ∙ q in cc
  wanted w e z h first = refl

back_tells : (o : Option RunTx) (b : Back) (a : Answer) → TellsAnswer (back_output o b) a → ⊥
back_tells o Back.Set a h = h
back_tells o Back.AlreadySet a h = h
back_tells o Back.Absent a h = h

close_tells : (id : IntentId) (c : Option Caller) (e : Effect) (b : Bool) (a : Answer) → TellsAnswer (close_output id c e b) a → ⊥
close_tells id c (Effect.Return u) true a h = h
close_tells id c (Effect.Return u) false a h = h
close_tells id c e b a h = h

not_last : (id : IntentId) (func : ℕ) (c : Option Caller) (o : Option RunTx) (changes step : ℕ) (e : Effect) (w : Stage) (t : QueryReply) (a : Answer) → TellsAnswer (stage_output id func c o changes step e w t) a → is_last w ≡ false
not_last id func c o changes step e Stage.Back t a h = absurd (back_tells o (back_of t) a h)
not_last id func c o changes step e Stage.Notify t a h = absurd h
not_last id func c o changes step e Stage.Close t a h = absurd (close_tells id c e (is_did t) a h)
not_last id func c o changes step e w t a h = refl

abbrev pub StepsRise : Type 0
StepsRise = (d : Deployment) (c : Core) (m : Rows) (i : ℕ) (r : Run) (g : Begun) (a : Answer) → Sound d c m → map.get c.runs i ≡ Some r → r.at ≡ RunAt.Begins g → TellsAnswer (next_output c m r g) a → g.machine.steps < (local_steps d r.id (takes d g.machine g.tx a)).0.steps

pub steps_rise : StepsRise
steps_rise d c m i r g a sound live at tells =
    let k = knows_it sound.upkeep.invariant i r g live at in
    let q = k.0.instance in
    let stands = at_effect d r.func q.args (is_some q.enclosing) g.machine k.0.answers k.0.machine in
    let wants_it = wanted m sound.upkeep.invariant.plain c.book k.0 g.stage g.machine.effect g.tx k.1.here (not_last r.id r.func g.caller g.tx _ g.machine.steps g.machine.effect g.stage _ a tells) in
    let few = few_answers d r.func q.args (is_some q.enclosing) k.0.answers (subst (λ e. IsTrue (wants_answer e)) stands.0 wants_it) in
    let less : g.machine.steps < most = under g.machine.steps (length k.0.answers) stands.1 few in
    let next = more g.machine.steps less in
    let taken = takes_steps d g.machine g.tx a in
    let rest = local_steps_steps d r.id (takes d g.machine g.tx a) (subst (λ n. n ≤ most) (sym taken) next.1) in
    trans g.machine.steps (next_step g.machine.steps) (takes d g.machine g.tx a).0.steps (local_steps d r.id (takes d g.machine g.tx a)).0.steps next.0 taken rest
  where
    under : (x y : ℕ) → x ≡ y → y < 30000 → x < most
    under x y is few = omega (arith, is, few)

    trans : (x y z w : ℕ) → x < y → z ≡ y → z ≤ w → x < w
    trans x y z w h k l = omega arith
