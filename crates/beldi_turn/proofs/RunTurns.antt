-- A run that was told: by what its stage says, or by the body that it finds.
use Rattle.std.specs.Prelude.{option_copied}
use Rattle.std.specs.declared.alloc.AllocError.{AllocError}
use Rattle.std.proofs.Common.{◌≡◌, ℕ, Bool, true, false, Option, Some, None, is_some, Result, Ok, Err, IfOk, refl, ap, sym, ◌∙◌, subst, Bor}
use Rattle.beldi_value.specs.declared.{id.IntentId.IntentId, place.Caller.Caller}
use Rattle.beldi_tree.specs.{declared.deployment.Deployment.Deployment, declared.deployment.Func.Func, Names.func_at}
use Rattle.beldi_lang.specs.{declared.effect.Answer.Answer, declared.effect.Effect.Effect, declared.machine.Machine.Machine, Machine.begun}
use Rattle.beldi_row.specs.declared.row.Body.{Body}
use Rattle.beldi_query.specs.Query.{QueryReply}
use Rattle.beldi_txn.specs.declared.end.{EndGoes.EndGoes, EndState.EndState}
use Rattle.beldi_step.specs.declared.run.StageOutput.TheVariants.{On, Stays, Opens, Starts, Waits, Answers, Ends}
use Rattle.beldi_step.specs.Run.{Turns, inherited_tx, run_told, told_at, turned_by, stage_output, decided_output, decide_here_output, end_here_output, end_left, left_of, at_stage, mark_of, followed, plain_output, takes, at_state, goes_to, goes_from, begin_in, body_found}
use Rattle.beldi_step.specs.declared.run.{Mark.Mark, RunTx.RunTx, RunTx.TheVariants.Own, Run.Run, RunAt.RunAt, RunAt.TheVariants.Begins, Begun.Begun, StageOutput.StageOutput, Stage.Stage, Stage.TheVariants.Decide, Stage.TheVariants.End, Stage.TheVariants.Close, TurnOutput.TurnOutput}

-- out of memory, the mark of its act is told
marks : (r : Run) (p : Machine × Option RunTx) (c : Option Caller) (k : Option Mark) (s : Option Stage) → (goes_from r p c k s).mark ≡ k
marks r p c k None = refl
marks r p c k (Some s) = refl

turn_marks : (d : Deployment) (r : Run) (g : Begun) (x : StageOutput) → mark_of x ≡ (turned_by d r g x).mark
turn_marks d r g (On s m) = refl
turn_marks d r g Stays = refl
turn_marks d r g (Opens m) = refl
turn_marks d r g (Starts a) = sym (marks r _ g.caller None _)
turn_marks d r g (Waits w) = refl
turn_marks d r g (Answers a m) = sym (marks r _ g.caller m _)
turn_marks d r g (Ends m o) = refl

pub marked_so : (d : Deployment) (changes : ℕ) (r : Run) (g : Begun) (m : Option Mark) (t : QueryReply) → r.at ≡ Begins g
    → m ≡ mark_of (stage_output r.id r.func g.caller g.tx changes g.machine.steps g.machine.effect g.stage t) → m ≡ (run_told d changes r t).mark
marked_so d changes r g m t at is = subst (λ o. m ≡ (told_at d changes r o t).mark) (sym at) (is ∙ turn_marks d r g (stage_output r.id r.func g.caller g.tx changes g.machine.steps g.machine.effect g.stage t))

-- ---- where a run stands is one
abbrev begun_in : Begun → RunAt → Begun
begun_in h (Begins g) = g
begun_in h at = h

pub same_begun : (at : RunAt) (h g : Begun) → at ≡ Begins h → at ≡ Begins g → h ≡ g
same_begun at h g this that = ap (begun_in h) (sym this ∙ that)

-- ---- the end of a transaction
-- its decision looks at its stage no more, as it neither waits nor stays
abbrev leaves_stage : StageOutput → Bool
leaves_stage Stays = false
leaves_stage (Waits w) = false
leaves_stage x = true

decided_leaves : (commit : Bool) (m : Mark) (g : EndGoes) → leaves_stage (decided_output commit m g) ≡ true
decided_leaves commit m (EndGoes.Decided first) = refl
decided_leaves commit m g = refl

decide_leaves : (id : IntentId) (func step : ℕ) (e : Effect) (m : Mark) (o : Option RunTx) (t : QueryReply) → leaves_stage (decide_here_output id func step e m o t) ≡ true
decide_leaves id func step (Effect.End commit) m (Some (Own o)) t = decided_leaves commit m _
decide_leaves id func step e m o t = refl

-- so it turns alike from any stage
left_so : (d : Deployment) (r : Run) (g : Begun) (s : Stage) (x : StageOutput) → leaves_stage x ≡ true → turned_by d (record r { at = Begins (at_stage g s) }) (at_stage g s) x ≡ turned_by d r g x
left_so d r g s (On w m) is = refl
left_so d r g s Stays is = cc
left_so d r g s (Opens m) is = refl
left_so d r g s (Starts a) is = refl
left_so d r g s (Waits w) is = cc
left_so d r g s (Answers a m) is = refl
left_so d r g s (Ends m o) is = refl

-- a visit is moved only where it goes on from another stage
visit_so : (d : Deployment) (r : Run) (g : Begun) (v : EndState) (x : StageOutput) → let s = end_left v (Ok x) in turned_by d (record r { at = Begins (at_stage g s) }) (at_stage g s) x ≡ turned_by d (record r { at = Begins (at_stage g (End v)) }) (at_stage g (End v)) x
visit_so d r g v (On w m) = refl
visit_so d r g v Stays = refl
visit_so d r g v (Opens m) = refl
visit_so d r g v (Starts a) = refl
visit_so d r g v (Waits w) = refl
visit_so d r g v (Answers a m) = refl
visit_so d r g v (Ends m o) = refl

turned_so : (d : Deployment) (r : Run) (g : Begun) (changes : ℕ) (t : QueryReply) (s : Stage) →
    let x : StageOutput = stage_output r.id r.func g.caller g.tx changes g.machine.steps g.machine.effect s t in
    let w : Stage = left_of s (Ok x) in
    turned_by d (record r { at = Begins (at_stage g w) }) (at_stage g w) x ≡ turned_by d (record r { at = Begins (at_stage g s) }) (at_stage g s) x
turned_so d r g changes t (Decide m) = left_so d (record r { at = Begins (at_stage g (Decide m)) }) (at_stage g (Decide m)) Close (decide_here_output r.id r.func g.machine.steps g.machine.effect m g.tx t) (decide_leaves r.id r.func g.machine.steps g.machine.effect m g.tx t)
turned_so d r g changes t (End v) = visit_so d r g v (end_here_output r.id r.func g.machine.steps g.machine.effect v g.tx t)
turned_so d r g changes t s = refl

pub told_so : (d : Deployment) (changes : ℕ) (r s : Run) (g h : Begun) (x : StageOutput) (t : QueryReply) (y : Result TurnOutput (Option Mark)) → r.at ≡ Begins g
    → x ≡ stage_output r.id r.func g.caller g.tx changes g.machine.steps g.machine.effect g.stage t → h ≡ at_stage g (left_of g.stage (Ok x)) → Turns s y (turned_by d (record r { at = Begins h }) h x) → Turns s y (run_told d changes r t)
told_so d changes r s g h x t y at output left turns =
    let z : StageOutput = stage_output r.id r.func g.caller g.tx changes g.machine.steps g.machine.effect g.stage t in
    let w : Stage = left_of g.stage (Ok z) in
    let stands : h ≡ at_stage g w = subst (λ (q : StageOutput). h ≡ at_stage g (left_of g.stage (Ok q))) output left in
    let here : Turns s y (turned_by d (record r { at = Begins (at_stage g w) }) (at_stage g w) z) =
    subst (λ q. Turns s y (turned_by d (record r { at = Begins q }) q z)) stands (subst (λ q. Turns s y (turned_by d (record r { at = Begins h }) h q)) output turns) in
    let there : Turns s y (turned_by d (record r { at = Begins g }) g z) = subst (Turns s y) (turned_so d r g changes t g.stage) here in
    subst (λ o. Turns s y (told_at d changes (record r { at = o }) o t)) (sym at) there

-- ---- an answer
pub answered : (d : Deployment) (r : Run) (h k n : Begun) (a : Answer) (x : Result Bool AllocError) → r.at ≡ Begins h → k ≡ at_state h (takes d h.machine h.tx a)
    → IfOk x (λ b. (q : Run) (mark : Option Mark) → q.id ≡ r.id → followed (record q { at = Begins n }) (plain_output mark b) ≡ goes_to d q (k.machine, k.tx) k.caller mark) → (g : Begun) → r.at ≡ Begins g
    → IfOk x (λ b. (mark : Option Mark) → followed (record r { at = Begins n }) (plain_output mark b) ≡ goes_to d r (takes d g.machine g.tx a) g.caller mark)
answered d r h k n a (Ok b) at is goes g there =
    λ mark. goes r mark refl ∙ ap (λ (q : Begun). goes_to d r (q.machine, q.tx) q.caller mark) is ∙ ap (λ (q : Begun). goes_to d r (takes d q.machine q.tx a) q.caller mark) (same_begun r.at h g at there)
answered d r h k n a (Err e) at is goes g there = tt

-- ---- a run that finds its body
-- where it stood counts no more
pub begin_so : (d : Deployment) (r s z : Run) (t : QueryReply) (o : Option Body) (b : Body) (x : Result TurnOutput AllocError) → s ≡ record r { at = s.at } → o ≡ body_found r.func r.at t → o ≡ Some b
    → IfOk x (λ y. (at : RunAt) → followed z y ≡ begin_in d (record s { at = at }) (func_at d s.func) (Some b)) → IfOk x (λ y. followed z y ≡ begin_in d r (func_at d r.func) (body_found r.func r.at t))
begin_so d r s z t o b (Ok y) rest own is h =
    h r.at ∙ ap (λ (q : Run). begin_in d (record q { at = r.at }) (func_at d q.func) (Some b)) rest ∙ ap (begin_in d r (func_at d r.func)) (sym is ∙ own)
begin_so d r s z t o b (Err e) rest own is h = tt

-- .. and it is in the transaction of its body
pub begun_in_tx : (d : Deployment) (r z : Run) (b : Body) (f : Option (Bor Func)) (g : Option Func) (n : Begun) (x : Result TurnOutput AllocError) → option_copied f ≡ g → is_some f ≡ true
    → n ≡ record { machine = begun d r.func b.args (is_some b.tx); caller = b.parent; tx = inherited_tx b.tx; stage = Close } → IfOk x (λ y. (at : RunAt) → followed z y ≡ goes_to d (record r { at = at }) (n.machine, n.tx) n.caller None)
    → IfOk x (λ y. (at : RunAt) → followed z y ≡ begin_in d (record r { at = at }) g (Some b))
begun_in_tx d r z b f g n (Err e) copied there made h = tt
begun_in_tx d r z b None g n (Ok y) copied there made h = cc
begun_in_tx d r z b (Some f) g n (Ok y) copied there made h = λ at.
    h at ∙ ap (λ (q : Begun). goes_to d (record r { at = at }) (q.machine, q.tx) q.caller None) made ∙ ap (λ u. begin_in d (record r { at = at }) u (Some b)) copied
