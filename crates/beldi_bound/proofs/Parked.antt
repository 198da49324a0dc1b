-- A turn of a live run: it leaves the runs of lower numbers; and where the run waits, all is as it was.
use Rattle.std.specs.FinMap as map
use Rattle.std.specs.declared.alloc.AllocError.{AllocError}
use Rattle.std.proofs.Common.{◌≡◌, ◌⊎◌, inl, inr, ℕ, ◌+◌, ◌<◌, ◌≤◌, nat_lt, true, false, ◌||◌, append-nil, Option, Some, None, is_some, Result, Ok, Err, refl, sym, ap, subst, ◌∙◌, arith}
use Rattle.beldi_value.specs.declared.place.Caller.{Caller}
use Rattle.beldi_tree.specs.{Names.func_at, declared.deployment.Deployment.Deployment, declared.deployment.Func.Func}
use Rattle.beldi_lang.specs.{Machine.begun as machine_begun, declared.machine.Machine.Machine}
use Rattle.beldi_book.specs.LinearOrder.{count_changes}
use Rattle.beldi_row.specs.{Table.Rows, declared.row.Body.Body, declared.table.TableErr.TableErr}
use Rattle.beldi_query.{proofs.Lent.refused_stand, specs.Query.QueryReply, specs.Query.rows_after, specs.Query.query_reply}
use Rattle.beldi_intent.specs.Intent.{body_told}
use Rattle.beldi_step.proofs.StepRuns.{either, of_plan, same_some}
use Rattle.beldi_step.specs.{HostStep.Core, HostStep.EventBy, HostStep.EventOn, HostStep.Plan, HostStep.after_turn, HostStep.asks, HostStep.counted, HostStep.ended_run, HostStep.has_run, HostStep.is_crowded, HostStep.made, HostStep.may_start, HostStep.put_run, HostStep.run_next, HostStep.run_plan, HostStep.started, HostStep.turn_next, HostStep.turned_core, declared.event.Event.Event, declared.event.EventReply.EventReply, declared.run.Begun.Begun, declared.run.Mark.Mark, declared.run.Run.Run, declared.run.RunAt.RunAt, declared.run.RunTx.RunTx, declared.run.StageOutput.StageOutput, declared.run.Stage.Stage, declared.run.TurnOutput.TurnOutput, declared.run.Wait.Wait}
use Rattle.beldi_step.specs.Run.{Turned, local_steps, begin_in, body_registered, callee_of, first_stage, goes_from, goes_to, run_asks, output_of, stage_output, takes, told_at, turned_by, inherited_tx}
use Rattle.beldi_schedule.specs.Settle.{is_turned_away, is_waiting}
use Rattle.beldi_upkeep.specs.Checked.{next_turn}
use Rattle.beldi_bound.proofs.{Facts.WaitsNow, Numbers.put_apart, Numbers.put_same}

none_some : {X : Type 0} {x : X} → None ≡ Some x → ⊥
none_some h = cc

false_true : false ≡ true → ⊥
false_true h = cc

-- ---- a run that waits stands where it stood, and made no entry
abbrev Waited : Run → Turned → Type 0
Waited r t = (t.next ≡ Some r) × (t.mark ≡ None)

from_waits : (r z : Run) (s : Machine × Option RunTx) (c : Option Caller) (m : Option Mark) (o : Option Stage) → (goes_from z s c m o).wait ≡ None
from_waits r z s c m None = refl
from_waits r z s c m (Some w) = refl

to_waits : (d : Deployment) (r : Run) (s : Machine × Option RunTx) (c : Option Caller) (m : Option Mark) → (goes_to d r s c m).wait ≡ None
to_waits d r s c m = let z = local_steps d r.id s in from_waits r r z c m (first_stage r.id c z.1 z.0.steps z.0.effect)

begins_waits : (d : Deployment) (r : Run) (f : Option Func) (b : Option Body) → (begin_in d r f b).wait ≡ None
begins_waits d r f None = refl
begins_waits d r None (Some b) = refl
begins_waits d r (Some f) (Some b) = to_waits d r (machine_begun d r.func b.args (is_some b.tx), inherited_tx b.tx) b.parent None

module _ (d : Deployment) (r : Run) (w : Wait) where
  output_stays : (g : Begun) (s : StageOutput) → (turned_by d r g s).wait ≡ Some w → Waited r (turned_by d r g s)
  output_stays g (StageOutput.On z m) is = absurd (none_some is)
  output_stays g StageOutput.Stays is = absurd (none_some is)
  output_stays g (StageOutput.Opens m) is = absurd (none_some is)
  output_stays g (StageOutput.Waits v) is = (refl, refl)
  output_stays g (StageOutput.Starts a) is = absurd (none_some (sym (to_waits d r (takes d g.machine g.tx a) g.caller None) ∙ is))
  output_stays g (StageOutput.Answers a m) is = absurd (none_some (sym (to_waits d r (takes d g.machine g.tx a) g.caller m) ∙ is))
  output_stays g (StageOutput.Ends m o) is = absurd (none_some is)

  pub waits_stay : (changes : ℕ) (at : RunAt) (t : QueryReply) → (told_at d changes r at t).wait ≡ Some w → Waited r (told_at d changes r at t)
  waits_stay changes RunAt.Looks t is = absurd (none_some (sym (begins_waits d r (func_at d r.func) (body_told r.func t)) ∙ is))
  waits_stay changes (RunAt.Registers b) t is = absurd (none_some (sym (begins_waits d r (func_at d r.func) (body_registered r.func b t)) ∙ is))
  waits_stay changes (RunAt.Begins g) t is = output_stays g (stage_output r.id r.func g.caller g.tx changes g.machine.steps g.machine.effect g.stage t) is

-- ---- what it comes to
-- the runs of lower numbers stay
pub record Leaves (c b : Core) (i : ℕ) : Type 0 where
  pub last : c.last_run ≤ b.last_run
  pub lower : (j : ℕ) → j < i → map.get b.runs j ≡ map.get c.runs j

-- .. and where it waits nothing changes
abbrev pub WaitsSo : Deployment → Core → Core → Rows → Rows → ℕ → EventReply → Type 0
WaitsSo d c b m n i x = (b ≡ counted c) × (n ≡ m) × WaitsNow d c m i x

pub record Comes (d : Deployment) (c b : Core) (m n : Rows) (i : ℕ) (x : EventReply) : Type 0 where
  pub leaves : Leaves c b i
  pub waits : is_waiting x ≡ true → WaitsSo d c b m n i x

module _ (d : Deployment) (c : Core) (m : Rows) (i : ℕ) (r : Run) (live : map.get c.runs i ≡ Some r) (histories : i ≤ c.last_run) (leave : (w : Wait) → (next_turn d c m r).wait ≡ Some w → rows_after (run_asks r) c.now m ≡ m) where
  abbrev s : Turned
  s = next_turn d c m r

  abbrev core : Core
  core = turned_core (counted c) i r.id s

  -- ---- what is left
  put_leaves : (o : Option Run) (b : Core) → b.runs ≡ put_run c.runs i o → b.last_run ≡ c.last_run → Leaves c b i
  put_leaves o b is same = record { last = omega (arith, same); lower = λ j l. ap (λ z. map.get z j) is ∙ put_apart c.runs i o j (λ e. omega (arith, e, l)) }

  core_leaves : Leaves c core i
  core_leaves = put_leaves s.next core refl refl

  started_leaves : (o : Option Run) → Leaves c (started core o).0 i
  started_leaves None = core_leaves
  started_leaves (Some z) = record { last = omega arith; lower = λ j l. put_apart core.runs (c.last_run + 1) (Some z) j (λ e. omega (arith, e, l, histories)) ∙ core_leaves.lower j l }

  start_leaves : (o : Option Run) → Leaves c (may_start core o).0 i
  start_leaves None = core_leaves
  start_leaves (Some z) = either (λ (p : Core × Option ℕ). Leaves c p.0 i) (has_run core.runs z.id || is_crowded core) _ _ (λ t. core_leaves) (λ t. started_leaves (Some z))

  -- a turn that was made
  made_comes : (n : Rows) (x : TurnOutput) (p : Core × Option ℕ) → Leaves c p.0 i → Comes d c (made r.id x p).0 m n i (made r.id x p).1
  made_comes n x p h = record { leaves = h; waits = λ e. absurd (false_true e) }

  -- ---- a run that waits
  module _ (w : Wait) (waits : s.wait ≡ Some w) (n : Rows) (n_is : n ≡ rows_after (run_asks r) c.now m) where
    stays : Waited r s
    stays = waits_stay d r w (count_changes c.book) r.at (query_reply (run_asks r) c.now m) waits

    runs_same : core.runs ≡ c.runs
    runs_same = ap (put_run c.runs i) stays.0 ∙ put_same c.runs i r live

    book_same : core.book ≡ c.book
    book_same = ap (λ z. (turned_core (counted c) i r.id (record s { mark = z })).book) stays.1 ∙ append-nil c.book

    core_same : core ≡ counted c
    core_same = λ k. record (counted c) { runs = runs_same k; book = book_same k }

    waits_comes : (x : EventReply) → WaitsNow d c m i x → Comes d c core m n i x
    waits_comes x h = record { leaves = core_leaves; waits = λ e. (core_same, n_is ∙ leave w waits, h) }

  abbrev Came : Rows → Core × EventReply → Type 0
  Came n y = Comes d c y.0 m n i y.1

  by_wait : (n : Rows) → n ≡ rows_after (run_asks r) c.now m → (o : Option Wait) → s.wait ≡ o → Came n (after_turn core (callee_of r) r.id (output_of s) o)
  by_wait n n_is None is = made_comes n (output_of s) _ (either (λ (p : Core × Option ℕ). Leaves c p.0 i) s.starts _ _ (λ t. start_leaves (callee_of r)) (λ t. core_leaves))
  by_wait n n_is (Some (Wait.Held o)) is = waits_comes (Wait.Held o) is n n_is (EventReply.Held o) (WaitsNow.held r o live is)
  by_wait n n_is (Some Wait.Worn) is = waits_comes Wait.Worn is n n_is EventReply.Worn (WaitsNow.hindered EventReply.Worn refl)
  by_wait n n_is (Some (Wait.Result j)) is = either (Came n) (has_run core.runs j) _ _
      (λ t. waits_comes (Wait.Result j) is n n_is (EventReply.NotYet j) (WaitsNow.not_yet r j live is (sym (ap (λ z. has_run z j) (runs_same (Wait.Result j) is n n_is)) ∙ t)))
      (λ t. either (Came n) (is_crowded core) _ _ (λ u. waits_comes (Wait.Result j) is n n_is EventReply.Crowded (WaitsNow.hindered EventReply.Crowded refl)) (λ u. made_comes n (output_of s) _ (started_leaves (callee_of r))))

  -- ---- the event
  module _ (room old new : ℕ) (b : Core) (n : Rows) (x : EventReply) where
    abbrev Answer : Type 0
    Answer = (is_turned_away x ≡ true) ⊎ Comes d c b m n i x

    ok_is : {y z : EventReply} → ◌≡◌ {A = Result EventReply AllocError} (Ok y) (Ok z) → y ≡ z
    ok_is h = cc

    no_memory : {y : EventReply} {w : AllocError} → ◌≡◌ {A = Result EventReply AllocError} (Ok y) (Err w) → ⊥
    no_memory h = cc

    as_it : (z : Core) (y : EventReply) → b ≡ z → x ≡ y → Comes d c z m n i y → Answer
    as_it z y p q h = inr (subst (λ v. Comes d c v m n i x) (sym p) (subst (λ v. Comes d c z m n i v) (sym q) h))

    -- its run is over, and it does not wait
    over : (y : EventReply) → is_waiting y ≡ false → Comes d c (ended_run (counted c) i) m n i y
    over y none = record { leaves = put_leaves None (ended_run (counted c) i) refl refl; waits = λ e. absurd (false_true (sym none ∙ e)) }

    abbrev On : Plan → Type 0
    On p = EventBy d room old new (Event.Turn i) (counted c) p m b n (Ok x) → Answer

    by_answer : On (asks (run_asks r))
    by_answer (Err TableErr.OutOfMemory, followed, came, cause) = absurd (no_memory (ap (λ (z : Core × Result EventReply AllocError). z.1) followed))
    by_answer (Err TableErr.Failed, followed, came, cause) = as_it (ended_run (counted c) i) EventReply.Dropped (ap (λ (z : Core × Result EventReply AllocError). z.0) followed) (ok_is (ap (λ (z : Core × Result EventReply AllocError). z.1) followed)) (over EventReply.Dropped refl)
    by_answer (Err (TableErr.Full l k), followed, came, cause) = as_it (counted c) (EventReply.Full l k) (ap (λ (z : Core × Result EventReply AllocError). z.0) followed) (ok_is (ap (λ (z : Core × Result EventReply AllocError). z.1) followed))
        (record { leaves = record { last = omega arith; lower = λ j l. refl }; waits = λ e. (refl, refused_stand (run_asks r) c.now room (TableErr.Full l k) m n came, WaitsNow.hindered (EventReply.Full l k) refl) })
    by_answer (Ok t, followed, came, cause) =
        let turn : run_next d (counted c) i t (map.get c.runs i) ≡ turn_next (counted c) i r s = ap (λ o. run_next d (counted c) i t o) live ∙ ap (λ u. run_next d (counted c) i u (Some r)) came.1 in
        let made : (b, x) ≡ turn_next (counted c) i r s = followed ∙ turn in
        inr (subst (Came n) (sym made) (by_wait n came.0 s.wait refl))

    by_plan : (o : Option Run) → o ≡ Some r → On (run_plan (counted c) i o)
    by_plan None is = absurd (none_some is)
    by_plan (Some z) is = subst (λ y. On (run_plan (counted c) i (Some y))) (sym (same_some is)) (either On (nat_lt r.deadline c.now) _ _
        (λ late ev. as_it (ended_run (counted c) i) EventReply.Expired ev.0.0 ev.0.1 (over EventReply.Expired refl))
        (λ alive. by_answer))

    pub turn_comes_to : EventOn d room old new (Event.Turn i) c m b n (Ok x) → Answer
    turn_comes_to = of_plan d (Event.Turn i) c On (λ t. by_plan (map.get c.runs i) live) (λ t ev. inl (ap is_turned_away ev.0.1)) (λ ev. inl (ap is_turned_away ev.0.1))
