-- What a turn leaves works for whom its run works for, or for who is unfinished.
use Rattle.std.specs.FinMap as map
use Rattle.std.proofs.Math.Seq.{take-append_seam}
use Rattle.std.proofs.Common.{length, take, ◌≡◌, ◌⊎◌, inl, inr, ℕ, ◌+◌, ◌==◌, ◌||◌, Bool, true, false, Option, Some, None, is_some, if◌then◌else◌, eq-eqb, eqb-true, refl, ap, sym, ◌∙◌, subst, arith}
use Rattle.beldi_value.proofs.Callees.{no_root}
use Rattle.beldi_value.specs.{Id.child_of, Id.has_callees, Id.has_no_hops, declared.id.IntentId.IntentId, declared.outcome.Outcome.Outcome, declared.place.Caller.Caller, declared.place.TxId.TxId, declared.value.Value.Value}
use Rattle.beldi_tree.specs.declared.{deployment.Deployment.Deployment, deployment.Func.Func}
use Rattle.beldi_tree.specs.Names.{func_at}
use Rattle.beldi_lang.specs.{declared.effect.Answer.Answer, declared.effect.Effect.Effect, declared.machine.Machine.Machine, Callee.answer_of, Machine.begun as machine_begun, Wants.wants}
use Rattle.beldi_lang.proofs.Resumes.{at_effect}
use Rattle.beldi_book.specs.LinearOrder.{count_changes}
use Rattle.beldi_plain.specs.Plain.{Instance, effect_before, outcome_of}
use Rattle.beldi_plain_laws.specs.{WellFormedState.call_of, WellFormedState.enclosing_by, Txs.effect_after, Txs.tx_at as own_tx_at}
use Rattle.beldi_row.specs.{Act.act, Table.Rows, declared.act.Act.Act, declared.row.Body.Body, declared.row.IntentRow.IntentRow, declared.row.InvokeRow.InvokeRow, declared.row.Row.Row}
use Rattle.beldi_query.specs.{declared.query.Query.Query, Query.QueryReply, Query.replied, Query.query_reply}
use Rattle.beldi_invokelog.specs.InvokeLog.{call_in, invoke_key, invoked_of, result_in, result_of as result_kept}
use Rattle.beldi_invokelog.specs.declared.invoke_log.Back as back
use Rattle.beldi_intent.specs.Intent.{body_in, body_told, intent_key, is_ended, look_asks}
use Rattle.beldi_call.specs.declared.{async_call.AsyncAt.AsyncAt, call.CallAt.CallAt}
use Rattle.beldi_call.specs.{Async.async_asks, Async.async_output, Async.note_output, Async.open_output as sent_output, Call.call_asks, Call.call_output, Call.look_output, Call.open_output}
use Rattle.beldi_step.specs.HostStep.{Core}
use Rattle.beldi_step.specs.Run.{Turned, asks_at, ask_output, async_answer, async_here_asks, async_here_output, local_steps, at_stage, back_output, begin_in, body_registered, call_answer, call_here_asks, call_here_output, callee_at, callee_body, callee_by, callee_of, close_output, decide_by_output, decide_here_output, decided_output, done_output, end_by_output, end_here_output, first_outside, first_stage, goes_from, goes_to, is_waited, local_step, open_after, place_of, put_answer, put_output, mark_if, run_asks, run_told, stage_asks, stage_output, step_mark, takes, takes_if, told_at, turned_by, tx_at, tx_here_output, tx_output, visit_output, walk_output, with_cause, inherited_tx, write_output}
use Rattle.beldi_step.specs.declared.run.{Begun.Begun, Mark.Mark, Run.Run, RunAt.TheVariants.Looks, RunAt.TheVariants.Registers, RunAt.TheVariants.Begins, RunTx.RunTx, RunTx.TheVariants.Own, RunTx.TheVariants.Inherited, StageOutput.StageOutput, Stage.Stage, Wait.Wait}
use Rattle.beldi_step.specs.declared.run.RunAt as standing
use Rattle.beldi_step.specs.Run as step
use Rattle.beldi_histories.specs.{Histories.Histories, Expected.called_by, Expected.result_of, RowMatching.CallMatches, RowMatching.IntentMatches, Matches.has_ended}
use Rattle.beldi_histories.proofs.{Callers.called_in as was_called, Cases.by_option, Instances.row_of}
use Rattle.beldi_invariant.specs.Invariant.{Knows, KnowsAt, KnowsBody, Invariant, RunAt}
use Rattle.beldi_upkeep.specs.{Callees.Seats, WorksFor.IsOwner, WorksFor.IsRegistered, WorksFor.IsUnfinished, WorksFor.IsWorkedFor, WorksFor.WorksFor, WorksFor.called_in, WorksFor.finish_in}
use Rattle.beldi_upkeep.proofs.Finishes.{none_at, open_none, owner_none, sent_none}
use Rattle.beldi_upkeep.proofs.Quiet.{CallsNobody, Quiet, is_async, not_async, not_first, quiet}
use Rattle.beldi_step.proofs.StepRuns.{Leaves, either, same_some, starts_by}

-- ---- the transaction that a run was called in, after answers
caused : (a : Answer) (o : Option RunTx) → called_in (with_cause a o) ≡ called_in o
caused a o = grind arith

opened : (n : ℕ) (e : Effect) (a : Answer) (o : Option RunTx) (t : TxId) → called_in (open_after n e a o) ≡ Some t → called_in o ≡ Some t
opened n Effect.Begin a o t is = cc
opened n (Effect.End commit) a o t is = cc
opened n e a o t is = sym (caused a o) ∙ is

one_answer : (d : Deployment) (id : IntentId) (s : Machine × Option RunTx) (a : Option Answer) (t : TxId) → called_in (takes_if d s.0 s.1 a).1 ≡ Some t → called_in s.1 ≡ Some t
one_answer d id s None t is = is
one_answer d id s (Some a) t is = opened s.0.steps s.0.effect a s.1 t is

past_once : (d : Deployment) (id : IntentId) (s : Machine × Option RunTx) (t : TxId) → called_in (local_step d id s).1 ≡ Some t → called_in s.1 ≡ Some t
past_once d id s = one_answer d id s (step.local_answer id s.0.steps s.0.effect)

past_local_steps : (d : Deployment) (id : IntentId) (s : Machine × Option RunTx) (t : TxId) → called_in (local_steps d id s).1 ≡ Some t → called_in s.1 ≡ Some t
past_local_steps d id s t is = past_once d id s t (past_once d id (local_step d id s) t is)

begun_in : (w : Option TxId) → called_in (inherited_tx w) ≡ w
begun_in w = grind arith

-- ---- a body that a run finds: its row has no finish
record FindsRow (w : Option Row) (func : ℕ) (b : Body) : Type 0 where
  row : IntentRow
  is : w ≡ Some (Row.Intent row)
  body : row.body ≡ Some b
  none : row.finish ≡ None
  its : b.func ≡ func

found_row : (now func : ℕ) (w : Option Row) (b : Body) → body_told func (replied (act Act.Look now w).1) ≡ Some b → FindsRow w func b
found_row now func (Some (Row.Intent j)) b is = by_end (is_ended j) refl is
  where
    unfinished : (f : Bool) (g : Option ℕ) → (f || is_some g) ≡ false → g ≡ None
    unfinished f g h = grind arith

    by_body : is_ended j ≡ false → (o : Option Body) → j.body ≡ o → body_in func o ≡ Some b → FindsRow (Some (Row.Intent j)) func b
    by_body open_still None has is = cc
    by_body open_still (Some a) has is = by_func (a.func == func) refl is
      where
        by_func : (t : Bool) → (a.func == func) ≡ t → (if t then Some a else None) ≡ Some b → FindsRow (Some (Row.Intent j)) func b
        by_func true e is = record { row = j; is = refl; body = has ∙ is; none = unfinished (is_some j.outcome) j.finish open_still; its = ap (λ (z : Body). z.func) (sym (same_some is)) ∙ eqb-true a.func func e }
        by_func false e is = cc

    by_end : (t : Bool) → is_ended j ≡ t → body_in func (if t then None else j.body) ≡ Some b → FindsRow (Some (Row.Intent j)) func b
    by_end true e is = cc
    by_end false e is = by_body e j.body refl is
found_row now func None b is = cc
found_row now func (Some w) b is = cc

-- ---- the effect of a run is its instance's, at its step
module _ (d : Deployment) (histories : Histories) (r : Run) (g : Begun) (k : Knows d histories r g) where
  machine : (g.machine.effect ≡ wants d r.func k.instance.args (is_some k.instance.enclosing) k.answers) × (g.machine.steps ≡ length k.answers)
  machine = at_effect d r.func k.instance.args (is_some k.instance.enclosing) g.machine k.answers k.machine

  front : take g.machine.steps k.instance.answers ≡ k.answers
  front = ap (λ n. take n k.instance.answers) machine.1 ∙ ap (take (length k.answers)) (sym k.run_answers) ∙ take-append_seam k.answers k.later

  effect_here : effect_before d k.instance g.machine.steps ≡ g.machine.effect
  effect_here = ap (effect_after d k.instance) front ∙ ap (λ f. wants d f k.instance.args (is_some k.instance.enclosing) k.answers) k.func ∙ sym machine.0

-- ---- what a call's row tells
same_waits : (a b : Bool) (f g : ℕ) (v u : Value) → call_of a f v ≡ call_of b g u → a ≡ b
same_waits a b f g v u h = grind arith

no_result : (w : Option Row) (z : ℕ × Option Outcome) → CallMatches w (Some z) → result_in (call_in w) ≡ None → z.1 ≡ None
no_result w z owed none = grind arith

waited_for : (j : Instance) → is_waited j.parent ≡ true → result_of j ≡ None → j.outcome ≡ None
waited_for j waits none = sym (ap (λ b. if b then j.outcome else None) waits) ∙ none

opened_result : (now f : ℕ) (w : Option Row) → result_in (call_in w) ≡ (invoked_of f (replied (act (Act.OpenInvoke f) now w).1)).result
opened_result now f w = grind arith

looked_result : (now : ℕ) (w : Option Row) → result_in (call_in w) ≡ result_kept (replied (act Act.Look now w).1)
looked_result now w = grind arith

-- ---- an intent was worked for by a run of this deadline, or is unfinished; and a run works for such alone
abbrev pub MayWork : Core → Rows → ℕ → IntentId → Type 0
MayWork c m deadline j = IsWorkedFor c deadline j ⊎ IsUnfinished m j

abbrev pub WorksSo : Core → Rows → ℕ → Run → Type 0
WorksSo c m n k = (j : IntentId) → WorksFor k k.at j → MayWork c m k.deadline j

-- what the table tells by these rows
abbrev pub ToldSo : Core → Rows → Query → QueryReply → Type 0
ToldSo c m q t = t ≡ query_reply q c.now m

-- ---- a turn
module _ (d : Deployment) (c : Core) (m : Rows) (h : Invariant d c m) (seats : Seats m) where
  free : (deadline : ℕ) (j : IntentId) → IsUnfinished m j → MayWork c m deadline j
  free deadline j none = inr none

  module _ (i : ℕ) (r : Run) (live : map.get c.runs i ≡ Some r) where
    abbrev Mine : IntentId → Type 0
    Mine j = MayWork c m r.deadline j

    abbrev GoesSo : Option Run → Type 0
    GoesSo o = (k : Run) → o ≡ Some k → WorksSo c m i k

    works : (at : standing.RunAt) → r.at ≡ at → (j : IntentId) → WorksFor r at j → Mine j
    works at is j w = inl (record { number = i; run = r; live = live; works = subst (λ x. WorksFor r x j) (sym is) w; due = refl })

    stands : (k : Run) → WorksSo c m i k → GoesSo (Some k)
    stands k w x is = subst (WorksSo c m i) (same_some is) w

    nobody : GoesSo None
    nobody k over = cc

    -- ---- it goes on to its next effect
    comes : (s : Machine × Option RunTx) (b : Option Caller) (mark : Option Mark) (w : Option Stage) → first_stage r.id b s.1 s.0.steps s.0.effect ≡ w → Mine r.id → ((t : TxId) → called_in s.1 ≡ Some t → Mine t.intent) → GoesSo (goes_from r s b mark w).next
    comes s b mark None is own owner = nobody
    comes s b mark (Some w) is own owner = stands _ (λ j for. by_for j for)
      where
        by_tx : (j : IntentId) (o : Option TxId) → called_in s.1 ≡ o → IsOwner o j → Mine j
        by_tx j None e of = absurd of
        by_tx j (Some t) e of = subst Mine (sym of) (owner t e)

        by_for : (j : IntentId) → (j ≡ r.id) ⊎ (IsOwner (called_in s.1) j ⊎ IsRegistered r s.0.steps s.0.effect w j) → Mine j
        by_for j (inl same) = subst Mine (sym same) own
        by_for j (inr (inl of)) = by_tx j (called_in s.1) refl of
        by_for j (inr (inr to)) = absurd (not_first r r.id b s.1 s.0.steps s.0.effect w j is to)

    goes : (s : Machine × Option RunTx) (b : Option Caller) (mark : Option Mark) → Mine r.id → ((t : TxId) → called_in s.1 ≡ Some t → Mine t.intent) → GoesSo (goes_to d r s b mark).next
    goes s b mark own owner = let z = local_steps d r.id s in comes z b mark (first_stage r.id b z.1 z.0.steps z.0.effect) refl own (λ t is. owner t (past_local_steps d r.id s t is))

    -- ---- its first turn
    begins : (f : Option Func) (b : Option Body) → ((x : Body) → b ≡ Some x → Mine r.id × ((t : TxId) → x.tx ≡ Some t → Mine t.intent)) → GoesSo (begin_in d r f b).next
    begins f None for = nobody
    begins None (Some b) for = nobody
    begins (Some f) (Some b) for = goes (machine_begun d r.func b.args (is_some b.tx), inherited_tx b.tx) b.parent None (for b refl).0 (λ t is. (for b refl).1 t (sym (begun_in b.tx) ∙ is))

    calls_none : (at : standing.RunAt) → r.at ≡ at → ((g : Begun) → at ≡ Begins g → ⊥) → (k : Run) → callee_of r ≡ Some k → ⊥
    calls_none at is off k starts = by_at at is off (sym (ap (callee_at r) is) ∙ starts)
      where
        by_at : (at : standing.RunAt) → r.at ≡ at → ((g : Begun) → at ≡ Begins g → ⊥) → callee_at r at ≡ Some k → ⊥
        by_at Looks is off starts = cc
        by_at (Registers b) is off starts = cc
        by_at (Begins g) is off starts = off g refl

    -- its row has no finish, so neither has the owner
    found : (b : Body) → FindsRow (map.get m (intent_key r.id r.func)) r.func b → Mine r.id × ((t : TxId) → b.tx ≡ Some t → Mine t.intent)
    found b f =
        let key = intent_key r.id r.func in
        let made = (row_of (has_ended d h.histories) (has_no_hops r.id.hops) key.home f.row (map.get h.histories r.id) (subst (λ w. IntentMatches (has_ended d h.histories) (has_no_hops r.id.hops) key.home w (map.get h.histories r.id)) f.is (h.rows.keys key))).body b f.body in
        let q = made.instance in
        let func : q.func ≡ r.func = sym (ap (λ (z : Body). z.func) made.body) ∙ f.its in
        let none : finish_in (map.get m (intent_key r.id q.func)) ≡ None = ap (λ g. finish_in (map.get m (intent_key r.id g))) func ∙ ap finish_in f.is ∙ f.none in (
          free r.deadline r.id (none_at d m h.histories h.lock_ahead h.rows h.well_formed r.id q made.made none),
          λ t inner. free r.deadline t.intent (owner_none d m h.histories h.lock_ahead h.rows h.well_formed seats t key.home r.id f.row b (record { there = f.is; body = f.body }) f.none q made.made made.body inner),
        )

    looks : GoesSo (begin_in d r (func_at d r.func) (body_told r.func (query_reply (asks_at r Looks) c.now m))).next
    looks = begins (func_at d r.func) _ (λ b is. found b (found_row c.now r.func (map.get m (intent_key r.id r.func)) b is))

    registers : (b : Body) → r.at ≡ Registers b → KnowsBody h.histories r b → GoesSo (begin_in d r (func_at d r.func) (body_registered r.func b (query_reply (asks_at r (Registers b)) c.now m))).next
    registers b at k = begins (func_at d r.func) _ (λ x is. by_row (map.get m (intent_key r.id b.func)) refl x is)
      where
        its : Mine r.id → (x : Body) → b ≡ x → Mine r.id × ((t : TxId) → x.tx ≡ Some t → Mine t.intent)
        its own x same = (own, λ t inner. works (Registers b) at t.intent (inr (subst (λ o. IsOwner o t.intent) (sym (ap (λ (z : Body). z.tx) same ∙ inner)) refl)))

        new : map.get m (intent_key r.id b.func) ≡ None → Mine r.id
        new none =
            let q = k.body.instance in
            free r.deadline r.id (none_at d m h.histories h.lock_ahead h.rows h.well_formed r.id q k.body.made (ap (λ g. finish_in (map.get m (intent_key r.id g))) (sym (ap (λ (z : Body). z.func) k.body.body)) ∙ ap finish_in none))

        same_body : (x : Body) (t : Bool) → (if t then Some b else None) ≡ Some x → b ≡ x
        same_body x true is = same_some is
        same_body x false is = cc

        by_row : (w : Option Row) → map.get m (intent_key r.id b.func) ≡ w → (x : Body) → body_registered r.func b (replied (act (Act.Register b) c.now w).1) ≡ Some x → Mine r.id × ((t : TxId) → x.tx ≡ Some t → Mine t.intent)
        by_row None at x is = its (new at) x (same_body x (b.func == r.func) is)
        by_row (Some w) at x is = found x (subst (λ o. FindsRow o r.func x) (sym (ap (λ f. map.get m (intent_key r.id f)) (sym k.func) ∙ at)) (found_row c.now r.func (Some w) x is))

    -- ---- a turn at an effect
    module _ (g : Begun) (at : r.at ≡ Begins g) where
      own : Mine r.id
      own = works (Begins g) at r.id (inl refl)

      owner : (t : TxId) → called_in g.tx ≡ Some t → Mine t.intent
      owner t is = works (Begins g) at t.intent (inr (inl (subst (λ o. IsOwner o t.intent) (sym is) refl)))

      -- whom it is to register next may be worked for
      abbrev Registering : Stage → Type 0
      Registering w = (j : IntentId) → IsRegistered r g.machine.steps g.machine.effect w j → Mine j

      at_next : (w : Stage) → Registering w → GoesSo (Some (record r { at = Begins (at_stage g w) }))
      at_next w to = stands _ (λ j for. by_for j for)
        where
          by_for : (j : IntentId) → (j ≡ r.id) ⊎ (IsOwner (called_in g.tx) j ⊎ IsRegistered r g.machine.steps g.machine.effect w j) → Mine j
          by_for j (inl same) = works (Begins g) at j (inl same)
          by_for j (inr (inl of)) = works (Begins g) at j (inr (inl of))
          by_for j (inr (inr at)) = to j at

      elsewhere : (w : Stage) → is_async w ≡ false → Registering w
      elsewhere w off j to = absurd (not_async r g.machine.steps g.machine.effect w j off to)

      answers : (a : Answer) (mark : Option Mark) → GoesSo (goes_to d r (takes d g.machine g.tx a) g.caller mark).next
      answers a mark = goes (takes d g.machine g.tx a) g.caller mark own (λ t is. owner t (opened g.machine.steps g.machine.effect a g.tx t is))

      abbrev OutputSo : StageOutput → Type 0
      OutputSo (StageOutput.On w mark) = Registering w
      OutputSo x = Unit {0}

      output : (x : StageOutput) → OutputSo x → GoesSo (turned_by d r g x).next
      output (StageOutput.On w mark) to = at_next w to
      output StageOutput.Stays to = stands _ (λ j for. works (Begins g) at j for)
      output (StageOutput.Opens mark) to = at_next (Stage.Call CallAt.Look) (elsewhere (Stage.Call CallAt.Look) refl)
      output (StageOutput.Starts a) to = answers a None
      output (StageOutput.Waits w) to = stands r (λ j for. works r.at refl j for)
      output (StageOutput.Answers a mark) to = answers a mark
      output (StageOutput.Ends mark o) to = nobody

      -- a run of what it calls: a caller that waits is in the callee's transaction, or owns it
      callee_so : (e : Effect) → g.machine.effect ≡ e → ((f : ℕ) (v : Value) → e ≡ Effect.Call f v → IsUnfinished m (child_of r.id g.machine.steps)) → (k : Run) → callee_by r g.tx g.machine.steps e ≡ Some k → WorksSo c m (c.last_run + 1) k
      callee_so (Effect.Call f v) is none k starts = by_hops (has_callees r.id) starts
        where
          callee : Run
          callee = record { id = child_of r.id g.machine.steps; func = f; deadline = r.deadline; at = Registers (callee_body r.id r.func g.machine.steps f v (tx_at r.id r.func g.tx) true) }

          in_tx : (o : Option RunTx) → g.tx ≡ o → (j : IntentId) → IsOwner (tx_at r.id r.func o) j → Mine j
          in_tx None tx j of = absurd of
          in_tx (Some (Own o)) tx j of = works (Begins g) at j (inl of)
          in_tx (Some (Inherited t)) tx j of = subst Mine (sym of) (owner t (ap called_in tx))

          for : (j : IntentId) → (j ≡ child_of r.id g.machine.steps) ⊎ IsOwner (tx_at r.id r.func g.tx) j → Mine j
          for j (inl same) = subst Mine (sym same) (free r.deadline (child_of r.id g.machine.steps) (none f v refl))
          for j (inr of) = in_tx g.tx refl j of

          by_hops : (b : Bool) → (if b then Some callee else None) ≡ Some k → WorksSo c m (c.last_run + 1) k
          by_hops true same = subst (WorksSo c m (c.last_run + 1)) (same_some same) for
          by_hops false same = cc
      callee_so (Effect.Async f v) is none k starts = by_hops (has_callees r.id) starts
        where
          by_hops : (b : Bool) → (if b then Some (record { id = child_of r.id g.machine.steps; func = f; deadline = r.deadline; at = Looks }) else None) ≡ Some k → WorksSo c m (c.last_run + 1) k
          by_hops true same = subst (WorksSo c m (c.last_run + 1)) (same_some same) (λ j of. absurd of)
          by_hops false same = cc
      callee_so e is none k starts = cc

      -- which of what a stage says may start it
      starts_none : (s : Machine × Option RunTx) (b : Option Caller) (mark : Option Mark) → starts_by (goes_to d r s b mark).wait (goes_to d r s b mark).starts ≡ false
      starts_none s b mark = let z = local_steps d r.id s in by_stage z (first_stage r.id b z.1 z.0.steps z.0.effect)
        where
          by_stage : (z : Machine × Option RunTx) (w : Option Stage) → starts_by (goes_from r z b mark w).wait (goes_from r z b mark w).starts ≡ false
          by_stage z None = refl
          by_stage z (Some w) = refl

      quiet_starts : (x : StageOutput) → Quiet x → starts_by (turned_by d r g x).wait (turned_by d r g x).starts ≡ false
      quiet_starts (StageOutput.On w mark) q = refl
      quiet_starts StageOutput.Stays q = refl
      quiet_starts (StageOutput.Opens mark) q = absurd q
      quiet_starts (StageOutput.Starts a) q = absurd q
      quiet_starts (StageOutput.Waits (Wait.Held o)) q = refl
      quiet_starts (StageOutput.Waits Wait.Worn) q = refl
      quiet_starts (StageOutput.Waits (Wait.Result j)) q = absurd q
      quiet_starts (StageOutput.Answers a mark) q = starts_none (takes d g.machine g.tx a) g.caller mark
      quiet_starts (StageOutput.Ends mark o) q = refl

      quiet_so : (x : StageOutput) → Quiet x → OutputSo x
      quiet_so (StageOutput.On w mark) q = elsewhere w q
      quiet_so StageOutput.Stays q = tt
      quiet_so (StageOutput.Opens mark) q = tt
      quiet_so (StageOutput.Starts a) q = tt
      quiet_so (StageOutput.Waits w) q = tt
      quiet_so (StageOutput.Answers a mark) q = tt
      quiet_so (StageOutput.Ends mark o) q = tt

      abbrev LeavesSo : StageOutput → Type 0
      LeavesSo x = Leaves (WorksSo c m) (ToldSo c m) i (c.last_run + 1) r (turned_by d r g x)

      -- where no run starts
      quietly : (x : StageOutput) → Quiet x → LeavesSo x
      quietly x q = record { goes = output x (quiet_so x q); calls = λ starts. let clash = sym (quiet_starts x q) ∙ starts in cc }

      -- .. and where one may
      with_callee : (x : StageOutput) → OutputSo x → (starts_by (turned_by d r g x).wait (turned_by d r g x).starts ≡ true → (f : ℕ) (v : Value) → g.machine.effect ≡ Effect.Call f v → IsUnfinished m (child_of r.id g.machine.steps)) → LeavesSo x
      with_callee x to none = record { goes = output x to; calls = λ starts k is. callee_so g.machine.effect refl (none starts) k (sym (ap (callee_at r) at) ∙ is) }

      -- ---- the row of a call, and what it owes
      module _ (k : Knows d h.histories r g) where
        abbrev child : IntentId
        child = child_of r.id g.machine.steps

        abbrev call_row : Option Row
        call_row = map.get m (invoke_key r.func (place_of r.id g.machine.steps))

        owed : CallMatches call_row (called_by r.func (Some k.instance) (map.get h.histories child))
        owed = subst (λ o. CallMatches call_row (called_by r.func o (map.get h.histories child))) k.made (h.rows.keys (invoke_key r.func (place_of r.id g.machine.steps)))

        -- the callee that is known was called so
        its_caller : (waits : Bool) (f : ℕ) (v : Value) → g.machine.effect ≡ call_of waits f v → (j : Instance) → map.get h.histories child ≡ Some j → (is_waited j.parent ≡ waits) × (waits ≡ false → j.enclosing ≡ None)
        its_caller waits f v is j there =
            let x = was_called d h.histories h.well_formed r.id g.machine.steps j there in
            let same : x.0 ≡ k.instance = same_some (sym x.1 ∙ k.made) in
            let call : call_of x.2.waits j.func j.args ≡ call_of waits f v = sym x.2.call ∙ ap (λ (q : Instance). effect_before d q g.machine.steps) same ∙ effect_here d h.histories r g k ∙ is in
            let so : x.2.waits ≡ waits = same_waits x.2.waits waits j.func f j.args v call in
            (ap is_waited x.2.parent ∙ so, λ sent. x.2.enclosing ∙ ap (λ b. enclosing_by b (own_tx_at d r.id x.0 g.machine.steps)) (so ∙ sent))

        -- it owes the row of its call, where it is known
        owed_recorded : (j : Instance) → map.get h.histories child ≡ Some j → CallMatches call_row (Some (j.func, result_of j))
        owed_recorded j there = subst (CallMatches call_row) (ap (called_by r.func (Some k.instance)) there ∙ ap (λ b. if b then Some (j.func, result_of j) else None) (eq-eqb k.instance.func r.func k.func)) owed

        -- a call that is absent was not made
        not_made : (j : Instance) → map.get h.histories child ≡ Some j → call_row ≡ None → ⊥
        not_made j there none = let clash = subst (λ w. CallMatches w (Some (j.func, result_of j))) none (owed_recorded j there) in cc

        absent_free : call_row ≡ None → IsUnfinished m child
        absent_free none = open_none d m h.histories h.lock_ahead h.rows h.well_formed child (by_option (map.get h.histories child) (λ e. ap outcome_of e) (λ j e. absurd (not_made j e none)))

        -- one that is waited for has its outcome once its call has a result
        result_free : (f : ℕ) (v : Value) → g.machine.effect ≡ Effect.Call f v → result_in (call_in call_row) ≡ None → IsUnfinished m child
        result_free f v is none = open_none d m h.histories h.lock_ahead h.rows h.well_formed child (by_option (map.get h.histories child) (λ e. ap outcome_of e) (λ j e. ap outcome_of e ∙ by_row j e call_row (owed_recorded j e) none))
          where
            by_row : (j : Instance) → map.get h.histories child ≡ Some j → (w : Option Row) → CallMatches w (Some (j.func, result_of j)) → result_in (call_in w) ≡ None → j.outcome ≡ None
            by_row j there w owed none = waited_for j (its_caller true f v is j there).0 (no_result w (j.func, result_of j) owed none)

        -- any other its outcome only once its call is registered
        sent_free : (f : ℕ) (v : Value) → g.machine.effect ≡ Effect.Async f v → (x : InvokeRow) → call_row ≡ Some (Row.Invoke x) → x.registered ≡ false → IsUnfinished m child
        sent_free f v is x there new home = by_option (map.get h.histories child) (λ e. open_none d m h.histories h.lock_ahead h.rows h.well_formed child (ap outcome_of e) home)
            (λ j e.
            let its = its_caller false f v is j e in
            sent_none d m h.histories h.lock_ahead h.rows h.well_formed child j (no_root r.id g.machine.steps) e (its.1 refl)
            (λ home s b has same. seats.registered r.func r.id g.machine.steps x home s b there new has (ap (λ (z : Body). is_waited z.parent) same ∙ its.0)) home)

        -- ---- a call that is waited for
        call_by : (f : ℕ) (v : Value) → g.machine.effect ≡ Effect.Call f v → (o : Option Outcome) → result_in (call_in call_row) ≡ o → (b : Bool) → LeavesSo (call_answer r.id g.tx g.machine.steps (open_output b o)) × LeavesSo (call_answer r.id g.tx g.machine.steps (look_output o))
        call_by f v is None none b = (with_callee (StageOutput.Opens (step_mark g.tx b)) tt (λ starts f v is. result_free f v is none), with_callee (StageOutput.Waits (Wait.Result child)) tt (λ starts f v is. result_free f v is none))
        call_by f v is (Some u) some b = (quietly (StageOutput.Answers (answer_of u) None) tt, quietly (StageOutput.Answers (answer_of u) None) tt)

        call_leaves : (e : Effect) → g.machine.effect ≡ e → (at : CallAt) → LeavesSo (call_here_output r.id g.tx g.machine.steps e at (query_reply (call_here_asks r.id r.func g.machine.steps e at) c.now m))
        call_leaves (Effect.Call f v) is at = either LeavesSo (has_callees r.id) _ _ (λ t. by_at at) (λ t. quietly (StageOutput.Ends None None) tt)
          where
            by_at : (at : CallAt) → LeavesSo (call_answer r.id g.tx g.machine.steps (call_output f at (query_reply (call_asks r.func (place_of r.id g.machine.steps) f at) c.now m)))
            by_at CallAt.Open = let t = replied (act (Act.OpenInvoke f) c.now call_row).1 in (call_by f v is (invoked_of f t).result (opened_result c.now f call_row) (invoked_of f t).added).0
            by_at CallAt.Look = (call_by f v is (result_kept (replied (act Act.Look c.now call_row).1)) (looked_result c.now call_row) true).1
        call_leaves e is at = quietly (StageOutput.Ends None None) tt

        -- ---- a call that nobody waits for
        module _ (f : ℕ) (v : Value) (is : g.machine.effect ≡ Effect.Async f v) where
          registering : IsUnfinished m child → Registering (Stage.Async AsyncAt.Register)
          registering none j to = subst Mine (sym (subst (λ e. IsRegistered r g.machine.steps e (Stage.Async AsyncAt.Register) j) is to)) (free r.deadline child none)

          noting : Registering (Stage.Async AsyncAt.Note)
          noting j to = absurd (subst (λ e. IsRegistered r g.machine.steps e (Stage.Async AsyncAt.Note) j) is to)

          opens : (x : InvokeRow) (b : Bool) → call_row ≡ Some (Row.Invoke x) → x.registered ≡ b → (added : Bool) → LeavesSo (async_answer AsyncAt.Open (sent_output added b))
          opens x true there e added = quietly (StageOutput.Answers Answer.Done None) tt
          opens x false there e added = with_callee (StageOutput.On (Stage.Async AsyncAt.Register) (mark_if added Mark.Step)) (registering (sent_free f v is x there e)) (λ starts f v call home. cc)

          open_at : (w : Option Row) → call_row ≡ w → CallMatches w (called_by r.func (Some k.instance) (map.get h.histories child)) → LeavesSo (async_answer AsyncAt.Open (async_output f AsyncAt.Open (replied (act (Act.OpenInvoke f) c.now w).1)))
          open_at None there owed = with_callee (StageOutput.On (Stage.Async AsyncAt.Register) (Some Mark.Step)) (registering (absent_free there)) (λ starts f v call home. cc)
          open_at (Some (Row.Invoke x)) there owed = opens x x.registered there refl false
          open_at (Some w) there owed = absurd owed

          notes : (b : back.Back) → LeavesSo (async_answer AsyncAt.Note (note_output b))
          notes back.TheVariants.Set = with_callee (StageOutput.Starts Answer.Done) tt (λ starts f v call home. let clash = sym is ∙ call in cc)
          notes back.TheVariants.AlreadySet = with_callee (StageOutput.Starts Answer.Done) tt (λ starts f v call home. let clash = sym is ∙ call in cc)
          notes back.TheVariants.Absent = with_callee (StageOutput.On (Stage.Async AsyncAt.Note) None) noting (λ starts f v call home. cc)

          async_at : (at : AsyncAt) → LeavesSo (async_answer at (async_output f at (query_reply (async_asks r.func (place_of r.id g.machine.steps) (callee_body r.id r.func g.machine.steps f v None false) at) c.now m)))
          async_at AsyncAt.Open = open_at call_row refl owed
          async_at AsyncAt.Register = with_callee (StageOutput.On (Stage.Async AsyncAt.Note) None) noting (λ starts f v call home. cc)
          async_at AsyncAt.Note = notes _

          async_hops : (at : AsyncAt) (b : Bool) → LeavesSo (if b then async_answer at (async_output f at (query_reply (if b then async_asks r.func (place_of r.id g.machine.steps) (callee_body r.id r.func g.machine.steps f v None false) at else look_asks r.id r.func) c.now m)) else StageOutput.Ends None None)
          async_hops at true = async_at at
          async_hops at false = quietly (StageOutput.Ends None None) tt

        async_leaves : (e : Effect) → g.machine.effect ≡ e → (at : AsyncAt) → LeavesSo (async_here_output r.id e at (query_reply (async_here_asks r.id r.func g.machine.steps e at) c.now m))
        async_leaves (Effect.Async f v) is at = async_hops f v is at (has_callees r.id)
        async_leaves e is at = quietly (StageOutput.Ends None None) tt

        calls_nobody : (changes : ℕ) (w : Stage) (t : QueryReply) → CallsNobody w → LeavesSo (stage_output r.id r.func g.caller g.tx changes g.machine.steps g.machine.effect w t)
        calls_nobody changes w t nobody = quietly (stage_output r.id r.func g.caller g.tx changes g.machine.steps g.machine.effect w t) (quiet r.id r.func g.caller g.tx changes g.machine.steps g.machine.effect w t nobody)

        by_stage : (changes : ℕ) (w : Stage) → LeavesSo (stage_output r.id r.func g.caller g.tx changes g.machine.steps g.machine.effect w (query_reply (stage_asks r.id r.func g.caller g.tx g.machine.steps g.machine.effect w) c.now m))
        by_stage changes (Stage.Call at) = call_leaves g.machine.effect refl at
        by_stage changes (Stage.Async at) = async_leaves g.machine.effect refl at
        by_stage changes w = calls_nobody changes w (query_reply (stage_asks r.id r.func g.caller g.tx g.machine.steps g.machine.effect w) c.now m) tt

    -- ---- whatever it stands at
    at_turn : (changes : ℕ) (at : standing.RunAt) → r.at ≡ at → KnowsAt d m h.plain c.book h.histories r at → Leaves (WorksSo c m) (ToldSo c m) i (c.last_run + 1) r (told_at d changes r at (query_reply (asks_at r at) c.now m))
    at_turn changes Looks at k = record { goes = looks; calls = λ starts k is. absurd (calls_none Looks at (λ g e. cc) k is) }
    at_turn changes (Registers b) at k = record { goes = registers b at k; calls = λ starts k is. absurd (calls_none (Registers b) at (λ g e. cc) k is) }
    at_turn changes (Begins g) at k = by_stage g at k.0 changes g.stage

    pub turn_works : (t : QueryReply) → ToldSo c m (run_asks r) t → Leaves (WorksSo c m) (ToldSo c m) i (c.last_run + 1) r (run_told d (count_changes c.book) r t)
    turn_works t told = subst (λ u. Leaves (WorksSo c m) (ToldSo c m) i (c.last_run + 1) r (run_told d (count_changes c.book) r u)) (sym told) (at_turn (count_changes c.book) r.at refl (subst (RunAt d m h.plain c.book h.histories) live (h.runs.runs i)))
