-- What is known of a run that has begun and has its turn: of the callee that it calls, and of a call that nobody waits for.
use Rattle.beldi_histories.proofs.Begins.{false_true}
use Rattle.beldi_plain_laws.proofs.Maps.{same_some}
use Rattle.std.specs.FinMap as map
use Rattle.std.proofs.Common.{◌≡◌, ◌⊎◌, inl, inr, ℕ, suc, ◌+◌, eq-eqb, ◌<◌, ◌≤◌, Bool, true, false, List, [], ◌∷◌, ◌++◌, append-nil, length, Option, Some, None, is_some, if◌then◌else◌, refl, sym, ap, subst, ◌∙◌, arith}
use Rattle.beldi_value.{proofs.Callees.no_root, specs.Id.child_of, specs.Id.has_callees, specs.Id.has_no_hops, specs.declared.id.IntentId.IntentId, specs.declared.outcome.Outcome.Outcome, specs.declared.place.TxId.TxId, specs.declared.value.Value.Value}
use Rattle.std.specs.Prelude.{not}
use Rattle.std.specs.Option.{option_map}
use Rattle.beldi_lang.specs.Callee.{answer_of}
use Rattle.beldi_tree.specs.declared.deployment.Deployment.{Deployment}
use Rattle.beldi_lang.specs.declared.{effect.Answer.Answer, effect.Effect.Effect}
use Rattle.beldi_book.specs.LinearOrder.{count_changes}
use Rattle.beldi_plain.specs.Plain.{effect_of}
use Rattle.beldi_plain_laws.specs.Txs.{tx_now}
use Rattle.beldi_row.specs.{Act.act, Key.RowKey, Table.Rows, declared.act.Act.Act, declared.row.Body.Body, declared.row.InvokeRow.InvokeRow, declared.row.Row.Row}
use Rattle.beldi_query.specs.{Query.QueryReply, Query.rows_after, Query.replied, Query.query_reply}
use Rattle.beldi_invokelog.specs.{InvokeLog.back_of, InvokeLog.call_at, InvokeLog.call_in, InvokeLog.invoke_key, InvokeLog.registered_in, InvokeLog.result_in, declared.invoke_log.Back.Back}
use Rattle.beldi_intent.specs.Intent.{intent_key, look_asks}
use Rattle.beldi_call.specs.{Async.async_asks, Async.async_output, Async.note_output, Call.call_asks, Call.call_output, Call.open_output, declared.async_call.AsyncAt.AsyncAt, declared.call.CallAt.CallAt, declared.call.CallOutput.CallOutput}
use Rattle.beldi_histories.{proofs.Acts.kinds_apart, proofs.Cases.by_cases, proofs.RowMaps.set_here, proofs.RowMaps.set_others, proofs.RowMaps.is_intent_key, specs.Stands.held_answer, specs.Stands.key_in}
use Rattle.beldi_step.specs.{HostStep.Core, HostStep.counted, HostStep.turn_next, Next.next_run, declared.run.Begun.Begun, declared.run.Mark.Mark, declared.run.Run.Run, declared.run.RunAt.RunAt, declared.run.RunTx.RunTx, declared.run.StageOutput.StageOutput, declared.run.Stage.Stage, declared.run.Wait.Wait}
use Rattle.beldi_step.specs.Run.{asks_at, async_answer, async_here_asks, at_stage, call_answer, call_here_asks, callee_at, callee_body, callee_by, callee_of, place_of, run_asks, stage_asks, turned_by, tx_at}
use Rattle.beldi_invariant.specs.Invariant.{AtStage, is_opened}
use Rattle.beldi_upkeep.{proofs.FromInvariant.child_key, specs.Callees.HasPut, specs.Checked.body_at, specs.Checked.is_close, specs.Checked.next_output}
use Rattle.beldi_bound.specs.{Cost.AreAsked, Cost.with_answers, Ends.Sound, Left.left_at, SettleWork.has_ended, SettleWork.seat}
use Rattle.beldi_bound.proofs.{Begun.Awaits, Begun.BegunKnows, Begun.CallsIt, Begun.Midway, Begun.NotedIt, Begun.its, Begun.restand, Begun.output_lower, Bodies.callee_func, Bodies.callee_has, Bodies.has_body, Calling.async_over, Calling.call_over, Calling.row_there, Costs.body_costs, Ending.knows_it, Facts.GoesOn, Facts.Stands, Facts.begun_left, Facts.rest_left, Nexts.next_put, ResultsCome.ResultsCome, Outputs.OutputCall, Outputs.call_act, Outputs.is_async, Outputs.no_result, Outputs.opens_unregistered, Outputs.stage_asyncs, Outputs.stage_calls, Outputs.starts_noted}
use Rattle.beldi_bound.proofs.Ledger.{CoversAt, HasBody, IsMidway, Ledger, callee_key, find, if_free, stuck_by}
use Rattle.beldi_bound.proofs.Frames.{Cost, Covered, Mid, Spare, Stuck, body_on}
use Rattle.beldi_bound.proofs.BoundTurns.{FullStays}

-- ---- small facts

waits_child : (id : IntentId) (o : Option RunTx) (step : ℕ) (z : CallOutput) (j : IntentId) → call_answer id o step z ≡ StageOutput.Waits (Wait.Result j) → child_of id step ≡ j
waits_child id o step (CallOutput.Opened first) j h = cc
waits_child id o step CallOutput.NotYet j h = cc
waits_child id o step (CallOutput.Done u) j h = cc

looks_waits : (id : IntentId) (o : Option RunTx) (step f : ℕ) (at : CallAt) (t : QueryReply) (j : IntentId) → call_answer id o step (call_output f at t) ≡ StageOutput.Waits (Wait.Result j) → is_opened at ≡ true
looks_waits id o step f CallAt.Look t j h = refl
looks_waits id o step f CallAt.Open t j h = absurd (opens_not _ _ h)
  where
    opens_not : (first : Bool) (r : Option Outcome) → call_answer id o step (open_output first r) ≡ StageOutput.Waits (Wait.Result j) → ⊥
    opens_not first None h = cc
    opens_not first (Some u) h = cc

is_look : (at : CallAt) → is_opened at ≡ true → at ≡ CallAt.Look
is_look CallAt.Look h = refl
is_look CallAt.Open h = cc

held_result : (e : Rows) (id : IntentId) (func step : ℕ) (t : Option TxId) (f : ℕ) (v : Value) (a : Answer) → held_answer e id func step t (Effect.Call f v) ≡ Some a → is_some (result_in (call_at e (invoke_key func (place_of id step)))) ≡ true
held_result e id func step None f v a h = by_result (result_in (call_at e (invoke_key func (place_of id step)))) h
  where
    by_result : (o : Option Outcome) → option_map answer_of o ≡ Some a → is_some o ≡ true
    by_result None h = cc
    by_result (Some u) h = refl
held_result e id func step (Some x) f v a h = by_result (result_in (call_at e (invoke_key func (place_of id step)))) h
  where
    by_result : (o : Option Outcome) → option_map answer_of o ≡ Some a → is_some o ≡ true
    by_result None h = cc
    by_result (Some u) h = refl

look_same : (now : ℕ) (o : Option Row) → (act Act.Look now o).0 ≡ o
look_same now None = refl
look_same now (Some r) = refl

put_there : (b : Body) (now : ℕ) (o : Option Row) → (act (Act.Register b) now o).0 ≡ None → ⊥
put_there b now None h = cc
put_there b now (Some r) h = cc

module _ (d : Deployment) (room : ℕ) (e : Rows) (asked : IntentId → List Answer) (first most : ℕ) (past i : ℕ) (c : Core) (m : Rows) (r : Run) (a : ℕ) (runs : List (ℕ × ℕ)) (keys : List RowKey) (sound : Sound d c m)
    (ledger : Ledger d room e asked first most past c m runs keys) (next : next_run c past ≡ Some i) (live : map.get c.runs i ≡ Some r) (has : find i runs ≡ Some a) (mine : Covered d room e asked first most past c m keys i r a)
    (alive : r.deadline < c.now → ⊥) (f : ℕ) (areas : AreAsked d e asked) (rows : GoesOn m (rows_after (run_asks r) c.now m)) (full : FullStays room m (rows_after (run_asks r) c.now m)) (goes : GoesOn (rows_after (run_asks r) c.now m) e)
    (g : Begun) (at : r.at ≡ RunAt.Begins g) (z : Core) (sound_e : Sound d z e) (come : ResultsCome (rows_after (run_asks r) c.now m) e) where
  abbrev N : Rows
  N = rows_after (run_asks r) c.now m

  abbrev step : ℕ
  step = g.machine.steps

  abbrev child : IntentId
  child = child_of r.id step

  abbrev key : RowKey
  key = invoke_key r.func (place_of r.id step)

  abbrev told : QueryReply
  told = query_reply (stage_asks r.id r.func g.caller g.tx step g.machine.effect g.stage) c.now m

  asks : run_asks r ≡ stage_asks r.id r.func g.caller g.tx step g.machine.effect g.stage
  asks = ap (asks_at r) at

  below : has_no_hops child.hops ≡ false
  below = no_root r.id step

  callee_is : (e : Effect) → g.machine.effect ≡ e → callee_of r ≡ callee_by r g.tx step e
  callee_is e is = ap (callee_at r) at ∙ ap (callee_by r g.tx step) is

  -- ---- a call that is waited for
  module _ (w : CallAt) (func : ℕ) (v : Value) (stage : g.stage ≡ Stage.Call w) (effect : g.machine.effect ≡ Effect.Call func v) (short : has_callees r.id ≡ true) where
    abbrev B : Body
    B = callee_body r.id r.func step func v (tx_at r.id r.func g.tx) true

    abbrev Q : Run
    Q = record { id = child; func = func; deadline = r.deadline; at = RunAt.Registers B }

    calls_q : callee_of r ≡ Some Q
    calls_q = callee_is (Effect.Call func v) effect ∙ ap (λ b. if b then Some Q else None) short

    call_asks_is : stage_asks r.id r.func g.caller g.tx step g.machine.effect g.stage ≡ call_asks r.func (place_of r.id step) func w
    call_asks_is = ap (λ x. stage_asks r.id r.func g.caller g.tx step g.machine.effect x) stage ∙ ap (λ x. call_here_asks r.id r.func step x w) effect

    told_is : told ≡ replied (act (call_act w func) c.now (map.get m key)).1
    told_is = ap (λ q. query_reply q c.now m) call_asks_is ∙ by_at w
      where
        by_at : (w : CallAt) → query_reply (call_asks r.func (place_of r.id step) func w) c.now m ≡ replied (act (call_act w func) c.now (map.get m key)).1
        by_at CallAt.Open = refl
        by_at CallAt.Look = refl

    module _ (y : StageOutput) (output : call_answer r.id g.tx step (call_output func w told) ≡ y) (is : OutputCall y) where
      none : result_in (call_at m key) ≡ None
      none = no_result r.id g.tx step func c.now w (map.get m key) (subst (λ t. OutputCall (call_answer r.id g.tx step (call_output func w t))) told_is (subst OutputCall (sym output) is))

      calls_it : CallsIt d room e asked first most past i c m r a runs keys sound ledger next live has mine alive f areas rows full goes g at Q
      calls_it = record {
        body = B;
        registers = refl;
        deadline = refl;
        open_still = by_cases (has_ended (map.get m (seat Q))) (λ ends. absurd (call_over d c m sound.upkeep.invariant r g (knows_it sound.upkeep.invariant i r g live at).0 func ends v effect none)) (λ o. o);
      }

  opened_it : (k : Option Mark) → next_output c m r g ≡ StageOutput.Opens k → (q : Run) → callee_of r ≡ Some q → CallsIt d room e asked first most past i c m r a runs keys sound ledger next live has mine alive f areas rows full goes g at q
  opened_it k output q is =
      let h = stage_calls r.id r.func g.caller g.tx (count_changes c.book) step g.machine.effect g.stage told (StageOutput.Opens k) output tt in
      subst (λ x. CallsIt d room e asked first most past i c m r a runs keys sound ledger next live has mine alive f areas rows full goes g at x)
      (same_some (sym (calls_q h.at h.said.func h.said.args h.stage h.said.effect h.said.short) ∙ is)) (calls_it h.at h.said.func h.said.args h.stage h.said.effect h.said.short (StageOutput.Opens k) h.said.output tt)

  -- ---- it waits for a result
  module _ (w : CallAt) (func : ℕ) (v : Value) (stage : g.stage ≡ Stage.Call w) (effect : g.machine.effect ≡ Effect.Call func v) (short : has_callees r.id ≡ true) (looks : w ≡ CallAt.Look) (bare : result_in (call_at m key) ≡ None) where
    abbrev P : Run
    P = Q w func v stage effect short

    -- the call is there, and has no result
    recorded_child : is_some (map.get sound.upkeep.invariant.histories child) ≡ true
    recorded_child =
        let h = sound.upkeep.invariant in
        let k = knows_it h i r g live at in
        at_look (ap is_opened looks) (subst (λ x. AtStage m h.plain c.book k.0 (Stage.Call w) x g.tx) effect (subst (λ x. AtStage m h.plain c.book k.0 x g.machine.effect g.tx) stage k.1.here)).1
      where
        at_look : {P : Type 0} {b : Bool} → b ≡ true → (b ≡ true → P) → P
        at_look is f = f is

    call_there : (x : InvokeRow) × (map.get m key ≡ Some (Row.Invoke x)) × (x.func ≡ func)
    call_there = row_there d c m sound.upkeep.invariant r g (knows_it sound.upkeep.invariant i r g live at).0 func v effect recorded_child

    same_call : call_at N key ≡ call_at m key
    same_call = ap (λ q. call_in (map.get (rows_after q c.now m) key)) (asks ∙ call_asks_is w func v stage effect short ∙ ap (call_asks r.func (place_of r.id step) func) looks)
        ∙ ap call_in (set_here m key (act Act.Look c.now (map.get m key)).0 ∙ look_same c.now (map.get m key))

    s : Stands d e asked r g
    s = (its d room e asked first most past i c m r a runs keys sound ledger next live has mine alive f areas rows full goes g at).0

    -- where it has one in the end, the callee has its row then
    got_row : (o : Option InvokeRow) → call_at e key ≡ o → is_some (result_in o) ≡ true → is_some (map.get e (key_in func child)) ≡ true
    got_row None is some = absurd (false_true some)
    got_row (Some x) is some = subst (λ n. is_some (map.get e (key_in n child)) ≡ true) call_there.2
        (come.come r.func r.id step call_there.0 x (same_call ∙ ap call_in call_there.1) (ap (λ o. result_in (call_in o)) (sym call_there.1) ∙ bare) is some)

    got_costs : is_some (result_in (call_at e key)) ≡ true → 1 ≤ Cost d room e asked first most (seat P)
    got_costs some =
        let there = got_row (call_at e key) refl some in
        let h = callee_has d z e sound_e.upkeep.invariant func child below there in
        body_costs d room e asked first most child (seat P) h.body refl (ap (λ q. body_at (map.get e q)) (child_key r.id step func) ∙ has_body h)

    -- where the answers that are asked go on, the call has a result in the end
    goes_past : (x : Answer) (rest : List Answer) → s.along.answers ++ x ∷ rest ≡ asked r.id → is_some (result_in (call_at e key)) ≡ true
    goes_past x rest all =
        let held = (areas (seat r).home r.id s.row s.body s.there s.has).each s.along.answers x rest all in
        let t = tx_now d r.id (with_answers s.body s.along.answers) in
        let held1 : held_answer e r.id r.func step t (Effect.Call func v) ≡ Some x =
        ap (λ n. held_answer e r.id n step t (Effect.Call func v)) (sym s.along.func) ∙ ap (λ n. held_answer e r.id s.body.func n t (Effect.Call func v)) (sym s.along.steps)
        ∙ ap (λ y. held_answer e r.id s.body.func (length s.along.answers) t y) (sym effect ∙ s.along.effect) ∙ held in
        held_result e r.id r.func step t func v x held1

    stuck_it : Cost d room e asked first most (seat P) ≡ 0 → Stuck d room e asked first most (seat r) ≡ Some (seat P)
    stuck_it free = by_later s.along.later s.along.all
      where
        costs_none : (x : ℕ) → x ≡ 0 → 1 ≤ x → ⊥
        costs_none x h k = omega (arith, h, k)

        by_later : (later : List Answer) → s.along.answers ++ later ≡ asked r.id → Stuck d room e asked first most (seat r) ≡ Some (seat P)
        by_later (x ∷ rest) all = absurd (costs_none (Cost d room e asked first most (seat P)) free (got_costs (goes_past x rest all)))
        by_later [] all =
            let whole : s.along.answers ≡ asked r.id = sym (append-nil s.along.answers) ∙ all in
            let steps : length (asked r.id) ≡ step = ap length (sym whole) ∙ s.along.steps in
            let wants : effect_of d (with_answers s.body (asked r.id)) ≡ Effect.Call func v = ap (λ xs. effect_of d (with_answers s.body xs)) (sym whole) ∙ sym s.along.effect ∙ effect in
            ap (stuck_by d room e asked first most r.id) (ap body_at s.there ∙ s.has)
            ∙ ap (λ y. if_free d room e asked first most (callee_key d room e asked first most r.id (length (asked r.id)) y)) wants
            ∙ ap (λ n. if_free d room e asked first most (Some (intent_key (child_of r.id n) func))) steps
            ∙ ap (λ t. if t then Some (seat P) else None) (eq-eqb (Cost d room e asked first most (seat P)) 0 free)

  awaits_it : (j : IntentId) → next_output c m r g ≡ StageOutput.Waits (Wait.Result j) → Awaits d room e asked first most past i c m r a runs keys sound ledger next live has mine alive f areas rows full goes g at j
  awaits_it j output =
      let h = stage_calls r.id r.func g.caller g.tx (count_changes c.book) step g.machine.effect g.stage told (StageOutput.Waits (Wait.Result j)) output tt in
      let looks = is_look h.at (looks_waits r.id g.tx step h.said.func h.at told j h.said.output) in record {
        run = Q h.at h.said.func h.said.args h.stage h.said.effect h.said.short;
        is = calls_q h.at h.said.func h.said.args h.stage h.said.effect h.said.short;
        id = waits_child r.id g.tx step (call_output h.said.func h.at told) j h.said.output;
        calls = calls_it h.at h.said.func h.said.args h.stage h.said.effect h.said.short (StageOutput.Waits (Wait.Result j)) h.said.output tt;
        stuck = stuck_it h.at h.said.func h.said.args h.stage h.said.effect h.said.short looks (none h.at h.said.func h.said.args h.stage h.said.effect h.said.short (StageOutput.Waits (Wait.Result j)) h.said.output tt);
      }

  -- ---- a call that nobody waits for
  no_close_it : (v : Answer) → next_output c m r g ≡ StageOutput.Starts v → is_close g.stage ≡ true → ⊥
  no_close_it v output close =
      let h = stage_asyncs r.id r.func g.caller g.tx (count_changes c.book) step g.machine.effect g.stage told (StageOutput.Starts v) output tt in
      let clash : false ≡ true = ap is_close (sym h.stage) ∙ close in false_true clash

  module _ (func : ℕ) (v : Value) (stage : g.stage ≡ Stage.Async AsyncAt.Note) (effect : g.machine.effect ≡ Effect.Async func v) (short : has_callees r.id ≡ true) where
    abbrev A : Run
    A = record { id = child; func = func; deadline = r.deadline; at = RunAt.Looks }

    notes_a : callee_of r ≡ Some A
    notes_a = callee_is (Effect.Async func v) effect ∙ ap (λ b. if b then Some A else None) short

    put_row : is_some (map.get m (key_in func child)) ≡ true
    put_row = subst (λ x. HasPut (Stage.Async AsyncAt.Note) x child m) effect (subst (λ x. HasPut x g.machine.effect child m) stage (sound.upkeep.owe.each i r g live at).put)

    found_it : HasBody d room e asked first most N A
    found_it = let h = callee_has d c m sound.upkeep.invariant func child below put_row in record {
      body = h.body;
      there = body_on rows (seat A) h.body (ap (λ q. body_at (map.get m q)) (child_key r.id step func) ∙ has_body h);
      func = callee_func d c m sound.upkeep.invariant func child below h;
    }

    abbrev S : Stands d e asked r g
    S = (its d room e asked first most past i c m r a runs keys sound ledger next live has mine alive f areas rows full goes g at).0

    extra_it : has_ended (map.get m (seat A)) ≡ true → suc (begun_left m S) ≤ Spare d room e asked first most (seat r) + a
    extra_it ends = by_cover (subst (CoversAt d room e asked first most past c m i r g (begun_left m S) (Spare d room e asked first most (seat r) + a)) stage
        (its d room e asked first most past i c m r a runs keys sound ledger next live has mine alive f areas rows full goes g at).1)
      where
        apart : Stage.Async AsyncAt.Note ≡ Stage.Async AsyncAt.Register → ⊥
        apart h = cc

        by_cover : (suc (begun_left m S) ≤ Spare d room e asked first most (seat r) + a) ⊎ ((begun_left m S ≤ Spare d room e asked first most (seat r) + a) × Mid d room e asked first most past c m i r g) → suc (begun_left m S) ≤ Spare d room e asked first most (seat r) + a
        by_cover (inl h) = h
        by_cover (inr (le, IsMidway.acts own bare)) = absurd (async_over d c m sound.upkeep.invariant r g (knows_it sound.upkeep.invariant i r g live at).0 func ends sound.upkeep.seats v effect bare)
        by_cover (inr (le, IsMidway.stands f1 v1 effect1 stage1 filled absent)) = absurd (apart (sym stage ∙ stage1))

    noted_a : NotedIt d room e asked first most past i c m r a runs keys sound ledger next live has mine alive f areas rows full goes g at A
    noted_a = record { looks = refl; deadline = refl; found = found_it; extra = extra_it }

  noted_it : (v : Answer) → next_output c m r g ≡ StageOutput.Starts v → (q : Run) → callee_of r ≡ Some q → NotedIt d room e asked first most past i c m r a runs keys sound ledger next live has mine alive f areas rows full goes g at q
  noted_it v output q is =
      let h = stage_asyncs r.id r.func g.caller g.tx (count_changes c.book) step g.machine.effect g.stage told (StageOutput.Starts v) output tt in
      let note = starts_noted h.at (async_output h.said.func h.at told) v h.said.output in
      let stage = h.stage ∙ ap Stage.Async note in
      subst (λ x. NotedIt d room e asked first most past i c m r a runs keys sound ledger next live has mine alive f areas rows full goes g at x)
      (same_some (sym (notes_a h.said.func h.said.args stage h.said.effect h.said.short) ∙ is)) (noted_a h.said.func h.said.args stage h.said.effect h.said.short)

  -- ---- midway
  module _ (w : Stage) (k : Option Mark) (output : next_output c m r g ≡ StageOutput.On w k) where
    abbrev s1 : Run
    s1 = record r { at = RunAt.Begins (at_stage g w) }

    abbrev b1 : Core
    b1 = (turn_next (counted c) i r (turned_by d r g (StageOutput.On w k))).0

    abbrev S1 : Stands d e asked r g
    S1 = (its d room e asked first most past i c m r a runs keys sound ledger next live has mine alive f areas rows full goes g at).0

    next_then : next_run b1 past ≡ Some i
    next_then = next_put c b1 past i s1 refl next

    lowers : suc (left_at e N r.func r.id g.tx step g.machine.effect w) ≤ left_at e m r.func r.id g.tx step g.machine.effect g.stage
    lowers = output_lower d room e asked first most past i c m r a runs keys sound ledger next live has mine alive f areas rows full goes g at (StageOutput.On w k) output

    by_note : (x : Back) → async_answer AsyncAt.Note (note_output x) ≡ StageOutput.On w k → w ≡ Stage.Async AsyncAt.Note
    by_note Back.Set h = cc
    by_note Back.AlreadySet h = cc
    by_note Back.Absent h = let same : Stage.Async AsyncAt.Note ≡ w = cc in sym same

    module _ (v : AsyncAt) (func : ℕ) (args : Value) (stage : g.stage ≡ Stage.Async v) (effect : g.machine.effect ≡ Effect.Async func args) (short : has_callees r.id ≡ true) where
      abbrev B1 : Body
      B1 = callee_body r.id r.func step func args None false

      asyncs : stage_asks r.id r.func g.caller g.tx step g.machine.effect g.stage ≡ async_asks r.func (place_of r.id step) B1 v
      asyncs = ap (λ x. stage_asks r.id r.func g.caller g.tx step g.machine.effect x) stage ∙ ap (λ x. async_here_asks r.id r.func step x v) effect
          ∙ ap (λ t. if t then async_asks r.func (place_of r.id step) B1 v else look_asks r.id r.func) short

    -- from the opening
    from_open : (func : ℕ) (args : Value) (stage : g.stage ≡ Stage.Async AsyncAt.Open) (effect : g.machine.effect ≡ Effect.Async func args) (short : has_callees r.id ≡ true) → async_answer AsyncAt.Open (async_output func AsyncAt.Open told) ≡ StageOutput.On w k → registered_in (call_at N key) ≡ false
    from_open func args stage effect short is =
        let q = asyncs AsyncAt.Open func args stage effect short in
        ap (λ x. registered_in (call_in (map.get (rows_after x c.now m) key))) (asks ∙ q) ∙ ap (λ x. registered_in (call_in x)) (set_here m key (act (Act.OpenInvoke func) c.now (map.get m key)).0)
        ∙ opens_unregistered func c.now (map.get m key) w k (ap (λ x. async_answer AsyncAt.Open (async_output func AsyncAt.Open (query_reply x c.now m))) (sym q) ∙ is)

    -- from the callee's row
    module _ (func : ℕ) (args : Value) (stage : g.stage ≡ Stage.Async AsyncAt.Register) (effect : g.machine.effect ≡ Effect.Async func args) (short : has_callees r.id ≡ true) where
      abbrev row_key : RowKey
      row_key = intent_key child func

      set_is : map.get N row_key ≡ (act (Act.Register (B1 AsyncAt.Register func args stage effect short)) c.now (map.get m row_key)).0
      set_is = ap (λ x. map.get (rows_after x c.now m) row_key) (asks ∙ asyncs AsyncAt.Register func args stage effect short) ∙ set_here m row_key (act (Act.Register (B1 AsyncAt.Register func args stage effect short)) c.now (map.get m row_key)).0

      call_stays : map.get N key ≡ map.get m key
      call_stays = ap (λ x. map.get (rows_after x c.now m) key) (asks ∙ asyncs AsyncAt.Register func args stage effect short) ∙ set_others m row_key (act (Act.Register (B1 AsyncAt.Register func args stage effect short)) c.now (map.get m row_key)).0 key (kinds_apart (λ x. not (is_intent_key x)) key row_key refl refl)

      func_same : {x y : ℕ} {v u : Value} → Effect.Async x v ≡ Effect.Async y u → x ≡ y
      func_same h = cc

      from_register : (x : ℕ) → suc x ≡ Spare d room e asked first most (seat r) + a → begun_left N (restand S1 w) ≤ x → (suc (begun_left N (restand S1 w)) ≤ x) ⊎ ((begun_left N (restand S1 w) ≤ x) × Mid d room e asked first most past b1 N i s1 (at_stage g w))
      from_register x one enough = by_cover (subst (CoversAt d room e asked first most past c m i r g (begun_left m S1) (Spare d room e asked first most (seat r) + a)) stage
          (its d room e asked first most past i c m r a runs keys sound ledger next live has mine alive f areas rows full goes g at).1)
        where
          fits : (l0 l1 rest x n : ℕ) → suc l1 ≤ l0 → suc (l0 + rest) ≤ n → suc x ≡ n → suc (l1 + rest) ≤ x
          fits l0 l1 rest x n h k o = omega (arith, h, k, o)

          by_cover : (suc (begun_left m S1) ≤ Spare d room e asked first most (seat r) + a) ⊎ ((begun_left m S1 ≤ Spare d room e asked first most (seat r) + a) × Mid d room e asked first most past c m i r g)
              → (suc (begun_left N (restand S1 w)) ≤ x) ⊎ ((begun_left N (restand S1 w) ≤ x) × Mid d room e asked first most past b1 N i s1 (at_stage g w))
          by_cover (inl h) = inl (fits (left_at e m r.func r.id g.tx step g.machine.effect g.stage) (left_at e N r.func r.id g.tx step g.machine.effect w) (rest_left S1) x (Spare d room e asked first most (seat r) + a) lowers h one)
          by_cover (inr (le, IsMidway.acts own bare)) = inr (enough, IsMidway.acts next_then (ap (λ o. registered_in (call_in o)) call_stays ∙ bare))
          by_cover (inr (le, IsMidway.stands f1 v1 effect1 stage1 filled absent)) =
              let same : f1 ≡ func = func_same (sym effect1 ∙ effect) in
              let bare = (full filled).0 row_key (ap (λ n. map.get m (intent_key child n)) (sym same) ∙ absent) in
              absurd (put_there (B1 AsyncAt.Register func args stage effect short) c.now (map.get m row_key) (sym set_is ∙ bare))

    mid_it : Midway d room e asked first most past i c m r a runs keys sound ledger next live has mine alive f areas rows full goes g at b1 s1 (at_stage g w) (begun_left N (restand S1 w))
    mid_it z1 is later x one enough =
        let h = stage_asyncs r.id r.func g.caller g.tx (count_changes c.book) step g.machine.effect g.stage told (StageOutput.On w k) output (ap is_async is) in
        by_at h.at h.stage h.said.effect h.said.output h.said.short
      where
        one_less : (x y : ℕ) → suc x ≤ y → x ≡ 1 → y ≡ 1 → ⊥
        one_less x y h k l = omega (arith, h, k, l)

        by_at : {func : ℕ} {args : Value} (v : AsyncAt) → g.stage ≡ Stage.Async v → g.machine.effect ≡ Effect.Async func args → async_answer v (async_output func v told) ≡ StageOutput.On w k → has_callees r.id ≡ true
            → (suc (begun_left N (restand S1 w)) ≤ x) ⊎ ((begun_left N (restand S1 w) ≤ x) × Mid d room e asked first most past b1 N i s1 (at_stage g w))
        by_at {func} {args} AsyncAt.Open stage effect says1 short = inr (enough, IsMidway.acts next_then (from_open func args stage effect short says1))
        by_at {func} {args} AsyncAt.Register stage effect says1 short = from_register func args stage effect short x one enough
        by_at {func} {args} AsyncAt.Note stage effect says1 short = absurd (one_less (left_at e N r.func r.id g.tx step g.machine.effect w) (left_at e m r.func r.id g.tx step g.machine.effect g.stage) lowers
            (ap (left_at e N r.func r.id g.tx step g.machine.effect) (by_note (back_of told) says1)) (ap (left_at e m r.func r.id g.tx step g.machine.effect) stage))

  pub begun_knows : BegunKnows d room e asked first most past i c m r a runs keys sound ledger next live has mine alive f areas rows full goes g at
  begun_knows = record { mid = mid_it; opened = opened_it; no_close = no_close_it; noted = noted_it; awaits = awaits_it }
