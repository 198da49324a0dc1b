-- Every event brings results so: a result is set by a run that gives it back alone, and that run has its row.
use Rattle.beldi_histories.proofs.{Answers.true_false, Begins.false_true}
use Rattle.std.specs.Prelude.{Result, Ok, Err, nat_lt, ◌^◌, ◌-◌, ◌+◌, ◌||◌}
use Rattle.std.specs.declared.alloc.AllocError.{AllocError}
use Rattle.std.proofs.Common.{◌≡◌, ℕ, ◌==◌, eq-eqb, Bool, true, false, Option, Some, None, is_some, if◌then◌else◌, refl, sym, ap, subst, ◌∙◌, arith}
use Rattle.std.specs.FinMap as map
use Rattle.beldi_value.{proofs.Callees.no_root, specs.Id.child_of, specs.Id.has_no_hops, specs.declared.id.IntentId.IntentId, specs.declared.outcome.Outcome.Outcome, specs.declared.place.Caller.Caller, specs.declared.place.Place.Place}
use Rattle.beldi_tree.specs.declared.deployment.Deployment.{Deployment}
use Rattle.beldi_lang.specs.declared.effect.Effect.{Effect}
use Rattle.beldi_row.specs.{Act.act, Act.register_to, Key.RowKey, Table.Rows, declared.act.Act.Act, declared.key.Kind.Kind, declared.row.InvokeRow.InvokeRow, declared.row.Row.Row, declared.table.TableErr.TableErr}
use Rattle.beldi_query.{proofs.Lent.refused_stand, specs.declared.query.Query.Query, specs.Query.CameOn, specs.Query.QueryReply, specs.Query.rows_after}
use Rattle.beldi_query.specs.Query.{may_remove}
use Rattle.beldi_step.proofs.Spares.{plan_removes, plan_spares}
use Rattle.beldi_invokelog.{proofs.InvokedCalls.calls_stay, specs.InvokeLog.call_at, specs.InvokeLog.call_in, specs.InvokeLog.invoke_key}
use Rattle.beldi_histories.{proofs.Cases.by_cases, proofs.RowMaps.keys_set, specs.Expected.called_by, specs.Expected.result_of, specs.RowMatching.CallMatches, specs.Stands.key_in}
use Rattle.beldi_step.proofs.StepRuns.{of_plan}
use Rattle.beldi_step.specs.{HostStep.Core, HostStep.EventBy, HostStep.Plan, HostStep.asks, HostStep.immediate, HostStep.counted, HostStep.crash_plan, HostStep.is_crowded, HostStep.last_moment, HostStep.plan, HostStep.plan_of, HostStep.reads_all, HostStep.run_plan, Run.asks_at, Run.run_asks, Run.place_of, Run.stage_asks, declared.event.Event.Event, declared.event.EventReply.EventReply, declared.run.Begun.Begun, declared.run.Run.Run, declared.run.RunAt.RunAt, declared.run.RunTx.RunTx, declared.run.Stage.Stage}
use Rattle.beldi_invariant.{proofs.Moves.if_plan, proofs.Returns.has_caller, specs.Invariant.Invariant}
use Rattle.beldi_bound.proofs.{Calling.call_row, Ending.knows_it, Going.query_goes_on, ResultsCome.EventsBringResults, ResultsCome.ResultsCome, ResultsCome.results_same}

-- ---- one act
abbrev is_back : Act → Bool
is_back (Act.CallBack o) = true
is_back a = false

same_call : {y x : InvokeRow} → ◌≡◌ {A = Option InvokeRow} (Some y) (Some x) → y ≡ x
same_call h = cc

stays_result : (a : Act) (now : ℕ) (y x : InvokeRow) → is_back a ≡ false → call_in (act a now (Some (Row.Invoke y))).0 ≡ Some x → y.result ≡ x.result
stays_result (Act.CallBack o) now y x h is = cc
stays_result Act.NoteRegistered now y x h is = by_mark y.registered (same_call is)
  where
    by_mark : (b : Bool) → (register_to y b).0 ≡ x → y.result ≡ x.result
    by_mark true is = ap (λ (z : InvokeRow). z.result) is
    by_mark false is = ap (λ (z : InvokeRow). z.result) is
stays_result (Act.DropIntent l) now y x h is = ap (λ (z : InvokeRow). z.result) (same_call is)
stays_result Act.DropRow now y x h is = cc
stays_result a now y x h is = ap (λ (z : InvokeRow). z.result) (same_call is)

apart : (o u : Option Outcome) → o ≡ u → o ≡ None → is_some u ≡ true → ⊥
apart o u same none some = let clash : false ≡ true = sym (ap is_some none) ∙ ap is_some same ∙ some in cc

abbrev BackRow : RowKey → Rows → Type 0
BackRow k m = (f : ℕ) (i : IntentId) (s : ℕ) → k ≡ invoke_key f (place_of i s) → (y : InvokeRow) → call_at m k ≡ Some y → is_some (map.get m (key_in y.func (child_of i s))) ≡ true

abbrev ActBacks : RowKey → Act → Rows → Type 0
ActBacks k a m = is_back a ≡ true → BackRow k m

abbrev Backs : Query → Rows → Type 0
Backs (Query.Act k a) m = ActBacks k a m
Backs (Query.After k) m = Unit {0}

module _ (now : ℕ) (m : Rows) where
  abbrev Comes : RowKey → Option Row → Type 0
  Comes l o = (f : ℕ) (i : IntentId) (s : ℕ) → l ≡ invoke_key f (place_of i s) → (y x : InvokeRow) → call_at m l ≡ Some y → y.result ≡ None → call_in o ≡ Some x → is_some x.result ≡ true → is_some (map.get m (key_in y.func (child_of i s))) ≡ true

  act_comes : (k : RowKey) (a : Act) → ActBacks k a m → Comes k (act a now (map.get m k)).0
  act_comes k a backs f i s key y x at none at2 some = by_cases (is_back a) (λ t. backs t f i s key y at) (λ t. absurd (by_row (map.get m k) at at2 t))
    where
      by_row : (o : Option Row) → call_in o ≡ Some y → call_in (act a now o).0 ≡ Some x → is_back a ≡ false → ⊥
      by_row (Some (Row.Invoke w)) is is2 t = apart w.result x.result (stays_result a now w x t is2) (ap (λ (z : InvokeRow). z.result) (same_call is) ∙ none) some
      by_row None is is2 t = cc
      by_row (Some w) is is2 t = cc

  query_comes : (q : Query) → Backs q m → (l : RowKey) → Comes l (map.get (rows_after q now m) l)
  query_comes (Query.Act k a) backs = keys_set m k (act a now (map.get m k)).0 Comes (act_comes k a backs) (λ l other f i s key y x at none at2 some. absurd (apart y.result x.result (ap (λ (z : InvokeRow). z.result) (same_call (sym at ∙ at2))) none some))
  query_comes (Query.After k) backs = λ l f i s key y x at none at2 some. absurd (apart y.result x.result (ap (λ (z : InvokeRow). z.result) (same_call (sym at ∙ at2))) none some)

  query_brings : (q : Query) → may_remove q ≡ false → Backs q m → ResultsCome m (rows_after q now m)
  query_brings q keeps backs = let g = query_goes_on q keeps now m in record {
    keys = g.keys;
    calls = calls_stay q keeps now m;
    come = λ f i s y x at none at2 some. g.keys (key_in y.func (child_of i s)) (query_comes q backs (invoke_key f (place_of i s)) f i s refl y x at none at2 some);
  }

-- ---- what a live run asks
abbrev query_backs : Query → Bool
query_backs (Query.Act k a) = is_back a
query_backs q = false

none_backs : (q : Query) (m : Rows) → query_backs q ≡ false → Backs q m
none_backs (Query.Act k a) m h = λ t. let clash : true ≡ false = sym t ∙ h in absurd (true_false clash)
none_backs (Query.After k) m h = tt

module _ (d : Deployment) (c : Core) (m : Rows) (h : Invariant d c m) (i : ℕ) (r : Run) (live : map.get c.runs i ≡ Some r) where
  module _ (g : Begun) (at : r.at ≡ RunAt.Begins g) (cl : Caller) (from : g.caller ≡ Some cl) where
    back_row : BackRow (invoke_key cl.func cl.place) m
    back_row f j s key y there =
        let k = knows_it h i r g live at in
        let w = has_caller d h.histories r.id k.0.instance cl h.well_formed k.0.made (sym k.0.caller ∙ from) in
        let callee : map.get h.histories (child_of cl.place.intent cl.place.step) ≡ Some k.0.instance = ap (map.get h.histories) (sym w.is_callee) ∙ k.0.made in
        let expected : CallMatches (map.get m (invoke_key cl.func cl.place)) (Some (k.0.instance.func, result_of k.0.instance)) = subst (CallMatches (map.get m (invoke_key cl.func cl.place)))
        ((λ l. called_by cl.func (w.made l) (callee l)) ∙ ap (λ b. if b then Some (k.0.instance.func, result_of k.0.instance) else None) (eq-eqb w.caller.func cl.func w.func)) (h.rows.keys (invoke_key cl.func cl.place)) in
        let row = call_row (map.get m (invoke_key cl.func cl.place)) k.0.instance.func (result_of k.0.instance) expected in
        let same : y ≡ row.0 = same_call (sym there ∙ ap call_in row.1) in
        let func : y.func ≡ r.func = ap (λ (z : InvokeRow). z.func) same ∙ row.2 ∙ k.0.func in
        let place : cl.place ≡ place_of j s = place_is (ap (λ (z : RowKey). z.kind) key) in
        let child : r.id ≡ child_of j s = w.is_callee ∙ ap (λ (p : Place). child_of p.intent p.step) place in
        let below : has_no_hops r.id.hops ≡ false = ap (λ (z : IntentId). has_no_hops z.hops) child ∙ no_root j s in
        ap (λ f1. is_some (map.get m (key_in f1 (child_of j s)))) func ∙ ap (λ z. is_some (map.get m (key_in r.func z))) (sym child) ∙ k.1.row below
      where
        place_is : {p q : Place} → Kind.Invoke p ≡ Kind.Invoke q → p ≡ q
        place_is h = cc

  abbrev is_back_stage : Stage → Bool
  is_back_stage Stage.Back = true
  is_back_stage w = false

  other_stage : (id : IntentId) (func : ℕ) (c : Option Caller) (o : Option RunTx) (step : ℕ) (e : Effect) (w : Stage) → is_back_stage w ≡ false → query_backs (stage_asks id func c o step e w) ≡ false
  other_stage id func c o step e Stage.Ask h = refl
  other_stage id func c o step e (Stage.Walk r) h = grind arith
  other_stage id func c o step e (Stage.Keep v version) h = refl
  other_stage id func c o step e (Stage.Write at) h = grind arith
  other_stage id func c o step e (Stage.Tx at) h = grind arith
  other_stage id func c o step e (Stage.Decide m) h = grind arith
  other_stage id func c o step e (Stage.End v) h = grind arith
  other_stage id func c o step e (Stage.Call at) h = grind arith
  other_stage id func c o step e (Stage.Async at) h = grind arith
  other_stage id func c o step e Stage.Back h = cc
  other_stage id func c o step e Stage.Notify h = grind arith
  other_stage id func c o step e Stage.Close h = grind arith

  back_stage : (g : Begun) → r.at ≡ RunAt.Begins g → (b : Option Caller) (e : Effect) → g.caller ≡ b → Backs (stage_asks r.id r.func b g.tx g.machine.steps e Stage.Back) m
  back_stage g at (Some cl) (Effect.Return o) from = λ t. back_row g at cl from
  back_stage g at (Some cl) e from = λ t. absurd (false_true t)
  back_stage g at None e from = λ t. absurd (false_true t)

  run_backs : Backs (run_asks r) m
  run_backs = by_at r.at refl
    where
      by_stage : (g : Begun) → r.at ≡ RunAt.Begins g → (w : Stage) → Backs (stage_asks r.id r.func g.caller g.tx g.machine.steps g.machine.effect w) m
      by_stage g at Stage.Back = back_stage g at g.caller g.machine.effect refl
      by_stage g at w = none_backs (stage_asks r.id r.func g.caller g.tx g.machine.steps g.machine.effect w) m (other_stage r.id r.func g.caller g.tx g.machine.steps g.machine.effect w refl)

      by_at : (x : RunAt) → r.at ≡ x → Backs (asks_at r x) m
      by_at RunAt.Looks at = none_backs (asks_at r RunAt.Looks) m refl
      by_at (RunAt.Registers b) at = none_backs (asks_at r (RunAt.Registers b)) m refl
      by_at (RunAt.Begins g) at = by_stage g at g.stage

-- ---- an event
module _ (d : Deployment) (c : Core) (m : Rows) (h : Invariant d c m) where
  abbrev PlanBacks : Plan → Type 0
  PlanBacks (immediate b y) = Unit {0}
  PlanBacks (asks q) = Backs q m
  PlanBacks reads_all = Unit {0}

  of_run : (i : ℕ) (o : Option Run) → map.get c.runs i ≡ o → PlanBacks (run_plan (counted c) i o)
  of_run i None is = tt
  of_run i (Some r) is = if_plan PlanBacks (nat_lt r.deadline c.now) _ _ (λ t. tt) (λ t. run_backs d c m h i r is)

  of_crash : (i : ℕ) (o : Option Run) → PlanBacks (crash_plan (counted c) i o)
  of_crash i None = tt
  of_crash i (Some r) = if_plan PlanBacks (nat_lt r.deadline c.now) _ _ (λ t. tt) (λ t. tt)

  plan_backs : (e : Event) → PlanBacks (plan_of d e (counted c))
  plan_backs Event.Ticket = if_plan PlanBacks (c.newest == 2 ^ 32 - 1) _ _ (λ t. tt) (λ t t2. absurd (false_true t2))
  plan_backs (Event.Request t f a) = if_plan PlanBacks ((t == 0) || nat_lt c.newest t) _ _ (λ u. tt) (λ u. if_plan PlanBacks (is_crowded (counted c)) _ _ (λ u. tt) (λ u t2. absurd (false_true t2)))
  plan_backs (Event.Turn i) = of_run i (map.get c.runs i) refl
  plan_backs (Event.Lost i) = of_run i (map.get c.runs i) refl
  plan_backs (Event.Crash i) = of_crash i (map.get c.runs i)
  plan_backs (Event.Restart id f) = if_plan PlanBacks (is_crowded (counted c)) _ _ (λ u. tt) (λ u. tt)
  plan_backs (Event.Tick n) = if_plan PlanBacks (nat_lt last_moment (c.now + n)) _ _ (λ u. tt) (λ u. tt)
  plan_backs Event.Ic = tt
  plan_backs Event.Halt = tt

  plan_brings : (room old new : ℕ) (e : Event) (b : Core) (n : Rows) (r : Result EventReply AllocError) (p : Plan) → plan_removes p ≡ false → PlanBacks p → EventBy d room old new e (counted c) p m b n r → ResultsCome m n
  plan_brings room old new e b n r (immediate k y) keeps backs s = subst (ResultsCome m) (sym s.1) (results_same m)
  plan_brings room old new e b n r reads_all keeps backs s = subst (ResultsCome m) (sym s.2.0) (results_same m)
  plan_brings room old new e b n r (asks q) keeps backs s = by_came s.0 s.2
    where
      by_came : (w : Result QueryReply TableErr) → CameOn q c.now room w m n → ResultsCome m n
      by_came (Ok t) s = subst (ResultsCome m) (sym s.0) (query_brings c.now m q keeps backs)
      by_came (Err v) s = subst (ResultsCome m) (sym (refused_stand q c.now room v m n s)) (results_same m)

pub events_bring_results : EventsBringResults
events_bring_results d room old new e c b m n r h s = plan_brings d c m h room old new e b n r (plan d e c) (plan_spares d e c) (of_plan d e c (PlanBacks d c m h) (λ t. plan_backs d c m h e) (λ t. tt) tt) s
