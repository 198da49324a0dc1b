-- The turns of a call: it is opened once, and waits for its result.
use Rattle.beldi_call.specs.Call.{open_output}
use Rattle.beldi_invariant.proofs.Names.{Answer, Answers, Begins, Begun, Bool, Call, CallAt, CallMatches, Core, Deployment, Ends, Entry, IsConsistent, Grows, Inside, Instance, IntentId, InvokeRow, Item, Histories, Knows, KnowsAt, List, Look, None, OpenInvoke, Opens, Option, Outcome, Place, PlainState, Invariant, Row, RowKey, Rows, Run, RunAt, RunTx, WellFormedHistories, StageOutput, Some, Step, ActReply, TxId, Value, Waits, [], act, answer_of, ap, arith, local_steps, at_stage, call_answer, call_asks, call_here_output, call_output, callee_at, callee_of, calls_at, calls_go, child_of, effect_before, false, grows_self, has_callees, if◌then◌else◌, invoke_key, is_begin, is_opened, is_some, is_waited, listed, look_output, no_root_key, opened, opens_are_open, option_map, expected_call, place_of, refl, result_of, root_key, run_called, run_tx, set_others, set_row, step_by, step_mark, subst, sym, true, turn_next, turned_by, tx_after, tx_now, tx_of, value_at, ℕ, ◌++◌, ◌∙◌, ◌∷◌, ◌≡◌, Kind, Mark, Stage, Wait}
use Rattle.beldi_invariant.proofs.CallsHere.{not_made, was_made, made_by, next_here, callee_knows, given_first, first_given, call_now, absent_here, callee_frame, callee_there, caller_there, call_entered, callee_goes, callee_row, callee_ahead, callee_settled, callee_grows, no_outcome}
use Rattle.beldi_invariant.proofs.Moves.{AfterTurn, AfterQuery, Kept, SameRoots, quiet, entered, AfterAct, still}
use Rattle.beldi_invariant.proofs.{Keeping.as_it_was, Keeping.set_shadows, Passing.replays_call, Passing.tx_is, Passing.tx_now_is, Passing.tx_step_is, Others.kept_moving, Registered.no_intent, StageTurns.at_other, StageTurns.effect_here, StageTurns.awaits, StageTurns.stands_at, StageTurns.tx_next, KeptWellFormed.called_kept, KeptWellFormed.called_with, Shown.log_values, Shown.sound, Grown.grown_same}
use Rattle.beldi_invariant.proofs.Names.map

-- a call that is there already made no entry
again_unmarked : (o : Option RunTx) → step_mark o false ≡ None
again_unmarked o = grind arith

module _ (d : Deployment) (c : Core) (m : Rows) (i : ℕ) (r : Run) (g : Begun) (h : Invariant d c m) (live : map.get c.runs i ≡ Some r) (at_is : r.at ≡ Begins g) (k : Knows d h.histories r g) (finds : Inside m h.plain c.book k g.stage) (f : ℕ) (v : Value) (is : g.machine.effect ≡ Call f v) (hops : has_callees r.id ≡ true) where
  abbrev place : Place
  place = place_of r.id g.machine.steps

  abbrev callee : IntentId
  callee = child_of r.id g.machine.steps

  abbrev key : RowKey
  key = invoke_key r.func place

  abbrev Left : StageOutput → Rows → Type 0
  Left s n = AfterTurn d h.plain c i r (turned_by d r g s) n

  call_here : effect_before d k.instance g.machine.steps ≡ Call f v
  call_here = effect_here k ∙ is

  -- ---- the result is there: it is the answer that the step was given
  answered_by : (u : Outcome) (j : Instance) → map.get h.histories callee ≡ Some j → result_of j ≡ Some u → (later : List Answer) → k.later ≡ later → (rest : List Answer) × (later ≡ answer_of u ∷ rest)
  answered_by u j at result later left = given_first (answer_of u) later (first_given d c m r g h k true f v call_here j at later left ∙ ap (option_map answer_of) (by_wait (is_waited j.parent) result))
    where
      by_wait : (t : Bool) → (if t then j.outcome else None) ≡ Some u → j.outcome ≡ Some u
      by_wait t is = grind arith

  done : (u : Outcome) (z : ℕ × Option Outcome) → expected_call h.histories r.func place ≡ Some z → z.1 ≡ Some u → Left (Answers (answer_of u) None) m
  done u z there result =
      let j = was_made d c m r g h k true f v call_here z there in
      let a = answered_by u j.0 j.1 (j.2 ∙ result) k.later refl in
      replays_call d c m i r g h live k finds (Call f v) is f v refl m (answer_of u) a.0 (λ t. refl) (as_it_was h) a.1

  -- ---- it is not: the run looks for it from then on
  apart : is_begin g.machine.effect ≡ false
  apart = ap is_begin is

  starts : (n : Rows) (p : PlainState) (book : List Entry) (histories : Histories) → WellFormedHistories d histories → map.get histories r.id ≡ Some k.instance → is_some (map.get histories callee) ≡ true → (o : Run) → run_called r ≡ Some o → KnowsAt d n p book histories o o.at
  starts n p book histories well_formed made there o started = callee_knows d n p book histories well_formed r g.tx g.machine.steps g.machine.effect f v k.instance is made k.func (tx_step_is k apart) call_here there o (sym (ap (callee_at r) at_is) ∙ started)

  starts_here : is_some (map.get h.histories callee) ≡ true → (o : Run) → run_called r ≡ Some o → KnowsAt d m h.plain c.book h.histories o o.at
  starts_here there = starts m h.plain c.book h.histories h.well_formed k.made there

  waits : is_some (map.get h.histories callee) ≡ true → Left (Waits (Wait.Result callee)) m
  waits there = awaits d c m i r g h live k callee m (λ t. refl) (as_it_was h) (λ e. starts_here there)

  opens_again : is_some (map.get h.histories callee) ≡ true → Left (Opens (step_mark g.tx false)) m
  opens_again there = subst (λ z. Left (Opens z) m) (sym (again_unmarked g.tx)) (quiet d c m m i r h live (λ t. refl) (turned_by d r g (Opens None)) h.histories h.lock_ahead refl refl
      (stands_at d c m i r g h live k finds is refl (Stage.Call CallAt.Look) m h.lock_ahead (as_it_was h) (hops, λ e. there))
      (λ e. starts_here there) (as_it_was h))

  -- ---- it is opened now: it is the instance's next step
  module _ (none : map.get m key ≡ None) (new : map.get h.histories callee ≡ None) (left : k.later ≡ []) where
    abbrev row : Option Row
    row = Some (Row.Invoke (opened f))

    abbrev rows_now : Rows
    rows_now = set_row m key row

    roots : SameRoots m rows_now
    roots u = ap is_some (set_others m key row (root_key u) (no_root_key u r.func (Kind.Invoke place) refl))

    -- its callee is known from then on, in the transaction of the call, if any
    module _ (t : Option TxId) (inner : t ≡ tx_now d r.id k.instance) where
      abbrev next : Histories
      next = map.insert h.histories (callee_of r.id k.instance) (local_steps d (callee_of r.id k.instance) (called_with t f v (calls_at r.id k.instance true)))

      well_formed : WellFormedHistories d next
      well_formed = called_kept d h.histories h.well_formed t r.id k.instance f v k.made inner (call_now d c m r g h k true f v is new left) (absent_here d c m r g h k true f v is new left)

      kept_opened : (q : PlainState) → Grows h.plain.made q.made → q.items ≡ h.plain.items → ((x : Item) → listed rows_now x ≡ value_at q x) → IsConsistent d rows_now q next h.lock_ahead → Kept h rows_now q next h.lock_ahead
      kept_opened q grows items values goes = kept_moving h rows_now q next h.lock_ahead goes (callee_ahead d c m r g h k finds true f v is hops new left t inner) well_formed (callee_row d c m r g h k finds true f v is hops new left t inner) values
          (callee_settled d c m r g h k finds true f v is hops new left t inner q grows) (callee_grows d c m r g h k finds true f v is hops new left t inner) (callee_frame d c m r g h k finds true f v is hops new left t inner none q items)
          (no_intent d m key row next refl)

      made : map.get next r.id ≡ Some k.instance
      made = caller_there d c m r g h k finds true f v is hops new left t inner

      stays_made : is_some (map.get next callee) ≡ true
      stays_made = callee_there d c m r g h k finds true f v is hops new left t inner

      looks : (more : List Entry) (q : PlainState) → Kept h rows_now q next h.lock_ahead → RunAt d rows_now q more next (Some (record r { at = Begins (at_stage g (Stage.Call CallAt.Look)) }))
      looks more q kept = at_other d c m i r g h live k finds is refl (Stage.Call CallAt.Look) more rows_now q next h.lock_ahead k.instance made (grown_same k.instance) kept (hops, λ e. stays_made)

    -- outside, by an entry
    opens_outside : g.tx ≡ None → Left (Opens (Some Mark.Step)) rows_now
    opens_outside tx =
        let out : tx_after d r.id k.instance k.answers ≡ None = tx_is k apart ∙ ap (run_tx r.id r.func) tx in
        let inner : None ≡ tx_now d r.id k.instance = sym (tx_next k out left) in
        let state = step_by h.plain r.id k.instance (Call f v) in
        let leads = call_entered d c m i r g h live k finds true f v is hops new left out (next None inner) in
        let kept = kept_opened None inner state leads.grows refl (log_values h key row refl) (callee_goes d c m i r g h live k finds true f v is hops new left out) in
        entered d c m rows_now i r h live roots (turned_by d r g (Opens (Some Mark.Step))) Mark.Step state (next None inner) h.lock_ahead refl leads (λ o told. cc)
        (looks None inner (c.book ++ Step r.id ∷ []) state kept) (λ e. starts rows_now state (c.book ++ Step r.id ∷ []) (next None inner) (well_formed None inner) (made None inner) (stays_made None inner)) kept

    -- inside, by none
    opens_inside : (o : RunTx) → g.tx ≡ Some o → Left (Opens None) rows_now
    opens_inside o tx =
        let t : TxId = tx_of r.id r.func o in
        let now : tx_now d r.id k.instance ≡ Some t = tx_now_is k apart left ∙ ap (run_tx r.id r.func) tx in
        let calls = call_now d c m r g h k true f v is new left in
        let none = no_outcome d c m r g h k true f v is new left in
        let goes = calls_go d m rows_now h.plain h.histories h.lock_ahead r.id k.instance t f v (opens_are_open d m h.plain h.histories h.lock_ahead r.id k.instance t (sound h) k.made none now) k.made now calls hops
        (absent_here d c m r g h k true f v is new left) (set_shadows m key row refl) in
        let kept = kept_opened (Some t) (sym now) h.plain (grows_self h.plain.made) refl (log_values h key row refl) goes in
        quiet d c m rows_now i r h live roots (turned_by d r g (Opens None)) (next (Some t) (sym now)) h.lock_ahead refl refl
        (looks (Some t) (sym now) c.book h.plain kept) (λ e. starts rows_now h.plain c.book (next (Some t) (sym now)) (well_formed (Some t) (sym now)) (made (Some t) (sym now)) (stays_made (Some t) (sym now))) kept

    pub opens_now : Left (Opens (step_mark g.tx true)) rows_now
    opens_now = by_tx g.tx refl
      where
        by_tx : (o : Option RunTx) → g.tx ≡ o → Left (Opens (step_mark o true)) rows_now
        by_tx None tx = opens_outside tx
        by_tx (Some o) tx = opens_inside o tx

  -- ---- its turns
  abbrev AfterCall : CallAt → Option Row × ActReply → Type 0
  AfterCall at z = AfterAct d h.plain m key (λ t. turn_next c i r (turned_by d r g (call_answer r.id g.tx g.machine.steps (call_output f at t)))) z

  open_by : (x : InvokeRow) (o : Option Outcome) → x.result ≡ o → expected_call h.histories r.func place ≡ Some (x.func, x.result) → Left (call_answer r.id g.tx g.machine.steps (open_output false o)) m
  open_by x None none there = opens_again (made_by d c m r g h k true f v call_here x there)
  open_by x (Some u) some there = done u (x.func, x.result) there some

  open_at : (w : Option Row) → map.get m key ≡ w → CallMatches w (expected_call h.histories r.func place) → AfterCall CallAt.Open (act (OpenInvoke f) c.now w)
  open_at None at owed = let new = not_made d c m r g h k true f v call_here owed in opens_now at new (next_here d c m r g h k true f v call_here new k.later refl)
  open_at (Some (Row.Invoke x)) at owed = still d h.plain m key (Some (Row.Invoke x)) (sym at) (open_by x x.result refl owed)
  open_at (Some w) at owed = absurd owed

  look_by : (x : InvokeRow) (o : Option Outcome) → x.result ≡ o → expected_call h.histories r.func place ≡ Some (x.func, x.result) → Left (call_answer r.id g.tx g.machine.steps (look_output o)) m
  look_by x None none there = waits (made_by d c m r g h k true f v call_here x there)
  look_by x (Some u) some there = done u (x.func, x.result) there some

  look_at : (w : Option Row) → map.get m key ≡ w → CallMatches w (expected_call h.histories r.func place) → is_some (map.get h.histories callee) ≡ true → AfterCall CallAt.Look (act Look c.now w)
  look_at None at owed there = still d h.plain m key None (sym at) (waits there)
  look_at (Some (Row.Invoke x)) at owed there = still d h.plain m key (Some (Row.Invoke x)) (sym at) (look_by x x.result refl owed)
  look_at (Some w) at owed there = absurd owed

  by_at : (at : CallAt) → (is_opened at ≡ true → is_some (map.get h.histories callee) ≡ true) → AfterQuery d h.plain c.now m (λ t. turn_next c i r (turned_by d r g (call_answer r.id g.tx g.machine.steps (call_output f at t)))) (call_asks r.func place f at)
  by_at CallAt.Open version = open_at (map.get m key) refl (h.rows.keys key)
  by_at CallAt.Look version = look_at (map.get m key) refl (h.rows.keys key) (version refl)

  pub call_turn : (at : CallAt) → (is_opened at ≡ true → is_some (map.get h.histories callee) ≡ true)
      → AfterQuery d h.plain c.now m (λ t. turn_next c i r (turned_by d r g (call_here_output r.id g.tx g.machine.steps (Call f v) at t))) (call_asks r.func place f at)
  call_turn at version = subst (λ b. AfterQuery d h.plain c.now m (λ t. turn_next c i r (turned_by d r g (if b then call_answer r.id g.tx g.machine.steps (call_output f at t) else Ends None None))) (call_asks r.func place f at)) (sym hops) (by_at at version)
