-- The turn of a run that has begun: where it goes on, it is past calls that may be passed.
use Rattle.beldi_invokelog.specs.declared.invoke_log.Back.{Back}
use Rattle.beldi_call.specs.Call.{call_asks}
use Rattle.beldi_invariant.proofs.Names.{Answer, Async, AsyncAt, AtStage, Begins, Begun, Bool, Call, CallAt, Core, Deployment, Effect, Inside, Instance, Look, OpenInvoke, IntentId, IsTrue, Knows, None, NoteRegistered, Option, Outcome, Query, Return, Invariant, RowAct, RowKey, Rows, Run, RunTx, StageOutput, Some, Stage, QueryReply, Value, act, after_act, ap, arith, async_answer, async_asks, async_output, back_of, call_answer, call_of, call_output, callee_body, close_output, count_changes, false, if◌then◌else◌, invoke_key, is_did, look_asks, place_of, refl, rows_after, stage_asks, stage_output, subst, sym, query_reply, true, turned_by, wants_answer, ℕ, ◌<◌, ◌∙◌, ◌≡◌}
use Rattle.beldi_invariant.proofs.Names.map
use Rattle.beldi_invariant.proofs.Working.{operates}
use Rattle.beldi_step.specs.Run.{back_output}
use Rattle.beldi_upkeep.specs.Passed.{MayPass, PastCalls, RunsPast, may_pass}
use Rattle.beldi_upkeep.proofs.{PastAnswers.async_open_row, PastAnswers.look_row, PastAnswers.note_row, PastAnswers.open_row, PastAsks.IsCalling, PastRows.may_on, PastOutputs.IsPast, PastOutputs.answer_in, PastOutputs.answer_past, PastOutputs.output_past, PastTurns.Fits, PastTurns.OpensOwn, PastTurns.asked, PastTurns.by_call, PastTurns.called_at, PastTurns.no_call, PastTurns.none_before, PastTurns.opens_own, RowSets.set_here}

no_end : (u : Outcome) (o : Option RunTx) (x : Back) (a : Answer) → answer_in (back_output o x) ≡ Some a → ⊥
no_end u o x a h = grind arith

no_close : (id : IntentId) (c : Option _) (u : Outcome) (b : Bool) (a : Answer) → answer_in (close_output id c (Return u) b) ≡ Some a → ⊥
no_close id c u b a h = grind arith

abbrev is_calling : Effect → Bool
is_calling (Call f v) = true
is_calling (Async f v) = true
is_calling e = false

calling : (w : Bool) (f : ℕ) (v : Value) → is_calling (call_of w f v) ≡ true
calling true f v = refl
calling false f v = refl

not_calling : false ≡ true → ⊥
not_calling e = cc

wants_some : (e : Effect) → ((u : Outcome) → e ≡ Return u → ⊥) → IsTrue (wants_answer e)
wants_some (Return u) h = absurd (h u refl)
wants_some e h = grind arith

module _ (d : Deployment) (c : Core) (m : Rows) (h : Invariant d c m) (past : PastCalls m) (runs : RunsPast c m) (i : ℕ) (r : Run) (live : map.get c.runs i ≡ Some r) (g : Begun) (at_is : r.at ≡ Begins g) (k : Knows d h.histories r g) (finds : Inside m h.plain c.book k g.stage) where
  -- ---- a call that may be passed stays so, but the one that is opened now
  kept_by : (q : Query) → Fits d c m h past runs i r live g at_is k finds q → (s : IntentId) (x : ℕ) → (OpensOwn d c m h past runs i r live g at_is k finds s x → IsCalling m r.id r.func g.caller g.tx g.machine.steps g.machine.effect → ⊥) → MayPass m s x → MayPass (rows_after q c.now m) s x
  kept_by (Query.After q) suits s x never may = may
  kept_by (Query.Act q a) suits s x never may = may_on m c.now q a s x (λ o. never (opens_own d c m h past runs i r live g at_is k finds q a suits s x o) (suits.1 o.opens).1) may

  abbrev pub asks : Query
  asks = stage_asks r.id r.func g.caller g.tx g.machine.steps g.machine.effect g.stage

  pub kept_pass : (s : IntentId) (x : ℕ) → (OpensOwn d c m h past runs i r live g at_is k finds s x → IsCalling m r.id r.func g.caller g.tx g.machine.steps g.machine.effect → ⊥) → MayPass m s x → MayPass (rows_after asks c.now m) s x
  kept_pass = kept_by asks (asked d c m h past runs i r live g at_is k finds)

  -- of any live run
  pub run_kept : (j : ℕ) (s : Run) (z : Begun) → map.get c.runs j ≡ Some s → s.at ≡ Begins z → Knows d h.histories s z → (x : ℕ) → x < z.machine.steps → MayPass (rows_after asks c.now m) s.id x
  run_kept j s z there at knows x less = kept_pass s.id x (λ o calls. none_before d c m h r g k s z knows o.intent o.left (subst (λ y. y < z.machine.steps) o.step less)) (runs.each j s z there at x less)

  -- ---- an answer
  returns_none : (u : Outcome) (s : Stage) (o : Option RunTx) (t : QueryReply) (a : Answer) → AtStage m h.plain c.book k s (Return u) o → answer_in (stage_output r.id r.func g.caller o (count_changes c.book) g.machine.steps (Return u) s t) ≡ Some a → ⊥
  returns_none u Stage.Back o t a at e = no_end u o (back_of t) a e
  returns_none u Stage.Notify None t a at e = cc
  returns_none u Stage.Close o t a at e = no_close r.id g.caller u (is_did t) a e
  returns_none u (Stage.Write w) None t a at e = let clash = at.0 in cc
  returns_none u (Stage.Tx w) (Some o) t a at e = let x = operates (Return u) w at.0 in let clash = x.1 in cc
  returns_none u s o t a at e = absurd at

  abbrev key : RowKey
  key = invoke_key r.func (place_of r.id g.machine.steps)

  abbrev Answered : Stage → Effect → Option RunTx → Type 0
  Answered s e o = let q = stage_asks r.id r.func g.caller o g.machine.steps e s in (a : Answer) → answer_in (stage_output r.id r.func g.caller o (count_changes c.book) g.machine.steps e s (query_reply q c.now m)) ≡ Some a → may_pass (map.get (rows_after q c.now m) key) ≡ true

  -- the row of its step, after an act on it
  acted : (b : RowAct) → may_pass (act b c.now (map.get m key)).0 ≡ true → may_pass (map.get (after_act b c.now key m) key) ≡ true
  acted b may = ap may_pass (set_here m key (act b c.now (map.get m key)).0) ∙ may

  call_answered : (f : ℕ) (v : Value) (s : Stage) (o : Option RunTx) → AtStage m h.plain c.book k s (Call f v) o → Answered s (Call f v) o
  call_answered f v (Stage.Call CallAt.Open) o at = subst (λ t. (a : Answer) → answer_in (if t then call_answer r.id o g.machine.steps (call_output f CallAt.Open (query_reply (call_asks r.func (place_of r.id g.machine.steps) f CallAt.Open) c.now m)) else StageOutput.Ends None None) ≡ Some a → may_pass (map.get (rows_after (call_asks r.func (place_of r.id g.machine.steps) f CallAt.Open) c.now m) key) ≡ true) (sym at.0)
      (λ a e. acted (OpenInvoke f) (open_row r.id o g.machine.steps f c.now a (map.get m key) e))
  call_answered f v (Stage.Call CallAt.Look) o at = subst (λ t. (a : Answer) → answer_in (if t then call_answer r.id o g.machine.steps (call_output f CallAt.Look (query_reply (call_asks r.func (place_of r.id g.machine.steps) f CallAt.Look) c.now m)) else StageOutput.Ends None None) ≡ Some a → may_pass (map.get (rows_after (call_asks r.func (place_of r.id g.machine.steps) f CallAt.Look) c.now m) key) ≡ true) (sym at.0)
      (λ a e. acted Look (look_row r.id o g.machine.steps f c.now a (map.get m key) e))
  call_answered f v (Stage.Write w) None at = λ a e. let clash = at.0 in cc
  call_answered f v (Stage.Tx w) (Some o) at = λ a e. let x = operates (Call f v) w at.0 in let clash = x.1 in cc
  call_answered f v s o at = absurd at

  abbrev sent : ℕ → Value → AsyncAt → Query
  sent f v w = async_asks r.func (place_of r.id g.machine.steps) (callee_body r.id r.func g.machine.steps f v None false) w

  abbrev Sent : ℕ → Value → AsyncAt → Bool → Type 0
  Sent f v w t = let q = if t then sent f v w else look_asks r.id r.func in (a : Answer) → answer_in (if t then async_answer w (async_output f w (query_reply q c.now m)) else StageOutput.Ends None None) ≡ Some a → may_pass (map.get (rows_after q c.now m) key) ≡ true

  sent_answered : (f : ℕ) (v : Value) (w : AsyncAt) → Sent f v w true
  sent_answered f v AsyncAt.Open a e = acted (OpenInvoke f) (async_open_row f c.now a (map.get m key) e)
  sent_answered f v AsyncAt.Register a e = cc
  sent_answered f v AsyncAt.Note a e = acted NoteRegistered (note_row f c.now a (map.get m key) e)

  async_answered : (f : ℕ) (v : Value) (s : Stage) (o : Option RunTx) → AtStage m h.plain c.book k s (Async f v) o → Answered s (Async f v) o
  async_answered f v (Stage.Async w) None at = subst (Sent f v w) (sym at.0) (sent_answered f v w)
  async_answered f v (Stage.Write w) None at = λ a e. let clash = at.0 in cc
  async_answered f v (Stage.Tx w) (Some o) at = λ a e. let x = operates (Async f v) w at.0 in let clash = x.1 in cc
  async_answered f v s o at = absurd at

  -- ---- so where the turn is answered, its step may be passed
  -- .. also in the rows of another home, where there is none
  module _ (b : Core) (h2 : Invariant d b (rows_after asks c.now m)) (histories : Instance) (made : map.get h2.histories r.id ≡ Some histories) (func : histories.func ≡ r.func) where
    at_homes : may_pass (map.get (rows_after asks c.now m) key) ≡ true → MayPass (rows_after asks c.now m) r.id g.machine.steps
    at_homes may f = by_call (map.get (rows_after asks c.now m) (invoke_key f (place_of r.id g.machine.steps))) (λ x is.
        let w = called_at d b (rows_after asks c.now m) h2 r.id histories made f g.machine.steps x is in
        subst (λ z. may_pass (map.get (rows_after asks c.now m) (invoke_key z (place_of r.id g.machine.steps))) ≡ true) (sym func ∙ w.func) may)

    here : (e : Effect) → g.machine.effect ≡ e → (a : Answer) → answer_in (stage_output r.id r.func g.caller g.tx (count_changes c.book) g.machine.steps g.machine.effect g.stage (query_reply asks c.now m)) ≡ Some a → MayPass (rows_after asks c.now m) r.id g.machine.steps
    here (Call f v) is a output = at_homes (subst (λ e. AtStage m h.plain c.book k g.stage e g.tx → Answered g.stage e g.tx) (sym is) (call_answered f v g.stage g.tx) finds.here a output)
    here (Async f v) is a output = at_homes (subst (λ e. AtStage m h.plain c.book k g.stage e g.tx → Answered g.stage e g.tx) (sym is) (async_answered f v g.stage g.tx) finds.here a output)
    here e is a output = kept_pass r.id g.machine.steps (λ o calls. not_calling (ap is_calling (sym is) ∙ ap is_calling calls.is ∙ calling calls.waits calls.callee calls.args)) (no_call d c m h r g k (λ w f v call. not_calling (ap is_calling (sym is) ∙ ap is_calling call ∙ calling w f v)))

  pub turn_past : (b : Core) (h2 : Invariant d b (rows_after asks c.now m)) → IsPast d b (rows_after asks c.now m) h2 r (turned_by d r g (stage_output r.id r.func g.caller g.tx (count_changes c.book) g.machine.steps g.machine.effect g.stage (query_reply asks c.now m))).next
  turn_past b h2 = output_past d b (rows_after asks c.now m) h2 r g at_is before (stage_output r.id r.func g.caller g.tx (count_changes c.book) g.machine.steps g.machine.effect g.stage (query_reply asks c.now m)) (λ a output stands.
      answer_past d c b m (rows_after asks c.now m) h h2 r g k before a (wants_some g.machine.effect (λ u is. absurd (returns_none u g.stage g.tx (query_reply asks c.now m) a
      (subst (λ e. AtStage m h.plain c.book k g.stage e g.tx) is finds.here)
      (subst (λ e. answer_in (stage_output r.id r.func g.caller g.tx (count_changes c.book) g.machine.steps e g.stage (query_reply asks c.now m)) ≡ Some a) is output))))
      (here b h2 stands.instance stands.made stands.func g.machine.effect refl a output) stands)
    where
      before : (x : ℕ) → x < g.machine.steps → MayPass (rows_after asks c.now m) r.id x
      before x less = run_kept i r g live at_is k x less
