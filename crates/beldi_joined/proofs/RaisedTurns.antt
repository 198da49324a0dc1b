-- Turns of runs behind a longer book: what a stage asks is the same, and what it says is raised.
use Rattle.std.specs.Prelude.{ℕ, ◌≡◌, ◌+◌, Bool, true, false, Option, Some, None, is_none, is_some, if◌then◌else◌, refl}
use Rattle.std.specs.Option.{option_map}
use Rattle.std.proofs.Common.{ap, sym, ◌∙◌}
use Rattle.beldi_value.specs.{Id.has_callees, Id.has_no_hops, Id.child_of, declared.id.IntentId.IntentId, declared.value.Value.Value, declared.outcome.Cause.Cause, declared.place.Caller.Caller, declared.place.Owner.TheVariants.Intent as ByIntent}
use Rattle.beldi_tree.specs.{declared.deployment.Deployment.Deployment, declared.deployment.Func.Func, Names.func_at}
use Rattle.beldi_lang.specs.{declared.effect.Effect.Effect, declared.effect.Answer.Answer, declared.machine.Machine.Machine, Machine.begun as machine_begun}
use Rattle.beldi_row.specs.{declared.row.Body.Body, declared.notes.Note.Note}
use Rattle.beldi_query.specs.Query.{QueryReply}
use Rattle.beldi_daal.specs.{declared.cell.WriteAt.WriteAt, declared.cell.WriteGoes.WriteGoes, declared.cell.ReadGoes.ReadGoes, Cell.write_goes, Cell.read_goes}
use Rattle.beldi_readlog.specs.{declared.read_log.Kept.Kept, ReadLog.given_of, ReadLog.kept_of}
use Rattle.beldi_invokelog.specs.InvokeLog.{back_of}
use Rattle.beldi_invokelog.specs.declared.invoke_log.Back as told
use Rattle.beldi_invokelog.specs.declared.invoke_log.Back.TheVariants as back
use Rattle.beldi_intent.specs.Intent.{is_did, body_told}
use Rattle.beldi_txn.specs.{declared.tx.TxAt.TxAt, declared.tx.TxGoes.TxGoes, declared.end.EndGoes.EndGoes, declared.end.EndState.EndState, Tx.tx_goes, End.first_visit, End.end_goes, End.end_after}
use Rattle.beldi_call.specs.{declared.call.CallAt.CallAt, declared.call.CallOutput.CallOutput, Call.call_output, declared.async_call.AsyncAt.AsyncAt, declared.async_call.AsyncOutput.AsyncOutput, Async.async_output}
use Rattle.beldi_step.specs.declared.run.Stage.TheVariants.{Ask, Walk, Keep, Write, Tx, Decide, End, Call, Async, Back, Notify, Close}
use Rattle.beldi_step.specs.declared.run.StageOutput.TheVariants.{On, Stays, Opens, Starts, Waits, Answers, Ends}
use Rattle.beldi_step.specs.declared.run.{Mark.Mark, Run.Run, RunAt.RunAt, RunAt.TheVariants.Looks, RunAt.TheVariants.Registers, RunAt.TheVariants.Begins, Begun.Begun, RunTx.RunTx, RunTx.TheVariants.Own, RunTx.TheVariants.Inherited, TurnOutput.TurnOutput, Stage.Stage, StageOutput.StageOutput}
use Rattle.beldi_step.specs.Run.{Turned, answer_noted, ask_output, asks_at, async_answer, async_here_output, local_steps, back_output, begin_in, begin_of, body_registered, call_answer, call_here_output, callee_at, callee_by, callee_of, callee_run, callee_body, close_output, decide_by_output, decide_here_output, decided_output, done_output, end_by_output, end_here_output, end_mark, first_end, first_outside, first_stage, goes_from, goes_to, keep_output, last_stage, mark_if, note_done, own_tx, place_of, put_answer, put_output, reply_if, run_asks, run_told, output_of, stage_asks, stage_output, step_mark, takes, told_at, turned_by, tx_at, tx_here_output, tx_output, visit_output, walk_output, inherited_tx, write_output}
use Rattle.beldi_joined.specs.Joined.{raised_at, raised_mark, raised_run, raised_stage}

-- ---- what is said, and where a run goes
abbrev pub raised_output : ℕ → StageOutput → StageOutput
raised_output n (On s m) = On (raised_stage n s) (option_map (raised_mark n) m)
raised_output n Stays = Stays
raised_output n (Opens m) = Opens (option_map (raised_mark n) m)
raised_output n (Starts a) = Starts a
raised_output n (Waits w) = Waits w
raised_output n (Answers a m) = Answers a (option_map (raised_mark n) m)
raised_output n (Ends m o) = Ends (option_map (raised_mark n) m) o

abbrev pub raised_turned : ℕ → Turned → Turned
raised_turned n t = record { next = option_map (raised_run n) t.next; mark = option_map (raised_mark n) t.mark; starts = t.starts; wait = t.wait; reply = t.reply }

abbrev pub raised_turn_output : ℕ → TurnOutput → TurnOutput
raised_turn_output n x = record { mark = option_map (raised_mark n) x.mark; over = x.over; starts = x.starts; wait = x.wait; reply = x.reply }

-- a choice, mapped
pub if_pushed : {A B : Type 0} (f : A → B) (b : Bool) (x y : A) → (if b then f x else f y) ≡ f (if b then x else y)
if_pushed f true x y = refl
if_pushed f false x y = refl

-- ---- what a stage says
module _ (n : ℕ) where
  -- it is no other behind a longer book
  abbrev IsSame : StageOutput → Type 0
  IsSame x = x ≡ raised_output n x

  mark_raised : (b : Bool) (m : Mark) → mark_if b (raised_mark n m) ≡ option_map (raised_mark n) (mark_if b m)
  mark_raised true m = refl
  mark_raised false m = refl

  step_raised : (o : Option RunTx) (b : Bool) → step_mark o b ≡ option_map (raised_mark n) (step_mark o b)
  step_raised None b = mark_raised b Mark.Step
  step_raised (Some o) b = refl

  if_same : (b : Bool) (x y : StageOutput) → IsSame x → IsSame y → IsSame (if b then x else y)
  if_same true x y p q = p
  if_same false x y p q = q

  ask_same : (o : Option Value) → IsSame (ask_output o)
  ask_same None = refl
  ask_same (Some v) = refl

  walk_raised : (k : ℕ) (g : ReadGoes) → walk_output (n + k) g ≡ raised_output n (walk_output k g)
  walk_raised k (ReadGoes.On row) = refl
  walk_raised k ReadGoes.Stays = refl
  walk_raised k (ReadGoes.Got v) = refl
  walk_raised k (ReadGoes.Held o) = refl

  keep_raised : (version : ℕ) (k : Kept) → keep_output (n + version) k ≡ raised_output n (keep_output version k)
  keep_raised version k = ap (λ m. Answers (Answer.Value k.value) m) (mark_raised k.added (Mark.Read version))

  done_same : (b : Bool) (a : Option Answer) → IsSame (done_output b a)
  done_same b None = refl
  done_same b (Some a) = ap (λ m. Answers a m) (mark_raised b Mark.Step)

  write_same : (e : Effect) (g : WriteGoes) → IsSame (write_output e g)
  write_same e (WriteGoes.On at) = refl
  write_same e WriteGoes.Stays = refl
  write_same e (WriteGoes.Done x first) = done_same first (answer_noted e x)
  write_same e WriteGoes.NotOwner = refl
  write_same e (WriteGoes.Held w) = refl
  write_same e WriteGoes.Worn = refl

  put_same : (e : Effect) (at : WriteAt) (o : Option Note) (t : QueryReply) → IsSame (put_output e at o t)
  put_same e at None t = refl
  put_same e at (Some x) t = write_same e (write_goes x at t)

  put_answer_same : (a : TxAt) → IsSame (put_answer a)
  put_answer_same (TxAt.Keep v) = refl
  put_answer_same a = refl

  tx_same : (a : TxAt) (g : TxGoes) → IsSame (tx_output a g)
  tx_same a (TxGoes.On b) = refl
  tx_same a TxGoes.Stays = refl
  tx_same a TxGoes.Put = put_answer_same a
  tx_same a (TxGoes.Died c) = refl
  tx_same a (TxGoes.Held o) = refl
  tx_same a TxGoes.Worn = refl
  tx_same a (TxGoes.Value v) = refl
  tx_same a TxGoes.Done = refl

  tx_here_same : (id : IntentId) (step : ℕ) (e : Effect) (a : TxAt) (o : Option RunTx) (t : QueryReply) → IsSame (tx_here_output id step e a o t)
  tx_here_same id step e a None t = refl
  tx_here_same id step e a (Some o) t = tx_same a (tx_goes (place_of id step) (begin_of o) e a t)

  decided_raised : (commit : Bool) (m : Mark) (g : EndGoes) → decided_output commit (raised_mark n m) g ≡ raised_output n (decided_output commit m g)
  decided_raised commit m (EndGoes.Decided first) = ap (λ x. On (End (end_after commit first_visit (EndGoes.Decided first))) x) (mark_raised first m)
  decided_raised commit m g = refl

  visit_same : (commit : Bool) (v : EndState) (g : EndGoes) → IsSame (visit_output commit v g)
  visit_same commit v EndGoes.Done = refl
  visit_same commit v EndGoes.Worn = refl
  visit_same commit v g = refl

  decide_by_raised : (id : IntentId) (func step : ℕ) (commit : Bool) (m : Mark) (o : Option RunTx) (t : QueryReply) → decide_by_output id func step commit (raised_mark n m) o t ≡ raised_output n (decide_by_output id func step commit m o t)
  decide_by_raised id func step commit m (Some (Own o)) t = decided_raised commit m (end_goes (own_tx id func o) step commit first_visit.path first_visit.at t)
  decide_by_raised id func step commit m (Some (Inherited x)) t = refl
  decide_by_raised id func step commit m None t = refl

  decide_raised : (id : IntentId) (func step : ℕ) (e : Effect) (m : Mark) (o : Option RunTx) (t : QueryReply) → decide_here_output id func step e (raised_mark n m) o t ≡ raised_output n (decide_here_output id func step e m o t)
  decide_raised id func step (Effect.End commit) m o t = decide_by_raised id func step commit m o t
  decide_raised id func step e m o t = refl

  end_by_same : (id : IntentId) (func step : ℕ) (commit : Bool) (v : EndState) (o : Option RunTx) (t : QueryReply) → IsSame (end_by_output id func step commit v o t)
  end_by_same id func step commit v (Some (Own o)) t = visit_same commit v (end_goes (own_tx id func o) step commit v.path v.at t)
  end_by_same id func step commit v (Some (Inherited x)) t = refl
  end_by_same id func step commit v None t = refl

  end_same : (id : IntentId) (func step : ℕ) (e : Effect) (v : EndState) (o : Option RunTx) (t : QueryReply) → IsSame (end_here_output id func step e v o t)
  end_same id func step (Effect.End commit) v o t = end_by_same id func step commit v o t
  end_same id func step e v o t = refl

  called_same : (id : IntentId) (o : Option RunTx) (step : ℕ) (x : CallOutput) → IsSame (call_answer id o step x)
  called_same id o step (CallOutput.Opened first) = ap (λ m. Opens m) (step_raised o first)
  called_same id o step CallOutput.NotYet = refl
  called_same id o step (CallOutput.Done x) = refl

  call_same : (id : IntentId) (o : Option RunTx) (step : ℕ) (e : Effect) (at : CallAt) (t : QueryReply) → IsSame (call_here_output id o step e at t)
  call_same id o step (Effect.Call f a) at t = if_same (has_callees id) (call_answer id o step (call_output f at t)) (Ends None None) (called_same id o step (call_output f at t)) refl
  call_same id o step e at t = refl

  sent_same : (at : AsyncAt) (x : AsyncOutput) → IsSame (async_answer at x)
  sent_same at (AsyncOutput.Opened first) = ap (λ m. On (Async AsyncAt.Register) m) (mark_raised first Mark.Step)
  sent_same at AsyncOutput.Going = refl
  sent_same AsyncAt.Note AsyncOutput.Done = refl
  sent_same at AsyncOutput.Done = refl

  async_same : (id : IntentId) (e : Effect) (at : AsyncAt) (t : QueryReply) → IsSame (async_here_output id e at t)
  async_same id (Effect.Async f a) at t = if_same (has_callees id) (async_answer at (async_output f at t)) (Ends None None) (sent_same at (async_output f at t)) refl
  async_same id e at t = refl

  back_same : (o : Option RunTx) (x : told.Back) → IsSame (back_output o x)
  back_same o back.Set = ap (λ m. On Close m) (mark_raised _ Mark.Step)
  back_same o back.AlreadySet = refl
  back_same o back.Absent = refl

  close_same : (id : IntentId) (c : Option Caller) (e : Effect) (b : Bool) → IsSame (close_output id c e b)
  close_same id c (Effect.Return o) true = ap (λ m. Ends m (reply_if (has_no_hops id.hops) o)) (mark_raised _ Mark.Step)
  close_same id c (Effect.Return o) false = refl
  close_same id c e b = refl

  stage_raised : (id : IntentId) (func : ℕ) (c : Option Caller) (o : Option RunTx) (k step : ℕ) (e : Effect) (s : Stage) (t : QueryReply) → stage_output id func c o (n + k) step e (raised_stage n s) t ≡ raised_output n (stage_output id func c o k step e s t)
  stage_raised id func c o k step e Ask t = ask_same (given_of t)
  stage_raised id func c o k step e (Walk row) t = walk_raised k (read_goes (Some (ByIntent id)) t)
  stage_raised id func c o k step e (Keep v version) t = keep_raised version (kept_of v t)
  stage_raised id func c o k step e (Write at) t = put_same e at (note_done e) t
  stage_raised id func c o k step e (Tx at) t = tx_here_same id step e at o t
  stage_raised id func c o k step e (Decide m) t = decide_raised id func step e m o t
  stage_raised id func c o k step e (End v) t = end_same id func step e v o t
  stage_raised id func c o k step e (Call at) t = call_same id o step e at t
  stage_raised id func c o k step e (Async at) t = async_same id e at t
  stage_raised id func c o k step e Back t = back_same o (back_of t)
  stage_raised id func c o k step e Notify t = refl
  stage_raised id func c o k step e Close t = close_same id c e (is_did t)

  -- ---- where an effect begins: no value is to be kept there, and the mark of a decision is no read's
  end_mark_same : (id : IntentId) (step : ℕ) (x : Option Cause) (commit : Bool) → raised_mark n (end_mark id step x commit) ≡ end_mark id step x commit
  end_mark_same id step x true = refl
  end_mark_same id step (Some x) false = refl
  end_mark_same id step None false = refl

  begins_same : (b : Bool) (s : Stage) → raised_stage n s ≡ s → option_map (raised_stage n) (if b then Some s else None) ≡ (if b then Some s else None)
  begins_same true s same = ap Some same
  begins_same false s same = refl

  outside_same : (s : Option Stage) (o : Option RunTx) → option_map (raised_stage n) s ≡ s → option_map (raised_stage n) (first_outside s o) ≡ first_outside s o
  outside_same s None same = same
  outside_same s (Some o) same = refl

  first_end_same : (id : IntentId) (step : ℕ) (commit : Bool) (o : Option RunTx) → option_map (raised_stage n) (first_end id step commit o) ≡ first_end id step commit o
  first_end_same id step commit None = refl
  first_end_same id step commit (Some (Own o)) = ap (λ m. Some (Decide m)) (end_mark_same id step o.cause commit)
  first_end_same id step commit (Some (Inherited x)) = refl

  waits_same : (b : Bool) → raised_stage n (if b then Back else Notify) ≡ (if b then Back else Notify)
  waits_same true = refl
  waits_same false = refl

  last_same : (c : Option Caller) → raised_stage n (last_stage c) ≡ last_stage c
  last_same None = refl
  last_same (Some c) = waits_same c.waits

  first_same : (id : IntentId) (c : Option Caller) (o : Option RunTx) (step : ℕ) (e : Effect) → option_map (raised_stage n) (first_stage id c o step e) ≡ first_stage id c o step e
  first_same id c None step (Effect.Read t k) = refl
  first_same id c (Some o) step (Effect.Read t k) = refl
  first_same id c None step (Effect.Write t k v) = refl
  first_same id c (Some o) step (Effect.Write t k v) = refl
  first_same id c None step (Effect.CondWrite t k r u v) = refl
  first_same id c (Some o) step (Effect.CondWrite t k r u v) = refl
  first_same id c o step (Effect.Lock t k) = outside_same _ o refl
  first_same id c o step (Effect.Unlock t k) = outside_same _ o refl
  first_same id c o step (Effect.Call f a) = begins_same (has_callees id) (Call CallAt.Open) refl
  first_same id c o step (Effect.Async f a) = outside_same _ o (begins_same (has_callees id) (Async AsyncAt.Open) refl)
  first_same id c o step (Effect.End commit) = first_end_same id step commit o
  first_same id c o step (Effect.Return x) = ap Some (last_same c)
  first_same id c o step Effect.Begin = refl
  first_same id c o step Effect.Abort = refl

  -- ---- turns
  module _ (d : Deployment) (r : Run) where
    goes_from_raised : (s : Machine × Option RunTx) (c : Option Caller) (m : Option Mark) (w : Option Stage) → goes_from (raised_run n r) s c (option_map (raised_mark n) m) (option_map (raised_stage n) w) ≡ raised_turned n (goes_from r s c m w)
    goes_from_raised s c m None = refl
    goes_from_raised s c m (Some w) = refl

    goes_raised : (s : Machine × Option RunTx) (c : Option Caller) (m : Option Mark) → goes_to d (raised_run n r) s c (option_map (raised_mark n) m) ≡ raised_turned n (goes_to d r s c m)
    goes_raised s c m =
        let x = local_steps d r.id s in
        ap (λ w. goes_from (raised_run n r) x c (option_map (raised_mark n) m) w) (sym (first_same r.id c x.1 x.0.steps x.0.effect)) ∙ goes_from_raised x c m (first_stage r.id c x.1 x.0.steps x.0.effect)

    turned_raised : (g : Begun) (x : StageOutput) → turned_by d (raised_run n r) (record g { stage = raised_stage n g.stage }) (raised_output n x) ≡ raised_turned n (turned_by d r g x)
    turned_raised g (On s m) = refl
    turned_raised g Stays = refl
    turned_raised g (Opens m) = refl
    turned_raised g (Waits w) = refl
    turned_raised g (Starts a) = ap (λ (t : Turned). record t { starts = true }) (goes_raised (takes d g.machine g.tx a) g.caller None)
    turned_raised g (Answers a m) = goes_raised (takes d g.machine g.tx a) g.caller m
    turned_raised g (Ends m o) = refl

    begin_raised : (f : Option Func) (b : Option Body) → begin_in d (raised_run n r) f b ≡ raised_turned n (begin_in d r f b)
    begin_raised f None = refl
    begin_raised None (Some b) = refl
    begin_raised (Some f) (Some b) = goes_raised (machine_begun d r.func b.args (is_some b.tx), inherited_tx b.tx) b.parent None

    told_at_raised : (k : ℕ) (at : RunAt) (t : QueryReply) → told_at d (n + k) (raised_run n r) (raised_at n at) t ≡ raised_turned n (told_at d k r at t)
    told_at_raised k Looks t = begin_raised (func_at d r.func) (body_told r.func t)
    told_at_raised k (Registers b) t = begin_raised (func_at d r.func) (body_registered r.func b t)
    told_at_raised k (Begins g) t = ap (turned_by d (raised_run n r) (record g { stage = raised_stage n g.stage })) (stage_raised r.id r.func g.caller g.tx k g.machine.steps g.machine.effect g.stage t)
        ∙ turned_raised g (stage_output r.id r.func g.caller g.tx k g.machine.steps g.machine.effect g.stage t)

    pub told_raised : (k : ℕ) (t : QueryReply) → run_told d (n + k) (raised_run n r) t ≡ raised_turned n (run_told d k r t)
    told_raised k t = told_at_raised k r.at t

  -- ---- what a run asks, and the run of what it calls
  stage_asked : (id : IntentId) (func : ℕ) (c : Option Caller) (o : Option RunTx) (step : ℕ) (e : Effect) (s : Stage) → stage_asks id func c o step e (raised_stage n s) ≡ stage_asks id func c o step e s
  stage_asked id func c o step e (Keep v version) = refl
  stage_asked id func c o step e (Decide m) = refl
  stage_asked id func c o step e s = refl

  if_called : (b : Bool) (r : Run) → (if b then Some (raised_run n r) else None) ≡ option_map (raised_run n) (if b then Some r else None)
  if_called true r = refl
  if_called false r = refl

  module _ (r : Run) where
    abbrev called : ℕ → ℕ → RunAt → Run
    called step f at = record { id = child_of r.id step; func = f; deadline = r.deadline; at = at }

    asked_at : (at : RunAt) → asks_at (raised_run n r) (raised_at n at) ≡ asks_at r at
    asked_at Looks = refl
    asked_at (Registers b) = refl
    asked_at (Begins g) = stage_asked r.id r.func g.caller g.tx g.machine.steps g.machine.effect g.stage

    pub asked_raised : run_asks (raised_run n r) ≡ run_asks r
    asked_raised = asked_at r.at

    new_raised : (step f : ℕ) (at : RunAt) → raised_at n at ≡ at → callee_run (raised_run n r) step f at ≡ option_map (raised_run n) (callee_run r step f at)
    new_raised step f at same = ap (λ z. if has_callees r.id then Some (called step f z) else None) (sym same) ∙ if_called (has_callees r.id) (called step f at)

    callee_raised_by : (o : Option RunTx) (step : ℕ) (e : Effect) → callee_by (raised_run n r) o step e ≡ option_map (raised_run n) (callee_by r o step e)
    callee_raised_by o step (Effect.Call f a) = new_raised step f (Registers (callee_body r.id r.func step f a (tx_at r.id r.func o) true)) refl
    callee_raised_by o step (Effect.Async f a) = new_raised step f Looks refl
    callee_raised_by o step e = refl

    callee_raised_at : (at : RunAt) → callee_at (raised_run n r) (raised_at n at) ≡ option_map (raised_run n) (callee_at r at)
    callee_raised_at Looks = refl
    callee_raised_at (Registers b) = refl
    callee_raised_at (Begins g) = callee_raised_by g.tx g.machine.steps g.machine.effect

    pub callee_raised : callee_of (raised_run n r) ≡ option_map (raised_run n) (callee_of r)
    callee_raised = callee_raised_at r.at

  -- ---- what is said of a turn
  none_raised : (o : Option Run) → is_none (option_map (raised_run n) o) ≡ is_none o
  none_raised None = refl
  none_raised (Some r) = refl

  pub output_raised : (t : Turned) → output_of (raised_turned n t) ≡ raised_turn_output n (output_of t)
  output_raised t = ap (λ b. record { mark = option_map (raised_mark n) t.mark; over = b; starts = t.starts; wait = t.wait; reply = t.reply }) (none_raised t.next)
