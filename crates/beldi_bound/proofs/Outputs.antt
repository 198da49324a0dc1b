-- What stages say of calls: only the stage of a call says that it is opened, that its run waits for a result, that a run of its callee may
-- start, or that it goes on amid a call that nobody waits for.
use Rattle.std.proofs.Common.{◌≡◌, ℕ, Bool, true, false, Option, Some, None, if◌then◌else◌, refl, sym, subst, ◌∙◌}
use Rattle.beldi_value.specs.{Id.has_callees, declared.id.IntentId.IntentId, declared.outcome.Outcome.Outcome, declared.place.Caller.Caller, declared.value.Value.Value}
use Rattle.beldi_lang.specs.declared.effect.{Answer.Answer, Effect.Effect}
use Rattle.beldi_row.specs.{Act.act, declared.act.Act.Act, declared.notes.Note.Note, declared.row.Row.Row}
use Rattle.beldi_query.specs.{Query.QueryReply, Query.replied}
use Rattle.beldi_daal.specs.{Cell.write_goes, declared.cell.ReadGoes.ReadGoes, declared.cell.WriteAt.WriteAt, declared.cell.WriteGoes.WriteGoes}
use Rattle.beldi_readlog.specs.ReadLog.{given_of}
use Rattle.beldi_invokelog.specs.{InvokeLog.back_of, InvokeLog.call_in, InvokeLog.invoked_of, InvokeLog.registered_in, InvokeLog.result_in, declared.invoke_log.Back.Back}
use Rattle.beldi_intent.specs.Intent.{is_did}
use Rattle.beldi_txn.specs.{declared.end.EndGoes.EndGoes, declared.end.EndState.EndState, declared.tx.TxAt.TxAt, declared.tx.TxGoes.TxGoes}
use Rattle.beldi_call.specs.{Async.async_output, Async.open_output as async_opened, Call.call_output, Call.look_output, Call.open_output, declared.async_call.AsyncAt.AsyncAt, declared.async_call.AsyncOutput.AsyncOutput, declared.call.CallAt.CallAt, declared.call.CallOutput.CallOutput}
use Rattle.beldi_step.specs.{declared.run.Mark.Mark, declared.run.RunTx.RunTx, declared.run.StageOutput.StageOutput, declared.run.Stage.Stage, declared.run.Wait.Wait}
use Rattle.beldi_step.specs.Run.{answer_noted, ask_output, async_answer, async_here_output, back_output, call_answer, call_here_output, close_output, decide_by_output, decide_here_output, decided_output, done_output, end_by_output, end_here_output, note_done, put_answer, put_output, stage_output, tx_here_output, tx_output, visit_output, walk_output, write_output}

-- ---- stages without calls
abbrev pub is_calling : Stage → Bool
is_calling (Stage.Call w) = true
is_calling (Stage.Async w) = true
is_calling s = false

abbrev pub is_async : Stage → Bool
is_async (Stage.Async w) = true
is_async s = false

abbrev pub WaitsPlain : Wait → Type 0
WaitsPlain (Wait.Result j) = ⊥
WaitsPlain (Wait.Held o) = Unit {0}
WaitsPlain Wait.Worn = Unit {0}

abbrev pub IsPlain : StageOutput → Type 0
IsPlain (StageOutput.On w m) = is_async w ≡ false
IsPlain (StageOutput.Opens m) = ⊥
IsPlain (StageOutput.Starts a) = ⊥
IsPlain (StageOutput.Waits w) = WaitsPlain w
IsPlain s = Unit {0}

ask_plain : (o : Option Value) → IsPlain (ask_output o)
ask_plain None = refl
ask_plain (Some v) = tt

walk_plain : (n : ℕ) (z : ReadGoes) → IsPlain (walk_output n z)
walk_plain n (ReadGoes.On r) = refl
walk_plain n ReadGoes.Stays = tt
walk_plain n (ReadGoes.Got v) = refl
walk_plain n (ReadGoes.Held o) = tt

done_plain : (b : Bool) (o : Option Answer) → IsPlain (done_output b o)
done_plain b None = tt
done_plain b (Some a) = tt

write_plain : (e : Effect) (z : WriteGoes) → IsPlain (write_output e z)
write_plain e (WriteGoes.On at) = refl
write_plain e WriteGoes.Stays = tt
write_plain e (WriteGoes.Done n first) = done_plain first (answer_noted e n)
write_plain e WriteGoes.NotOwner = tt
write_plain e (WriteGoes.Held w) = tt
write_plain e WriteGoes.Worn = tt

put_plain : (e : Effect) (at : WriteAt) (o : Option Note) (t : QueryReply) → IsPlain (put_output e at o t)
put_plain e at None t = tt
put_plain e at (Some n) t = write_plain e (write_goes n at t)

answer_plain : (a : TxAt) → IsPlain (put_answer a)
answer_plain (TxAt.Keep v) = tt
answer_plain a = tt

tx_plain : (a : TxAt) (z : TxGoes) → IsPlain (tx_output a z)
tx_plain a (TxGoes.On b) = refl
tx_plain a TxGoes.Stays = tt
tx_plain a TxGoes.Put = answer_plain a
tx_plain a (TxGoes.Died c) = tt
tx_plain a (TxGoes.Held o) = tt
tx_plain a TxGoes.Worn = tt
tx_plain a (TxGoes.Value v) = tt
tx_plain a TxGoes.Done = tt

tx_here_plain : (id : IntentId) (step : ℕ) (e : Effect) (a : TxAt) (o : Option RunTx) (t : QueryReply) → IsPlain (tx_here_output id step e a o t)
tx_here_plain id step e a None t = tt
tx_here_plain id step e a (Some o) t = tx_plain a _

decided_plain : (b : Bool) (m : Mark) (z : EndGoes) → IsPlain (decided_output b m z)
decided_plain b m (EndGoes.Decided first) = refl
decided_plain b m z = refl

visit_plain : (b : Bool) (v : EndState) (z : EndGoes) → IsPlain (visit_output b v z)
visit_plain b v EndGoes.Done = tt
visit_plain b v EndGoes.Worn = tt
visit_plain b v z = refl

decide_plain : (id : IntentId) (func step : ℕ) (b : Bool) (m : Mark) (o : Option RunTx) (t : QueryReply) → IsPlain (decide_by_output id func step b m o t)
decide_plain id func step b m None t = tt
decide_plain id func step b m (Some (RunTx.Own o)) t = decided_plain b m _
decide_plain id func step b m (Some (RunTx.Inherited x)) t = tt

end_plain : (id : IntentId) (func step : ℕ) (b : Bool) (v : EndState) (o : Option RunTx) (t : QueryReply) → IsPlain (end_by_output id func step b v o t)
end_plain id func step b v None t = tt
end_plain id func step b v (Some (RunTx.Own o)) t = visit_plain b v _
end_plain id func step b v (Some (RunTx.Inherited x)) t = tt

decide_here_plain : (id : IntentId) (func step : ℕ) (e : Effect) (m : Mark) (o : Option RunTx) (t : QueryReply) → IsPlain (decide_here_output id func step e m o t)
decide_here_plain id func step (Effect.End b) m o t = decide_plain id func step b m o t
decide_here_plain id func step e m o t = tt

end_here_plain : (id : IntentId) (func step : ℕ) (e : Effect) (v : EndState) (o : Option RunTx) (t : QueryReply) → IsPlain (end_here_output id func step e v o t)
end_here_plain id func step (Effect.End b) v o t = end_plain id func step b v o t
end_here_plain id func step e v o t = tt

back_plain : (o : Option RunTx) (b : Back) → IsPlain (back_output o b)
back_plain o Back.Set = refl
back_plain o Back.AlreadySet = refl
back_plain o Back.Absent = refl

close_plain : (id : IntentId) (c : Option Caller) (e : Effect) (b : Bool) → IsPlain (close_output id c e b)
close_plain id c (Effect.Return o) true = tt
close_plain id c (Effect.Return o) false = tt
close_plain id c e b = tt

pub stage_plain : (id : IntentId) (func : ℕ) (c : Option Caller) (o : Option RunTx) (changes step : ℕ) (e : Effect) (w : Stage) (t : QueryReply) → is_calling w ≡ false → IsPlain (stage_output id func c o changes step e w t)
stage_plain id func c o changes step e Stage.Ask t h = ask_plain (given_of t)
stage_plain id func c o changes step e (Stage.Walk r) t h = walk_plain changes _
stage_plain id func c o changes step e (Stage.Keep v version) t h = tt
stage_plain id func c o changes step e (Stage.Write at) t h = put_plain e at (note_done e) t
stage_plain id func c o changes step e (Stage.Tx at) t h = tx_here_plain id step e at o t
stage_plain id func c o changes step e (Stage.Decide m) t h = decide_here_plain id func step e m o t
stage_plain id func c o changes step e (Stage.End v) t h = end_here_plain id func step e v o t
stage_plain id func c o changes step e (Stage.Call at) t h = cc
stage_plain id func c o changes step e (Stage.Async at) t h = cc
stage_plain id func c o changes step e Stage.Back t h = back_plain o (back_of t)
stage_plain id func c o changes step e Stage.Notify t h = refl
stage_plain id func c o changes step e Stage.Close t h = close_plain id c e (is_did t)

-- ---- stages of calls that are waited for
abbrev pub OutputCall : StageOutput → Type 0
OutputCall (StageOutput.Opens m) = Unit {0}
OutputCall (StageOutput.Waits (Wait.Result j)) = Unit {0}
OutputCall s = ⊥

pub record CallGives (id : IntentId) (o : Option RunTx) (step : ℕ) (e : Effect) (at : CallAt) (t : QueryReply) (y : StageOutput) : Type 0 where
  pub func : ℕ
  pub args : Value
  pub effect : e ≡ Effect.Call func args
  pub short : has_callees id ≡ true
  pub output : call_answer id o step (call_output func at t) ≡ y

call_here : (id : IntentId) (o : Option RunTx) (step : ℕ) (e : Effect) (at : CallAt) (t : QueryReply) (y : StageOutput) → call_here_output id o step e at t ≡ y → OutputCall y → CallGives id o step e at t y
call_here id o step (Effect.Call f a) at t y output is = by_short (has_callees id) refl output
  where
    by_short : (b : Bool) → has_callees id ≡ b → (if b then call_answer id o step (call_output f at t) else StageOutput.Ends None None) ≡ y → CallGives id o step (Effect.Call f a) at t y
    by_short true short output = record { func = f; args = a; effect = refl; short = short; output = output }
    by_short false short output = absurd (subst OutputCall (sym output) is)
call_here id o step e at t y output is = absurd (subst OutputCall (sym output) is)

async_calls_not : (at : AsyncAt) (z : AsyncOutput) → OutputCall (async_answer at z) → ⊥
async_calls_not at (AsyncOutput.Opened first) h = h
async_calls_not at AsyncOutput.Going h = h
async_calls_not AsyncAt.Open AsyncOutput.Done h = h
async_calls_not AsyncAt.Register AsyncOutput.Done h = h
async_calls_not AsyncAt.Note AsyncOutput.Done h = h

async_here_not : (id : IntentId) (e : Effect) (at : AsyncAt) (t : QueryReply) → OutputCall (async_here_output id e at t) → ⊥
async_here_not id (Effect.Async f a) at t h = by_short (has_callees id) h
  where
    by_short : (b : Bool) → OutputCall (if b then async_answer at (async_output f at t) else StageOutput.Ends None None) → ⊥
    by_short true h = async_calls_not at (async_output f at t) h
    by_short false h = h
async_here_not id e at t h = h

plain_not : (y : StageOutput) → IsPlain y → OutputCall y → ⊥
plain_not (StageOutput.Opens m) p h = p
plain_not (StageOutput.Waits (Wait.Result j)) p h = p
plain_not (StageOutput.Waits w) p h = h
plain_not y p h = h

pub record AtCall (id : IntentId) (func : ℕ) (c : Option Caller) (o : Option RunTx) (changes step : ℕ) (e : Effect) (w : Stage) (t : QueryReply) (y : StageOutput) : Type 0 where
  pub at : CallAt
  pub stage : w ≡ Stage.Call at
  pub said : CallGives id o step e at t y

pub stage_calls : (id : IntentId) (func : ℕ) (c : Option Caller) (o : Option RunTx) (changes step : ℕ) (e : Effect) (w : Stage) (t : QueryReply) (y : StageOutput) → stage_output id func c o changes step e w t ≡ y → OutputCall y → AtCall id func c o changes step e w t y
stage_calls id func c o changes step e (Stage.Call at) t y output is = record { at = at; stage = refl; said = call_here id o step e at t y output is }
stage_calls id func c o changes step e (Stage.Async at) t y output is = absurd (async_here_not id e at t (subst OutputCall (sym output) is))
stage_calls id func c o changes step e w t y output is = absurd (plain_not (stage_output id func c o changes step e w t) (stage_plain id func c o changes step e w t refl) (subst OutputCall (sym output) is))

-- the call has no result then
call_open : (id : IntentId) (o : Option RunTx) (step : ℕ) (r : Option Outcome) (first : Bool) → OutputCall (call_answer id o step (open_output first r)) → r ≡ None
call_open id o step None first h = refl
call_open id o step (Some u) first h = absurd h

call_looks : (id : IntentId) (o : Option RunTx) (step : ℕ) (r : Option Outcome) → OutputCall (call_answer id o step (look_output r)) → r ≡ None
call_looks id o step None h = refl
call_looks id o step (Some u) h = absurd h

abbrev pub call_act : CallAt → ℕ → Act
call_act CallAt.Open f = Act.OpenInvoke f
call_act CallAt.Look f = Act.Look

pub no_result : (id : IntentId) (o : Option RunTx) (step f now : ℕ) (at : CallAt) (r : Option Row) → OutputCall (call_answer id o step (call_output f at (replied (act (call_act at f) now r).1))) → result_in (call_in r) ≡ None
no_result id o step f now CallAt.Open None h = refl
no_result id o step f now CallAt.Open (Some (Row.Invoke v)) h = call_open id o step v.result false h
no_result id o step f now CallAt.Open (Some r) h = refl
no_result id o step f now CallAt.Look None h = refl
no_result id o step f now CallAt.Look (Some r) h = call_looks id o step (result_in (call_in (Some r))) h

-- ---- stages of calls that nobody waits for
abbrev pub OutputAsync : StageOutput → Type 0
OutputAsync (StageOutput.On w m) = is_async w ≡ true
OutputAsync (StageOutput.Starts a) = Unit {0}
OutputAsync s = ⊥

pub record AsyncGives (id : IntentId) (e : Effect) (at : AsyncAt) (t : QueryReply) (y : StageOutput) : Type 0 where
  pub func : ℕ
  pub args : Value
  pub effect : e ≡ Effect.Async func args
  pub short : has_callees id ≡ true
  pub output : async_answer at (async_output func at t) ≡ y

async_here : (id : IntentId) (e : Effect) (at : AsyncAt) (t : QueryReply) (y : StageOutput) → async_here_output id e at t ≡ y → OutputAsync y → AsyncGives id e at t y
async_here id (Effect.Async f a) at t y output is = by_short (has_callees id) refl output
  where
    by_short : (b : Bool) → has_callees id ≡ b → (if b then async_answer at (async_output f at t) else StageOutput.Ends None None) ≡ y → AsyncGives id (Effect.Async f a) at t y
    by_short true short output = record { func = f; args = a; effect = refl; short = short; output = output }
    by_short false short output = absurd (subst OutputAsync (sym output) is)
async_here id e at t y output is = absurd (subst OutputAsync (sym output) is)

call_async_not : (id : IntentId) (o : Option RunTx) (step : ℕ) (z : CallOutput) → OutputAsync (call_answer id o step z) → ⊥
call_async_not id o step (CallOutput.Opened first) h = h
call_async_not id o step CallOutput.NotYet h = h
call_async_not id o step (CallOutput.Done u) h = h

call_here_not : (id : IntentId) (o : Option RunTx) (step : ℕ) (e : Effect) (at : CallAt) (t : QueryReply) → OutputAsync (call_here_output id o step e at t) → ⊥
call_here_not id o step (Effect.Call f a) at t h = by_short (has_callees id) h
  where
    by_short : (b : Bool) → OutputAsync (if b then call_answer id o step (call_output f at t) else StageOutput.Ends None None) → ⊥
    by_short true h = call_async_not id o step (call_output f at t) h
    by_short false h = h
call_here_not id o step e at t h = h

plain_async_not : (y : StageOutput) → IsPlain y → OutputAsync y → ⊥
plain_async_not (StageOutput.On w m) p h = let clash : true ≡ false = sym h ∙ p in cc
plain_async_not (StageOutput.Starts a) p h = p
plain_async_not y p h = h

pub record AtAsync (id : IntentId) (e : Effect) (w : Stage) (t : QueryReply) (y : StageOutput) : Type 0 where
  pub at : AsyncAt
  pub stage : w ≡ Stage.Async at
  pub said : AsyncGives id e at t y

pub stage_asyncs : (id : IntentId) (func : ℕ) (c : Option Caller) (o : Option RunTx) (changes step : ℕ) (e : Effect) (w : Stage) (t : QueryReply) (y : StageOutput) → stage_output id func c o changes step e w t ≡ y → OutputAsync y → AtAsync id e w t y
stage_asyncs id func c o changes step e (Stage.Async at) t y output is = record { at = at; stage = refl; said = async_here id e at t y output is }
stage_asyncs id func c o changes step e (Stage.Call at) t y output is = absurd (call_here_not id o step e at t (subst OutputAsync (sym output) is))
stage_asyncs id func c o changes step e w t y output is = absurd (plain_async_not (stage_output id func c o changes step e w t) (stage_plain id func c o changes step e w t refl) (subst OutputAsync (sym output) is))

-- it goes on to the next stage; from the first one where the call is not registered
opened_output : (f now : ℕ) (r : Option Row) → (invoked_of f (replied (act (Act.OpenInvoke f) now r).1)).registered ≡ registered_in (call_in (act (Act.OpenInvoke f) now r).0)
opened_output f now None = refl
opened_output f now (Some (Row.Invoke v)) = refl
opened_output f now (Some r) = refl

pub opens_unregistered : (f now : ℕ) (r : Option Row) (w : Stage) (k : Option Mark) → async_answer AsyncAt.Open (async_output f AsyncAt.Open (replied (act (Act.OpenInvoke f) now r).1)) ≡ StageOutput.On w k → registered_in (call_in (act (Act.OpenInvoke f) now r).0) ≡ false
opens_unregistered f now r w k output = sym (opened_output f now r) ∙ by_test (invoked_of f (replied (act (Act.OpenInvoke f) now r).1)).registered (invoked_of f (replied (act (Act.OpenInvoke f) now r).1)).added output
  where
    by_test : (b first : Bool) → async_answer AsyncAt.Open (async_opened first b) ≡ StageOutput.On w k → b ≡ false
    by_test true first output = cc
    by_test false first output = refl

-- a run of the callee starts only at the note
pub starts_noted : (at : AsyncAt) (z : AsyncOutput) (v : Answer) → async_answer at z ≡ StageOutput.Starts v → at ≡ AsyncAt.Note
starts_noted AsyncAt.Note z v h = refl
starts_noted AsyncAt.Open (AsyncOutput.Opened first) v h = cc
starts_noted AsyncAt.Open AsyncOutput.Going v h = cc
starts_noted AsyncAt.Open AsyncOutput.Done v h = cc
starts_noted AsyncAt.Register (AsyncOutput.Opened first) v h = cc
starts_noted AsyncAt.Register AsyncOutput.Going v h = cc
starts_noted AsyncAt.Register AsyncOutput.Done v h = cc
