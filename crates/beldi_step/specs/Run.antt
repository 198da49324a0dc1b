-- A run, as a machine that asks one thing a turn.
use Rattle.std.specs.Prelude.{◌≡◌, ℕ, not, Bool, true, false, List, Option, Some, None, is_none, is_some, Result, Ok, Err, if◌then◌else◌}
use Rattle.beldi_value.specs.{Id.has_callees, Id.has_no_hops, Id.child_of, declared.id.IntentId.IntentId, declared.value.Value.Value, declared.outcome.Cause.Cause, declared.outcome.Outcome.Outcome, declared.place.Caller.Caller, declared.place.Place.Place, declared.place.TxId.TxId, declared.place.Owner.Owner}
use Rattle.beldi_tree.specs.{declared.deployment.Deployment.Deployment, declared.deployment.Func.Func, Bindings.or_null, Names.func_at}
use Rattle.beldi_lang.specs.{declared.effect.Effect.Effect, declared.effect.Answer.Answer, Callee.answer_of, declared.machine.Machine.Machine, Machine.begun as machine_begun, Machine.resumed}
use Rattle.beldi_row.specs.{declared.act.Act.TheVariants.Look, declared.act.Act.TheVariants.PutRead, Key.at_row, declared.row.Body.Body, Act.added, declared.notes.Note.Note, declared.notes.Note.TheVariants.Wrote, declared.notes.Note.TheVariants.Cond, declared.notes.Note.TheVariants.Got, declared.notes.Note.TheVariants.Died, declared.notes.Note.TheVariants.Freed}
use Rattle.beldi_query.specs.{declared.query.Query.Query, declared.query.Query.TheVariants.Act, Query.QueryReply, Query.replied}
use Rattle.beldi_daal.specs.{declared.cell.WriteAt.WriteAt, declared.cell.WriteAt.TheVariants.Try, declared.cell.WriteGoes.WriteGoes, declared.cell.ReadGoes.ReadGoes, declared.cell.CellOp.CellOp, Cell.cell_key, Cell.done_note, Cell.write_asks, Cell.write_goes, Cell.read_goes}
use Rattle.beldi_readlog.specs.{declared.read_log.Kept.Kept, ReadLog.log_key, ReadLog.given_of, ReadLog.kept_of}
use Rattle.beldi_invokelog.specs.InvokeLog.{back_asks, registered_asks, back_of}
use Rattle.beldi_invokelog.specs.declared.invoke_log.Back as told
use Rattle.beldi_invokelog.specs.declared.invoke_log.Back.TheVariants as back
use Rattle.beldi_intent.specs.Intent.{look_asks, register_asks, end_asks, is_did, body_in, body_told}
use Rattle.beldi_txn.specs.{declared.tx.TxAt.TxAt, declared.tx.TxGoes.TxGoes, declared.end.EndGoes.EndGoes, declared.end.EndState.EndState, Tx.tx_first, Tx.tx_asks, Tx.tx_goes, End.first_visit, End.visit_asks, End.end_goes, End.end_after}
use Rattle.beldi_call.specs.{declared.call.CallAt.CallAt, declared.call.CallOutput.CallOutput, declared.call.CallOutput.TheVariants.Opened, declared.call.CallOutput.TheVariants.NotYet, declared.call.CallOutput.TheVariants.Done, Call.call_asks, Call.call_output, declared.async_call.AsyncAt.AsyncAt, declared.async_call.AsyncOutput.AsyncOutput, Async.async_asks, Async.async_output}
use Rattle.beldi_step.specs.declared.run.Stage.TheVariants.{Ask, Walk, Keep, Write, Tx, Decide, End, Call, Async, Back, Notify, Close}
use Rattle.beldi_step.specs.declared.run.StageOutput.TheVariants.{On, Stays, Opens, Starts, Waits, Answers, Ends}
use Rattle.beldi_step.specs.{declared.run.Mark.Mark, declared.run.Wait.Wait, declared.run.Run.Run, declared.run.RunAt.RunAt, declared.run.RunAt.TheVariants.Looks, declared.run.RunAt.TheVariants.Registers, declared.run.RunAt.TheVariants.Begins, declared.run.Begun.Begun, declared.run.OpenTx.OpenTx, declared.run.RunTx.RunTx, declared.run.RunTx.TheVariants.Own, declared.run.RunTx.TheVariants.Inherited, declared.run.TurnOutput.TurnOutput, declared.run.Stage.Stage, declared.run.StageOutput.StageOutput, Noted.noted_answer}

-- the place of a run's effect at a step
abbrev pub place_of : IntentId → ℕ → Place
place_of id step = record { intent = id; step = step }

-- ---- transactions
-- a run's own transaction, which is open
abbrev pub own_tx : IntentId → ℕ → OpenTx → TxId
own_tx id func o = record { intent = id; begin = o.begin; func = func }

-- the transaction that a run is in: its own one, or the one that it was called in
abbrev pub tx_of : IntentId → ℕ → RunTx → TxId
tx_of id func (Own o) = own_tx id func o
tx_of id func (Inherited x) = x

abbrev pub tx_at : IntentId → ℕ → Option RunTx → Option TxId
tx_at id func None = None
tx_at id func (Some o) = Some (tx_of id func o)

-- the step of its begin
abbrev pub begin_of : RunTx → ℕ
begin_of (Own o) = o.begin
begin_of (Inherited x) = x.begin

-- the transaction of a body: what is called in one is in it throughout
abbrev pub inherited_tx : Option TxId → Option RunTx
inherited_tx None = None
inherited_tx (Some x) = Some (Inherited x)

abbrev pub is_inherited : Option RunTx → Bool
is_inherited None = false
is_inherited (Some (Own o)) = false
is_inherited (Some (Inherited x)) = true

-- the cause of what was aborted in its own one is kept
abbrev pub with_cause : Answer → Option RunTx → Option RunTx
with_cause (Answer.Aborted c) (Some (Own o)) = Some (Own (record { begin = o.begin; cause = Some c }))
with_cause a o = o

-- what a run is in once the effect at a step has its answer
abbrev pub open_after : ℕ → Effect → Answer → Option RunTx → Option RunTx
open_after step Effect.Begin a o = Some (Own (record { begin = step; cause = None }))
open_after step (Effect.End commit) a o = None
open_after step e a o = with_cause a o

-- the mark of a transaction that leaves nothing, by the cause of what was aborted in it; where a fault ends it nothing was, and its
-- place is that of the end
abbrev pub abort_mark : IntentId → ℕ → Option Cause → Mark
abort_mark id step (Some c) = Mark.AbortedTx c.place c.holder
abort_mark id step None = Mark.AbortedTx (place_of id step) None

-- the mark of the decision
abbrev pub end_mark : IntentId → ℕ → Option Cause → Bool → Mark
end_mark id step c true = Mark.CommittedTx
end_mark id step c false = abort_mark id step c

-- ---- what takes no turn
-- the answer that takes no turn: of a Begin, and of an Abort
abbrev pub local_answer : IntentId → ℕ → Effect → Option Answer
local_answer id step Effect.Begin = Some Answer.Done
local_answer id step Effect.Abort = Some (Answer.Aborted (record { place = place_of id step; holder = None }))
local_answer id step e = None

-- a machine and the transaction that it is in, after an answer
abbrev pub takes : Deployment → Machine → Option RunTx → Answer → Machine × Option RunTx
takes d m o a = (resumed d m a, open_after m.steps m.effect a o)

-- a run at a machine and a transaction
abbrev pub at_state : Begun → Machine × Option RunTx → Begun
at_state g s = record g { machine = s.0; tx = s.1 }

abbrev pub takes_if : Deployment → Machine → Option RunTx → Option Answer → Machine × Option RunTx
takes_if d m o None = (m, o)
takes_if d m o (Some a) = takes d m o a

abbrev pub local_step : Deployment → IntentId → Machine × Option RunTx → Machine × Option RunTx
local_step d id s = takes_if d s.0 s.1 (local_answer id s.0.steps s.0.effect)

-- after a Begin comes no Begin, and after an Abort neither: so twice is enough
abbrev pub local_steps : Deployment → IntentId → Machine × Option RunTx → Machine × Option RunTx
local_steps d id s = local_step d id (local_step d id s)

-- ---- an operation on an item
-- the operation of an effect, and its item
pub record OnCell : Type 0 where
  pub table : ℕ
  pub key : List ℕ
  pub op : CellOp

abbrev pub cell_op : Effect → Option OnCell
cell_op (Effect.Write t k v) = Some (record { table = t; key = k; op = CellOp.Write v })
cell_op (Effect.CondWrite t k r o v) = Some (record { table = t; key = k; op = CellOp.Cond r o v })
cell_op (Effect.Lock t k) = Some (record { table = t; key = k; op = CellOp.Lock })
cell_op (Effect.Unlock t k) = Some (record { table = t; key = k; op = CellOp.Free None })
cell_op e = None

-- the note that its act leaves where it says that it was done
abbrev pub note_of_op : Option OnCell → Option Note
note_of_op None = None
note_of_op (Some o) = Some (done_note o.op)

abbrev pub note_done : Effect → Option Note
note_done e = note_of_op (cell_op e)

-- a note's answer to an effect, none where it is of another kind than the effect's answers
abbrev pub answers_it : Effect → Answer → Bool
answers_it (Effect.Write t k v) Answer.Done = true
answers_it (Effect.CondWrite t k r o v) (Answer.Value w) = true
answers_it (Effect.Lock t k) Answer.Done = true
answers_it (Effect.Unlock t k) Answer.Done = true
answers_it e a = false

abbrev pub if_answers : Effect → Option Answer → Option Answer
if_answers e None = None
if_answers e (Some a) = if answers_it e a then Some a else None

abbrev pub answer_noted : Effect → Note → Option Answer
answer_noted e n = if_answers e (noted_answer n)

-- a caller that waits
abbrev pub is_waited : Option Caller → Bool
is_waited None = false
is_waited (Some c) = c.waits

-- where a return begins: what its caller waits for gives its outcome back before it ends, and any other callee tells its caller that
-- it is registered
abbrev pub last_stage : Option Caller → Stage
last_stage None = Close
last_stage (Some c) = if c.waits then Back else Notify

-- an operation on an item begins so outside a transaction; inside, with its lock or with what was kept for it
abbrev pub first_of : Stage → Effect → Option RunTx → Stage
first_of s e None = s
first_of s e (Some o) = Tx (tx_first (begin_of o) e)

-- what is carried out outside a transaction alone
abbrev pub first_outside : Option Stage → Option RunTx → Option Stage
first_outside s None = s
first_outside s (Some o) = None

-- an end begins with the decision. What was called in a transaction does not end it.
abbrev pub first_end : IntentId → ℕ → Bool → Option RunTx → Option Stage
first_end id step commit None = None
first_end id step commit (Some (Own o)) = Some (Decide (end_mark id step o.cause commit))
first_end id step commit (Some (Inherited x)) = None

-- where an effect at a step of an intent begins, by its caller and by the transaction that it is in; none where it is not carried
-- out, as a call is not whose callee has no id
abbrev pub first_stage : IntentId → Option Caller → Option RunTx → ℕ → Effect → Option Stage
first_stage id c o step (Effect.Read t k) = Some (first_of Ask (Effect.Read t k) o)
first_stage id c o step (Effect.Write t k v) = Some (first_of (Write (Try 0)) (Effect.Write t k v) o)
first_stage id c o step (Effect.CondWrite t k r u v) = Some (first_of (Write (Try 0)) (Effect.CondWrite t k r u v) o)
first_stage id c o step (Effect.Lock t k) = first_outside (Some (Write (Try 0))) o
first_stage id c o step (Effect.Unlock t k) = first_outside (Some (Write (Try 0))) o
first_stage id c o step (Effect.Call f a) = if has_callees id then Some (Call CallAt.Open) else None
first_stage id c o step (Effect.Async f a) = first_outside (if has_callees id then Some (Async AsyncAt.Open) else None) o
first_stage id c o step (Effect.End commit) = first_end id step commit o
first_stage id c o step (Effect.Return x) = Some (last_stage c)
first_stage id c o step e = None

-- ---- what is asked in the next turn. A stage of another effect, which does not come, looks at the intent's row.
abbrev pub walk_asks : IntentId → ℕ → ℕ → Effect → Query
walk_asks id func row (Effect.Read t k) = Act (at_row (cell_key func t k) row) Look
walk_asks id func row e = look_asks id func

abbrev pub put_asks : IntentId → ℕ → ℕ → WriteAt → Option OnCell → Query
put_asks id func step at (Some o) = write_asks (cell_key func o.table o.key) (place_of id step) (Owner.Intent id) o.op at
put_asks id func step at None = look_asks id func

-- inside a transaction
abbrev pub tx_here_asks : IntentId → ℕ → ℕ → Effect → TxAt → Option RunTx → Query
tx_here_asks id func step e at (Some o) = tx_asks func (place_of id step) (tx_of id func o) e at
tx_here_asks id func step e at None = look_asks id func

-- the end of a transaction
abbrev pub end_by_asks : IntentId → ℕ → ℕ → Bool → EndState → Option RunTx → Query
end_by_asks id func step commit v (Some (Own o)) = visit_asks (own_tx id func o) step commit v.path v.after v.item v.value v.at
end_by_asks id func step commit v (Some (Inherited x)) = look_asks id func
end_by_asks id func step commit v None = look_asks id func

abbrev pub end_here_asks : IntentId → ℕ → ℕ → Effect → EndState → Option RunTx → Query
end_here_asks id func step (Effect.End commit) v o = end_by_asks id func step commit v o
end_here_asks id func step e v o = look_asks id func

abbrev pub call_here_asks : IntentId → ℕ → ℕ → Effect → CallAt → Query
call_here_asks id func step (Effect.Call f a) at = call_asks func (place_of id step) f at
call_here_asks id func step e at = look_asks id func

-- the body of what is called, in this transaction, if any
abbrev pub callee_body : IntentId → ℕ → ℕ → ℕ → Value → Option TxId → Bool → Body
callee_body id func step f a x waits = record { func = f; args = a; tx = x; parent = Some (record { place = place_of id step; func = func; waits = waits }) }

abbrev pub async_here_asks : IntentId → ℕ → ℕ → Effect → AsyncAt → Query
async_here_asks id func step (Effect.Async f a) at = if has_callees id then async_asks func (place_of id step) (callee_body id func step f a None false) at else look_asks id func
async_here_asks id func step e at = look_asks id func

abbrev pub notify_asks : IntentId → ℕ → Option Caller → Query
notify_asks id func None = look_asks id func
notify_asks id func (Some c) = registered_asks c.func c.place

abbrev pub back_to_asks : IntentId → ℕ → Option Caller → Effect → Query
back_to_asks id func (Some c) (Effect.Return o) = back_asks c.func c.place o
back_to_asks id func c e = look_asks id func

-- what was called in a transaction has its stamp from the owner's end
abbrev pub close_asks : IntentId → ℕ → Option RunTx → Effect → Query
close_asks id func o (Effect.Return x) = end_asks id func x (not (is_inherited o))
close_asks id func o e = look_asks id func

abbrev pub stage_asks : IntentId → ℕ → Option Caller → Option RunTx → ℕ → Effect → Stage → Query
stage_asks id func c o step e Ask = Act (log_key func (place_of id step)) Look
stage_asks id func c o step e (Walk row) = walk_asks id func row e
stage_asks id func c o step e (Keep v version) = Act (log_key func (place_of id step)) (PutRead v)
stage_asks id func c o step e (Write at) = put_asks id func step at (cell_op e)
stage_asks id func c o step e (Tx at) = tx_here_asks id func step e at o
stage_asks id func c o step e (Decide m) = end_here_asks id func step e first_visit o
stage_asks id func c o step e (End v) = end_here_asks id func step e v o
stage_asks id func c o step e (Call at) = call_here_asks id func step e at
stage_asks id func c o step e (Async at) = async_here_asks id func step e at
stage_asks id func c o step e Back = back_to_asks id func c e
stage_asks id func c o step e Notify = notify_asks id func c
stage_asks id func c o step e Close = close_asks id func o e

abbrev pub asks_at : Run → RunAt → Query
asks_at r Looks = look_asks r.id r.func
asks_at r (Registers b) = register_asks r.id b
asks_at r (Begins g) = stage_asks r.id r.func g.caller g.tx g.machine.steps g.machine.effect g.stage

abbrev pub run_asks : Run → Query
run_asks r = asks_at r r.at

-- ---- what a stage says of what it was told
-- the mark of an act, where this act made an entry
abbrev pub mark_if : Bool → Mark → Option Mark
mark_if true m = Some m
mark_if false m = None

-- the mark of a step that this act made, if it made one: inside a transaction a step makes no entry
abbrev pub step_mark : Option RunTx → Bool → Option Mark
step_mark None first = mark_if first Mark.Step
step_mark (Some o) first = None

-- what was given to a read before is its answer
abbrev pub ask_output : Option Value → StageOutput
ask_output None = On (Walk 0) None
ask_output (Some v) = Answers (Answer.Value v) None

-- what a read found, when so many changes had been made. An item without a row is null.
abbrev pub walk_output : ℕ → ReadGoes → StageOutput
walk_output changes (ReadGoes.On row) = On (Walk row) None
walk_output changes ReadGoes.Stays = Stays
walk_output changes (ReadGoes.Got v) = On (Keep (or_null v) changes) None
walk_output changes (ReadGoes.Held o) = Waits (Wait.Held o)

-- what is kept for a read is its answer, whoever kept it
abbrev pub keep_output : ℕ → Kept → StageOutput
keep_output version k = Answers (Answer.Value k.value) (mark_if k.added (Mark.Read version))

-- an operation whose place has its note was made; a note of another kind, which no session leaves there, ends the run
abbrev pub done_output : Bool → Option Answer → StageOutput
done_output first (Some a) = Answers a (mark_if first Mark.Step)
done_output first None = Ends None None

-- a run that is to give back what it does not own is over; no session comes to that
abbrev pub write_output : Effect → WriteGoes → StageOutput
write_output e (WriteGoes.On at) = On (Write at) None
write_output e WriteGoes.Stays = Stays
write_output e (WriteGoes.Done n first) = done_output first (answer_noted e n)
write_output e WriteGoes.NotOwner = Ends None None
write_output e (WriteGoes.Held w) = Waits (Wait.Held w)
write_output e WriteGoes.Worn = Waits Wait.Worn

abbrev pub put_output : Effect → WriteAt → Option Note → QueryReply → StageOutput
put_output e at None t = Ends None None
put_output e at (Some n) t = write_output e (write_goes n at t)

-- what happens inside a transaction makes no entry. A value that was kept now is the answer.
abbrev pub put_answer : TxAt → StageOutput
put_answer (TxAt.Keep v) = Answers (Answer.Value v) None
put_answer a = Stays

abbrev pub tx_output : TxAt → TxGoes → StageOutput
tx_output a (TxGoes.On b) = On (Tx b) None
tx_output a TxGoes.Stays = Stays
tx_output a TxGoes.Put = put_answer a
tx_output a (TxGoes.Died c) = Answers (Answer.Aborted c) None
tx_output a (TxGoes.Held o) = Waits (Wait.Held o)
tx_output a TxGoes.Worn = Waits Wait.Worn
tx_output a (TxGoes.Value v) = Answers (Answer.Value v) None
tx_output a TxGoes.Done = Answers Answer.Done None

abbrev pub tx_here_output : IntentId → ℕ → Effect → TxAt → Option RunTx → QueryReply → StageOutput
tx_here_output id step e a (Some o) t = tx_output a (tx_goes (place_of id step) (begin_of o) e a t)
tx_here_output id step e a None t = Ends None None

-- the decision has its mark where this act put it
abbrev pub decided_output : Bool → Mark → EndGoes → StageOutput
decided_output commit m (EndGoes.Decided first) = On (End (end_after commit first_visit (EndGoes.Decided first))) (mark_if first m)
decided_output commit m g = On (Decide m) None

-- the end is answered when all items were given back
abbrev pub visit_output : Bool → EndState → EndGoes → StageOutput
visit_output commit v EndGoes.Done = Answers Answer.Done None
visit_output commit v EndGoes.Worn = Waits Wait.Worn
visit_output commit v g = On (End (end_after commit v g)) None

abbrev pub decide_by_output : IntentId → ℕ → ℕ → Bool → Mark → Option RunTx → QueryReply → StageOutput
decide_by_output id func step commit m (Some (Own o)) t = decided_output commit m (end_goes (own_tx id func o) step commit first_visit.path first_visit.at t)
decide_by_output id func step commit m (Some (Inherited x)) t = Ends None None
decide_by_output id func step commit m None t = Ends None None

abbrev pub end_by_output : IntentId → ℕ → ℕ → Bool → EndState → Option RunTx → QueryReply → StageOutput
end_by_output id func step commit v (Some (Own o)) t = visit_output commit v (end_goes (own_tx id func o) step commit v.path v.at t)
end_by_output id func step commit v (Some (Inherited x)) t = Ends None None
end_by_output id func step commit v None t = Ends None None

abbrev pub decide_here_output : IntentId → ℕ → ℕ → Effect → Mark → Option RunTx → QueryReply → StageOutput
decide_here_output id func step (Effect.End commit) m o t = decide_by_output id func step commit m o t
decide_here_output id func step e m o t = Ends None None

abbrev pub end_here_output : IntentId → ℕ → ℕ → Effect → EndState → Option RunTx → QueryReply → StageOutput
end_here_output id func step (Effect.End commit) v o t = end_by_output id func step commit v o t
end_here_output id func step e v o t = Ends None None

-- how the callee ended is the answer to the call; where it has not, the run has opened the call, or waits
abbrev pub call_answer : IntentId → Option RunTx → ℕ → CallOutput → StageOutput
call_answer id o step (Opened first) = Opens (step_mark o first)
call_answer id o step NotYet = Waits (Wait.Result (child_of id step))
call_answer id o step (Done x) = Answers (answer_of x) None

abbrev pub call_here_output : IntentId → Option RunTx → ℕ → Effect → CallAt → QueryReply → StageOutput
call_here_output id o step (Effect.Call f a) at t = if has_callees id then call_answer id o step (call_output f at t) else Ends None None
call_here_output id o step e at t = Ends None None

-- a call that nobody waits for makes its step as it is opened; once it is registered, a run of the callee may start
abbrev pub async_answer : AsyncAt → AsyncOutput → StageOutput
async_answer at (AsyncOutput.Opened first) = On (Async AsyncAt.Register) (mark_if first Mark.Step)
async_answer at AsyncOutput.Going = On (Async AsyncAt.Note) None
async_answer AsyncAt.Note AsyncOutput.Done = Starts Answer.Done
async_answer at AsyncOutput.Done = Answers Answer.Done None

abbrev pub async_here_output : IntentId → Effect → AsyncAt → QueryReply → StageOutput
async_here_output id (Effect.Async f a) at t = if has_callees id then async_answer at (async_output f at t) else Ends None None
async_here_output id e at t = Ends None None

-- the outcome was given back, and the step that gave it was made once, which has no entry where the instance was called in a
-- transaction; then the instance is ended
abbrev pub back_output : Option RunTx → told.Back → StageOutput
back_output o back.Set = On Close (mark_if (not (is_inherited o)) Mark.Step)
back_output o back.AlreadySet = On Close None
back_output o back.Absent = On Close None

-- the first end of a root gives its reply
abbrev pub reply_if : Bool → Outcome → Option Outcome
reply_if true o = Some o
reply_if false o = None

-- the end of what its caller waits for makes no step: its outcome was given back
abbrev pub close_output : IntentId → Option Caller → Effect → Bool → StageOutput
close_output id c (Effect.Return o) true = Ends (mark_if (not (is_waited c)) Mark.Step) (reply_if (has_no_hops id.hops) o)
close_output id c e b = Ends None None

-- `changes` is how many changes had been made
abbrev pub stage_output : IntentId → ℕ → Option Caller → Option RunTx → ℕ → ℕ → Effect → Stage → QueryReply → StageOutput
stage_output id func c o changes step e Ask t = ask_output (given_of t)
stage_output id func c o changes step e (Walk row) t = walk_output changes (read_goes (Some (Owner.Intent id)) t)
stage_output id func c o changes step e (Keep v version) t = keep_output version (kept_of v t)
stage_output id func c o changes step e (Write at) t = put_output e at (note_done e) t
stage_output id func c o changes step e (Tx at) t = tx_here_output id step e at o t
stage_output id func c o changes step e (Decide m) t = decide_here_output id func step e m o t
stage_output id func c o changes step e (End v) t = end_here_output id func step e v o t
stage_output id func c o changes step e (Call at) t = call_here_output id o step e at t
stage_output id func c o changes step e (Async at) t = async_here_output id e at t
stage_output id func c o changes step e Back t = back_output o (back_of t)
stage_output id func c o changes step e Notify t = On Close None
stage_output id func c o changes step e Close t = close_output id c e (is_did t)

abbrev pub mark_of : StageOutput → Option Mark
mark_of (On s m) = m
mark_of Stays = None
mark_of (Opens m) = m
mark_of (Starts a) = None
mark_of (Waits w) = None
mark_of (Answers a m) = m
mark_of (Ends m o) = m

-- ---- where a run goes
-- the run as it goes on, none where it is over; the mark of its act; whether a run of what it calls may start; why it stands; and the
-- outcome that its act gave the root
pub record Turned : Type 0 where
  pub next : Option Run
  pub mark : Option Mark
  pub starts : Bool
  pub wait : Option Wait
  pub reply : Option Outcome

-- what is said of it
abbrev pub output_of : Turned → TurnOutput
output_of t = record { mark = t.mark; over = is_none t.next; starts = t.starts; wait = t.wait; reply = t.reply }

abbrev pub over : Option Mark → Turned
over m = record { next = None; mark = m; starts = false; wait = None; reply = None }

abbrev pub goes : Run → Begun → Option Mark → Turned
goes r g m = record { next = Some (record r { at = Begins g }); mark = m; starts = false; wait = None; reply = None }

-- a run whose machine has come to its next effect, with the transaction that it is in; one whose effect is not carried out is over
abbrev pub goes_from : Run → Machine × Option RunTx → Option Caller → Option Mark → Option Stage → Turned
goes_from r s c m None = over m
goes_from r s c m (Some w) = goes r (record { machine = s.0; caller = c; tx = s.1; stage = w }) m

abbrev pub stands_at : Run → Machine × Option RunTx → Option Caller → Option Mark → Turned
stands_at r s c m = goes_from r s c m (first_stage r.id c s.1 s.0.steps s.0.effect)

-- .. past what takes no turn
abbrev pub goes_to : Deployment → Run → Machine × Option RunTx → Option Caller → Option Mark → Turned
goes_to d r s c m = stands_at r (local_steps d r.id s) c m

abbrev pub at_stage : Begun → Stage → Begun
at_stage g s = record { machine = g.machine; caller = g.caller; tx = g.tx; stage = s }

abbrev pub turned_by : Deployment → Run → Begun → StageOutput → Turned
turned_by d r g (On s m) = goes r (at_stage g s) m
turned_by d r g Stays = goes r g None
turned_by d r g (Opens m) = record { next = Some (record r { at = Begins (at_stage g (Call CallAt.Look)) }); mark = m; starts = true; wait = None; reply = None }
turned_by d r g (Waits w) = record { next = Some r; mark = None; starts = false; wait = Some w; reply = None }
turned_by d r g (Starts a) = record (goes_to d r (takes d g.machine g.tx a) g.caller None) { starts = true }
turned_by d r g (Answers a m) = goes_to d r (takes d g.machine g.tx a) g.caller m
turned_by d r g (Ends m o) = record { next = None; mark = m; starts = false; wait = None; reply = o }

-- a run begins a body of its function, in the body's transaction, if any
abbrev pub begin_in : Deployment → Run → Option Func → Option Body → Turned
begin_in d r func None = over None
begin_in d r None (Some b) = over None
begin_in d r (Some func) (Some b) = goes_to d r (machine_begun d r.func b.args (is_some b.tx), inherited_tx b.tx) b.parent None

-- the body of a run, by what it was told: that of its row, or the one that it registered now
abbrev pub body_registered : ℕ → Body → QueryReply → Option Body
body_registered func b (replied added) = body_in func (Some b)
body_registered func b t = body_told func t

abbrev pub told_at : Deployment → ℕ → Run → RunAt → QueryReply → Turned
told_at d changes r Looks t = begin_in d r (func_at d r.func) (body_told r.func t)
told_at d changes r (Registers b) t = begin_in d r (func_at d r.func) (body_registered r.func b t)
told_at d changes r (Begins g) t = turned_by d r g (stage_output r.id r.func g.caller g.tx changes g.machine.steps g.machine.effect g.stage t)

abbrev pub run_told : Deployment → ℕ → Run → QueryReply → Turned
run_told d changes r t = told_at d changes r r.at t

-- ---- a run of what is called: it has the caller's deadline. One that is waited for registers its body, where the callee has no row
-- yet, and is in the caller's transaction; any other was registered.
abbrev pub callee_run : Run → ℕ → ℕ → RunAt → Option Run
callee_run r step f at = if has_callees r.id then Some (record { id = child_of r.id step; func = f; deadline = r.deadline; at = at }) else None

abbrev pub callee_by : Run → Option RunTx → ℕ → Effect → Option Run
callee_by r o step (Effect.Call f a) = callee_run r step f (Registers (callee_body r.id r.func step f a (tx_at r.id r.func o) true))
callee_by r o step (Effect.Async f a) = callee_run r step f Looks
callee_by r o step e = None

abbrev pub callee_at : Run → RunAt → Option Run
callee_at r (Begins g) = callee_by r g.tx g.machine.steps g.machine.effect
callee_at r at = None

abbrev pub callee_of : Run → Option Run
callee_of r = callee_at r r.at

-- ---- calls that make a turn
-- the run as it goes on, if it does
abbrev pub going : Run → Bool → Option Run
going s true = None
going s false = Some s

-- the body that a run begins, before it has begun
abbrev pub body_added : ℕ → RunAt → Option Body
body_added func (Registers b) = body_in func (Some b)
body_added func at = None

abbrev pub body_found : ℕ → RunAt → QueryReply → Option Body
body_found func at (replied added) = body_added func at
body_found func at t = body_told func t

-- what is said where no more is to say than the mark, and whether the run is over
abbrev pub plain_output : Option Mark → Bool → TurnOutput
plain_output m b = record { mark = m; over = b; starts = false; wait = None; reply = None }

-- the stage that is left by the end of a transaction, as what its stage has is moved: that of its visits, where they go on
abbrev pub end_left : EndState → Result StageOutput (Option Mark) → Stage
end_left v (Ok (On s m)) = Close
end_left v x = End v

abbrev pub left_of : Stage → Result StageOutput (Option Mark) → Stage
left_of (Decide m) x = Close
left_of (End v) x = end_left v x
left_of s x = s

-- an answer, with the run as it is after it
abbrev pub followed : Run → TurnOutput → Turned
followed s x = record { next = going s x.over; mark = x.mark; starts = x.starts; wait = x.wait; reply = x.reply }

-- the run turned so; out of memory the mark is told
abbrev pub Turns : Run → Result TurnOutput (Option Mark) → Turned → Type 0
Turns s (Ok x) t = followed s x ≡ t
Turns s (Err e) t = e ≡ t.mark
