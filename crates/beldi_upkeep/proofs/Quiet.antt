-- A stage that is neither of a call nor of one that nobody waits for: what it says starts no run, and registers nobody.
use Rattle.std.proofs.Common.{◌≡◌, ℕ, Bool, true, false, Option, Some, None, if◌then◌else◌, refl, arith}
use Rattle.beldi_value.specs.{Id.has_callees, declared.id.IntentId.IntentId, declared.place.Caller.Caller, declared.value.Value.Value}
use Rattle.beldi_lang.specs.{declared.effect.Answer.Answer, declared.effect.Effect.Effect}
use Rattle.beldi_row.specs.{declared.notes.Note.Note}
use Rattle.beldi_query.specs.{Query.QueryReply}
use Rattle.beldi_daal.specs.declared.cell.{ReadGoes.ReadGoes, WriteAt.WriteAt, WriteGoes.WriteGoes}
use Rattle.beldi_invokelog.specs.declared.invoke_log.Back as back
use Rattle.beldi_txn.specs.declared.{tx.TxAt.TxAt, tx.TxGoes.TxGoes, end.EndGoes.EndGoes, end.EndState.EndState}
use Rattle.beldi_call.specs.declared.{async_call.AsyncAt.AsyncAt}
use Rattle.beldi_step.specs.Run.{Turned, asks_at, ask_output, async_answer, async_here_asks, async_here_output, local_steps, at_stage, back_output, begin_in, body_registered, call_answer, call_here_asks, call_here_output, callee_at, callee_body, callee_by, callee_of, close_output, decide_by_output, decide_here_output, decided_output, done_output, end_by_output, end_here_output, first_outside, first_stage, goes_from, goes_to, is_waited, local_step, open_after, place_of, put_answer, put_output, mark_if, run_asks, run_told, stage_asks, stage_output, step_mark, takes, takes_if, told_at, turned_by, tx_at, tx_here_output, tx_output, visit_output, walk_output, with_cause, inherited_tx, write_output}
use Rattle.beldi_step.specs.declared.run.{Mark.Mark, Run.Run, RunTx.RunTx, RunTx.TheVariants.Own, RunTx.TheVariants.Inherited, StageOutput.StageOutput, Stage.Stage, Wait.Wait}
use Rattle.beldi_step.specs.Run as step
use Rattle.beldi_upkeep.specs.WorksFor.{IsRegistered}

-- ---- where a run is to register a callee
abbrev pub is_async : Stage → Bool
is_async (Stage.Async at) = true
is_async s = false

-- no effect begins there
pub not_first : (r : Run) (id : IntentId) (c : Option Caller) (o : Option RunTx) (n : ℕ) (e : Effect) (w : Stage) (i : IntentId) → first_stage id c o n e ≡ Some w → IsRegistered r n e w i → ⊥
not_first r id c o n (Effect.Async g a) (Stage.Async AsyncAt.Register) i is to = by_tx o is
  where
    by_hops : (b : Bool) → (if b then Some (Stage.Async AsyncAt.Open) else None) ≡ Some (Stage.Async AsyncAt.Register) → ⊥
    by_hops true is = cc
    by_hops false is = cc

    by_tx : (o : Option RunTx) → first_outside (if has_callees id then Some (Stage.Async AsyncAt.Open) else None) o ≡ Some (Stage.Async AsyncAt.Register) → ⊥
    by_tx None is = by_hops (has_callees id) is
    by_tx (Some x) is = cc
not_first r id c o n e w i is to = absurd to

pub not_async : (r : Run) (n : ℕ) (e : Effect) (w : Stage) (i : IntentId) → is_async w ≡ false → IsRegistered r n e w i → ⊥
not_async r n (Effect.Async g a) (Stage.Async at) i off to = cc
not_async r n e w i off to = absurd to

-- ---- what a stage says where it calls nobody: the run goes on at no such stage, and no run of what it calls starts
abbrev pub Quiet : StageOutput → Type 0
Quiet (StageOutput.On w m) = is_async w ≡ false
Quiet (StageOutput.Opens m) = ⊥
Quiet (StageOutput.Starts a) = ⊥
Quiet (StageOutput.Waits (Wait.Result i)) = ⊥
Quiet x = Unit {0}

quiet_ask : (v : Option Value) → Quiet (ask_output v)
quiet_ask v = grind arith

quiet_walk : (changes : ℕ) (g : ReadGoes) → Quiet (walk_output changes g)
quiet_walk changes g = grind arith

quiet_done : (first : Bool) (a : Option Answer) → Quiet (done_output first a)
quiet_done first a = grind arith

quiet_write : (e : Effect) (g : WriteGoes) → Quiet (write_output e g)
quiet_write e (WriteGoes.Done n first) = quiet_done first (step.answer_noted e n)
quiet_write e (WriteGoes.On at) = refl
quiet_write e g = tt

quiet_put : (e : Effect) (at : WriteAt) (n : Option Note) (t : QueryReply) → Quiet (put_output e at n t)
quiet_put e at None t = tt
quiet_put e at (Some n) t = quiet_write e _

quiet_kept : (a : TxAt) → Quiet (put_answer a)
quiet_kept a = grind arith

quiet_tx : (a : TxAt) (g : TxGoes) → Quiet (tx_output a g)
quiet_tx a (TxGoes.On b) = refl
quiet_tx a TxGoes.Put = quiet_kept a
quiet_tx a g = tt

quiet_inside : (id : IntentId) (n : ℕ) (e : Effect) (a : TxAt) (o : Option RunTx) (t : QueryReply) → Quiet (tx_here_output id n e a o t)
quiet_inside id n e a None t = tt
quiet_inside id n e a (Some o) t = quiet_tx a _

quiet_decided : (commit : Bool) (m : Mark) (g : EndGoes) → Quiet (decided_output commit m g)
quiet_decided commit m (EndGoes.Decided first) = refl
quiet_decided commit m g = refl

quiet_visit : (commit : Bool) (v : EndState) (g : EndGoes) → Quiet (visit_output commit v g)
quiet_visit commit v EndGoes.Done = tt
quiet_visit commit v EndGoes.Worn = tt
quiet_visit commit v g = refl

quiet_decide : (id : IntentId) (func n : ℕ) (e : Effect) (m : Mark) (o : Option RunTx) (t : QueryReply) → Quiet (decide_here_output id func n e m o t)
quiet_decide id func n (Effect.End commit) m (Some (Own o)) t = quiet_decided commit m _
quiet_decide id func n (Effect.End commit) m (Some (Inherited x)) t = tt
quiet_decide id func n (Effect.End commit) m None t = tt
quiet_decide id func n e m o t = tt

quiet_end : (id : IntentId) (func n : ℕ) (e : Effect) (v : EndState) (o : Option RunTx) (t : QueryReply) → Quiet (end_here_output id func n e v o t)
quiet_end id func n (Effect.End commit) v (Some (Own o)) t = quiet_visit commit v _
quiet_end id func n (Effect.End commit) v (Some (Inherited x)) t = tt
quiet_end id func n (Effect.End commit) v None t = tt
quiet_end id func n e v o t = tt

quiet_back : (o : Option RunTx) (b : back.Back) → Quiet (back_output o b)
quiet_back o b = grind arith

quiet_close : (id : IntentId) (c : Option Caller) (e : Effect) (b : Bool) → Quiet (close_output id c e b)
quiet_close id c (Effect.Return u) true = tt
quiet_close id c e b = tt

-- a stage of neither kind of call
abbrev pub CallsNobody : Stage → Type 0
CallsNobody (Stage.Call at) = ⊥
CallsNobody (Stage.Async at) = ⊥
CallsNobody w = Unit {0}

pub quiet : (id : IntentId) (func : ℕ) (c : Option Caller) (o : Option RunTx) (changes n : ℕ) (e : Effect) (w : Stage) (t : QueryReply) → CallsNobody w → Quiet (stage_output id func c o changes n e w t)
quiet id func c o changes n e Stage.Ask t nobody = quiet_ask _
quiet id func c o changes n e (Stage.Walk i) t nobody = quiet_walk changes _
quiet id func c o changes n e (Stage.Keep v version) t nobody = tt
quiet id func c o changes n e (Stage.Write at) t nobody = quiet_put e at (step.note_done e) t
quiet id func c o changes n e (Stage.Tx at) t nobody = quiet_inside id n e at o t
quiet id func c o changes n e (Stage.Decide m) t nobody = quiet_decide id func n e m o t
quiet id func c o changes n e (Stage.End v) t nobody = quiet_end id func n e v o t
quiet id func c o changes n e Stage.Back t nobody = quiet_back o _
quiet id func c o changes n e Stage.Notify t nobody = refl
quiet id func c o changes n e Stage.Close t nobody = quiet_close id c e _
quiet id func c o changes n e (Stage.Call at) t nobody = absurd nobody
quiet id func c o changes n e (Stage.Async at) t nobody = absurd nobody
