-- The turn of a live run that has begun is over only at the stage that closes its intent: an operation outside finds the note of its own effect, and
-- frees what it owns; and from any answer the run goes on.
use Rattle.std.proofs.Common.{Bool, IsTrue, List, None, Option, Some, ap, arith, false, if◌then◌else◌, is_some, refl, subst, sym, true, ℕ, ◌∙◌, ◌≡◌}
use Rattle.beldi_value.specs.{declared.id.IntentId.IntentId, declared.outcome.Outcome.Outcome, declared.place.Caller.Caller, declared.place.Owner.Owner, declared.place.Place.Place, declared.value.Value.Value}
use Rattle.beldi_tree.specs.declared.deployment.Deployment.{Deployment}
use Rattle.beldi_lang.specs.{Wants.wants_answer, declared.effect.Answer.Answer, declared.effect.Effect.Effect, declared.machine.Machine.Machine}
use Rattle.beldi_book.specs.LinearOrder.{count_changes}
use Rattle.beldi_plain.specs.{Item.Item, Operation.OnItem, Operation.item_in, Operation.op_of}
use Rattle.beldi_plain_laws.proofs.Maps.{same_some}
use Rattle.beldi_row.{proofs.Logs.note_here, specs.Act.other_owner, specs.Act.owns, specs.Log.note_at, specs.Table.Rows, specs.declared.notes.Note.Note}
use Rattle.beldi_query.specs.{Query.rows_after, Query.query_reply, declared.query.Query.Query}
use Rattle.beldi_chain.specs.{Chain.chain, Content.Content}
use Rattle.beldi_links.specs.Links.{SeesAt}
use Rattle.beldi_daal.specs.{Cell.cell_key, Cell.done_note, Cell.write_asks, Cell.write_goes, Logged.DidAs, Logged.Logs, Logged.at_of, Logged.barred, Logged.held_by, Logged.note_after, Logged.unless_owned, Logged.waited, WriteWalk.walk_so, declared.cell.CellOp.CellOp, declared.cell.ReadGoes.ReadGoes, declared.cell.WriteAt.WriteAt, declared.cell.WriteGoes.WriteGoes, declared.walk.Item.TheVariants.Plain, declared.walk.WriteOutput.WriteOutput, declared.walk.WriteWalk.WriteWalk}
use Rattle.beldi_daal.proofs.Logged.{by_op}
use Rattle.beldi_txn.specs.{declared.end.EndGoes.EndGoes, declared.end.EndState.EndState, declared.tx.TxAt.TxAt, declared.tx.TxGoes.TxGoes, TxTurn.Fits}
use Rattle.beldi_invokelog.specs.declared.invoke_log.Back.{Back}
use Rattle.beldi_histories.proofs.Cases.{by_option}
use Rattle.beldi_call.specs.{Async.async_output, Call.call_output, declared.async_call.AsyncAt.AsyncAt, declared.async_call.AsyncOutput.AsyncOutput, declared.call.CallOutput.CallOutput}
use Rattle.beldi_step.specs.{declared.run.Begun.Begun, declared.run.Mark.Mark, declared.run.Run.Run, declared.run.RunAt.RunAt, declared.run.RunTx.RunTx, declared.run.StageOutput.StageOutput, declared.run.Stage.Stage, HostStep.Core, Run.answer_noted, Run.cell_op, Run.goes_from, Run.note_of_op, Run.place_of, Run.put_asks, Run.put_output, Run.asks_at, Run.stage_asks, Run.stage_output, Run.takes, Run.told_at, Run.turned_by, Run.write_output, Run.done_output, Run.ask_output, Run.async_answer, Run.local_steps, Run.back_output, Run.call_answer, Run.decided_output, Run.put_answer, Run.tx_output, Run.visit_output, Run.walk_output}
use Rattle.beldi_histories.specs.{Contents.content_of, Contents.is_owner, OutsideOperations.cell_of}
use Rattle.beldi_invariant.specs.{FoundInside.SeesPut, OneAnswer.IsBegun, Invariant.AtStage, Invariant.Inside, Invariant.Knows, Invariant.Invariant}
use Rattle.beldi_upkeep.specs.Checked.{Begins, NoTurnIsOver, is_close, is_own_note, works_on}
use Rattle.beldi_upkeep.proofs.{Notes.knows, Notes.notes_are_own, Notes.unlocks_are_owned, Stranded.no_run_stranded}

-- ---- what is said
-- it ends the run
abbrev ends : StageOutput → Bool
ends (StageOutput.Ends m o) = true
ends x = false

-- it answers the effect, which wants an answer
abbrev AnswersIt : Effect → StageOutput → Type 0
AnswersIt e (StageOutput.Answers a m) = IsTrue (wants_answer e)
AnswersIt e (StageOutput.Starts a) = IsTrue (wants_answer e)
AnswersIt e x = Unit {0}

abbrev GoesOn : Effect → StageOutput → Type 0
GoesOn e x = (ends x ≡ false) × AnswersIt e x

-- ---- an operation outside a transaction
pub its_cell : (e : Effect) (o : OnItem) → op_of e ≡ Some o → cell_op e ≡ Some (record { table = o.table; key = o.key; op = cell_of o.does })
its_cell e o h = grind arith

wants_op : (e : Effect) (o : OnItem) → op_of e ≡ Some o → IsTrue (wants_answer e) × (works_on e ≡ true)
wants_op e o h = grind arith

-- the note that it leaves now answers it
note_now : (e : Effect) (o : OnItem) (v : Value) → op_of e ≡ Some o → is_some (answer_noted e (note_after (cell_of o.does) v)) ≡ true
note_now e o v h = grind arith

owner_is : (w : Owner) (o : Option Owner) → owns w o ≡ is_owner o w
owner_is w o = grind arith

pub held_else : (o : Option Owner) → held_by o ≡ Some WriteOutput.NotOwner → ⊥
held_else None h = cc
held_else (Some w) h = cc

-- only who frees is barred as no owner
barred_free : (e : Effect) (o : OnItem) (w : Owner) (owner : Option Owner) → op_of e ≡ Some o → barred (cell_of o.does) w owner ≡ Some WriteOutput.NotOwner → (e ≡ Effect.Unlock o.table o.key) × (owns w owner ≡ false)
barred_free (Effect.Unlock t k) o w owner h is = let same = same_some h in (λ i. Effect.Unlock (same i).table (same i).key, owned (owns w owner) (ap (λ (z : OnItem). barred (cell_of z.does) w owner) same ∙ is))
  where
    owned : (b : Bool) → unless_owned b ≡ Some WriteOutput.NotOwner → b ≡ false
    owned true k = cc
    owned false k = refl
barred_free (Effect.Write t k v) o w owner h is = absurd (held_else (other_owner w owner) (ap (λ (z : OnItem). barred (cell_of z.does) w owner) (same_some h) ∙ is))
barred_free (Effect.CondWrite t k r u v) o w owner h is = absurd (held_else (other_owner w owner) (ap (λ (z : OnItem). barred (cell_of z.does) w owner) (same_some h) ∙ is))
barred_free (Effect.Lock t k) o w owner h is = absurd (held_else (waited w (other_owner w owner)) (ap (λ (z : OnItem). barred (cell_of z.does) w owner) (same_some h) ∙ is))
barred_free e o w owner h is = cc

-- the note that an operation leaves, or a death
abbrev pub note_left : CellOp → Value → Option IntentId → Note
note_left op v None = note_after op v
note_left op v (Some a) = Note.Died a

pub left_note : (p : Place) (who : Owner) (op : CellOp) (c d : Content) (w : Note) (a : Option IntentId) → note_at d.notes p ≡ Some w → note_at c.notes p ≡ None → DidAs p who op a c d → note_left op c.value a ≡ w
left_note p who op c d w None there none did = same_some (sym (ap (λ (x : Content). note_at x.notes p) did.1 ∙ note_here c.notes p (note_after op c.value) none) ∙ there)
left_note p who op c d w (Some a) there none did = same_some (sym (ap (λ (x : Content). note_at x.notes p) did ∙ note_here c.notes p (Note.Died a) none) ∙ there)

done_on : (first : Bool) (e : Effect) (u : Option Answer) → IsTrue (wants_answer e) → is_some u ≡ true → GoesOn e (done_output first u)
done_on first e u wanted some = grind arith

module _ (d : Deployment) (c : Core) (m : Rows) (r : Run) (g : Begun) (h : Invariant d c m) (b : IsBegun c r.id r g) (out : g.tx ≡ None) (o : OnItem) (so : op_of g.machine.effect ≡ Some o) (at : WriteAt) where
  abbrev e : Effect
  e = g.machine.effect

  abbrev place : Place
  place = place_of r.id g.machine.steps

  abbrev item : Item
  item = item_in r.func o

  abbrev op : CellOp
  op = cell_of o.does

  abbrev walk : WriteWalk
  walk = record { home = r.func; item = Plain o.table o.key; place = place; who = Owner.Intent r.id; op = op; at = at }

  abbrev asks : Query
  asks = write_asks (cell_key r.func o.table o.key) place (Owner.Intent r.id) op at

  abbrev n : Rows
  n = rows_after asks c.now m

  was_noted : (w : Note) → note_at (content_of m item).notes place ≡ Some w → is_some (answer_noted e w) ≡ true
  was_noted w there = ap (λ z. is_own_note z e w) (sym out) ∙ notes_are_own d c m r g item w h b (wants_op e o so).1 there

  by_output : (z : WriteGoes) → Logs place (Owner.Intent r.id) op (walk_so z) (content_of m item) (content_of n item) → GoesOn e (write_output e z)
  by_output (WriteGoes.On to) l = (refl, tt)
  by_output WriteGoes.Stays l = (refl, tt)
  by_output WriteGoes.Worn l = (refl, tt)
  by_output (WriteGoes.Held w) l = (refl, tt)
  by_output (WriteGoes.Done w true) l =
      let same : note_after op (content_of m item).value ≡ w = left_note place (Owner.Intent r.id) op (content_of m item) (content_of n item) w None l.0 l.1.0 l.1.1 in
      done_on true e (answer_noted e w) (wants_op e o so).0 (ap (λ z. is_some (answer_noted e z)) (sym same) ∙ note_now e o (content_of m item).value so)
  by_output (WriteGoes.Done w false) l = done_on false e (answer_noted e w) (wants_op e o so).0 (was_noted w (ap (λ (x : Content). note_at x.notes place) (sym l.1) ∙ l.0))
  by_output WriteGoes.NotOwner l =
      let k = barred_free e o (Owner.Intent r.id) (content_of m item).owner so l.1 in
      let clash = sym k.1 ∙ owner_is (Owner.Intent r.id) (content_of m item).owner ∙ unlocks_are_owned d c m r g o.table o.key h b k.0 l.0 in cc

  operation_on : SeesAt (chain m (cell_key r.func o.table o.key)) place (at_of at) → GoesOn e (put_output e at (note_of_op (cell_op e)) (query_reply (put_asks r.id r.func g.machine.steps at (cell_op e)) c.now m))
  operation_on sees = subst (λ x. GoesOn e (put_output e at (note_of_op x) (query_reply (put_asks r.id r.func g.machine.steps at x) c.now m))) (sym (its_cell e o so))
      (by_output (write_goes (done_note op) at (query_reply asks c.now m)) (by_op walk m n c.now (h.rows.chains item) sees refl).logs)

-- ---- what each stage says
ask_on : (t : ℕ) (x : List ℕ) (v : Option Value) → GoesOn (Effect.Read t x) (ask_output v)
ask_on t x v = grind arith

walk_on : (t : ℕ) (x : List ℕ) (n : ℕ) (z : ReadGoes) → GoesOn (Effect.Read t x) (walk_output n z)
walk_on t x n z = grind arith

async_on : (f : ℕ) (a : Value) (at : AsyncAt) (z : AsyncOutput) → GoesOn (Effect.Async f a) (async_answer at z)
async_on f a at z = grind arith

call_on : (f : ℕ) (a : Value) (id : IntentId) (o : Option RunTx) (step : ℕ) (z : CallOutput) → GoesOn (Effect.Call f a) (call_answer id o step z)
call_on f a id o step z = grind arith

back_on : (u : Outcome) (o : Option RunTx) (z : Back) → GoesOn (Effect.Return u) (back_output o z)
back_on u o z = grind arith

fits_wants : (e : Effect) (a : TxAt) → Fits e a → IsTrue (wants_answer e)
fits_wants (Effect.Read t k) a h = refl
fits_wants (Effect.Write t k v) a h = refl
fits_wants (Effect.CondWrite t k r o v) a h = refl
fits_wants e a h = absurd h

put_on : (e : Effect) (a : TxAt) → IsTrue (wants_answer e) → GoesOn e (put_answer a)
put_on e (TxAt.Keep v) wanted = (refl, wanted)
put_on e a wanted = (refl, tt)

tx_on : (e : Effect) (a : TxAt) (z : TxGoes) → IsTrue (wants_answer e) → GoesOn e (tx_output a z)
tx_on e a (TxGoes.On b) wanted = (refl, tt)
tx_on e a TxGoes.Stays wanted = (refl, tt)
tx_on e a TxGoes.Put wanted = put_on e a wanted
tx_on e a (TxGoes.Died c) wanted = (refl, wanted)
tx_on e a (TxGoes.Held o) wanted = (refl, tt)
tx_on e a TxGoes.Worn wanted = (refl, tt)
tx_on e a (TxGoes.Value v) wanted = (refl, wanted)
tx_on e a TxGoes.Done wanted = (refl, wanted)

decided_on : (commit : Bool) (m : Mark) (z : EndGoes) → GoesOn (Effect.End commit) (decided_output commit m z)
decided_on commit m (EndGoes.Decided first) = (refl, tt)
decided_on commit m z = (refl, tt)

visit_on : (commit : Bool) (v : EndState) (z : EndGoes) → GoesOn (Effect.End commit) (visit_output commit v z)
visit_on commit v EndGoes.Done = (refl, refl)
visit_on commit v z = (refl, tt)

module _ (d : Deployment) (c : Core) (m : Rows) (r : Run) (g : Begun) (h : Invariant d c m) (b : IsBegun c r.id r g) (k : Knows d h.histories r g) where
  abbrev Output_at : Stage → Effect → Option RunTx → StageOutput
  Output_at s e o = stage_output r.id r.func g.caller o (count_changes c.book) g.machine.steps e s (query_reply (stage_asks r.id r.func g.caller o g.machine.steps e s) c.now m)

  by_stage : (s : Stage) (e : Effect) (o : Option RunTx) → g.machine.effect ≡ e → g.tx ≡ o → is_close s ≡ false → AtStage m h.plain c.book k s e o → GoesOn e (Output_at s e o)
  by_stage Stage.Ask (Effect.Read t x) None is out near here = ask_on t x _
  by_stage (Stage.Walk i) (Effect.Read t x) None is out near here = walk_on t x _ _
  by_stage (Stage.Keep v version) (Effect.Read t x) None is out near here = (refl, refl)
  by_stage (Stage.Write at) e None is out near here = by_option (op_of e) (λ none. let clash = sym (ap is_some none) ∙ here.0 in cc)
      (λ u so. subst (λ z. GoesOn z (put_output z at (note_of_op (cell_op z)) (query_reply (put_asks r.id r.func g.machine.steps at (cell_op z)) c.now m))) is (operation_on d c m r g h b out u (ap op_of is ∙ so) at (subst (SeesPut m r.func (place_of r.id g.machine.steps) at) (its_cell e u so) here.1)))
  by_stage (Stage.Async at) (Effect.Async f a) None is out near here = subst (λ z. GoesOn (Effect.Async f a) (if z then async_answer at (async_output f at (query_reply (stage_asks r.id r.func g.caller None g.machine.steps (Effect.Async f a) (Stage.Async at)) c.now m)) else StageOutput.Ends None None)) (sym here.0) (async_on f a at _)
  by_stage (Stage.Call at) (Effect.Call f a) o is in_it near here = subst (λ z. GoesOn (Effect.Call f a) (if z then call_answer r.id o g.machine.steps (call_output f at (query_reply (stage_asks r.id r.func g.caller o g.machine.steps (Effect.Call f a) (Stage.Call at)) c.now m)) else StageOutput.Ends None None)) (sym here.0) (call_on f a r.id o g.machine.steps _)
  by_stage Stage.Back (Effect.Return u) o is in_it near here = back_on u o _
  by_stage Stage.Notify (Effect.Return u) None is out near here = (refl, tt)
  by_stage Stage.Close e o is in_it near here = cc
  by_stage (Stage.Tx a) e (Some o) is in_it near here = tx_on e a _ (fits_wants e a here.0)
  by_stage (Stage.Decide w) (Effect.End commit) (Some (RunTx.Own o)) is in_it near here = decided_on commit w _
  by_stage (Stage.End v) (Effect.End commit) (Some (RunTx.Own o)) is in_it near here = visit_on commit v _
  by_stage s e o is in_it near here = absurd here

-- ---- a turn
pub goes_some : (r : Run) (s : Machine × Option RunTx) (caller : Option Caller) (mark : Option Mark) (w : Option Stage) → is_some w ≡ true → (goes_from r s caller mark w).next ≡ None → ⊥
goes_some r s caller mark None some none = cc
goes_some r s caller mark (Some w) some none = cc

module _ (d : Deployment) (r : Run) (g : Begun) (further : (a : Answer) → IsTrue (wants_answer g.machine.effect) → Begins d r.id g.caller (takes d g.machine g.tx a)) where
  not_over : (x : StageOutput) → GoesOn g.machine.effect x → (turned_by d r g x).next ≡ None → ⊥
  not_over (StageOutput.On s m) on none = cc
  not_over StageOutput.Stays on none = cc
  not_over (StageOutput.Opens m) on none = cc
  not_over (StageOutput.Waits w) on none = cc
  not_over (StageOutput.Starts a) on none = goes_some r (local_steps d r.id (takes d g.machine g.tx a)) g.caller None _ (further a on.1) none
  not_over (StageOutput.Answers a m) on none = goes_some r (local_steps d r.id (takes d g.machine g.tx a)) g.caller m _ (further a on.1) none
  not_over (StageOutput.Ends m o) on none = let clash = on.0 in cc

pub no_turn_over : NoTurnIsOver
no_turn_over d c m r g h b none = by_close (is_close g.stage) refl
  where
    k : (k : Knows d h.invariant.histories r g) × Inside m h.invariant.plain c.book k g.stage
    k = knows d c m h.invariant r g b

    at_begun : (at : RunAt) → r.at ≡ at → (told_at d (count_changes c.book) r at (query_reply (asks_at r at) c.now m)).next ≡ None
    at_begun at same = ap (λ z. (told_at d (count_changes c.book) r z (query_reply (asks_at r z) c.now m)).next) (sym same) ∙ none

    by_close : (u : Bool) → is_close g.stage ≡ u → u ≡ true
    by_close true e = refl
    by_close false e = absurd (not_over d r g (λ a wanted. no_run_stranded d c m r g a h b wanted) _ (by_stage d c m r g h.invariant b k.0 g.stage g.machine.effect g.tx refl refl e k.1.here) (at_begun (RunAt.Begins g) b.begun))
