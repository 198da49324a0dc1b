-- Runs that were called in a transaction stay in it, and make no entry: by cases on the stage, and on what follows of what was told.
use Rattle.std.specs.Prelude.{not}
use Rattle.std.proofs.Common.{◌≡◌, ℕ, Bool, true, false, Option, Some, None, refl, ap, sym, ◌∙◌, if◌then◌else◌}
use Rattle.beldi_value.specs.{Id.has_callees, declared.id.IntentId.IntentId, declared.place.Caller.Caller, declared.place.TxId.TxId}
use Rattle.beldi_lang.specs.{declared.effect.Effect.Effect, declared.effect.Answer.Answer, Bounds.is_bound}
use Rattle.beldi_query.specs.Query.{QueryReply}
use Rattle.beldi_invokelog.specs.InvokeLog.{back_of}
use Rattle.beldi_invokelog.specs.declared.invoke_log.Back as told
use Rattle.beldi_invokelog.specs.declared.invoke_log.Back.TheVariants as back
use Rattle.beldi_intent.specs.Intent.{is_did}
use Rattle.beldi_txn.specs.declared.tx.{TxAt.TxAt, TxGoes.TxGoes}
use Rattle.beldi_call.specs.{declared.call.CallOutput.CallOutput, declared.call.CallOutput.TheVariants.Opened, Call.call_output, declared.call.CallAt.CallAt}
use Rattle.beldi_step.specs.Run.{is_waited, last_stage, open_after, with_cause, tx_output, put_answer, call_answer, call_here_output, back_output, close_output, mark_if}
use Rattle.beldi_step.specs.{declared.run.Stage.Stage, declared.run.Stage.TheVariants.Tx, declared.run.Stage.TheVariants.Call, declared.run.Stage.TheVariants.Back, declared.run.Stage.TheVariants.Notify, declared.run.Stage.TheVariants.Close, declared.run.StageOutput.StageOutput, declared.run.StageOutput.TheVariants.Ends, declared.run.RunTx.TheVariants.Inherited, CalledInside.is_inside, CalledInside.IsQuiet, CalledInside.StaysInherited, CalledInside.BeginsInside, CalledInside.MakesNoEntry, declared.run.Mark.Mark}

-- ---- it stays in its transaction
keeps : (x : TxId) (a : Answer) → with_cause a (Some (Inherited x)) ≡ Some (Inherited x)
keeps x (Answer.Aborted c) = refl
keeps x a = refl

stays : (x : TxId) (n : ℕ) (e : Effect) (a : Answer) → is_bound e ≡ false → open_after n e a (Some (Inherited x)) ≡ Some (Inherited x)
stays x n Effect.Begin a is = cc
stays x n (Effect.End commit) a is = cc
stays x n e a is = keeps x a

pub stays_inherited : StaysInherited
stays_inherited d m x a is = stays x m.steps m.effect a is

-- ---- where its effects begin
called : (c : Option Caller) (b : Bool) (s : Stage) → (if b then Some (Call CallAt.Open) else None) ≡ Some s → is_inside c s ≡ true
called c true s is = let same : Call CallAt.Open ≡ s = cc in ap (is_inside c) (sym same)
called c false s is = cc

returns : (c : Option Caller) → is_waited c ≡ true → is_inside c (last_stage c) ≡ true
returns None waits = cc
returns (Some c) waits = ap (λ b. is_inside (Some c) (if b then Back else Notify)) waits

in_tx : (c : Option Caller) (a : TxAt) (s : Stage) → Some (Tx a) ≡ Some s → is_inside c s ≡ true
in_tx c a s is = let same : Tx a ≡ s = cc in ap (is_inside c) (sym same)

pub begins_inside : BeginsInside
begins_inside id c x step (Effect.Read t k) s waits is = in_tx c _ s is
begins_inside id c x step (Effect.Write t k v) s waits is = in_tx c _ s is
begins_inside id c x step (Effect.CondWrite t k r o v) s waits is = in_tx c _ s is
begins_inside id c x step (Effect.Call f v) s waits is = called c (has_callees id) s is
begins_inside id c x step (Effect.Return o) s waits is = let same : last_stage c ≡ s = cc in ap (is_inside c) (sym same) ∙ returns c waits
begins_inside id c x step e s waits is = cc

-- ---- no entry
module _ (c : Option Caller) where
  put : (a : TxAt) → IsQuiet c (put_answer a)
  put (TxAt.Keep v) = refl
  put a = refl

  operates : (a : TxAt) (g : TxGoes) → IsQuiet c (tx_output a g)
  operates a (TxGoes.On b) = (refl, refl)
  operates a TxGoes.Put = put a
  operates a g = refl

  calls : (id : IntentId) (x : TxId) (step : ℕ) (s : CallOutput) → IsQuiet c (call_answer id (Some (Inherited x)) step s)
  calls id x step (Opened first) = refl
  calls id x step s = refl

  calls_if : (b : Bool) (s : StageOutput) → IsQuiet c s → IsQuiet c (if b then s else Ends None None)
  calls_if true s is = is
  calls_if false s is = refl

  calls_here : (id : IntentId) (x : TxId) (step : ℕ) (e : Effect) (at : CallAt) (t : QueryReply) → IsQuiet c (call_here_output id (Some (Inherited x)) step e at t)
  calls_here id x step (Effect.Call f a) at t = calls_if (has_callees id) _ (calls id x step (call_output f at t))
  calls_here id x step e at t = refl

  gives_back : (x : TxId) (b : told.Back) → is_waited c ≡ true → IsQuiet c (back_output (Some (Inherited x)) b)
  gives_back x back.Set waits = (refl, waits)
  gives_back x b waits = (refl, waits)

  closes_with : (id : IntentId) (e : Effect) (b : Bool) → is_waited c ≡ true → IsQuiet c (close_output id c e b)
  closes_with id (Effect.Return o) true waits = ap (λ w. mark_if (not w) Mark.Step) waits
  closes_with id e b waits = refl

pub makes_no_entry : MakesNoEntry
makes_no_entry id func c x changes step e (Tx at) t waits is = operates c at _
makes_no_entry id func c x changes step e (Call at) t waits is = calls_here c id x step e at t
makes_no_entry id func c x changes step e Back t waits is = gives_back c x (back_of t) waits
makes_no_entry id func c x changes step e Close t waits is = closes_with c id e (is_did t) waits
makes_no_entry id func c x changes step e s t waits is = cc
