-- What the turns of calls leave.
use Rattle.std.specs.FinMap as map
use Rattle.std.proofs.Common.{◌≡◌, ℕ, Bool, true, false, cond, Option, None, Some, is_some, refl, ap, sym, ◌∙◌, subst}
use Rattle.beldi_value.specs.declared.{outcome.Outcome.Outcome, place.Place.Place}
use Rattle.beldi_row.{specs.Key.RowKey, specs.declared.row.Row.Row, specs.declared.row.Body.Body, specs.declared.act.Act.Act, specs.Act.act, specs.Act.register_to, specs.Table.Rows, specs.Table.set_row, proofs.Gets.got, proofs.Gets.key_self}
use Rattle.beldi_query.{specs.declared.query.Query.Query, specs.Query.replied, specs.Query.may_remove, specs.Query.rows_after, specs.Query.query_reply, proofs.Promises.turned, proofs.Promises.rows_there}
use Rattle.beldi_invokelog.specs.InvokeLog.{invoke_key, call_in, result_in, registered_in, result_of, back_of}
use Rattle.beldi_intent.specs.Intent.{intent_key}
use Rattle.beldi_call.specs.Async.{AsyncTurn, CalleesAreEnrolled, EnrolledStays, EnrolledAt, OpenedAt, is_done, callee_key}
use Rattle.beldi_call.specs.{declared.call.CallAt.CallAt, declared.call.CallOutput.CallOutput, Call.CallTurn, Call.CallsTellTheirResult, Call.IsOutputAt, Call.result_output, declared.async_call.AsyncAt.AsyncAt, declared.async_call.AsyncAt.TheVariants.Open, declared.async_call.AsyncAt.TheVariants.Register, declared.async_call.AsyncAt.TheVariants.Note, declared.async_call.AsyncOutput.AsyncOutput, declared.async_call.AsyncOutput.TheVariants.Going, declared.async_call.AsyncOutput.TheVariants.Opened, declared.async_call.AsyncOutput.TheVariants.Done}
use Rattle.beldi_call.specs.Call as call
use Rattle.beldi_call.specs.Async as async

-- what is so of a row before, and of the one that it is set to
set_so : (P : Option Row → Option Row → Type 0) (m : Rows) (k : RowKey) (v : Option Row) → P (map.get m k) v → P (map.get m k) (map.get (set_row m k v) k)
set_so P m k v h = subst (P (map.get m k)) (sym (got m k k v ∙ ap (λ b. cond b v (map.get m k)) (key_self k))) h

-- ---- a call that waits
abbrev CallRow : CallAt → CallOutput → Option Row → Option Row → Type 0
CallRow at output r s = (result_output output ≡ result_in (call_in s)) × IsOutputAt at output r s

look_so : (r : Option Row) (o : Option Outcome) → result_in (call_in r) ≡ o → CallRow CallAt.Look (call.look_output o) r r
look_so r None is = (sym is, (refl, refl))
look_so r (Some o) is = (sym is, refl)

open_so : (r : Row) (o : Option Outcome) → result_in (call_in (Some r)) ≡ o → CallRow CallAt.Open (call.open_output false o) (Some r) (Some r)
open_so r None is = (sym is, (refl, refl, refl))
open_so r (Some o) is = (sym is, refl)

opens : (func now : ℕ) (r : Option Row) → CallRow CallAt.Open (call.call_output func CallAt.Open (replied (act (Act.OpenInvoke func) now r).1)) r (act (Act.OpenInvoke func) now r).0
opens func now None = (refl, (refl, refl, refl))
opens func now (Some (Row.Invoke i)) = open_so (Row.Invoke i) i.result refl
opens func now (Some r) = open_so r None refl

looks : (now : ℕ) (r : Option Row) → CallRow CallAt.Look (call.look_output (result_of (replied (act Act.Look now r).1))) r (act Act.Look now r).0
looks now None = look_so None None refl
looks now (Some r) = look_so (Some r) (result_in (call_in (Some r))) refl

call_made : (home func : ℕ) (p : Place) (at : CallAt) (now : ℕ) (m : Rows) → let q = call.call_asks home p func at in
    CallRow at (call.call_output func at (query_reply q now m)) (map.get m (invoke_key home p)) (map.get (rows_after q now m) (invoke_key home p))
call_made home func p CallAt.Open now m =
    let k = invoke_key home p in let o = map.get m k in
    set_so (CallRow CallAt.Open (call.call_output func CallAt.Open (replied (act (Act.OpenInvoke func) now o).1))) m k (act (Act.OpenInvoke func) now o).0 (opens func now o)
call_made home func p CallAt.Look now m =
    let k = invoke_key home p in let o = map.get m k in
    set_so (CallRow CallAt.Look (call.look_output (result_of (replied (act Act.Look now o).1)))) m k (act Act.Look now o).0 (looks now o)

pub calls_tell : CallsTellTheirResult
calls_tell w x now old new s h = turned (call.walk_asks w) now (call.walk_next w) (call.walk_output w) (λ m n z. CallTurn w m n z.1)
    (λ m. let c = call_made w.home w.func w.place w.at now m in record { done = c.0; said = c.1 }) w x old new s h

-- ---- a call that nobody waits for
enrolled_stays : (at : AsyncAt) (q : Query) → may_remove q ≡ false → (now : ℕ) (m : Rows) (k : RowKey) → EnrolledAt at (map.get m k) → EnrolledAt at (map.get (rows_after q now m) k)
enrolled_stays Open q keeps now m k h = h
enrolled_stays Register q keeps now m k h = h
enrolled_stays Note q keeps now m k h = rows_there q keeps now m k h

pub enrolled_callees_stay : EnrolledStays
enrolled_callees_stay w q keeps now m h = enrolled_stays w.at q keeps now m (callee_key w) h

-- the row of the call in a turn that is told whether it is registered
abbrev AsyncRow : AsyncAt → AsyncOutput → Option Row → Option Row → Type 0
AsyncRow at output r s = (is_done output ≡ registered_in (call_in s)) × OpenedAt at output r s

open_mark : (r : Row) (b : Bool) → registered_in (call_in (Some r)) ≡ b → AsyncRow Open (async.open_output false b) (Some r) (Some r)
open_mark r false is = (sym is, (refl, refl, refl))
open_mark r true is = (sym is, tt)

opens_so : (func now : ℕ) (r : Option Row) → AsyncRow Open (async.async_output func Open (replied (act (Act.OpenInvoke func) now r).1)) r (act (Act.OpenInvoke func) now r).0
opens_so func now None = (refl, (refl, refl, refl))
opens_so func now (Some (Row.Invoke i)) = open_mark (Row.Invoke i) i.registered refl
opens_so func now (Some r) = (refl, (refl, refl, refl))

marks_so : (now : ℕ) (r : Option Row) → AsyncRow Note (async.note_output (back_of (replied (act Act.NoteRegistered now r).1))) r (act Act.NoteRegistered now r).0
marks_so now None = (refl, tt)
marks_so now (Some (Row.Invoke i)) = by_mark i.registered refl
  where
    by_mark : (b : Bool) → i.registered ≡ b → AsyncRow Note (async.note_output (back_of (replied (register_to i b).1))) (Some (Row.Invoke i)) (Some (Row.Invoke (register_to i b).0))
    by_mark false is = (refl, tt)
    by_mark true is = (sym is, tt)
marks_so now (Some r) = (refl, tt)

-- a turn that is told whether the call is registered marks it only at the note
unmarked : {X : Type 0} (r : Option Row) → registered_in (call_in r) ≡ false → registered_in (call_in r) ≡ true → X
unmarked r before after = absurd (clash (sym before ∙ after))
  where
    clash : false ≡ true → ⊥
    clash h = cc

open_keeps : (func now : ℕ) (r : Option Row) → registered_in (call_in r) ≡ false → registered_in (call_in (act (Act.OpenInvoke func) now r).0) ≡ false
open_keeps func now None h = refl
open_keeps func now (Some r) h = h

-- by the stage: what a turn leaves of the call, and that the callee's row is there where the walk goes to the note
module _ (home : ℕ) (p : Place) (b : Body) (now : ℕ) (m : Rows) where
  abbrev key : RowKey
  key = invoke_key home p

  abbrev callee : RowKey
  callee = intent_key (async.callee_of p) b.func

  abbrev AfterTurn : AsyncAt → Rows → AsyncOutput → Type 0
  AfterTurn at n output = AsyncTurn (record { home = home; place = p; body = b; at = at }) (record { home = home; place = p; body = b; at = async.async_next at output }) m n output

  -- after the turn that opens it, the walk stands at no note
  no_note : (output : AsyncOutput) (r : Option Row) → EnrolledAt (async.opened_next output) r
  no_note Going r = tt
  no_note (Opened first) r = tt
  no_note Done r = tt

  open_turn : AfterTurn Open (rows_after (async.async_asks home p b Open) now m) (async.async_output b.func Open (query_reply (async.async_asks home p b Open) now m))
  open_turn =
      let o = map.get m key in
      let v = (act (Act.OpenInvoke b.func) now o).0 in
      let output = async.async_output b.func Open (replied (act (Act.OpenInvoke b.func) now o).1) in
      let row = set_so (AsyncRow Open output) m key v (opens_so b.func now o) in
      let keeps = set_so (λ r s. registered_in (call_in r) ≡ false → registered_in (call_in s) ≡ false) m key v (open_keeps b.func now o) in
      record { done = row.0; opened = row.1; enrolled = λ h. no_note output (map.get (set_row m key v) callee); marks = λ h before after. unmarked (map.get (set_row m key v) key) (keeps before) after }

  register_row : (r : Option Row) → is_some (act (Act.Register b) now r).0 ≡ true
  register_row None = refl
  register_row (Some r) = refl

  register_turn : AfterTurn Register (rows_after (async.async_asks home p b Register) now m) Going
  register_turn =
      let v = (act (Act.Register b) now (map.get m callee)).0 in
      let there = set_so (λ r s. is_some s ≡ true) m callee v (register_row (map.get m callee)) in
      record { done = refl; opened = tt; enrolled = λ h. there; marks = λ h before after. there }

  note_turn : AfterTurn Note (rows_after (async.async_asks home p b Note) now m) (async.async_output b.func Note (query_reply (async.async_asks home p b Note) now m))
  note_turn =
      let o = map.get m key in
      let v = (act Act.NoteRegistered now o).0 in
      let output = async.note_output (back_of (replied (act Act.NoteRegistered now o).1)) in
      let row = set_so (AsyncRow Note output) m key v (marks_so now o) in
      let stays = rows_there (async.async_asks home p b Note) refl now m callee in
      record { done = row.0; opened = row.1; enrolled = stays; marks = λ h before after. stays h }

async_made : (home : ℕ) (p : Place) (b : Body) (at : AsyncAt) (now : ℕ) (m : Rows) → let q = async.async_asks home p b at in
    AfterTurn home p b now m at (rows_after q now m) (async.async_output b.func at (query_reply q now m))
async_made home p b Open now m = open_turn home p b now m
async_made home p b Register now m = register_turn home p b now m
async_made home p b Note now m = note_turn home p b now m

pub callees_enrolled : CalleesAreEnrolled
callees_enrolled w x now old new s h = turned (async.walk_asks w) now (async.walk_next w) (async.walk_output w) (λ m n z. AsyncTurn w z.0 m n z.1)
    (λ m. async_made w.home w.place w.body w.at now m) w x old new s h
