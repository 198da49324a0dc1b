-- Where a call is answered, its row says that it may be passed.
use Rattle.beldi_row.specs.declared.act.Act.TheVariants.{Look, NoteRegistered, OpenInvoke}
use Rattle.beldi_row.specs.Act.{act, register_to}
use Rattle.beldi_row.specs.declared.row.{InvokeRow.InvokeRow, Row.Row}
use Rattle.beldi_query.specs.Query.{replied}
use Rattle.beldi_call.specs.{Async.async_output, Async.open_output as async_open_output, Call.call_output, Call.look_output, Call.open_output as call_open_output, declared.async_call.AsyncAt.AsyncAt, declared.call.CallAt.CallAt}
use Rattle.beldi_value.specs.declared.{id.IntentId.IntentId, outcome.Outcome.Outcome}
use Rattle.beldi_lang.specs.declared.effect.Answer.{Answer}
use Rattle.beldi_step.specs.{Run.async_answer, Run.call_answer, declared.run.RunTx.RunTx}
use Rattle.std.proofs.Common.{Bool, None, Option, Some, ap, arith, false, is_some, refl, true, ℕ, ◌||◌, ◌≡◌}
use Rattle.beldi_upkeep.specs.Passed.{may_pass}
use Rattle.beldi_upkeep.proofs.PastOutputs.{answer_in}

or_some : (b : Bool) (o : Option Outcome) → is_some o ≡ true → (b || is_some o) ≡ true
or_some true o h = refl
or_some false o h = h

-- of a call that is waited for
module _ (id : IntentId) (x : Option RunTx) (step f now : ℕ) (a : Answer) where
  pub look_row : (o : Option Row) → answer_in (call_answer id x step (call_output f CallAt.Look (replied (act Look now o).1))) ≡ Some a → may_pass (act Look now o).0 ≡ true
  look_row None h = cc
  look_row (Some (Row.Invoke c)) h = by_result c.result h
    where
      by_result : (u : Option Outcome) → answer_in (call_answer id x step (look_output u)) ≡ Some a → (c.registered || is_some u) ≡ true
      by_result None h = cc
      by_result (Some u) h = or_some c.registered (Some u) refl
  look_row (Some w) h = grind arith

  pub open_row : (o : Option Row) → answer_in (call_answer id x step (call_output f CallAt.Open (replied (act (OpenInvoke f) now o).1))) ≡ Some a → may_pass (act (OpenInvoke f) now o).0 ≡ true
  open_row None h = cc
  open_row (Some (Row.Invoke c)) h = by_result c.result h
    where
      by_result : (u : Option Outcome) → answer_in (call_answer id x step (call_open_output false u)) ≡ Some a → (c.registered || is_some u) ≡ true
      by_result None h = cc
      by_result (Some u) h = or_some c.registered (Some u) refl
  open_row (Some w) h = grind arith

-- of one that nobody waits for
module _ (f now : ℕ) (a : Answer) where
  pub async_open_row : (o : Option Row) → answer_in (async_answer AsyncAt.Open (async_output f AsyncAt.Open (replied (act (OpenInvoke f) now o).1))) ≡ Some a → may_pass (act (OpenInvoke f) now o).0 ≡ true
  async_open_row None h = cc
  async_open_row (Some (Row.Invoke c)) h = by_mark c.registered h
    where
      by_mark : (b : Bool) → answer_in (async_answer AsyncAt.Open (async_open_output false b)) ≡ Some a → (b || is_some c.result) ≡ true
      by_mark false h = cc
      by_mark true h = refl
  async_open_row (Some w) h = grind arith

  pub note_row : (o : Option Row) → answer_in (async_answer AsyncAt.Note (async_output f AsyncAt.Note (replied (act NoteRegistered now o).1))) ≡ Some a → may_pass (act NoteRegistered now o).0 ≡ true
  note_row None h = cc
  note_row (Some (Row.Invoke c)) h = by_mark c c.registered refl
    where
      by_mark : (c : InvokeRow) (b : Bool) → c.registered ≡ b → may_pass (Some (Row.Invoke (register_to c b).0)) ≡ true
      by_mark c true e = ap (λ b. b || is_some c.result) e
      by_mark c false e = refl
  note_row (Some w) h = grind arith
