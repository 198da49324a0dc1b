-- Calls are put once, and stay.
use Rattle.std.specs.FinMap as map
use Rattle.std.proofs.Common.{◌≡◌, ℕ, Bool, true, false, Option, None, Some, refl, sym, ◌∙◌, subst, is_some}
use Rattle.beldi_value.specs.declared.outcome.Outcome.{Outcome}
use Rattle.beldi_row.{specs.Key.RowKey, specs.declared.row.InvokeRow.InvokeRow, specs.declared.row.Row.Row, specs.declared.act.Act.Act, specs.declared.act.Act.TheVariants.Look, specs.declared.act.Act.TheVariants.OpenInvoke, specs.declared.act.Act.TheVariants.CallBack, specs.declared.act.Act.TheVariants.NoteRegistered, specs.declared.act.Act.TheVariants.DropIntent, specs.declared.act.Act.TheVariants.DropRow, specs.Act.act, specs.Act.prunes, specs.Act.call_back_to, specs.Act.register_to, specs.Table.Rows, specs.Table.set_row, proofs.Unchanged.unchanged, proofs.Unchanged.looked}
use Rattle.beldi_query.{specs.Query.replied, proofs.Promises.promised, proofs.Promises.at_each}
use Rattle.beldi_invokelog.specs.InvokeLog.{invoke_key, call_in, call_at, result_in, open_asks, result_asks, back_asks, registered_asks, invoked_of, result_of, back_of, OpenedOn, SetBy, SetOn, GoesOn, CallGoesOn, CallsArePutOnce, ResultsAreTold, ResultsAreSetOnce, RegistrationsAreSetOnce, CallsStay}

-- ---- a call is opened
opened_at : (func now : ℕ) (k : RowKey) (m : Rows) (o : Option Row) → map.get m k ≡ o → OpenedOn func k o m (set_row m k (act (OpenInvoke func) now o).0) (invoked_of func (replied (act (OpenInvoke func) now o).1))
opened_at func now k m None there = (refl, refl)
opened_at func now k m (Some r) there = (unchanged m k (Some r) (sym there), refl)

pub put_once : CallsArePutOnce
put_once home at func now = promised (open_asks home at func) now (invoked_of func) (λ m. OpenedOn func (invoke_key home at) (map.get m (invoke_key home at)) m) (λ m. opened_at func now (invoke_key home at) m (map.get m (invoke_key home at)) refl)

-- ---- its result is told
told_row : (now : ℕ) (o : Option Row) → result_of (replied (act Look now o).1) ≡ result_in (call_in o)
told_row now None = refl
told_row now (Some r) = refl

pub results_told : ResultsAreTold
results_told home at now = promised (result_asks home at) now result_of (λ m n r. (n ≡ m) × (r ≡ result_in (call_at m (invoke_key home at)))) (λ m. (looked now (invoke_key home at) m, told_row now (map.get m (invoke_key home at))))

-- ---- what is set once
module _ (k : RowKey) (m : Rows) (now : ℕ) where
  -- a row that is set to what it is
  same : (r : Row) → map.get m k ≡ Some r → set_row m k (Some r) ≡ m
  same r there = unchanged m k (Some r) (sym there)

  back_row : (o : Outcome) (i : InvokeRow) (p : Option Outcome) → map.get m k ≡ Some (Row.Invoke i)
      → SetBy (is_some p) (record i { result = Some o }) k m (set_row m k (Some (Row.Invoke (call_back_to o i p).0))) (back_of (replied (call_back_to o i p).1))
  back_row o i None there = (refl, refl)
  back_row o i (Some p) there = (same (Row.Invoke i) there, refl)

  back_at : (o : Outcome) (r : Option Row) → map.get m k ≡ r → SetOn (λ i. is_some i.result) (λ i. record i { result = Some o }) k (call_in r) m (set_row m k (act (CallBack o) now r).0) (back_of (replied (act (CallBack o) now r).1))
  back_at o None there = (unchanged m k None (sym there), refl)
  back_at o (Some (Row.Invoke i)) there = back_row o i i.result there
  back_at o (Some r) there = (same r there, refl)

  mark_row : (i : InvokeRow) (b : Bool) → map.get m k ≡ Some (Row.Invoke i)
      → SetBy b (record i { registered = true }) k m (set_row m k (Some (Row.Invoke (register_to i b).0))) (back_of (replied (register_to i b).1))
  mark_row i false there = (refl, refl)
  mark_row i true there = (same (Row.Invoke i) there, refl)

  mark_at : (r : Option Row) → map.get m k ≡ r → SetOn (λ i. i.registered) (λ i. record i { registered = true }) k (call_in r) m (set_row m k (act NoteRegistered now r).0) (back_of (replied (act NoteRegistered now r).1))
  mark_at None there = (unchanged m k None (sym there), refl)
  mark_at (Some (Row.Invoke i)) there = mark_row i i.registered there
  mark_at (Some r) there = (same r there, refl)

pub results_set : ResultsAreSetOnce
results_set home at o now = promised (back_asks home at o) now back_of (λ m. SetOn (λ i. is_some i.result) (λ i. record i { result = Some o }) (invoke_key home at) (call_at m (invoke_key home at)) m) (λ m. back_at (invoke_key home at) m now o (map.get m (invoke_key home at)) refl)

pub registrations_set : RegistrationsAreSetOnce
registrations_set home at now = promised (registered_asks home at) now back_of (λ m. SetOn (λ i. i.registered) (λ i. record i { registered = true }) (invoke_key home at) (call_at m (invoke_key home at)) m) (λ m. mark_at (invoke_key home at) m now (map.get m (invoke_key home at)) refl)

-- ---- a call stays
as_was : (i : InvokeRow) → GoesOn i i
as_was i = record { func = refl; result = λ o is. is; registered = λ is. is }

back_goes : (o : Outcome) (i : InvokeRow) (p : Option Outcome) → i.result ≡ p → GoesOn i (call_back_to o i p).0
back_goes o i None none = record { func = refl; result = λ q is. let clash = sym none ∙ is in cc; registered = λ is. is }
back_goes o i (Some p) is = as_was i

mark_goes : (i : InvokeRow) (b : Bool) → i.registered ≡ b → GoesOn i (register_to i b).0
mark_goes i false is = record { func = refl; result = λ o was. was; registered = λ was. refl }
mark_goes i true is = as_was i

act_goes : (a : Act) (now : ℕ) (i : InvokeRow) → prunes a ≡ false → (j : InvokeRow) × (call_in (act a now (Some (Row.Invoke i))).0 ≡ Some j) × GoesOn i j
act_goes (CallBack o) now i keeps = ((call_back_to o i i.result).0, refl, back_goes o i i.result refl)
act_goes NoteRegistered now i keeps = ((register_to i i.registered).0, refl, mark_goes i i.registered refl)
act_goes (DropIntent l) now i keeps = cc
act_goes DropRow now i keeps = cc
act_goes a now i keeps = (i, refl, as_was i)

inside : (i j : InvokeRow) → call_in (Some (Row.Invoke i)) ≡ Some j → i ≡ j
inside i j is = cc

goes_from : (a : Act) (now : ℕ) (r : Option Row) → prunes a ≡ false → CallGoesOn r (act a now r).0
goes_from a now (Some (Row.Invoke i)) keeps j is = subst (λ o. (l : InvokeRow) × (call_in (act a now (Some (Row.Invoke i))).0 ≡ Some l) × GoesOn o l) (inside i j is) (act_goes a now i keeps)
goes_from a now None keeps j is = cc
goes_from a now (Some r) keeps j is = cc

stays_so : (r : Option Row) → CallGoesOn r r
stays_so r i is = (i, is, as_was i)

pub calls_stay : CallsStay
calls_stay q keeps = at_each CallGoesOn stays_so goes_from q keeps
