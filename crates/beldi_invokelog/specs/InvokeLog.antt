-- The calls that were made, by their places.
use Rattle.std.specs.Prelude.{◌≡◌, ℕ, Bool, true, false, is_some, Option, Some, None}
use Rattle.std.specs.FinMap as map
use Rattle.beldi_value.specs.declared.{outcome.Outcome.Outcome, place.Place.Place}
use Rattle.beldi_row.specs.{Key.RowKey, declared.key.Kind.TheVariants.Invoke, declared.row.InvokeRow.InvokeRow, declared.row.Row.Row, declared.act.Act.TheVariants.Look, declared.act.Act.TheVariants.OpenInvoke, declared.act.Act.TheVariants.CallBack, declared.act.Act.TheVariants.NoteRegistered, Act.here, Act.added, Act.already, Act.did, Table.Rows, Table.set_row}
use Rattle.beldi_query.specs.{declared.query.Query.Query, declared.query.Query.TheVariants.Act, Query.QueryReply, Query.replied, Query.may_remove, Query.rows_after, Walk.Promises}
use Rattle.beldi_invokelog.specs.declared.invoke_log.{Invoked.Invoked, Back.Back}

-- the row of the call that a function makes at a place
abbrev pub invoke_key : ℕ → Place → RowKey
invoke_key home place = record { home = home; kind = Invoke place }

-- the call that a row is; a row of another kind is none
abbrev pub call_in : Option Row → Option InvokeRow
call_in (Some (Row.Invoke i)) = Some i
call_in r = None

abbrev pub call_at : Rows → RowKey → Option InvokeRow
call_at m k = call_in (map.get m k)

-- what it gave back
abbrev pub result_in : Option InvokeRow → Option Outcome
result_in None = None
result_in (Some i) = i.result

-- whether its callee is registered
abbrev pub registered_in : Option InvokeRow → Bool
registered_in None = false
registered_in (Some i) = i.registered

-- a call of a function that was opened now
abbrev pub opened : ℕ → InvokeRow
opened func = record { func = func; result = None; registered = false }

-- ---- what is asked
abbrev pub open_asks : ℕ → Place → ℕ → Query
open_asks home p func = Act (invoke_key home p) (OpenInvoke func)

abbrev pub result_asks : ℕ → Place → Query
result_asks home p = Act (invoke_key home p) Look

abbrev pub back_asks : ℕ → Place → Outcome → Query
back_asks home p o = Act (invoke_key home p) (CallBack o)

abbrev pub registered_asks : ℕ → Place → Query
registered_asks home p = Act (invoke_key home p) NoteRegistered

-- ---- the answers by what was told
-- a call as it is answered; none reads as a call of function 0, which is no function
abbrev pub invoked : Bool → Option InvokeRow → Invoked
invoked b None = record { func = 0; result = None; registered = false; added = b }
invoked b (Some i) = record { func = i.func; result = i.result; registered = i.registered; added = b }

abbrev pub invoked_of : ℕ → QueryReply → Invoked
invoked_of func (replied added) = invoked true (Some (opened func))
invoked_of func (replied (here r)) = invoked false (call_in (Some r))
invoked_of func t = invoked false None

abbrev pub result_of : QueryReply → Option Outcome
result_of (replied (here r)) = result_in (call_in (Some r))
result_of t = None

abbrev pub back_of : QueryReply → Back
back_of (replied did) = Back.Set
back_of (replied already) = Back.AlreadySet
back_of t = Back.Absent

-- ---- what the calls promise
-- where no row was, the call is put, without a result; where one was, it is told, and all rows stay
abbrev pub OpenedOn : ℕ → RowKey → Option Row → Rows → Rows → Invoked → Type 0
OpenedOn func k None m n r = (n ≡ set_row m k (Some (Row.Invoke (opened func)))) × (r ≡ invoked true (Some (opened func)))
OpenedOn func k (Some w) m n r = (n ≡ m) × (r ≡ invoked false (call_in (Some w)))

abbrev pub CallsArePutOnce : Type 0
CallsArePutOnce = (home : ℕ) (at : Place) (func now : ℕ) → let k = invoke_key home at in
    Promises (open_asks home at func) now (invoked_of func) (λ m. OpenedOn func k (map.get m k) m)

-- what the call gave back is told, and all rows stay
abbrev pub ResultsAreTold : Type 0
ResultsAreTold = (home : ℕ) (at : Place) (now : ℕ) →
    Promises (result_asks home at) now result_of (λ m n r. (n ≡ m) × (r ≡ result_in (call_at m (invoke_key home at))))

-- what is set once, by whether the call has it: it is set where the call has it not; where it has, all rows stay
abbrev pub SetBy : Bool → InvokeRow → RowKey → Rows → Rows → Back → Type 0
SetBy false j k m n b = (n ≡ set_row m k (Some (Row.Invoke j))) × (b ≡ Back.Set)
SetBy true j k m n b = (n ≡ m) × (b ≡ Back.AlreadySet)

-- .. and where there is no call, too
abbrev pub SetOn : (InvokeRow → Bool) → (InvokeRow → InvokeRow) → RowKey → Option InvokeRow → Rows → Rows → Back → Type 0
SetOn has set k None m n b = (n ≡ m) × (b ≡ Back.Absent)
SetOn has set k (Some i) m n b = SetBy (has i) (set i) k m n b

abbrev pub ResultsAreSetOnce : Type 0
ResultsAreSetOnce = (home : ℕ) (at : Place) (o : Outcome) (now : ℕ) → let k = invoke_key home at in
    Promises (back_asks home at o) now back_of (λ m. SetOn (λ i. is_some i.result) (λ i. record i { result = Some o }) k (call_at m k) m)

abbrev pub RegistrationsAreSetOnce : Type 0
RegistrationsAreSetOnce = (home : ℕ) (at : Place) (now : ℕ) → let k = invoke_key home at in
    Promises (registered_asks home at) now back_of (λ m. SetOn (λ i. i.registered) (λ i. record i { registered = true }) k (call_at m k) m)

-- the call j goes on from the call i: its function is the same, and what was set stays
pub record GoesOn (i j : InvokeRow) : Type 0 where
  pub func : j.func ≡ i.func
  pub result : (o : Outcome) → i.result ≡ Some o → j.result ≡ Some o
  pub registered : i.registered ≡ true → j.registered ≡ true

abbrev pub CallGoesOn : Option Row → Option Row → Type 0
CallGoesOn r s = (i : InvokeRow) → call_in r ≡ Some i → (j : InvokeRow) × (call_in s ≡ Some j) × GoesOn i j

-- whatever is asked of a table, wherever, but that a row goes: a call that was put stays
abbrev pub CallsStay : Type 0
CallsStay = (q : Query) → may_remove q ≡ false → (now : ℕ) (m : Rows) (k : RowKey) → CallGoesOn (map.get m k) (map.get (rows_after q now m) k)
