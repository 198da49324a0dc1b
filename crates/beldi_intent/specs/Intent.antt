-- The row of an intent: what is asked of it, and what follows from what is told.
use Rattle.std.specs.Prelude.{◌≡◌, ℕ, ◌==◌, ◌&&◌, ◌||◌, Bool, true, false, is_some, Option, Some, None, if◌then◌else◌}
use Rattle.std.specs.Option.{option_map}
use Rattle.std.specs.FinMap as map
use Rattle.beldi_value.specs.{Id.home_of, Id.root_of, Same.same_value, declared.id.IntentId.IntentId, declared.outcome.Outcome.Outcome, declared.value.Value.Value}
use Rattle.beldi_row.specs.Act.{here, added, bound, running, other, ended, already, did, finish_at}
use Rattle.beldi_row.specs.{Key.RowKey, declared.key.Kind.TheVariants.Intent, declared.row.Body.Body, declared.row.IntentRow.IntentRow, declared.row.Row.Row, declared.act.Act.TheVariants.Look, declared.act.Act.TheVariants.Issue, declared.act.Act.TheVariants.Bind, declared.act.Act.TheVariants.Register, declared.act.Act.TheVariants.End, declared.act.Act.TheVariants.Stamp, Table.Rows, Table.set_row}
use Rattle.beldi_query.specs.{declared.query.Query.Query, declared.query.Query.TheVariants.Act, Query.QueryReply, Query.replied, Query.may_remove, Query.rows_after, Walk.Promises}
use Rattle.beldi_intent.specs.declared.intent.{Binding.Binding, Put.Put}

-- the row of an intent: a root's stands in the host's home, a callee's in its function's
abbrev pub intent_key : IntentId → ℕ → RowKey
intent_key id func = record { home = home_of id func; kind = Intent id }

-- the row of the root of a ticket
abbrev pub root_key : ℕ → RowKey
root_key t = intent_key (root_of t) 0

-- ---- what is asked of it
abbrev pub look_asks : IntentId → ℕ → Query
look_asks id func = Act (intent_key id func) Look

abbrev pub end_asks : IntentId → ℕ → Outcome → Bool → Query
end_asks id func o stamp = Act (intent_key id func) (End o stamp)

abbrev pub stamp_asks : IntentId → ℕ → Query
stamp_asks id func = Act (intent_key id func) Stamp

abbrev pub register_asks : IntentId → Body → Query
register_asks id b = Act (intent_key id b.func) (Register b)

abbrev pub issue_asks : ℕ → Query
issue_asks t = Act (root_key t) Issue

abbrev pub bind_asks : ℕ → ℕ → Value → Query
bind_asks t func args = Act (root_key t) (Bind func args)

-- ---- what follows from what is told
abbrev pub is_added : QueryReply → Bool
is_added (replied added) = true
is_added t = false

abbrev pub is_did : QueryReply → Bool
is_did (replied did) = true
is_did t = false

abbrev pub put_of : QueryReply → Put
put_of (replied did) = Put.Did
put_of (replied already) = Put.Already
put_of t = Put.Gone

abbrev pub binding_of : QueryReply → Binding
binding_of (replied bound) = Binding.Bound
binding_of (replied running) = Binding.Running
binding_of (replied (other b)) = Binding.Other b.func b.args
binding_of (replied (ended o)) = Binding.Ended o
binding_of t = Binding.Gone

-- the intent that a row is, if it is one
abbrev pub intent_in : Option Row → Option IntentRow
intent_in (Some (Row.Intent i)) = Some i
intent_in r = None

-- an intent that was issued at this moment, and has this to do
abbrev pub issued_at : ℕ → Option Body → IntentRow
issued_at now b = record { issued = now; body = b; outcome = None; finish = None }

-- an intent as it is answered: a row of another kind reads as one that was issued at 0 and has nothing to do
abbrev pub read_as : Option IntentRow → IntentRow
read_as None = issued_at 0 None
read_as (Some i) = i

abbrev pub intent_of : QueryReply → Option IntentRow
intent_of (replied (here r)) = Some (read_as (intent_in (Some r)))
intent_of t = None

-- an intent that has ended
abbrev pub is_ended : IntentRow → Bool
is_ended i = is_some i.outcome || is_some i.finish

-- the body of an intent that has not ended
abbrev pub open_body : IntentRow → Option Body
open_body i = if is_ended i then None else i.body

-- a body, if it is one of this function
abbrev pub body_in : ℕ → Option Body → Option Body
body_in func None = None
body_in func (Some b) = if b.func == func then Some b else None

-- that of an intent that has not ended
abbrev pub body_told : ℕ → QueryReply → Option Body
body_told func (replied (here (Row.Intent i))) = body_in func (open_body i)
body_told func t = None

-- ---- what the calls promise
-- the row is set to this intent
abbrev pub SetTo : IntentRow → RowKey → Rows → Rows → Type 0
SetTo i k m n = n ≡ set_row m k (Some (Row.Intent i))

-- `issue` adds a row without a body where none was; where one was, all rows stay
abbrev pub IssuedOn : ℕ → RowKey → Option Row → Rows → Rows → Bool → Type 0
IssuedOn now k None m n b = SetTo (issued_at now None) k m n × (b ≡ true)
IssuedOn now k (Some r) m n b = (n ≡ m) × (b ≡ false)

abbrev pub RootsArePutOnce : Type 0
RootsArePutOnce = (t now : ℕ) → Promises (issue_asks t) now is_added (λ m. IssuedOn now (root_key t) (map.get m (root_key t)) m)

-- `register` adds a row with a body where none was; where one was, it is told, and all rows stay
abbrev pub RegisteredOn : ℕ → Body → RowKey → Option Row → Rows → Rows → Option IntentRow → Type 0
RegisteredOn now b k None m n r = SetTo (issued_at now (Some b)) k m n × (r ≡ None)
RegisteredOn now b k (Some w) m n r = (n ≡ m) × (r ≡ Some (read_as (intent_in (Some w))))

abbrev pub CalleesArePutOnce : Type 0
CalleesArePutOnce = (id : IntentId) (b : Body) (now : ℕ) → let k = intent_key id b.func in
    Promises (register_asks id b) now intent_of (λ m. RegisteredOn now b k (map.get m k) m)

-- what a row says of its intent is told, and all rows stay
abbrev pub IntentsAreTold : Type 0
IntentsAreTold = (id : IntentId) (func now : ℕ) →
    Promises (look_asks id func) now intent_of (λ m n r. (n ≡ m) × (r ≡ option_map (λ w. read_as (intent_in (Some w))) (map.get m (intent_key id func))))

-- what binding comes to where a body is there, by whether it is the same
abbrev pub bound_by : Bool → Body → Option Outcome → Binding
bound_by false b o = Binding.Other b.func b.args
bound_by true b None = Binding.Running
bound_by true b (Some o) = Binding.Ended o

abbrev pub bound_before : ℕ → Value → Body → Option Outcome → Binding
bound_before f a b o = bound_by ((b.func == f) && same_value b.args a) b o

abbrev pub BoundBy : ℕ → Value → IntentRow → Option Body → RowKey → Rows → Rows → Binding → Type 0
BoundBy f a i None k m n x = SetTo (record i { body = Some (record { func = f; args = a; tx = None; parent = None }) }) k m n × (x ≡ Binding.Bound)
BoundBy f a i (Some b) k m n x = (n ≡ m) × (x ≡ bound_before f a b i.outcome)

-- `bind` sets the body of an intent that has none; where it has one, or there is no intent, all rows stay
abbrev pub BoundOn : ℕ → Value → RowKey → Option IntentRow → Rows → Rows → Binding → Type 0
BoundOn f a k None m n x = (n ≡ m) × (x ≡ Binding.Gone)
BoundOn f a k (Some i) m n x = BoundBy f a i i.body k m n x

abbrev pub BodiesAreSetOnce : Type 0
BodiesAreSetOnce = (t f : ℕ) (a : Value) (now : ℕ) → Promises (bind_asks t f a) now binding_of (λ m. BoundOn f a (root_key t) (intent_in (map.get m (root_key t))) m)

abbrev pub EndedBy : Outcome → Bool → ℕ → IntentRow → Option Outcome → RowKey → Rows → Rows → Put → Type 0
EndedBy o stamp now i None k m n x = SetTo (record i { outcome = Some o; finish = finish_at stamp now i.finish }) k m n × (x ≡ Put.Did)
EndedBy o stamp now i (Some p) k m n x = (n ≡ m) × (x ≡ Put.Already)

-- `end` sets the outcome of an intent that has none, and with a stamp the finish that it has not; where it has an outcome, or
-- there is no intent, all rows stay
abbrev pub EndedOn : Outcome → Bool → ℕ → RowKey → Option IntentRow → Rows → Rows → Put → Type 0
EndedOn o stamp now k None m n x = (n ≡ m) × (x ≡ Put.Gone)
EndedOn o stamp now k (Some i) m n x = EndedBy o stamp now i i.outcome k m n x

abbrev pub OutcomesAreSetOnce : Type 0
OutcomesAreSetOnce = (id : IntentId) (func : ℕ) (o : Outcome) (stamp : Bool) (now : ℕ) → let k = intent_key id func in
    Promises (end_asks id func o stamp) now put_of (λ m. EndedOn o stamp now k (intent_in (map.get m k)) m)

abbrev pub StampedBy : ℕ → IntentRow → Option ℕ → RowKey → Rows → Rows → Put → Type 0
StampedBy now i None k m n x = SetTo (record i { finish = Some now }) k m n × (x ≡ Put.Did)
StampedBy now i (Some t) k m n x = (n ≡ m) × (x ≡ Put.Already)

-- `stamp` sets the finish of an intent that has none; where it has one, or there is no intent, all rows stay
abbrev pub StampedOn : ℕ → RowKey → Option IntentRow → Rows → Rows → Put → Type 0
StampedOn now k None m n x = (n ≡ m) × (x ≡ Put.Gone)
StampedOn now k (Some i) m n x = StampedBy now i i.finish k m n x

abbrev pub FinishesAreSetOnce : Type 0
FinishesAreSetOnce = (id : IntentId) (func now : ℕ) → let k = intent_key id func in
    Promises (stamp_asks id func) now put_of (λ m. StampedOn now k (intent_in (map.get m k)) m)

-- the intent j goes on from the intent i: it was issued then, and what was set stays
pub record GoesOn (i j : IntentRow) : Type 0 where
  pub issued : j.issued ≡ i.issued
  pub body : (b : Body) → i.body ≡ Some b → j.body ≡ Some b
  pub outcome : (o : Outcome) → i.outcome ≡ Some o → j.outcome ≡ Some o
  pub finish : (t : ℕ) → i.finish ≡ Some t → j.finish ≡ Some t

abbrev pub IntentGoesOn : Option Row → Option Row → Type 0
IntentGoesOn r s = (i : IntentRow) → intent_in r ≡ Some i → (j : IntentRow) × (intent_in s ≡ Some j) × GoesOn i j

-- whatever is asked of a table, wherever, but that a row goes: an intent that was put stays
abbrev pub IntentsStay : Type 0
IntentsStay = (q : Query) → may_remove q ≡ false → (now : ℕ) (m : Rows) (k : RowKey) → IntentGoesOn (map.get m k) (map.get (rows_after q now m) k)
