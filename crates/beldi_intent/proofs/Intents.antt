-- Intents are put once, and stay.
use Rattle.beldi_row.specs.declared.act.Act.{Act}
use Rattle.beldi_intent.proofs.Names.{Bind, BodiesAreSetOnce, Body, Bool, BoundBy, BoundOn, CalleesArePutOnce, DropIntent, DropRow, End, EndedBy, EndedOn, FinishesAreSetOnce, GoesOn, IntentGoesOn, IntentRow, IntentsAreTold, IntentsStay, Issue, IssuedOn, Look, None, Option, Outcome, OutcomesAreSetOnce, Register, RegisteredOn, RootsArePutOnce, Row, RowKey, Rows, Some, Stamp, StampedBy, StampedOn, Value, act, at_each, bind_asks, bind_to, binding_of, bound_before, bound_by, end_asks, end_with, false, finish_at, if◌then◌else◌, intent_in, intent_key, intent_of, is_added, issue_asks, look_asks, looked, option_map, other, outcome_reply, promised, put_of, read_as, refl, register_asks, root_key, replied, same_value, set_row, stamp_asks, stamp_with, subst, sym, true, unchanged, ℕ, ◌&&◌, ◌==◌, ◌∙◌, ◌≡◌, prunes}
use Rattle.beldi_intent.proofs.Names.map

-- ---- an intent is told
told_row : (now : ℕ) (o : Option Row) → intent_of (replied (act Look now o).1) ≡ option_map (λ w. read_as (intent_in (Some w))) o
told_row now None = refl
told_row now (Some r) = refl

pub intents_told : IntentsAreTold
intents_told id func now = promised (look_asks id func) now intent_of (λ m n r. (n ≡ m) × (r ≡ option_map (λ w. read_as (intent_in (Some w))) (map.get m (intent_key id func)))) (λ m. (looked now (intent_key id func) m, told_row now (map.get m (intent_key id func))))

-- ---- a row of an intent is put, or what it lacks is set
bound_so : (f : ℕ) (a : Value) (b : Body) (p : Option Outcome) → binding_of (replied (if (b.func == f) && same_value b.args a then outcome_reply p else other b)) ≡ bound_before f a b p
bound_so f a b p = by_test ((b.func == f) && same_value b.args a) p
  where
    by_test : (c : Bool) (p : Option Outcome) → binding_of (replied (if c then outcome_reply p else other b)) ≡ bound_by c b p
    by_test true None = refl
    by_test true (Some o) = refl
    by_test false None = refl
    by_test false (Some o) = refl

module _ (k : RowKey) (m : Rows) (now : ℕ) where
  -- a row that is set to what it is
  same : (o : Option Row) → map.get m k ≡ o → set_row m k o ≡ m
  same o there = unchanged m k o (sym there)

  issued : (o : Option Row) → map.get m k ≡ o → IssuedOn now k o m (set_row m k (act Issue now o).0) (is_added (replied (act Issue now o).1))
  issued None there = (refl, refl)
  issued (Some r) there = (same (Some r) there, refl)

  registered : (b : Body) (o : Option Row) → map.get m k ≡ o → RegisteredOn now b k o m (set_row m k (act (Register b) now o).0) (intent_of (replied (act (Register b) now o).1))
  registered b None there = (refl, refl)
  registered b (Some r) there = (same (Some r) there, refl)

  bound_row : (f : ℕ) (a : Value) (i : IntentRow) (b : Option Body) → map.get m k ≡ Some (Row.Intent i)
      → BoundBy f a i b k m (set_row m k (Some (Row.Intent (bind_to f a i b).0))) (binding_of (replied (bind_to f a i b).1))
  bound_row f a i None there = (refl, refl)
  bound_row f a i (Some b) there = (same (Some (Row.Intent i)) there, bound_so f a b i.outcome)

  bound : (f : ℕ) (a : Value) (o : Option Row) → map.get m k ≡ o → BoundOn f a k (intent_in o) m (set_row m k (act (Bind f a) now o).0) (binding_of (replied (act (Bind f a) now o).1))
  bound f a None there = (same None there, refl)
  bound f a (Some (Row.Intent i)) there = bound_row f a i i.body there
  bound f a (Some r) there = (same (Some r) there, refl)

  ended_row : (o : Outcome) (stamp : Bool) (i : IntentRow) (p : Option Outcome) → map.get m k ≡ Some (Row.Intent i)
      → EndedBy o stamp now i p k m (set_row m k (Some (Row.Intent (end_with o stamp now i p).0))) (put_of (replied (end_with o stamp now i p).1))
  ended_row o stamp i None there = (refl, refl)
  ended_row o stamp i (Some p) there = (same (Some (Row.Intent i)) there, refl)

  ended : (o : Outcome) (stamp : Bool) (r : Option Row) → map.get m k ≡ r → EndedOn o stamp now k (intent_in r) m (set_row m k (act (End o stamp) now r).0) (put_of (replied (act (End o stamp) now r).1))
  ended o stamp None there = (same None there, refl)
  ended o stamp (Some (Row.Intent i)) there = ended_row o stamp i i.outcome there
  ended o stamp (Some r) there = (same (Some r) there, refl)

  stamped_row : (i : IntentRow) (t : Option ℕ) → map.get m k ≡ Some (Row.Intent i) → StampedBy now i t k m (set_row m k (Some (Row.Intent (stamp_with now i t).0))) (put_of (replied (stamp_with now i t).1))
  stamped_row i None there = (refl, refl)
  stamped_row i (Some t) there = (same (Some (Row.Intent i)) there, refl)

  stamped : (r : Option Row) → map.get m k ≡ r → StampedOn now k (intent_in r) m (set_row m k (act Stamp now r).0) (put_of (replied (act Stamp now r).1))
  stamped None there = (same None there, refl)
  stamped (Some (Row.Intent i)) there = stamped_row i i.finish there
  stamped (Some r) there = (same (Some r) there, refl)

pub roots_put : RootsArePutOnce
roots_put t now = promised (issue_asks t) now is_added (λ m. IssuedOn now (root_key t) (map.get m (root_key t)) m) (λ m. issued (root_key t) m now (map.get m (root_key t)) refl)

pub callees_put : CalleesArePutOnce
callees_put id b now = promised (register_asks id b) now intent_of (λ m. RegisteredOn now b (intent_key id b.func) (map.get m (intent_key id b.func)) m) (λ m. registered (intent_key id b.func) m now b (map.get m (intent_key id b.func)) refl)

pub bodies_set : BodiesAreSetOnce
bodies_set t f a now = promised (bind_asks t f a) now binding_of (λ m. BoundOn f a (root_key t) (intent_in (map.get m (root_key t))) m) (λ m. bound (root_key t) m now f a (map.get m (root_key t)) refl)

pub outcomes_set : OutcomesAreSetOnce
outcomes_set id func o stamp now = promised (end_asks id func o stamp) now put_of (λ m. EndedOn o stamp now (intent_key id func) (intent_in (map.get m (intent_key id func))) m) (λ m. ended (intent_key id func) m now o stamp (map.get m (intent_key id func)) refl)

pub finishes_set : FinishesAreSetOnce
finishes_set id func now = promised (stamp_asks id func) now put_of (λ m. StampedOn now (intent_key id func) (intent_in (map.get m (intent_key id func))) m) (λ m. stamped (intent_key id func) m now (map.get m (intent_key id func)) refl)

-- ---- an intent stays
as_was : (i : IntentRow) → GoesOn i i
as_was i = record { issued = refl; body = λ b is. is; outcome = λ o is. is; finish = λ t is. is }

bind_goes : (f : ℕ) (a : Value) (i : IntentRow) (b : Option Body) → i.body ≡ b → GoesOn i (bind_to f a i b).0
bind_goes f a i None none = record { issued = refl; body = λ b is. let clash = sym none ∙ is in cc; outcome = λ o is. is; finish = λ t is. is }
bind_goes f a i (Some b) is = as_was i

finish_stays : (stamp : Bool) (now : ℕ) (f : Option ℕ) (t : ℕ) → f ≡ Some t → finish_at stamp now f ≡ Some t
finish_stays false now f t is = is
finish_stays true now None t is = cc
finish_stays true now (Some f) t is = is

end_goes : (o : Outcome) (stamp : Bool) (now : ℕ) (i : IntentRow) (p : Option Outcome) → i.outcome ≡ p → GoesOn i (end_with o stamp now i p).0
end_goes o stamp now i None none = record { issued = refl; body = λ b is. is; outcome = λ q is. let clash = sym none ∙ is in cc; finish = finish_stays stamp now i.finish }
end_goes o stamp now i (Some p) is = as_was i

stamp_goes : (now : ℕ) (i : IntentRow) (f : Option ℕ) → i.finish ≡ f → GoesOn i (stamp_with now i f).0
stamp_goes now i None none = record { issued = refl; body = λ b is. is; outcome = λ o is. is; finish = λ t is. let clash = sym none ∙ is in cc }
stamp_goes now i (Some f) is = as_was i

act_goes : (a : Act) (now : ℕ) (i : IntentRow) → prunes a ≡ false → (j : IntentRow) × (intent_in (act a now (Some (Row.Intent i))).0 ≡ Some j) × GoesOn i j
act_goes (Bind f v) now i keeps = ((bind_to f v i i.body).0, refl, bind_goes f v i i.body refl)
act_goes (End o s) now i keeps = ((end_with o s now i i.outcome).0, refl, end_goes o s now i i.outcome refl)
act_goes Stamp now i keeps = ((stamp_with now i i.finish).0, refl, stamp_goes now i i.finish refl)
act_goes (DropIntent l) now i keeps = cc
act_goes DropRow now i keeps = cc
act_goes a now i keeps = (i, refl, as_was i)

inside : (i j : IntentRow) → intent_in (Some (Row.Intent i)) ≡ Some j → i ≡ j
inside i j is = cc

goes_from : (a : Act) (now : ℕ) (r : Option Row) → prunes a ≡ false → IntentGoesOn r (act a now r).0
goes_from a now (Some (Row.Intent i)) keeps j is = subst (λ o. (l : IntentRow) × (intent_in (act a now (Some (Row.Intent i))).0 ≡ Some l) × GoesOn o l) (inside i j is) (act_goes a now i keeps)
goes_from a now None keeps j is = cc
goes_from a now (Some r) keeps j is = cc

pub intents_stay : IntentsStay
intents_stay q keeps = at_each IntentGoesOn (λ r i is. (i, is, as_was i)) goes_from q keeps
