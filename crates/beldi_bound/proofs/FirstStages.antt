-- An effect that begins has no more left than it costs.
use Rattle.beldi_invariant.proofs.Names.{Async, AsyncAt, Bool, Call, CallAt, Caller, CondWrite, Deployment, Effect, End, Instance, IntentId, List, None, Option, Outcome, Own, Read, Return, Rows, RunTx, Some, Stage, TxId, Unlock, Write, [], arith, effect_of, false, first_stage, has_callees, if◌then◌else◌, is_begin, last_stage, length, open_of, own_tx, refl, run_tx, same_some, subst, sym, true, tx_now, ℕ, ◌+◌, ◌∙◌, ◌∷◌, ◌≡◌, ◌≤◌}
use Rattle.beldi_invariant.proofs.Names.map
use Rattle.beldi_invariant.proofs.{Cases.by_option, OpenOf.open_tx, OpenOf.tx_open}
use Rattle.beldi_daal.specs.declared.cell.WriteAt.TheVariants.{Try}
use Rattle.beldi_bound.specs.{Cost.aside_length, Cost.effect_cost, Cost.item_length, Cost.with_answers, Left.aside_there, Left.decided_visit, Left.item_there, Left.left_at, Visits.end_cost, Visits.end_row_cost, Visits.is_ahead, Visits.row_left, Visits.sum_by, Visits.visit_left}
use Rattle.beldi_bound.proofs.{Facts.FirstStagesAreFew, Lengths.aside_some, Lengths.item_some, Puts.put_few}

sum_most : {K X : Type 0} (f g : K → X → ℕ) → ((k : K) (x : X) → f k x ≤ g k x) → (es : List (K × X)) → sum_by f es ≤ sum_by g es
sum_most f g most [] = omega arith
sum_most f g most (x ∷ es) = let here = most x.0 x.1 in let rest = sum_most f g most es in omega (arith, here, rest)

if_few : (b : Bool) (n : ℕ) → (if b then n else 0) ≤ n
if_few b n = grind arith

-- the decision, and then the first visit
end_few : (e m : Rows) (t : TxId) (end : ℕ) → 1 + visit_left e m t end decided_visit ≤ end_cost e t end
end_few e m t end = let rest = sum_most (row_left e t end decided_visit) (end_row_cost e t end) (λ k r. if_few (is_ahead t decided_visit k k.kind) (end_row_cost e t end k r)) (map.entries e) in omega (arith, rest)

module _ (e m : Rows) (q : Instance) (id : IntentId) (c : Option Caller) (step : ℕ) where
  abbrev IsFew : Effect → Option RunTx → Stage → Type 0
  IsFew f o w = left_at e m q.func id o step f w ≤ effect_cost e q (run_tx id q.func o) step f

  first : {v w : Stage} (f : Effect) (o : Option RunTx) → Some v ≡ Some w → IsFew f o v → IsFew f o w
  first f o is = subst (IsFew f o) (same_some is)

  by_hops : {w : Stage} (v : Stage) (f : Effect) (o : Option RunTx) (b : Bool) → (if b then Some v else None) ≡ Some w → IsFew f o v → IsFew f o w
  by_hops v f o true is few = first f o is few
  by_hops v f o false is few = cc

  last_few : (x : Outcome) (o : Option RunTx) (b : Option Caller) → left_at e m q.func id o step (Return x) (last_stage b) ≤ 2
  last_few x o None = omega arith
  last_few x o (Some y) = by_wait y.waits
    where
      by_wait : (t : Bool) → left_at e m q.func id o step (Return x) (if t then Stage.Back else Stage.Notify) ≤ 2
      by_wait t = grind arith

  return_cost : (x : Outcome) (t : Option TxId) → effect_cost e q t step (Return x) ≡ 2
  return_cost x t = grind arith

  few_first : (f : Effect) (o : Option RunTx) (w : Stage) → first_stage id c o step f ≡ Some w → IsFew f o w
  few_first (Read t k) None w is = first (Read t k) None is (omega arith)
  few_first (Read t k) (Some o) w is =
      let f = Read t k in let few = put_few (item_length e q.func f) (item_there m q.func f) (Try 0) (item_some e q.func f) in
      first f (Some o) is (omega (arith, few))
  few_first (Write t k v) None w is = first (Write t k v) None is (put_few (item_length e q.func (Write t k v)) (item_there m q.func (Write t k v)) (Try 0) (item_some e q.func (Write t k v)))
  few_first (Write t k v) (Some o) w is =
      let f = Write t k v in let t = run_tx id q.func (Some o) in
      let few = put_few (item_length e q.func f) (item_there m q.func f) (Try 0) (item_some e q.func f) in
      let more = put_few (aside_length e q.func t f) (aside_there m q.func id (Some o) f) (Try 0) (aside_some e q.func t f) in
      first f (Some o) is (omega (arith, few, more))
  few_first (CondWrite t k r u v) None w is = first (CondWrite t k r u v) None is (put_few (item_length e q.func (CondWrite t k r u v)) (item_there m q.func (CondWrite t k r u v)) (Try 0) (item_some e q.func (CondWrite t k r u v)))
  few_first (CondWrite t k r u v) (Some o) w is =
      let f = CondWrite t k r u v in let few = put_few (item_length e q.func f) (item_there m q.func f) (Try 0) (item_some e q.func f) in
      first f (Some o) is (omega (arith, few))
  few_first (Effect.Lock t k) None w is = first (Effect.Lock t k) None is (put_few (item_length e q.func (Effect.Lock t k)) (item_there m q.func (Effect.Lock t k)) (Try 0) (item_some e q.func (Effect.Lock t k)))
  few_first (Unlock t k) None w is = first (Unlock t k) None is (put_few (item_length e q.func (Unlock t k)) (item_there m q.func (Unlock t k)) (Try 0) (item_some e q.func (Unlock t k)))
  few_first (Call f a) None w is = by_hops (Stage.Call CallAt.Open) (Call f a) None (has_callees id) is (omega arith)
  few_first (Call f a) (Some o) w is = by_hops (Stage.Call CallAt.Open) (Call f a) (Some o) (has_callees id) is (omega arith)
  few_first (Async f a) None w is = by_hops (Stage.Async AsyncAt.Open) (Async f a) None (has_callees id) is (omega arith)
  few_first (End commit) (Some (Own x)) w is = first (End commit) (Some (Own x)) is (end_few e m (own_tx id q.func x) step)
  few_first (Return x) o w is = first (Return x) o is (let two = return_cost x (run_tx id q.func o) in let few = last_few x o c in omega (arith, two, few))
  few_first f o w is = cc

-- the transaction of the effect is the one that the run is in
begins_none : (id : IntentId) (c : Option Caller) (o : Option RunTx) (step : ℕ) (f : Effect) (w : Stage) → first_stage id c o step f ≡ Some w → is_begin f ≡ false
begins_none id c o step f w h = grind arith

tx_here : (d : Deployment) (id : IntentId) (q : Instance) → is_begin (effect_of d q) ≡ false → (o : Option RunTx) → open_of d q q.answers ≡ o → tx_now d id q ≡ run_tx id q.func o
tx_here d id q apart (Some o) is = tx_open d id q q.answers o is apart
tx_here d id q apart None is = by_option (tx_now d id q) (λ none. none) (λ t at. let clash = sym is ∙ (open_tx d id q q.answers t at apart).1 in cc)

pub first_stages_are_few : FirstStagesAreFew
first_stages_are_few d e m id b given r g same s is =
    let q = with_answers b s.answers in
    let begins = (λ i. first_stage id g.caller (sym s.tx i) (s.steps i) (sym s.effect i)) ∙ is in
    let few = few_first e m q id g.caller (length s.answers) (effect_of d q) (open_of d q s.answers) g.stage begins in
    let tx = tx_here d id q (begins_none id g.caller (open_of d q s.answers) (length s.answers) (effect_of d q) g.stage begins) (open_of d q s.answers) refl in
    subst (λ t. left_at e m r.func id g.tx g.machine.steps g.machine.effect g.stage ≤ effect_cost e q t (length s.answers) (effect_of d q)) (sym tx)
    (subst (λ n. n ≤ effect_cost e q (run_tx id q.func (open_of d q s.answers)) (length s.answers) (effect_of d q)) (λ i. left_at e m (s.func i) id (sym s.tx i) (s.steps i) (sym s.effect i) g.stage) few)
