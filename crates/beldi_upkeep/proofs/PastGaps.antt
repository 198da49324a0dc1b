-- A call that was answered and is waited for has its result; and a run that goes on past what takes no turn passes no call there that
-- nobody waits for.
use Rattle.std.proofs.lemmas.List.{take-append-le}
use Rattle.std.specs.Option.{option_map}
use Rattle.beldi_plain_laws.specs.WellFormedState.{IsAnswer, answer_given}
use Rattle.beldi_histories.specs.Expected.{called_by, result_of}
use Rattle.beldi_histories.proofs.{Cases.by_option, Frame.begins}
use Rattle.beldi_invariant.proofs.Names.{Answer, Bool, CallMatches, Caller, Core, Deployment, Effect, Instance, IntentId, InvokeRow, List, Machine, None, Option, Outcome, Place, Invariant, Row, Rows, RunTx, Some, StandsAt, TxId, Value, [], answer_of, ap, arith, call_of, drop, effect_after, effect_before, eq-eqb, false, if◌then◌else◌, inl, inr, invoke_key, is_inherited, is_some, is_waited, length, length-append, length-take-le, ltb-false, ltb-true, nat_lt, none_by, or_own, expected_call, place_of, refl, run_on, same_some, slice_get, subst, sym, take, take-append-drop, true, tx_after, tx_at, tx_by, txs_after, ℕ, ◌++◌, ◌<◌, ◌==◌, ◌||◌, ◌∙◌, ◌∷◌, ◌≡◌, ◌≤◌, zero, suc}
use Rattle.beldi_invariant.proofs.Names.map
use Rattle.beldi_invariant.proofs.Names.step
use Rattle.beldi_invariant.proofs.{OpenOf.open_begun, OpenOf.open_in, OpenOf.open_out, OpenOf.own_begin, StageTurns.MachineAt, StageTurns.local_steps_there, StageTurns.at_steps}
use Rattle.beldi_upkeep.specs.Passed.{MayPass, may_pass}
use Rattle.beldi_upkeep.proofs.{PastEnds.IsLow, PastEnds.low_on, PastOwn.open_before, PastTurns.CalledAt, PastTurns.by_call, PastTurns.called_at}

pub answer_at : (xs : List Answer) (n : ℕ) → n < length xs → (a : Answer) × (slice_get xs n ≡ Some a)
answer_at [] n less = absurd (omega (arith, less))
answer_at (x ∷ xs) zero less = (x, refl)
answer_at (x ∷ xs) (suc n) less = answer_at xs n (omega (arith, less))

-- an answer is an outcome's, where a caller waits
given_some : (o : Option Outcome) (a : Answer) → option_map answer_of o ≡ Some a → is_some o ≡ true
given_some None a e = cc
given_some (Some o) a e = refl

or_true : (a b : Bool) → b ≡ true → (a || b) ≡ true
or_true true b h = refl
or_true false b h = h

-- nobody leaves a call to itself in a transaction
pub no_async : (p : Place) (t : TxId) (f : ℕ) (v : Value) (a : Answer) → IsAnswer p (Some t) (Effect.Async f v) a → ⊥
no_async p t f v a is = grind arith

pub result_row : (f : ℕ) (q j : Instance) (x : InvokeRow) → q.func ≡ f → is_waited j.parent ≡ true → called_by f (Some q) (Some j) ≡ Some (x.func, x.result) → x.result ≡ j.outcome
result_row f q j x same waits h = by_test (q.func == f) (eq-eqb q.func f same) h
  where
    by_test : (b : Bool) → b ≡ true → if◌then◌else◌ {A = Option (ℕ × Option Outcome)} b (Some (j.func, result_of j)) None ≡ Some (x.func, x.result) → x.result ≡ j.outcome
    by_test true e h = ap (λ z. z.1) (sym (same_some h)) ∙ ap (λ b. if b then j.outcome else None) waits
    by_test false e h = cc

module _ (d : Deployment) (c : Core) (m : Rows) (h : Invariant d c m) (id : IntentId) (q : Instance) (made : map.get h.histories id ≡ Some q) (n : ℕ) (less : n < length q.answers) where
  -- a call that was answered may be passed, where it is waited for, or stands in a transaction
  pub answered_pass : ((f : ℕ) (v : Value) → effect_before d q n ≡ Effect.Async f v → (t : TxId) × (tx_at d id q n ≡ Some t)) → MayPass m id n
  answered_pass inside f = by_call (map.get m (invoke_key f (place_of id n))) by_row
    where
      a : (a : Answer) × (slice_get q.answers n ≡ Some a)
      a = answer_at q.answers n less

      by_row : (x : InvokeRow) → map.get m (invoke_key f (place_of id n)) ≡ Some (Row.Invoke x) → may_pass (map.get m (invoke_key f (place_of id n))) ≡ true
      by_row x is = by_waits w.called.waits refl
        where
          w : CalledAt d c m h id q made f n x is
          w = called_at d c m h id q made f n x is

          by_waits : (b : Bool) → w.called.waits ≡ b → may_pass (map.get m (invoke_key f (place_of id n))) ≡ true
          by_waits true e =
              let owed : CallMatches (Some (Row.Invoke x)) (expected_call h.histories f (place_of id n)) = subst (λ o. CallMatches o (expected_call h.histories f (place_of id n))) is (h.rows.keys (invoke_key f (place_of id n))) in
              let both : called_by f (Some q) (Some w.callee) ≡ Some (x.func, x.result) = (λ i. called_by f (sym made i) (sym w.there i)) ∙ owed in
              let result = result_row f q w.callee x w.func (ap is_waited w.called.parent ∙ e) both in
              let some = given_some w.callee.outcome (answer_at q.answers n less).0 (ap (λ t. answer_given t w.callee.outcome) (sym e) ∙ sym w.called.answered ∙ (answer_at q.answers n less).1) in
              ap may_pass is ∙ or_true x.registered (is_some x.result) (ap is_some result ∙ some)
          by_waits false e =
              let call : effect_before d q n ≡ Effect.Async w.callee.func w.callee.args = w.called.call ∙ ap (λ t. call_of t w.callee.func w.callee.args) e in
              let t = inside w.callee.func w.callee.args call in
              let so = (h.well_formed.each id q made).past n (answer_at q.answers n less).0 (answer_at q.answers n less).1 in
              absurd (no_async (place_of id n) t.0 w.callee.func w.callee.args (answer_at q.answers n less).0 (subst (λ e. IsAnswer (place_of id n) (Some t.0) e (answer_at q.answers n less).0) call (subst (λ o. IsAnswer (place_of id n) o (effect_before d q n) (answer_at q.answers n less).0) t.1 so)))

-- ---- a step in a transaction
in_any : (w o : Option TxId) → is_some o ≡ true → (t : TxId) × (or_own w o ≡ Some t)
in_any (Some t) o h = (t, refl)
in_any None (Some t) h = (t, refl)
in_any None None h = cc

by_begun : (id : IntentId) (func n : ℕ) (e : Effect) (b : ℕ) → is_some (tx_by id func n e (Some b)) ≡ true
by_begun id func n e b = grind arith

at_begin_some : (id : IntentId) (func n : ℕ) (e : Effect) (o : Option ℕ) → e ≡ Effect.Begin → is_some (tx_by id func n e o) ≡ true
at_begin_some id func n e o is = grind arith

pub front_take : (ts rest xs : List Answer) (n : ℕ) → ts ++ rest ≡ xs → n ≤ length ts → take n xs ≡ take n ts
front_take ts rest xs n all le = ap (take n) (sym all) ∙ take-append-le n ts rest le

-- ---- past a Begin that is open, each step is in its transaction
module _ (d : Deployment) (id : IntentId) (q : Instance) (ts later : List Answer) (all : ts ++ later ≡ q.answers) (v : ℕ) (is_open : (txs_after d q ts).begun ≡ Some v) (n : ℕ) (from : v ≤ n) (less : n < length ts) where
  taken : take n q.answers ≡ take n ts
  taken = front_take ts later q.answers n all (omega (arith, less))

  pub in_own : (t : TxId) × (tx_at d id q n ≡ Some t)
  in_own = subst (λ xs. (t : TxId) × (tx_after d id q xs ≡ Some t)) (sym taken) (in_any q.enclosing (tx_by id q.func (length (take n ts)) (effect_after d q (take n ts)) (txs_after d q (take n ts)).begun) (by_test (nat_lt v n) refl))
    where
      long : length (take n ts) ≡ n
      long = length-take-le n ts (omega (arith, less))

      by_test : (b : Bool) → nat_lt v n ≡ b → is_some (tx_by id q.func (length (take n ts)) (effect_after d q (take n ts)) (txs_after d q (take n ts)).begun) ≡ true
      by_test true e =
          let l = ltb-true v n e in
          let k = long in
          let still = open_before d q v (take n ts) (drop n ts) (omega (arith, l, k)) (ap (λ xs. (txs_after d q xs).begun) (take-append-drop n ts) ∙ is_open) in
          ap (λ o. is_some (tx_by id q.func (length (take n ts)) (effect_after d q (take n ts)) o)) still ∙ by_begun id q.func (length (take n ts)) (effect_after d q (take n ts)) v
      by_test false e =
          let ge = ltb-false v n e in
          let same : n ≡ v = omega (arith, ge, from) in
          at_begin_some id q.func (length (take n ts)) (effect_after d q (take n ts)) (txs_after d q (take n ts)).begun (ap (λ z. effect_after d q (take z ts)) same ∙ (begins d q ts).begun v is_open)

-- ---- a run that went on past what takes no turn
module _ (d : Deployment) (b : Core) (n : Rows) (h : Invariant d b n) (id : IntentId) (func : ℕ) (q : Instance) (same : q.func ≡ func) (ts : List Answer) (s : Machine × Option RunTx) (at : MachineAt d func q ts s)
    (c : Option Caller) (k : StandsAt d h.histories id func c (step.local_steps d id s).0 (step.local_steps d id s).1) (x : ℕ) (from : s.0.steps ≤ x) (less : x < (step.local_steps d id s).0.steps) where
  short : x < length k.answers
  short = let l = at_steps k in omega (arith, l, less)

  recorded : x < length k.instance.answers
  recorded = let all = ap length k.run_answers in let cut = length-append k.answers k.later in let l = short in omega (arith, all, cut, l)

  -- each step there is in a transaction
  inside : (t : TxId) × (tx_at d id k.instance x ≡ Some t)
  inside = by_option k.instance.enclosing by_own (λ t e. (t, ap (λ w. or_own w (tx_by id k.instance.func (length (take x k.instance.answers)) (effect_after d k.instance (take x k.instance.answers)) (txs_after d k.instance (take x k.instance.answers)).begun)) e))
    where
      by_own : k.instance.enclosing ≡ None → (t : TxId) × (tx_at d id k.instance x ≡ Some t)
      by_own out = by_low (low_on d func q same outside id s.0.steps ts s at refl)
        where
          outside : q.enclosing ≡ None
          outside = none_by q.enclosing (λ w e.
              let inherits = open_in d q w (run_on d id q ts) e in
              let clash = sym (open_out d k.instance k.answers out) ∙ ap is_inherited (sym k.run_open ∙ (local_steps_there d func q same ts s id at).open_there ∙ inherits) in cc)

          by_low : IsLow s.0.steps (step.local_steps d id s) → (t : TxId) × (tx_at d id k.instance x ≡ Some t)
          by_low (inl e) = absurd (omega (arith, e, from, less))
          by_low (inr w) = let le = w.1.1 in in_own d id k.instance k.answers k.later k.run_answers w.0 (open_begun d k.instance k.answers ∙ ap own_begin (sym k.run_open) ∙ w.1.0) x (omega (arith, le, from)) short

  -- so a call there may be passed
  pub gap_pass : MayPass n id x
  gap_pass = answered_pass d b n h id k.instance k.made x recorded (λ f v call. inside)
