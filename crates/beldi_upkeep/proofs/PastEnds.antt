-- Where a run goes on to past what takes no turn: a transaction that has ended by then had its End before.
use Rattle.std.proofs.lemmas.List.{take_more}
use Rattle.beldi_plain_laws.proofs.Ends.{fits_at}
use Rattle.beldi_histories.proofs.{Phases.at, Phases.begin_is, Phases.inside_is, Begins.going_now, Cases.by_option}
use Rattle.beldi_invariant.proofs.Names.{Answer, Body, Bool, Caller, Core, Deployment, Effect, Instance, IntentId, IntentRow, IsTrue, List, Machine, None, Option, Invariant, Rows, RunTx, Some, StandsAt, TxId, Txs, [], and_local, local_answer, ap, arith, drop, effect_after, false, get_or, inl, inr, is_inherited, is_some, length, length-take-le, ltb-true, ltb-false, nat_lt, none_by, open_after, open_of, place_of, refl, run_on, run_local, same_some, subst, sym, take, take-append-drop, takes_if, true, txs_after, wants_answer, txs_by, txs_pushed, with_cause, ℕ, ◌++◌, ◌+◌, ◌<◌, ◌∙◌, ◌∷◌, ◌≡◌, ◌≤◌, ◌⊎◌, ◌||◌}
use Rattle.beldi_invariant.proofs.Names.map
use Rattle.beldi_invariant.proofs.Names.step
use Rattle.beldi_invariant.proofs.{Ended.EndedAt, OpenOf.open_begun, OpenOf.open_in, OpenOf.open_out, OpenOf.own_begin, StageTurns.MachineAt, StageTurns.local_steps_there, StageTurns.at_steps, StageTurns.effect_there, StageTurns.steps_there, StageTurns.takes_there}
use Rattle.beldi_upkeep.specs.Callees.{HasBody, IsPassed, open_begin}
use Rattle.beldi_upkeep.proofs.{FromInvariant.body_recorded, PastOwn.WasOwner, PastOwn.called_owner, PastOwn.ended_there, PastOwn.ends_there, PastOwn.open_before}

pub begin_same : (o : Option RunTx) → open_begin o ≡ own_begin o
begin_same o = grind arith

-- no more steps than these were made, or a Begin is open that is among them, or comes right after
abbrev pub IsLow : ℕ → Machine × Option RunTx → Type 0
IsLow n s = (s.0.steps ≡ n) ⊎ ((v : ℕ) × ((own_begin s.1 ≡ Some v) × (v ≤ n)))

cause_begin : (a : Answer) (o : Option RunTx) → own_begin (with_cause a o) ≡ own_begin o
cause_begin a o = grind arith

wanted_local_steps : (id : IntentId) (n : ℕ) (e : Effect) (a : Answer) → local_answer id n e ≡ Some a → IsTrue (wants_answer e)
wanted_local_steps id n e a h = grind arith

once_there : (d : Deployment) (func : ℕ) (q : Instance) (same : q.func ≡ func) (given : List Answer) (s : Machine × Option RunTx) → MachineAt d func q given s → (id : IntentId) → MachineAt d func q (run_local d id q given) (step.local_step d id s)
once_there d func q same given s h id = subst (λ ts. MachineAt d func q ts (step.local_step d id s)) (λ i. and_local given (local_answer id (steps_there d func q same given s h i) (effect_there d func q same given s h i))) (by_answer (local_answer id s.0.steps s.0.effect) refl)
  where
    by_answer : (o : Option Answer) → local_answer id s.0.steps s.0.effect ≡ o → MachineAt d func q (and_local given o) (takes_if d s.0 s.1 o)
    by_answer None e = h
    by_answer (Some a) e = takes_there d func q same given s h a (wanted_local_steps id s.0.steps s.0.effect a e)

module _ (d : Deployment) (func : ℕ) (q : Instance) (same : q.func ≡ func) (out : q.enclosing ≡ None) (id : IntentId) (n : ℕ) where
  -- an Abort stands in a transaction of one's own
  abort_open : (ts : List Answer) → effect_after d q ts ≡ Effect.Abort → is_some (txs_after d q ts).begun ≡ true
  abort_open ts is =
      let g = at d q ts in
      let b = (going_now d q.func q.args (is_some q.enclosing) ts g.going).at_abort is in
      by_or (is_some (txs_after d q ts).begun) (ap (λ w. is_some (txs_after d q ts).begun || is_some w) (sym out) ∙ sym (inside_is d q ts) ∙ b)
    where
      by_or : (b : Bool) → (b || false) ≡ true → b ≡ true
      by_or true e = refl
      by_or false e = e

  -- the answer to it
  abbrev aborted : ℕ → Answer
  aborted n = Answer.Aborted (record { place = place_of id n; holder = None })

  low_once : (ts : List Answer) (s : Machine × Option RunTx) → MachineAt d func q ts s → IsLow n s → IsLow n (step.local_step d id s)
  low_once ts s h low = by_effect s.0.effect refl
    where
      begun : (txs_after d q ts).begun ≡ own_begin s.1
      begun = open_begun d q ts ∙ ap own_begin (sym h.open_there)

      effect : s.0.effect ≡ effect_after d q ts
      effect = effect_there d func q same ts s h

      now_begins : s.0.effect ≡ Effect.Begin → IsLow n s → (v : ℕ) × ((own_begin (open_after s.0.steps Effect.Begin Answer.Done s.1) ≡ Some v) × (v ≤ n))
      now_begins is (inl e) = (s.0.steps, (refl, omega (arith, e)))
      now_begins is (inr w) = let clash = sym (ap is_some (begun ∙ w.1.0)) ∙ (begin_is d q ts (sym effect ∙ is)).1 in cc

      now_aborts : (a : Answer) → s.0.effect ≡ Effect.Abort → IsLow n s → (v : ℕ) × ((own_begin (open_after s.0.steps Effect.Abort a s.1) ≡ Some v) × (v ≤ n))
      now_aborts a is (inr w) = (w.0, (cause_begin a s.1 ∙ w.1.0, w.1.1))
      now_aborts a is (inl e) = by_option (own_begin s.1) (λ none. let clash = sym (ap is_some (begun ∙ none)) ∙ abort_open ts (sym effect ∙ is) in cc)
          (λ v some. let b = (fits_at d q ts).before v (begun ∙ some) in let l = steps_there d func q same ts s h in (v, (cause_begin a s.1 ∙ some, omega (arith, b, l, e))))

      by_effect : (e : Effect) → s.0.effect ≡ e → IsLow n (step.local_step d id s)
      by_effect Effect.Begin is = subst (λ e. IsLow n (takes_if d s.0 s.1 (local_answer id s.0.steps e))) (sym is) (inr (subst (λ e. (v : ℕ) × ((own_begin (open_after s.0.steps e Answer.Done s.1) ≡ Some v) × (v ≤ n))) (sym is) (now_begins is low)))
      by_effect Effect.Abort is = subst (λ e. IsLow n (takes_if d s.0 s.1 (local_answer id s.0.steps e))) (sym is) (inr (subst (λ e. (v : ℕ) × ((own_begin (open_after s.0.steps e (aborted s.0.steps) s.1) ≡ Some v) × (v ≤ n))) (sym is) (now_aborts (aborted s.0.steps) is low)))
      by_effect e is = subst (λ e. IsLow n (takes_if d s.0 s.1 (local_answer id s.0.steps e))) (sym is) low

  -- a Begin that is open stays so
  abbrev OpenThen : Machine × Option RunTx → ℕ → Effect → Type 0
  OpenThen s v e = own_begin (takes_if d s.0 s.1 (local_answer id s.0.steps e)).1 ≡ Some v

  open_once : (ts : List Answer) (s : Machine × Option RunTx) (v : ℕ) → MachineAt d func q ts s → own_begin s.1 ≡ Some v → own_begin (step.local_step d id s).1 ≡ Some v
  open_once ts s v h is_open = by_effect s.0.effect refl
    where
      by_effect : (e : Effect) → s.0.effect ≡ e → own_begin (step.local_step d id s).1 ≡ Some v
      by_effect Effect.Begin is = let clash = sym (ap is_some (open_begun d q ts ∙ ap own_begin (sym h.open_there) ∙ is_open)) ∙ (begin_is d q ts (sym (effect_there d func q same ts s h) ∙ is)).1 in cc
      by_effect Effect.Abort is = subst (OpenThen s v) (sym is) (subst (λ e. own_begin (open_after s.0.steps e (aborted s.0.steps) s.1) ≡ Some v) (sym is) (cause_begin (aborted s.0.steps) s.1 ∙ is_open))
      by_effect e is = subst (OpenThen s v) (sym is) is_open

  pub open_on : (ts : List Answer) (s : Machine × Option RunTx) (v : ℕ) → MachineAt d func q ts s → own_begin s.1 ≡ Some v → own_begin (step.local_steps d id s).1 ≡ Some v
  open_on ts s v h is_open = open_once (run_local d id q ts) (step.local_step d id s) v (once_there d func q same ts s h id) (open_once ts s v h is_open)

  pub low_on : (ts : List Answer) (s : Machine × Option RunTx) → MachineAt d func q ts s → s.0.steps ≡ n → IsLow n (step.local_steps d id s)
  low_on ts s h is = low_once (run_local d id q ts) (step.local_step d id s) (once_there d func q same ts s h id) (low_once ts s h (inl is))

-- what ended by these answers, of a run that stands so, ended among so many
pub ended_low : (d : Deployment) (q : Instance) (ts : List Answer) (s : Machine × Option RunTx) (n b : ℕ) (z : ℕ × Bool) → EndedAt d q ts b z → s.0.steps ≡ length ts → s.1 ≡ open_of d q ts → IsLow n s → z.0 < n
ended_low d q ts s n b z at steps is_open (inl e) = let k = at.before in omega (arith, k, steps, e)
ended_low d q ts s n b z at steps is_open (inr w) = by_test (nat_lt z.0 n) refl
  where
    late : n ≤ z.0 → ⊥
    late le =
        let k = at.before in
        let front = take z.0 ts in
        let a = get_or ts z.0 Answer.Done in
        let more : take (z.0 + 1) ts ≡ front ++ a ∷ [] = take_more ts z.0 Answer.Done k in
        let long = length-take-le (z.0 + 1) ts (omega (arith, k)) in
        let v = w.1.1 in
        let still = open_before d q w.0 (take (z.0 + 1) ts) (drop (z.0 + 1) ts) (omega (arith, long, v, le)) (ap (λ xs. (txs_after d q xs).begun) (take-append-drop (z.0 + 1) ts) ∙ open_begun d q ts ∙ ap own_begin (sym is_open) ∙ w.1.0) in
        let clash = sym still ∙ ap (λ xs. (txs_after d q xs).begun) more ∙ ap (λ (s : Txs). s.begun) (txs_pushed d q front a) ∙ ap (λ e. (txs_by (length front) e (txs_after d q front)).begun) at.ends in cc

    by_test : (t : Bool) → nat_lt z.0 n ≡ t → z.0 < n
    by_test true e = ltb-true z.0 n e
    by_test false e = absurd (late (ltb-false z.0 n e))

-- ---- a run that goes on from a machine, which stands after so many steps
module _ (d : Deployment) (b : Core) (n : Rows) (h : Invariant d b n) (id : IntentId) (func : ℕ) (q : Instance) (same : q.func ≡ func) (ts : List Answer) (s : Machine × Option RunTx) (at : MachineAt d func q ts s)
    (c : Option Caller) (k : StandsAt d h.histories id func c (step.local_steps d id s).0 (step.local_steps d id s).1) (t : TxId) (passed : IsPassed id (step.local_steps d id s).0.steps (step.local_steps d id s).1 t)
    (home : ℕ) (i : IntentId) (r : IntentRow) (body : Body) (there : HasBody n home i r body) (in_it : body.tx ≡ Some t) where
  pub w : WasOwner d h.histories t
  w = let z = body_recorded d b n h home i r body there in called_owner d h.histories h.well_formed t i z.instance z.made (ap (λ (y : Body). y.tx) (sym z.body) ∙ in_it)

  owner_is : w.owner ≡ k.instance
  owner_is = same_some (sym w.made ∙ ap (map.get h.histories) passed.own ∙ k.made)

  outside_then : k.instance.enclosing ≡ None
  outside_then = ap (λ (y : Instance). y.enclosing) (sym owner_is) ∙ w.outside

  pub outside : q.enclosing ≡ None
  outside = none_by q.enclosing (λ x e.
      let inherits = open_in d q x (run_on d id q ts) e in
      let clash = sym (open_out d k.instance k.answers outside_then) ∙ ap is_inherited (sym k.run_open ∙ (local_steps_there d func q same ts s id at).open_there ∙ inherits) in cc)

  pub rest_all : k.answers ++ k.later ≡ w.owner.answers
  rest_all = k.run_answers ∙ ap (λ (y : Instance). y.answers) (sym owner_is)

  pub begun_there : t.begin < length k.answers
  begun_there = let p = passed.begun in let l = at_steps k in omega (arith, p, l)

  pub not_open : (txs_after d w.owner k.answers).begun ≡ Some t.begin → ⊥
  not_open is_open = passed.ended (begin_same (step.local_steps d id s).1 ∙ ap own_begin k.run_open ∙ sym (open_begun d k.instance k.answers) ∙ subst (λ (y : Instance). (txs_after d y k.answers).begun ≡ Some t.begin) owner_is is_open)

  abbrev pub ended : ℕ × Bool
  ended = (ends_there d h.histories t w k.answers k.later rest_all begun_there not_open).0

  ended_then : EndedAt d k.instance k.answers t.begin ended
  ended_then = subst (λ (y : Instance). EndedAt d y k.answers t.begin ended) owner_is (ended_there d h.histories t w k.answers k.later rest_all begun_there not_open)

  -- its End was before
  pub ended_before : ended.0 < s.0.steps
  ended_before = ended_low d k.instance k.answers (step.local_steps d id s) s.0.steps t.begin ended ended_then (at_steps k) k.run_open (low_on d func q same outside id s.0.steps ts s at refl)

  -- .. and so was its Begin
  pub begun_first : t.begin < ended.0
  begun_first =
      let e = ended_then in
      let z = e.before in
      let u = (fits_at d k.instance (take ended.0 k.answers)).before t.begin e.begun in
      let l = length-take-le ended.0 k.answers (omega (arith, z)) in omega (arith, u, l)

  pub is_own : t ≡ record { intent = id; begin = t.begin; func = func }
  is_own = let f = w.func_is ∙ ap (λ (y : Instance). y.func) owner_is ∙ k.func in λ j. record { intent = passed.own j; begin = t.begin; func = f j }
