-- What the histories have stays well formed, as turns outside transactions move it, and calls and returns.
use Rattle.beldi_invariant.proofs.Names.{Answer, Bool, Caller, Deployment, Effect, Instance, IntentId, IsAnswer, IsOutside, Histories, List, None, Option, Outcome, WellFormedHistories, Some, TxId, Value, aborts_inside, answer_of, ap, arith, local_steps, call_of, callee_of, calls_at, child_of, effect_after, effect_of, end_is, ended, false, inside_is, is_begin, is_some, is_waited, length, advanced, new_instance, not_waited, place_of, refl, root_of, well_formed_answered, well_formed_bound, well_formed_called, well_formed_ended, well_formed_returned, well_formed_sent, subst, sym, true, tx_now, txs_after, ℕ, ◌||◌, ◌∙◌, ◌≡◌}
use Rattle.beldi_invariant.proofs.Outside.{is_call, is_of_tx}
use Rattle.beldi_invariant.proofs.Names.map

-- ---- of bodies
-- an End and an Abort stand in a transaction, and a Begin outside
pub outside_effect : (d : Deployment) (q : Instance) (given : List Answer) → IsOutside d q given → is_begin (effect_after d q given) ≡ false → is_of_tx (effect_after d q given) ≡ false
outside_effect d q given out apart = by_effect (effect_after d q given) refl apart
  where
    none : is_some (txs_after d q given).begun ≡ false
    none = ap is_some out.1

    by_effect : (e : Effect) → effect_after d q given ≡ e → is_begin e ≡ false → is_of_tx e ≡ false
    by_effect Effect.Begin is g = cc
    by_effect (Effect.End c) is g = let clash = sym none ∙ end_is d q given c is in cc
    by_effect Effect.Abort is g = let clash = sym (inside_is d q given ∙ (λ i. none i || is_some (out.0 i))) ∙ aborts_inside d q.func q.args (is_some q.enclosing) given is in cc
    by_effect e is g = refl

-- ---- of what the histories have
no_call : (w : Bool) (f : ℕ) (v : Value) → is_call (call_of w f v) ≡ false → ⊥
no_call w f v h = grind arith

-- one that was called so
abbrev pub called_with : Option TxId → ℕ → Value → Caller → Instance
called_with t f v c = record (new_instance f v (Some c)) { enclosing = t }

module _ (d : Deployment) (histories : Histories) (well_formed : WellFormedHistories d histories) where
  -- a root is made
  pub root_kept : (t f : ℕ) (v : Value) → map.get histories (root_of t) ≡ None → WellFormedHistories d (map.insert histories (root_of t) (local_steps d (root_of t) (new_instance f v None)))
  root_kept t f v new = well_formed_bound d histories well_formed (root_of t) f v new refl

  -- an answer outside transactions, to a read or an operation on an item
  pub answered_kept : (id : IntentId) (q : Instance) (a : Answer) → map.get histories id ≡ Some q → q.outcome ≡ None → tx_now d id q ≡ None → is_call (effect_of d q) ≡ false → IsAnswer (place_of id (length q.answers)) None (effect_of d q) a → WellFormedHistories d (map.insert histories id (advanced d id q a))
  answered_kept id q a is none outside apart ok = well_formed_answered d histories well_formed id q is a (subst (λ t. IsAnswer (place_of id (length q.answers)) t (effect_of d q) a) (sym outside) ok) (λ w f v e. no_call w f v (ap is_call (sym e) ∙ apart))

  -- a callee is made that its caller waits for, in the transaction of the call, or one that nobody waits for: then the caller is answered
  pub called_kept : (t : Option TxId) (id : IntentId) (q : Instance) (f : ℕ) (v : Value) → map.get histories id ≡ Some q → t ≡ tx_now d id q → effect_of d q ≡ Effect.Call f v → map.get histories (callee_of id q) ≡ None
      → WellFormedHistories d (map.insert histories (callee_of id q) (local_steps d (callee_of id q) (called_with t f v (calls_at id q true))))
  called_kept t id q f v is within calls new = well_formed_called d histories well_formed id q is f v new t within calls

  pub sent_kept : (id : IntentId) (q : Instance) (f : ℕ) (v : Value) → map.get histories id ≡ Some q → tx_now d id q ≡ None → effect_of d q ≡ Effect.Async f v → map.get histories (callee_of id q) ≡ None
      → WellFormedHistories d (map.insert (map.insert histories (callee_of id q) (local_steps d (callee_of id q) (new_instance f v (Some (calls_at id q false))))) id (advanced d id q Answer.Done))
  sent_kept id q f v is outside sends new = well_formed_sent d histories well_formed id q is f v new outside sends

  -- a callee that its caller waits for ends, and the caller is answered
  pub returned_kept : (id : IntentId) (i j : Instance) (n : ℕ) (o : Outcome) → map.get histories id ≡ Some i → map.get histories (child_of id n) ≡ Some j → j.outcome ≡ None → is_waited j.parent ≡ true → effect_of d j ≡ Effect.Return o
      → WellFormedHistories d (map.insert (map.insert histories (child_of id n) (ended j o)) id (advanced d id i (answer_of o)))
  returned_kept id i j n o is made none waited returns = well_formed_returned d histories well_formed id i j n is made none waited o returns

  -- who nobody waits for ends
  pub ended_kept : (id : IntentId) (q : Instance) (o : Outcome) → map.get histories id ≡ Some q → effect_of d q ≡ Effect.Return o → is_waited q.parent ≡ false → WellFormedHistories d (map.insert histories id (ended q o))
  ended_kept id q o is returns idle = well_formed_ended d histories well_formed id q is o returns (not_waited q.parent idle)
