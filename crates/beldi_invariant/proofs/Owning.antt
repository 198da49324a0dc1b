-- Who owns an item: an intent that holds its lock; or a transaction that is open, or that is decided and whose owner has not ended.
use Rattle.beldi_value.specs.Id.{home_of}
use Rattle.beldi_invariant.proofs.Names.{Bool, Body, ByTx, CalleeBodyMatches, CalleeMatches, Deployment, FinishMatches, HasNotEnded, Instance, Intent, IntentId, IntentMatches, IntentRow, IsGivingBack, IsUndecided, Item, Histories, LogMatches, Matches, None, Option, Outcome, OutcomeMatches, PlainState, RootMatches, Row, RowKey, Rows, Some, TxId, Value, ap, arith, content_of, decision_by, decision_key, ended_by, eq-eqb, false, has_ended, has_no_hops, holds, if◌then◌else◌, inl, inr, intent_key, is_ended, is_owner, is_some, is_waited, key_in, log_key, no_decision, none_by, outcome_of, expected_read, expected_value, place_of, plain_owner_of, read_at, refl, row_at, same_some, subst, sym, true, tx_end, tx_in, value_or, ℕ, ◌||◌, ◌∙◌, ◌≡◌, ◌⊎◌}
use Rattle.beldi_invariant.proofs.{Ages.WasOpen, Ages.open_on, Ages.owns_so, Outside.holds_recorded, Shown.Shows}
use Rattle.beldi_invariant.proofs.Names.map
use Rattle.beldi_invariant.proofs.Names.plain

-- ---- the row of who is known
-- a root's is there, and a callee's where that is said
root_there : (r : Option Row) (q : Instance) → RootMatches true r (Some q) → is_some r ≡ true
root_there None q h = cc
root_there (Some r) q h = refl

there_by : (ended : TxId → Bool) (root : Bool) (func : ℕ) (row : ℕ → Option Row) (q : Instance) → IntentMatches ended root (if root then 0 else func) (row (if root then 0 else func)) (Some q) → (root ≡ false → is_some (row func) ≡ true) → is_some (row (if root then 0 else func)) ≡ true
there_by ended true func row q h there = root_there (row 0) q h
there_by ended false func row q h there = there refl

-- one that has no outcome has not ended, where its instance was called in no transaction
never_ended : (i : IntentRow) → i.outcome ≡ None → is_some i.finish ≡ is_some i.outcome → is_ended i ≡ false
never_ended i none finishes = ap (λ o. is_some o || is_some i.finish) none ∙ finishes ∙ ap is_some none

pub root_open : (m : Rows) (k : RowKey) (q : Instance) (r : Option Row) → map.get m k ≡ r → RootMatches true r (Some q) → q.outcome ≡ None → HasNotEnded m k
root_open m k q r is root none = grind arith

callee_outcome : (waits : Bool) (o u : Option Outcome) → OutcomeMatches waits o u → u ≡ None → o ≡ None
callee_outcome true o u h none = none_by o (λ v e. let clash = sym (h v e) ∙ none in cc)
callee_outcome false o u h none = sym h ∙ none

callee_body : (home : ℕ) (b : Option Body) (o : Option Outcome) (q : Instance) → CalleeBodyMatches home b o (Some q) → q.outcome ≡ None → (o ≡ None) × (tx_in b ≡ q.enclosing)
callee_body home None o q h none = absurd h
callee_body home (Some b) o q h none =
    let same : h.0.instance ≡ q = same_some (sym h.0.made) in
    (callee_outcome (is_waited b.parent) o h.0.instance.outcome h.2 (ap (λ (y : Instance). y.outcome) same ∙ none), ap (λ (z : Body). z.tx) h.0.body ∙ ap (λ (y : Instance). y.enclosing) same)

callee_open : (ended : TxId → Bool) (home : ℕ) (m : Rows) (k : RowKey) (q : Instance) (r : Option Row) → map.get m k ≡ r → CalleeMatches ended home r (Some q) → q.enclosing ≡ None → q.outcome ≡ None → is_some r ≡ true → HasNotEnded m k
callee_open ended home m k q None is h own none there = cc
callee_open ended home m k q (Some (Row.Intent i)) is h own none there =
    let b = callee_body home i.body i.outcome q h.body none in
    record { row = i; there = is; not_ended = never_ended i b.0 (subst (λ w. FinishMatches ended w i.finish i.outcome) (b.1 ∙ own) h.finishes) }
callee_open ended home m k q (Some r) is h own none there = absurd h

open_by : (ended : TxId → Bool) (root : Bool) (func : ℕ) (m : Rows) (id : IntentId) (q : Instance) → IntentMatches ended root (if root then 0 else func) (map.get m (key_in (if root then 0 else func) id)) (Some q) → q.enclosing ≡ None → q.outcome ≡ None
    → is_some (map.get m (key_in (if root then 0 else func) id)) ≡ true → HasNotEnded m (key_in (if root then 0 else func) id)
open_by ended true func m id q h own none there = root_open m (key_in 0 id) q (map.get m (key_in 0 id)) refl h none
open_by ended false func m id q h own none there = callee_open ended func m (key_in func id) q (map.get m (key_in func id)) refl h own none there

-- a decision that is expected is there
decision_there : (r : Option Row) (v : Value) → LogMatches r (Some v) → is_some r ≡ true
decision_there None v h = cc
decision_there (Some r) v h = refl

module _ (d : Deployment) (m : Rows) (histories : Histories) (lock_ahead : IntentId → Bool) (rows : Matches d m histories lock_ahead) (id : IntentId) (q : Instance) (made : map.get histories id ≡ Some q) (func : ℕ) where
  its_row : IntentMatches (has_ended d histories) (has_no_hops id.hops) (home_of id func) (map.get m (intent_key id func)) (Some q)
  its_row = subst (IntentMatches (has_ended d histories) (has_no_hops id.hops) (home_of id func) (map.get m (intent_key id func))) made (rows.keys (intent_key id func))

  pub own_row : (has_no_hops id.hops ≡ false → is_some (map.get m (key_in func id)) ≡ true) → is_some (map.get m (intent_key id func)) ≡ true
  own_row = there_by (has_ended d histories) (has_no_hops id.hops) func (λ f. map.get m (key_in f id)) q its_row

  not_ended : q.enclosing ≡ None → q.outcome ≡ None → is_some (map.get m (intent_key id func)) ≡ true → HasNotEnded m (intent_key id func)
  not_ended = open_by (has_ended d histories) (has_no_hops id.hops) func m id q its_row

-- ---- the owners, of rows that show a plain state
module _ (d : Deployment) (m : Rows) (p : PlainState) (histories : Histories) (lock_ahead : IntentId → Bool) (h : Shows d m p histories lock_ahead) (x : Item) where
  pub holder_owns : (j : IntentId) → is_owner (content_of m x).owner (Intent j) ≡ holds d x (map.get p.made j)
  holder_owns j = (h.rows.items x).owner j ∙ holds_recorded d p histories h.goes.extends j h.well_formed x

  module _ (legal : plain.WellFormed d p) (t : TxId) (owned : (content_of m x).owner ≡ Some (ByTx t)) where
    was : WasOpen d m histories lock_ahead h.rows h.well_formed t
    was = owns_so d m histories lock_ahead h.rows h.well_formed t x owned

    ended_so : (z : Option (ℕ × Bool)) → tx_end d histories t ≡ z → ended_by d t.begin (Some was.owner) ≡ z
    ended_so z e = sym (ap (ended_by d t.begin) was.made) ∙ e

    undecided : tx_end d histories t ≡ None → IsUndecided d m p t
    undecided e =
        let begun = open_on d was.owner was.given was.later t.begin was.all (ended_so None e) was.begun in
        record {
          owner = plain_owner_of d p histories legal h.well_formed h.goes.extends t (record { owner = was.owner; made = was.made; outside = was.outside; func_is = was.func_is; begun = begun });
          undecided = ap (λ f. map.get m (log_key f (place_of t.intent t.begin))) was.func_is ∙ no_decision d m histories lock_ahead h.rows t.intent was.owner was.made t.begin begun;
        }

    giving_back : (z : ℕ × Bool) → tx_end d histories t ≡ Some z → IsGivingBack m t
    giving_back z e =
        let u = h.settled.unended t z x e owned in
        let expected : expected_read d histories t.func (place_of t.intent t.begin) ≡ Some (Value.Bool z.1) = ap (expected_value d t.func t.begin) was.made
        ∙ ap (λ b. if b then row_at d was.owner t.begin else None) (eq-eqb was.owner.func t.func (sym was.func_is)) ∙ ap (λ o. value_or (decision_by o) (read_at d was.owner t.begin)) (ended_so (Some z) e) in
        record {
          decided = decision_there (map.get m (decision_key t)) (Value.Bool z.1) (subst (LogMatches (map.get m (decision_key t))) expected (h.rows.keys (decision_key t)));
          owner = not_ended d m histories lock_ahead h.rows t.intent was.owner was.made t.func was.outside (sym (ap outcome_of was.made) ∙ u.1) u.0;
        }

    pub owned_so : IsUndecided d m p t ⊎ IsGivingBack m t
    owned_so = by_end (tx_end d histories t) refl
      where
        by_end : (o : Option (ℕ × Bool)) → tx_end d histories t ≡ o → IsUndecided d m p t ⊎ IsGivingBack m t
        by_end None e = inl (undecided e)
        by_end (Some z) e = inr (giving_back z e)
