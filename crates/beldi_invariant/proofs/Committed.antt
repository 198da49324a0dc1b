-- Who was called in a transaction is in the plain state exactly where the transaction has committed, as its decision's row says.
use Rattle.beldi_invariant.proofs.Names.{Answer, Extends, Bool, Deployment, Grown, Instance, IntentId, Histories, List, LogMatches, Matches, None, Option, PlainState, Row, Rows, WellFormedHistories, Some, TxId, all_called, ap, arith, at_step, begins, decision_key, decision_row, drop, effect_after, effect_before, end_of, ended_by, false, fits_at, has_place, is_committed, expected_read, place_of, refl, same_some, subst, sym, take, take-append-drop, take-append-le, true, tx_end, value_for, ℕ, ◌∙◌, ◌≡◌, Effect}
use Rattle.beldi_invariant.proofs.{Closing.end_grows, Outside.recorded_of, Outside.made_of}
use Rattle.beldi_invariant.proofs.Names.map
use Rattle.beldi_invariant.proofs.Names.plain

-- ---- a transaction that somebody was called in has its Begin
pub record HasBegin (d : Deployment) (histories : Histories) (t : TxId) : Type 0 where
  pub owner : Instance
  pub made : map.get histories t.intent ≡ Some owner
  pub func_is : owner.func ≡ t.func
  pub begins : effect_before d owner t.begin ≡ Effect.Begin

module _ (d : Deployment) (histories : Histories) (well_formed : WellFormedHistories d histories) (t : TxId) where
  pub has_begin : (j : IntentId) (z : Instance) → map.get histories j ≡ Some z → z.enclosing ≡ Some t → HasBegin d histories t
  has_begin = all_called d histories well_formed t (λ j z. HasBegin d histories t)
      (λ j z inner c outside o.
      let ts = take c.step c.waiter.answers in
      let before = (fits_at d c.waiter ts).before t.begin o.begun in
      let front : take t.begin c.waiter.answers ≡ take t.begin ts = ap (take t.begin) (sym (take-append-drop c.step c.waiter.answers)) ∙ take-append-le t.begin ts (drop c.step c.waiter.answers) (omega (arith, before)) in
      record { owner = c.waiter; made = ap (map.get histories) o.intent ∙ c.made; func_is = sym o.func_is; begins = ap (effect_after d c.waiter) front ∙ (begins d c.waiter ts).begun t.begin o.begun })
      (λ j z inner c up so. so)

  -- so a decision that is there is that of its End
  module _ (m : Rows) (lock_ahead : IntentId → Bool) (matches : Matches d m histories lock_ahead) (j : IntentId) (z : Instance) (is : map.get histories j ≡ Some z) (inner : z.enclosing ≡ Some t) where
    pub committed_end : is_committed (map.get m (decision_key t)) ≡ true → (n : ℕ) × (tx_end d histories t ≡ Some (n, true))
    committed_end commits = by_end (tx_end d histories t) refl
      where
        b : HasBegin d histories t
        b = has_begin j z is inner

        no_read : (given : List Answer) (o : Option Answer) → effect_after d (has_begin j z is inner).owner given ≡ Effect.Begin → at_step (λ ts a. value_for (effect_after d (has_begin j z is inner).owner ts) a) given o ≡ None
        no_read given o e = grind arith

        undecided : end_of d (has_begin j z is inner).owner t.begin ≡ None → expected_read d histories t.func (place_of t.intent t.begin) ≡ None
        undecided none = grind arith

        no_commit : (r : Option Row) → LogMatches r None → is_committed r ≡ false
        no_commit r h = grind arith

        by_end : (o : Option (ℕ × Bool)) → tx_end d histories t ≡ o → (n : ℕ) × (tx_end d histories t ≡ Some (n, true))
        by_end None e =
            let clash = sym commits ∙ no_commit (map.get m (decision_key t)) (subst (LogMatches (map.get m (decision_key t))) (undecided (sym (ap (ended_by d t.begin) b.made) ∙ e)) (matches.keys (decision_key t))) in cc
        by_end (Some (n, true)) e = (n, e)
        by_end (Some (n, false)) e =
            let clash = sym commits ∙ decision_row d m histories lock_ahead matches t b.owner n false b.made b.func_is (sym (ap (ended_by d t.begin) b.made) ∙ e) in cc

-- ---- in the plain state
module _ (d : Deployment) (m : Rows) (p : PlainState) (histories : Histories) (lock_ahead : IntentId → Bool) (matches : Matches d m histories lock_ahead) (beside : Extends d p histories) (well_formed : WellFormedHistories d histories) (legal : plain.WellFormed d p) (id : IntentId) (k : Instance) (is : map.get histories id ≡ Some k) where
  -- who has a place in it is there
  pub placed : has_place m k.enclosing ≡ true → (q : Instance) × (map.get p.made id ≡ Some q) × Grown q k × (k.outcome ≡ q.outcome)
  placed has = by_within k.enclosing refl has
    where
      by_plain : (t : TxId) → k.enclosing ≡ Some t → is_committed (map.get m (decision_key t)) ≡ true → (o : Option Instance) → map.get p.made id ≡ o → (q : Instance) × (map.get p.made id ≡ Some q) × Grown q k × (k.outcome ≡ q.outcome)
      by_plain t inner commits None made =
          let kept = beside.kept id k made is in
          let same : t ≡ kept.tx = same_some (sym inner ∙ kept.enclosing) in
          let e = committed_end d histories well_formed t m lock_ahead matches id k is inner commits in
          absurd (kept.uncommitted e.0 (ap (tx_end d histories) (sym same) ∙ e.1))
      by_plain t inner commits (Some q) made =
          let z = recorded_of d p histories beside id q made in
          let same : z.instance ≡ k = same_some (sym z.is ∙ is) in
          (q, made, subst (Grown q) same z.grown, ap (λ (y : Instance). y.outcome) (sym same) ∙ z.outcome)

      by_within : (w : Option TxId) → k.enclosing ≡ w → has_place m w ≡ true → (q : Instance) × (map.get p.made id ≡ Some q) × Grown q k × (k.outcome ≡ q.outcome)
      by_within None own h = made_of d p histories beside id k is own
      by_within (Some t) inner h = by_plain t inner h (map.get p.made id) refl

  -- and nobody else
  pub unplaced : has_place m k.enclosing ≡ false → map.get p.made id ≡ None
  unplaced has = by_within k.enclosing refl has
    where
      by_plain : (t : TxId) → k.enclosing ≡ Some t → is_committed (map.get m (decision_key t)) ≡ false → (o : Option Instance) → map.get p.made id ≡ o → o ≡ None
      by_plain t inner none None made = refl
      by_plain t inner none (Some q) made =
          let z = recorded_of d p histories beside id q made in
          let within : q.enclosing ≡ Some t = sym z.grown.enclosing ∙ ap (λ (y : Instance). y.enclosing) (same_some (sym z.is ∙ is)) ∙ inner in
          let c = legal.committed id q t made within in
          let w = recorded_of d p histories beside t.intent c.owner c.made in
          let clash = sym none ∙ decision_row d m histories lock_ahead matches t w.instance c.step true w.is (w.grown.func ∙ c.func) (end_grows d c.owner w.instance t.begin (c.step, true) w.grown c.ends) in cc

      by_within : (w : Option TxId) → k.enclosing ≡ w → has_place m w ≡ false → map.get p.made id ≡ None
      by_within None own h = cc
      by_within (Some t) inner h = by_plain t inner h (map.get p.made id) refl
