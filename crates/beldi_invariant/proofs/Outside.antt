-- Steps outside transactions: where no Begin is open. There the history of an instance is what the plain state has.
use Rattle.beldi_plain.specs.Transaction.{opened}
use Rattle.beldi_histories.specs.Extends.{begins}
use Rattle.beldi_invariant.proofs.Names.{Answer, Extends, Bool, Deployment, Effect, FinMap, Grown, GrownAt, Instance, IntentId, IsOutside, Item, Histories, CallStack, List, None, Option, PlainState, WellFormedHistories, Some, TxId, Txs, [], ap, arith, begins_parts, effect_after, effect_of, false, from_begin, holds, id_cmp, in_line, inl, inside_holds_none, is_begin, is_some, length, line_opened, next, none_by, opened_grows, or_own, outcome_of, owner_is, refl, same_some, subst, sym, top, true, tx_begun, tx_by, txs_after, txs_pushed, ◌++◌, ◌∙◌, ◌∷◌, ◌≡◌}
use Rattle.beldi_invariant.proofs.{Grown.grown_same, Cases.by_option}
use Rattle.beldi_invariant.proofs.Names.map
use Rattle.beldi_invariant.proofs.Names.plain

module _ (d : Deployment) (id : IntentId) (q : Instance) (given : List Answer) where
  -- an answer to it opens none
  pub outside_more : IsOutside d q given → is_begin (effect_after d q given) ≡ false → (a : Answer) → IsOutside d q (given ++ a ∷ [])
  outside_more h apart a = (h.0, ap (λ (s : Txs). s.begun) (txs_pushed d q given a) ∙ (grind (arith, apart)))

-- the effects that begin and end a transaction
abbrev pub is_of_tx : Effect → Bool
is_of_tx Effect.Begin = true
is_of_tx (Effect.End c) = true
is_of_tx Effect.Abort = true
is_of_tx e = false

abbrev pub is_call : Effect → Bool
is_call (Effect.Call f v) = true
is_call (Effect.Async f v) = true
is_call e = false

-- ---- beside the plain state
-- the history of an instance that was made: it goes on, with no outcome more
pub record RecordedOf (histories : Histories) (id : IntentId) (q : Instance) : Type 0 where
  pub instance : Instance
  pub is : map.get histories id ≡ Some instance
  pub grown : Grown q instance
  pub outcome : instance.outcome ≡ q.outcome

-- the owner of a transaction that goes on has not ended
owner_open : (d : Deployment) (t : TxId) (f : FinMap id_cmp Instance) (i : IntentId) → CallStack d t f i → (z : Instance) × (map.get f t.intent ≡ Some z) × (z.outcome ≡ None)
owner_open d t f i (top _ h) = (h.instance, ap (map.get f) (sym h.own) ∙ h.made, h.open_still)
owner_open d t f i (next k _ l h) = owner_open d t f k l

pub grown_there : (q : Instance) (o u : Option Instance) → o ≡ Some q → GrownAt o u → (y : Instance) × (u ≡ Some y) × Grown q y
grown_there q o u is g = grind arith

module _ (d : Deployment) (p : PlainState) (histories : Histories) (beside : Extends d p histories) (id : IntentId) where
  pub recorded_of : (q : Instance) → map.get p.made id ≡ Some q → RecordedOf histories id q
  recorded_of q made = by_begin (begins d q) refl
    where
      by_begin : (b : Bool) → begins d q ≡ b → RecordedOf histories id q
      by_begin false e = record { instance = q; is = beside.same id q made e; grown = grown_same q; outcome = refl }
      by_begin true e =
          let t = tx_begun id q in
          let at = beside.begun id q made e in
          let b = begins_parts d q e in
          let f = at.going.state.made in
          let y = grown_there q (map.get p.made id) (map.get f id) made (opened_grows d p id q at.moves at.going made b.0 at.leads id) in
          let z = owner_open d t f at.going.active (in_line d t (opened p id q) at.moves at.going (line_opened d p id q b.0) at.leads) in
          record { instance = y.0; is = at.whole id (inl refl) ∙ y.1; grown = y.2; outcome = ap (λ (x : Instance). x.outcome) (same_some (sym y.1 ∙ z.1)) ∙ z.2 ∙ sym b.0 }

  pub plain_none : map.get histories id ≡ None → map.get p.made id ≡ None
  plain_none new = none_by (map.get p.made id) (λ q made. let clash = sym (recorded_of q made).is ∙ new in cc)

-- ---- who was called in no transaction
module _ (d : Deployment) (p : PlainState) (histories : Histories) (beside : Extends d p histories) (id : IntentId) where
  -- it was made
  module _ (k : Instance) (is : map.get histories id ≡ Some k) (own : k.enclosing ≡ None) where
    pub made_of : (q : Instance) × (map.get p.made id ≡ Some q) × Grown q k × (k.outcome ≡ q.outcome)
    made_of = by_option (map.get p.made id) (λ none. let clash = sym own ∙ (beside.kept id k none is).enclosing in cc)
        (λ q made. let z = recorded_of d p histories beside id q made in let same : z.instance ≡ k = same_some (sym z.is ∙ is) in (q, made, subst (Grown q) same z.grown, ap (λ (y : Instance). y.outcome) (sym same) ∙ z.outcome))

    -- outside it is known as the plain state has it
    pub plain_here : plain.WellFormed d p → (txs_after d k k.answers).begun ≡ None → map.get p.made id ≡ Some k
    plain_here well_formed out = let q = made_of in q.1 ∙ by_begin q.0 q.1 (begins d q.0) refl
      where
        by_begin : (q : Instance) → map.get p.made id ≡ Some q → (b : Bool) → begins d q ≡ b → Some q ≡ Some k
        by_begin q made false e = sym (beside.same id q made e) ∙ is
        by_begin q made true e =
            let z = owner_is d p histories well_formed id q made e (beside.begun id q made e) in
            let clash = sym out ∙ ap (λ (y : Instance). (txs_after d y y.answers).begun) (same_some (sym is ∙ z.1)) ∙ z.2.begun in cc

  -- an outcome that is known is the plain one
  pub outcome_recorded : ((k : Instance) → map.get histories id ≡ Some k → k.enclosing ≡ None) → outcome_of (map.get histories id) ≡ outcome_of (map.get p.made id)
  outcome_recorded own = by_option (map.get histories id) (λ none. ap outcome_of (none ∙ sym (plain_none d p histories beside id none)))
      (λ k is. let q = made_of k is (own k is) in ap outcome_of is ∙ q.3 ∙ ap outcome_of (sym q.1))

  -- ---- who holds a lock is known to hold it, and nobody else is: who was called in a transaction holds none
  pub holds_recorded : WellFormedHistories d histories → (x : Item) → holds d x (map.get histories id) ≡ holds d x (map.get p.made id)
  holds_recorded well_formed x = by_plain (map.get p.made id) refl
    where
      kept_holds : (o : Option Instance) → map.get histories id ≡ o → map.get p.made id ≡ None → holds d x o ≡ false
      kept_holds None is none = refl
      kept_holds (Some k) is none = inside_holds_none d id k (well_formed.each id k is)
          (ap (λ w. is_some (or_own w (tx_by id k.func (length k.answers) (effect_of d k) (txs_after d k k.answers).begun))) (beside.kept id k none is).enclosing) x

      by_begin : (q : Instance) → map.get p.made id ≡ Some q → (b : Bool) → begins d q ≡ b → holds d x (map.get histories id) ≡ holds d x (Some q)
      by_begin q made false e = ap (holds d x) (beside.same id q made e)
      by_begin q made true e =
          let at = beside.begun id q made e in
          let b = begins_parts d q e in
          ap (holds d x) (at.whole id (inl refl)) ∙ from_begin d x p id q at.moves at.going made b.0 b.1 at.leads id ∙ ap (holds d x) made

      by_plain : (o : Option Instance) → map.get p.made id ≡ o → holds d x (map.get histories id) ≡ holds d x o
      by_plain None none = kept_holds (map.get histories id) refl none
      by_plain (Some q) made = by_begin q made (begins d q) refl
