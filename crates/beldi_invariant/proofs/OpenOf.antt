-- What a run is in after answers: the transaction that it was called in throughout, or else its own one that is open; and so the
-- transaction of the step there.
use Rattle.beldi_invariant.proofs.Names.{Answer, Deployment, Effect, Inherited, Instance, IntentId, List, None, Option, Own, RunTx, Some, TxId, Txs, [], along, along_pushed, ap, arith, effect_after, false, is_begin, is_bound, is_inherited, is_some, length, no_bound, none_begun, none_by, open_after, open_of, or_own, refl, sym, tx_after, tx_by, tx_of, txs_after, txs_by, wants, with_cause, inherited_tx, ℕ, ◌++◌, ◌∙◌, ◌∷◌, ◌≡◌}
use Rattle.beldi_invariant.proofs.Cases.{by_option}

-- the Begin of one's own that is open
abbrev pub own_begin : Option RunTx → Option ℕ
own_begin None = None
own_begin (Some (Own o)) = Some o.begin
own_begin (Some (Inherited x)) = None

begun_in : (w : Option TxId) → own_begin (inherited_tx w) ≡ None
begun_in w = grind arith

-- what was aborted leaves it
cause_begins : (a : Answer) (o : Option RunTx) → own_begin (with_cause a o) ≡ own_begin o
cause_begins a o = grind arith

cause_inherits : (a : Answer) (o : Option RunTx) → is_inherited (with_cause a o) ≡ is_inherited o
cause_inherits a o = grind arith

-- ---- an answer
-- it begins and ends alike
begins_after : (n : ℕ) (e : Effect) (a : Answer) (s : Txs) (o : Option RunTx) → s.begun ≡ own_begin o → (txs_by n e s).begun ≡ own_begin (open_after n e a o)
begins_after n e a s o h = grind arith

-- what is one's own stays so
owns_after : (n : ℕ) (e : Effect) (a : Answer) (o : Option RunTx) → is_inherited o ≡ false → is_inherited (open_after n e a o) ≡ false
owns_after n e a o h = grind arith

-- and so does what was inherited
cause_keeps : (a : Answer) (x : TxId) → with_cause a (Some (Inherited x)) ≡ Some (Inherited x)
cause_keeps a x = grind arith

keeps_after : (n : ℕ) (e : Effect) (a : Answer) (x : TxId) → is_bound e ≡ false → open_after n e a (Some (Inherited x)) ≡ Some (Inherited x)
keeps_after n e a x h = grind arith

module _ (d : Deployment) (q : Instance) where
  abbrev after_one : List Answer → Answer → Option RunTx → Option RunTx
  after_one ts a o = open_after (length ts) (effect_after d q ts) a o

  begins_along : (given rest : List Answer) (s : Txs) (o : Option RunTx) → s.begun ≡ own_begin o → (along (λ ts a s. txs_by (length ts) (effect_after d q ts) s) given rest s).begun ≡ own_begin (along after_one given rest o)
  begins_along given [] s o h = h
  begins_along given (a ∷ rest) s o h = begins_along (given ++ a ∷ []) rest (txs_by (length given) (effect_after d q given) s) (after_one given a o) (begins_after (length given) (effect_after d q given) a s o h)

  -- the Begin that is open
  pub open_begun : (given : List Answer) → (txs_after d q given).begun ≡ own_begin (open_of d q given)
  open_begun given = begins_along [] given none_begun (inherited_tx q.enclosing) (sym (begun_in q.enclosing))

  -- an answer more
  pub open_pushed : (given : List Answer) (a : Answer) → open_of d q (given ++ a ∷ []) ≡ open_after (length given) (effect_after d q given) a (open_of d q given)
  open_pushed given a = along_pushed (λ ts b o. open_after (length ts) (effect_after d q ts) b o) [] given a (inherited_tx q.enclosing)

  -- ---- who was called in a transaction stays in it
  unbound : (x : TxId) → q.enclosing ≡ Some x → (given : List Answer) → is_bound (effect_after d q given) ≡ false
  unbound x in_it given = ap (λ w. is_bound (wants d q.func q.args (is_some w) given)) in_it ∙ no_bound d q.func q.args given

  keeps_along : (x : TxId) → q.enclosing ≡ Some x → (given rest : List Answer) (o : Option RunTx) → o ≡ Some (Inherited x) → along after_one given rest o ≡ Some (Inherited x)
  keeps_along x in_it given [] o is = is
  keeps_along x in_it given (a ∷ rest) o is = keeps_along x in_it (given ++ a ∷ []) rest (after_one given a o) (ap (after_one given a) is ∙ keeps_after (length given) (effect_after d q given) a x (unbound x in_it given))

  pub open_in : (x : TxId) (given : List Answer) → q.enclosing ≡ Some x → open_of d q given ≡ Some (Inherited x)
  open_in x given in_it = keeps_along x in_it [] given (inherited_tx q.enclosing) (ap inherited_tx in_it)

  -- who was called in none is in none but its own
  owns_along : (given rest : List Answer) (o : Option RunTx) → is_inherited o ≡ false → is_inherited (along after_one given rest o) ≡ false
  owns_along given [] o h = h
  owns_along given (a ∷ rest) o h = owns_along (given ++ a ∷ []) rest (after_one given a o) (owns_after (length given) (effect_after d q given) a o h)

  pub open_out : (given : List Answer) → q.enclosing ≡ None → is_inherited (open_of d q given) ≡ false
  open_out given out = owns_along [] given (inherited_tx q.enclosing) (ap (λ w. is_inherited (inherited_tx w)) out)

  -- so what it is in tells how it was called
  pub called_out : (given : List Answer) → is_inherited (open_of d q given) ≡ false → q.enclosing ≡ None
  called_out given own = none_by q.enclosing (λ x e. let clash = sym own ∙ ap is_inherited (open_in x given e) in cc)

  pub called_in : (x : TxId) (given : List Answer) → open_of d q given ≡ Some (Inherited x) → q.enclosing ≡ Some x
  called_in x given is = by_option q.enclosing (λ e. let clash = sym (open_out given e) ∙ ap is_inherited is in cc)
      (λ y e. let same : Some (Inherited y) ≡ Some (Inherited x) = sym (open_in y given e) ∙ is in e ∙ cc)

-- ---- the transaction of a step is the one that the run is in, but at a Begin
module _ (d : Deployment) (id : IntentId) (q : Instance) (given : List Answer) where
  tx_so : q.enclosing ≡ None → (o : Option RunTx) → open_of d q given ≡ o → tx_after d id q given ≡ tx_by id q.func (length given) (effect_after d q given) (own_begin o)
  tx_so out o is = ap (λ w. or_own w (tx_by id q.func (length given) (effect_after d q given) (txs_after d q given).begun)) out ∙ ap (tx_by id q.func (length given) (effect_after d q given)) (open_begun d q given ∙ ap own_begin is)

  tx_in : (x : TxId) → q.enclosing ≡ Some x → tx_after d id q given ≡ Some x
  tx_in x in_it = ap (λ w. or_own w (tx_by id q.func (length given) (effect_after d q given) (txs_after d q given).begun)) in_it

  pub tx_open : (o : RunTx) → open_of d q given ≡ Some o → is_begin (effect_after d q given) ≡ false → tx_after d id q given ≡ Some (tx_of id q.func o)
  tx_open (Own o) is apart = tx_so (called_out d q given (ap is_inherited is)) (Some (Own o)) is ∙ grind (arith, apart)
  tx_open (Inherited x) is apart = tx_in x (called_in d q x given is)

  pub open_tx : (t : TxId) → tx_after d id q given ≡ Some t → is_begin (effect_after d q given) ≡ false → (o : RunTx) × (open_of d q given ≡ Some o) × (t ≡ tx_of id q.func o)
  open_tx t is apart = by_open (open_of d q given) refl
    where
      by_none : (e : Effect) → is_begin e ≡ false → tx_by id q.func (length given) e None ≡ Some t → ⊥
      by_none e h k = grind arith

      by_open : (o : Option RunTx) → open_of d q given ≡ o → (o : RunTx) × (open_of d q given ≡ Some o) × (t ≡ tx_of id q.func o)
      by_open None e = absurd (by_none (effect_after d q given) apart (sym (tx_so (called_out d q given (ap is_inherited e)) None e) ∙ is))
      by_open (Some o) e = let same : Some t ≡ Some (tx_of id q.func o) = sym is ∙ tx_open o e apart in (o, e, cc)

  -- in none, it is in none
  pub open_none : tx_after d id q given ≡ None → open_of d q given ≡ None
  open_none is = by_option q.enclosing
      (λ out. none_by (open_of d q given) (λ o e. (grind (arith, ap is_inherited (sym e) ∙ open_out d q given out, sym (tx_so out (Some o) e) ∙ is))))
      (λ x in_it. let clash = sym is ∙ tx_in x in_it in cc)
