-- What a run is in is the transaction of its step, but at a Begin.
use Rattle.std.proofs.Common.{List, None, Option, Some, [], ap, arith, false, is_some, length, refl, sym, true, ℕ, ◌++◌, ◌∙◌, ◌∷◌, ◌≡◌}
use Rattle.beldi_value.specs.declared.{id.IntentId.IntentId, place.TxId.TxId}
use Rattle.beldi_tree.specs.declared.deployment.Deployment.{Deployment}
use Rattle.beldi_lang.{proofs.Bounds.no_bound, specs.Bounds.is_bound, specs.Wants.wants, specs.declared.effect.Answer.Answer, specs.declared.effect.Effect.Effect}
use Rattle.beldi_plain.specs.Plain.{Instance}
use Rattle.beldi_plain_laws.specs.Txs.{Txs, along, effect_after, none_begun, or_own, tx_after, tx_by, txs_after, txs_by}
use Rattle.beldi_step.specs.{Run.is_inherited, Run.open_after, Run.tx_at, Run.inherited_tx, declared.run.OpenTx.OpenTx, declared.run.RunTx.RunTx, declared.run.RunTx.TheVariants.Inherited, declared.run.RunTx.TheVariants.Own}
use Rattle.beldi_histories.specs.Extends.{is_begin}
use Rattle.beldi_invariant.specs.Invariant.{open_of}

-- the Begin of one's own that is open
abbrev pub own_begin : Option RunTx → Option ℕ
own_begin (Some (Own o)) = Some o.begin
own_begin o = None

-- who was called in a transaction is in it, and anybody else in its own one, if any
abbrev pub Agrees : Option TxId → Option ℕ → Option RunTx → Type 0
Agrees None b o = (b ≡ own_begin o) × (is_inherited o ≡ false)
Agrees (Some x) b o = o ≡ Some (Inherited x)

agrees_first : (w : Option TxId) → Agrees w None (inherited_tx w)
agrees_first None = (refl, refl)
agrees_first (Some x) = refl

own_next : (n : ℕ) (e : Effect) (a : Answer) (s : Txs) (o : Option RunTx) → s.begun ≡ own_begin o → (txs_by n e s).begun ≡ own_begin (open_after n e a o)
own_next n e a s o h = grind arith

own_stays : (n : ℕ) (e : Effect) (a : Answer) (o : Option RunTx) → is_inherited o ≡ false → is_inherited (open_after n e a o) ≡ false
own_stays n e a o h = grind arith

called_stays : (n : ℕ) (e : Effect) (a : Answer) (x : TxId) → is_bound e ≡ false → open_after n e a (Some (Inherited x)) ≡ Some (Inherited x)
called_stays n e a x h = grind arith

agrees_next : (n : ℕ) (e : Effect) (a : Answer) (w : Option TxId) (s : Txs) (o : Option RunTx) → (is_some w ≡ true → is_bound e ≡ false) → Agrees w s.begun o → Agrees w (txs_by n e s).begun (open_after n e a o)
agrees_next n e a None s o free h = (own_next n e a s o h.0, own_stays n e a o h.1)
agrees_next n e a (Some x) s o free h = ap (open_after n e a) h ∙ called_stays n e a x (free refl)

module _ (d : Deployment) (q : Instance) where
  free : (given : List Answer) → is_some q.enclosing ≡ true → is_bound (effect_after d q given) ≡ false
  free given inner = ap (λ b. is_bound (wants d q.func q.args b given)) inner ∙ no_bound d q.func q.args given

  agrees_along : (given rest : List Answer) (s : Txs) (o : Option RunTx) → Agrees q.enclosing s.begun o
      → Agrees q.enclosing (along (λ ts a s. txs_by (length ts) (effect_after d q ts) s) given rest s).begun (along (λ ts a o. open_after (length ts) (effect_after d q ts) a o) given rest o)
  agrees_along given [] s o h = h
  agrees_along given (a ∷ rest) s o h = agrees_along (given ++ a ∷ []) rest (txs_by (length given) (effect_after d q given) s) (open_after (length given) (effect_after d q given) a o) (agrees_next (length given) (effect_after d q given) a q.enclosing s o (free given) h)

  pub agrees : (given : List Answer) → Agrees q.enclosing (txs_after d q given).begun (open_of d q given)
  agrees given = agrees_along [] given none_begun (inherited_tx q.enclosing) (agrees_first q.enclosing)

by_own : (id : IntentId) (func n : ℕ) (e : Effect) (b : Option ℕ) (o : Option RunTx) → is_begin e ≡ false → b ≡ own_begin o → is_inherited o ≡ false → tx_by id func n e b ≡ tx_at id func o
by_own id func n e b o apart same own = grind arith

by_within : (id : IntentId) (func n : ℕ) (e : Effect) (w : Option TxId) (b : Option ℕ) (o : Option RunTx) → is_begin e ≡ false → Agrees w b o → or_own w (tx_by id func n e b) ≡ tx_at id func o
by_within id func n e None b o apart h = by_own id func n e b o apart h.0 h.1
by_within id func n e (Some x) b o apart h = sym (ap (tx_at id func) h)

pub tx_open : (d : Deployment) (id : IntentId) (q : Instance) (given : List Answer) → is_begin (effect_after d q given) ≡ false → tx_after d id q given ≡ tx_at id q.func (open_of d q given)
tx_open d id q given apart = by_within id q.func (length given) (effect_after d q given) q.enclosing (txs_after d q given).begun (open_of d q given) apart (agrees d q given)

pub begun_own : (w : Option TxId) (b : Option ℕ) (o : Option RunTx) (x : OpenTx) → Agrees w b o → o ≡ Some (Own x) → b ≡ Some x.begin
begun_own None b o x h is = h.0 ∙ ap own_begin is
begun_own (Some t) b o x h is = let clash : Some (Inherited t) ≡ Some (Own x) = sym h ∙ is in cc
