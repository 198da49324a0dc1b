-- Past the end of a transaction it owns nothing: so it is of each number of steps that a run comes to.
use Rattle.beldi_invariant.proofs.Names.{Answer, Bool, ByTx, Deployment, Effect, Inherited, Instance, IntentId, Item, Histories, List, Matches, None, OpenTx, Option, Own, Prefix, Released, Rows, RunTx, WellFormedHistories, Some, TxId, [], and_local, local_answer, ap, append_assoc, arith, content_of, effect_after, ended_by, eq-eqb, eqb-true, false, got_begun, length, length-append, open_of, own_tx, refl, run_on, run_local, same_some, sym, take, take_front, true, txs_after, ℕ, ◌++◌, ◌==◌, ◌∙◌, ◌∷◌, ◌≡◌}
use Rattle.beldi_invariant.proofs.{Ended.EndedAt, Ended.ended_at, OpenOf.own_begin, OpenOf.open_begun}
use Rattle.beldi_invariant.proofs.Names.map

-- ---- a run's own transactions
module _ (d : Deployment) (n : Rows) (histories : Histories) (lock_ahead : IntentId → Bool) (rows : Matches d n histories lock_ahead) (well_formed : WellFormedHistories d histories) (id : IntentId) (q : Instance) (made : map.get histories id ≡ Some q) where
  -- who owns an item has the function of its instance
  owner_func : (t : TxId) (x : Item) → (content_of n x).owner ≡ Some (ByTx t) → t.intent ≡ id → t.func ≡ q.func
  owner_func t x owned mine = let k = got_begun d histories well_formed lock_ahead t x ((rows.txs x).owned_is_got t owned) in
      k.func_is ∙ ap (λ (y : Instance). y.func) (same_some (sym k.made ∙ ap (map.get histories) mine ∙ made))

  -- an answer more: where it ended a transaction, that owns nothing
  pub released_next : (given : List Answer) (a : Answer) → Prefix (given ++ a ∷ []) q → Released d n histories id (length given)
      → ((o : OpenTx) (commit : Bool) (x : Item) → open_of d q given ≡ Some (Own o) → effect_after d q given ≡ Effect.End commit → (content_of n x).owner ≡ Some (ByTx (own_tx id q.func o)) → ⊥) → Released d n histories id (length (given ++ a ∷ []))
  released_next given a prefix before freed t z mine ended less x owned = by_step (z.0 == length given) refl
    where
      at : EndedAt d q q.answers t.begin z
      at = ended_at d q t.begin z (sym (ap (λ j. ended_by d t.begin (map.get histories j)) mine ∙ ap (ended_by d t.begin) made) ∙ ended)

      front : take (length given) q.answers ≡ given
      front = ap (take (length given)) (sym prefix.all ∙ append_assoc given (a ∷ []) prefix.later) ∙ take_front given (a ∷ prefix.later)

      by_open : (o : Option RunTx) → open_of d q given ≡ o → own_begin o ≡ Some t.begin → effect_after d q given ≡ Effect.End z.1 → ⊥
      by_open None e begin ends = cc
      by_open (Some (Inherited y)) e begin ends = cc
      by_open (Some (Own o)) e begin ends = freed o z.1 x e ends (owned ∙ λ i. Some (ByTx (record { intent = mine i; begin = sym (same_some begin) i; func = owner_func t x owned mine i })))

      by_step : (b : Bool) → (z.0 == length given) ≡ b → ⊥
      by_step true e =
          let here : take z.0 q.answers ≡ given = ap (λ k. take k q.answers) (eqb-true z.0 (length given) e) ∙ front in
          by_open (open_of d q given) refl (sym (open_begun d q given) ∙ ap (λ ts. (txs_after d q ts).begun) (sym here) ∙ at.begun) (ap (effect_after d q) (sym here) ∙ at.ends)
      by_step false e =
          let l = length-append given (a ∷ []) in
          let apart : z.0 ≡ length given → ⊥ = λ same. let clash = sym e ∙ eq-eqb z.0 (length given) same in cc in
          before t z mine ended (omega (arith, l, less, apart)) x owned

  -- what takes no turn is no End
  pub released_on : (given : List Answer) → Prefix (run_on d id q given) q → Released d n histories id (length given) → Released d n histories id (length (run_on d id q given))
  released_on given prefix before = past (run_local d id q given) (once (run_local d id q given)) prefix (past given (once given) (front (run_local d id q given) (once (run_local d id q given)) prefix) before refl) refl
    where
      once : List Answer → Option Answer
      once ts = local_answer id (length ts) (effect_after d q ts)

      front : (ts : List Answer) (o : Option Answer) → Prefix (and_local ts o) q → Prefix ts q
      front ts None p = p
      front ts (Some a) p = record { later = a ∷ p.later; all = sym (append_assoc ts (a ∷ []) p.later) ∙ p.all }

      no_end : (k : ℕ) (e : Effect) (a : Answer) (c : Bool) → local_answer id k e ≡ Some a → e ≡ Effect.End c → ⊥
      no_end k e a c at ends = let clash = sym (ap (local_answer id k) ends) ∙ at in cc

      past : (ts : List Answer) (o : Option Answer) → Prefix (and_local ts o) q → Released d n histories id (length ts) → local_answer id (length ts) (effect_after d q ts) ≡ o → Released d n histories id (length (and_local ts o))
      past ts None p h is = h
      past ts (Some a) p h is = released_next ts a p h (λ o c x open_there ends owned. no_end (length ts) (effect_after d q ts) a c is ends)
