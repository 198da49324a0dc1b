-- Who called an instance; and what holds of all that were called in a transaction, by who called them.
use Rattle.beldi_histories.proofs.Names.{Bool, CalledBy, Deployment, Instance, IntentId, IsBelow, IsCalled, Histories, None, Option, WellFormedHistories, Some, TxId, Waited, [], answer_given, answer_of, ap, append_assoc, arith, call_of, child_of, effect_before, false, fits_at, inl, inr, is_begin, last_hop, length, length-take-le, longer, option_map, or_own, refl, root_of, slice_get, subst, suc, sym, take, true, tx_at, tx_by, txs_after, waited_by, enclosing_by, zero, ℕ, ◌++◌, ◌<◌, ◌∙◌, ◌∷◌, ◌≡◌, ◌≤◌, ◌⊎◌, Effect}
use Rattle.beldi_histories.proofs.{OwnTx.Own, OwnTx.own_by, Cases.by_option}
use Rattle.beldi_histories.proofs.Names.map

-- who is known by an id of a callee was called there
pub called_in : (d : Deployment) (histories : Histories) → WellFormedHistories d histories → (id : IntentId) (n : ℕ) (j : Instance) → map.get histories (child_of id n) ≡ Some j → (q : Instance) × (map.get histories id ≡ Some q) × IsCalled d id q n j
called_in d histories well_formed id n j at = by_option (map.get histories id) (λ e. absurd (subst (λ o. CalledBy d id o n j) e (well_formed.called id n j at))) (λ q e. (q, e, subst (λ o. CalledBy d id o n j) e (well_formed.called id n j at)))

-- an instance was called, by this one
pub record WasCalled (d : Deployment) (histories : Histories) (i : IntentId) (z : Instance) : Type 0 where
  pub caller : IntentId
  pub step : ℕ
  pub is : i ≡ child_of caller step
  pub waiter : Instance
  pub made : map.get histories caller ≡ Some waiter
  pub called : IsCalled d caller waiter step z

-- who is known is a root, or was called
pub root_or_called : (d : Deployment) (histories : Histories) → WellFormedHistories d histories → (i : IntentId) (z : Instance) → map.get histories i ≡ Some z → (i ≡ root_of i.ticket) ⊎ WasCalled d histories i z
root_or_called d histories well_formed i z is = elim (last_hop i.hops) [
  | inl e ↦ inl (λ k. record { ticket = i.ticket; hops = e k })
  | inr r ↦
      let c : IntentId = record { ticket = i.ticket; hops = r.0 } in
      let same : i ≡ child_of c r.1 = λ k. record { ticket = i.ticket; hops = r.2 k } in
      let at = called_in d histories well_formed c r.1 z (ap (map.get histories) (sym same) ∙ is) in
      inr (record { caller = c; step = r.1; is = same; waiter = at.0; made = at.1; called = at.2 })
]

-- who called an instance, in a transaction
pub record CallerOf (d : Deployment) (histories : Histories) (s : TxId) (i : IntentId) (z : Instance) : Type 0 where
  pub caller : IntentId
  pub step : ℕ
  pub is : i ≡ child_of caller step
  pub there : map.get histories i ≡ Some z
  pub waiter : Instance
  pub made : map.get histories caller ≡ Some waiter
  pub here : step ≤ length waiter.answers
  pub call : effect_before d waiter step ≡ Effect.Call z.func z.args
  pub enclosing : tx_at d caller waiter step ≡ Some s
  pub answered : slice_get waiter.answers step ≡ option_map answer_of z.outcome
  pub parent : z.parent ≡ Some (record { place = record { intent = caller; step = step }; func = waiter.func; waits = true })

module _ (d : Deployment) (histories : Histories) (well_formed : WellFormedHistories d histories) (s : TxId) (i : IntentId) (z : Instance) (is : map.get histories i ≡ Some z) (within : z.enclosing ≡ Some s) where
  by_waits : (c : WasCalled d histories i z) (b : Bool) → c.called.waits ≡ b → CallerOf d histories s i z
  by_waits c false so = let clash = sym within ∙ c.called.enclosing ∙ ap (λ b. enclosing_by b (tx_at d c.caller c.waiter c.step)) so in cc
  by_waits c true so = record {
    caller = c.caller;
    step = c.step;
    is = c.is;
    there = is;
    waiter = c.waiter;
    made = c.made;
    here = c.called.here;
    call = c.called.call ∙ ap (λ b. call_of b z.func z.args) so;
    enclosing = sym (c.called.enclosing ∙ ap (λ b. enclosing_by b (tx_at d c.caller c.waiter c.step)) so) ∙ within;
    answered = c.called.answered ∙ ap (λ b. answer_given b z.outcome) so;
    parent = c.called.parent ∙ ap (λ b. Some (record { place = record { intent = c.caller; step = c.step }; func = c.waiter.func; waits = b })) so;
  }

  pub caller_in : CallerOf d histories s i z
  caller_in = elim (root_or_called d histories well_formed i z is) [
    | inl root ↦ let clash = sym (well_formed.roots i.ticket z (ap (map.get histories) (sym root) ∙ is)).1 ∙ within in cc
    | inr c ↦ by_waits c c.called.waits refl
  ]

-- what is called by who is below the owner is below it
pub below_child : (t : TxId) (i : IntentId) (n : ℕ) → IsBelow t i → IsBelow t (child_of i n)
below_child t i n b = record {
  step = b.step;
  later = b.later;
  hops = b.hops ++ n ∷ [];
  is = ap (λ z. child_of z n) b.is ∙ ap (λ hs. record { ticket = t.intent.ticket; hops = hs }) (append_assoc t.intent.hops (b.step ∷ b.hops) (n ∷ []));
}

module _ (d : Deployment) (histories : Histories) (well_formed : WellFormedHistories d histories) (s : TxId) where
  -- it waits for one that has no outcome
  abbrev pub waits_for : (i : IntentId) (z : Instance) → CallerOf d histories s i z → z.enclosing ≡ Some s → z.outcome ≡ None → Waited d histories i z
  waits_for i z c within none = waited_by d histories i z c.caller c.step c.waiter c.is c.made (record { waits = true; here = c.here; call = c.call; parent = c.parent; enclosing = within ∙ sym c.enclosing; answered = c.answered }) refl none
      (well_formed.each c.caller c.waiter c.made).over

  -- what is so of all that its owner called, and of all that one called of which it is so, is so of all that were called in it
  module _ (P : IntentId → Instance → Type 0)
      (first : (i : IntentId) (z : Instance) → z.enclosing ≡ Some s → (c : CallerOf d histories s i z) → c.waiter.enclosing ≡ None → Own c.caller c.waiter.func (txs_after d c.waiter (take c.step c.waiter.answers)).begun s → P i z)
      (later : (i : IntentId) (z : Instance) → z.enclosing ≡ Some s → (c : CallerOf d histories s i z) → c.waiter.enclosing ≡ Some s → P c.caller c.waiter → P i z) where
    by_call : (i : IntentId) (z : Instance) → z.enclosing ≡ Some s → (c : CallerOf d histories s i z) → (c.waiter.enclosing ≡ Some s → P c.caller c.waiter) → P i z
    by_call i z inner c up = by_option c.waiter.enclosing
        (λ e. first i z inner c e (own_by c.caller c.waiter.func (length (take c.step c.waiter.answers)) (effect_before d c.waiter c.step) (txs_after d c.waiter (take c.step c.waiter.answers)).begun s (ap is_begin c.call) (in_it None e)))
        (λ x e. let on = e ∙ in_it (Some x) e in later i z inner c on (up on))
      where
        in_it : (x : Option TxId) → c.waiter.enclosing ≡ x → or_own x (tx_by c.caller c.waiter.func (length (take c.step c.waiter.answers)) (effect_before d c.waiter c.step) (txs_after d c.waiter (take c.step c.waiter.answers)).begun) ≡ Some s
        in_it x e = sym (ap (λ w. or_own w (tx_by c.caller c.waiter.func (length (take c.step c.waiter.answers)) (effect_before d c.waiter c.step) (txs_after d c.waiter (take c.step c.waiter.answers)).begun)) e) ∙ c.enclosing

    by_hops : (n : ℕ) (i : IntentId) (z : Instance) → length i.hops < n → map.get histories i ≡ Some z → z.enclosing ≡ Some s → P i z
    by_hops zero i z few is inner = absurd (omega (arith, few))
    by_hops (suc n) i z few is inner =
        let c = caller_in d histories well_formed s i z is inner in
        by_call i z inner c (by_hops n c.caller c.waiter (let m = longer c.caller c.step in let k = ap (λ (y : IntentId). length y.hops) c.is in omega (arith, few, m, k)) c.made)

    pub all_called : (i : IntentId) (z : Instance) → map.get histories i ≡ Some z → z.enclosing ≡ Some s → P i z
    all_called i z = by_hops (suc (length i.hops)) i z (omega arith)

-- its Begin is before the step of such a call
pub begun_before : (d : Deployment) (histories : Histories) (s : TxId) (i : IntentId) (z : Instance) (c : CallerOf d histories s i z) → Own c.caller c.waiter.func (txs_after d c.waiter (take c.step c.waiter.answers)).begun s → s.begin < c.step
begun_before d histories s i z c o = let k = (fits_at d c.waiter (take c.step c.waiter.answers)).before s.begin o.begun in let l = length-take-le c.step c.waiter.answers c.here in omega (arith, k, l)

-- who was called in a transaction is below its owner
pub called_below : (d : Deployment) (histories : Histories) → WellFormedHistories d histories → (s : TxId) (i : IntentId) (z : Instance) → map.get histories i ≡ Some z → z.enclosing ≡ Some s → IsBelow s i
called_below d histories well_formed s = all_called d histories well_formed s (λ i z. IsBelow s i)
    (λ i z inner c outside o. record { step = c.step; later = begun_before d histories s i z c o; hops = []; is = c.is ∙ ap (λ y. child_of y c.step) (sym o.intent) })
    (λ i z inner c up b. subst (IsBelow s) (sym c.is) (below_child s c.caller c.step b))
