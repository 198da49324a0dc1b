-- Along the calls that lead to an instance no function comes twice: so its id has fewer hops than there are functions. And who was
-- called in a transaction is of a function that the first block of one leads to.
use Rattle.std.specs.List.{AllByRecursion, IsDistinct, list_any}
use Rattle.std.proofs.Common.{Bool, List, None, Some, [], ap, arith, eqb-true, false, inl, inr, is_some, length, length-append, refl, subst, suc, sym, take, true, zero, ℕ, ◌<◌, ◌==◌, ◌||◌, ◌∙◌, ◌∷◌, ◌≡◌}
use Rattle.std.proofs.lemmas.{Bool.false_from_ne_true, Bool.lt-ltb, Bool.or_cases, Bool.or_parts, Map.Steps.length-le_from_distinct_below}
use Rattle.std.specs.FinMap as map
use Rattle.beldi_value.specs.{Id.has_callees, declared.id.IntentId.IntentId, declared.place.TxId.TxId, declared.value.Value.Value}
use Rattle.beldi_tree.specs.declared.deployment.Deployment.{Deployment}
use Rattle.beldi_lang.specs.{Wants.is_inside, declared.effect.Answer.Answer}
use Rattle.beldi_check.specs.{CallGraph.blocks, CallGraph.edge, CallGraph.reaches, Keeps.KeepsRules, declared.calls.Link.TheVariants.Call, declared.calls.Link.TheVariants.Start}
use Rattle.beldi_plain.specs.Plain.{Instance, effect_before}
use Rattle.beldi_plain_laws.proofs.CallStack.{longer}
use Rattle.beldi_plain_laws.specs.{WellFormedState.call_of, Txs.effect_after, Txs.txs_after}
use Rattle.beldi_histories.specs.{Histories.Histories, WellFormedHistories.WellFormedHistories}
use Rattle.beldi_histories.proofs.{Callers.CallerOf, Callers.WasCalled, Callers.all_called, Callers.root_or_called, OwnTx.Own, Phases.tx_is}
use Rattle.beldi_upkeep.specs.Checked.{has_func}
use Rattle.beldi_upkeep.proofs.{Edges.Edge, Edges.edge_of, Edges.is_call, Edges.reach_more, Edges.reach_one, Functions.calls}

module _ (d : Deployment) (rules : KeepsRules d.funcs) where
  -- functions that lead to this one, each once
  record Before (at : ℕ) (xs : List ℕ) : Type 0 where
    distinct : IsDistinct ◌==◌ xs
    each : (a : ℕ) → list_any (λ b. a == b) xs ≡ true → (a < length d.funcs) × (reaches Start d.funcs a at ≡ true)

  all_apart : (at : ℕ) (xs : List ℕ) → list_any (λ b. at == b) xs ≡ false → AllByRecursion (λ b. (at == b) ≡ false) xs
  all_apart at [] none = tt
  all_apart at (x ∷ xs) none = let k = or_parts (at == x) (list_any (λ b. at == b) xs) none in (k.0, all_apart at xs k.1)

  -- .. and so do it and they to what it calls
  more : (at to : ℕ) (xs : List ℕ) → at < length d.funcs → reaches Start d.funcs at to ≡ true → ((a : ℕ) → reaches Start d.funcs a at ≡ true → reaches Start d.funcs a to ≡ true) → Before at xs → Before to (at ∷ xs)
  unfolding IsDistinct
  more at to xs there one further h = record {
    distinct = (all_apart at xs (false_from_ne_true (list_any (λ b. at == b) xs) (λ e. let clash = sym (rules.acyclic at there) ∙ (h.each at e).1 in cc)), h.distinct);
    each = λ a e. elim (or_cases (a == at) (list_any (λ b. a == b) xs) e) [
      | inl same ↦ subst (λ z. (z < length d.funcs) × (reaches Start d.funcs z to ≡ true)) (sym (eqb-true a at same)) (there, one)
      | inr other ↦ let k = h.each a other in (k.0, further a k.1)
    ];
  }

  -- ---- the functions of who called an instance, one after another
  record Chain (id : IntentId) (q : Instance) : Type 0 where
    at : ℕ
    func : q.func ≡ suc at
    callers : List ℕ
    long : length callers ≡ length id.hops
    before : Before at callers

  numbered : (f : ℕ) → has_func d f ≡ true → (n : ℕ) × (f ≡ suc n)
  numbered zero h = cc
  numbered (suc n) h = (n, refl)

  effect_calls : (w : Bool) (f : ℕ) (a : Value) → calls (call_of w f a) ≡ Some f
  effect_calls true f a = refl
  effect_calls false f a = refl

  module _ (histories : Histories) (well_formed : WellFormedHistories d histories) (there : (id : IntentId) (q : Instance) → map.get histories id ≡ Some q → has_func d q.func ≡ true) where
    same_at : (x y : ℕ) → suc x ≡ suc y → x ≡ y
    same_at x y e = omega (arith, e)

    chained : (n : ℕ) (id : IntentId) (q : Instance) → length id.hops < n → map.get histories id ≡ Some q → Chain id q
    unfolding IsDistinct
    chained zero id q few made = absurd (omega (arith, few))
    chained (suc n) id q few made = elim (root_or_called d histories well_formed id q made) [
      | inl root ↦ let f = numbered q.func (there id q made) in record {
        at = f.0;
        func = f.1;
        callers = [];
        long = ap (λ (z : IntentId). length z.hops) (sym root);
        before = record { distinct = tt; each = λ a e. cc };
      }
      | inr c ↦ by_caller c (chained n c.caller c.waiter (let m = longer c.caller c.step in let k = ap (λ (z : IntentId). length z.hops) c.is in omega (arith, few, m, k)) c.made)
    ]
      where
        by_caller : (c : WasCalled d histories id q) → Chain c.caller c.waiter → Chain id q
        by_caller c h =
            let e = edge_of d rules c.waiter.func c.waiter.args (is_some c.waiter.enclosing) (take c.step c.waiter.answers) q.func (ap calls c.called.call ∙ effect_calls c.called.waits q.func q.args) in
            let same : e.from ≡ h.at = same_at e.from h.at (sym e.caller ∙ h.func) in
            let step = subst (λ z. edge Start d.funcs z e.to ≡ true) same e.starts in
            record {
              at = e.to;
              func = e.callee;
              callers = h.at ∷ h.callers;
              long = let l = h.long in let m = length-append c.caller.hops (c.step ∷ []) in let k = ap (λ (z : IntentId). length z.hops) c.is in omega (arith, l, m, k);
              before = more h.at e.to h.callers (subst (λ z. z < length d.funcs) same e.from_there) (reach_one Start d.funcs h.at e.to step) (λ a r. reach_more Start d.funcs a h.at e.to r step) h.before;
            }

    -- who calls may: its id has fewer than 63 hops
    pub may_call : (id : IntentId) (q : Instance) → map.get histories id ≡ Some q → (given : List Answer) (g : ℕ) → calls (effect_after d q given) ≡ Some g → has_callees id ≡ true
    unfolding IsDistinct
    may_call id q made given g is =
        let h = chained (suc (length id.hops)) id q (omega arith) made in
        let e = edge_of d rules q.func q.args (is_some q.enclosing) given g is in
        let same : e.from ≡ h.at = same_at e.from h.at (sym e.caller ∙ h.func) in
        let step = subst (λ z. edge Start d.funcs z e.to ≡ true) same e.starts in
        let on = more h.at e.to h.callers (subst (λ z. z < length d.funcs) same e.from_there) (reach_one Start d.funcs h.at e.to step) (λ a r. reach_more Start d.funcs a h.at e.to r step) h.before in
        -- the callee is one more
        let apart = all_apart e.to (h.at ∷ h.callers) (false_from_ne_true (list_any (λ b. e.to == b) (h.at ∷ h.callers)) (λ z. let clash = sym (rules.acyclic e.to e.to_there) ∙ (on.each e.to z).1 in cc)) in
        let last = length-le_from_distinct_below (e.to ∷ h.at ∷ h.callers) (length d.funcs) (apart, on.distinct)
        (λ a z. elim (or_cases (a == e.to) (list_any (λ b. a == b) (h.at ∷ h.callers)) z) [ inl here ↦ subst (λ y. y < length d.funcs) (sym (eqb-true a e.to here)) e.to_there | inr other ↦ (on.each a other).0 ]) in
        let few = rules.few in
        let l = h.long in
        lt-ltb (length id.hops) 63 (omega (arith, last, few, l))

    -- ---- in transactions
    -- who was called in one is of a function that the first block of one leads to
    pub called_within : (s : TxId) (id : IntentId) (q : Instance) → map.get histories id ≡ Some q → q.enclosing ≡ Some s → (n : ℕ) → q.func ≡ suc n → reaches Call d.funcs (blocks d.funcs) n ≡ true
    called_within s = all_called d histories well_formed s (λ i z. (n : ℕ) → z.func ≡ suc n → reaches Call d.funcs (blocks d.funcs) n ≡ true) first later
      where
        edge_at : (i : IntentId) (z : Instance) (c : CallerOf d histories s i z) → Edge d (is_some c.waiter.enclosing) (is_inside d c.waiter.func c.waiter.args (is_some c.waiter.enclosing) (take c.step c.waiter.answers)) (effect_before d c.waiter c.step) c.waiter.func z.func
        edge_at i z c = edge_of d rules c.waiter.func c.waiter.args (is_some c.waiter.enclosing) (take c.step c.waiter.answers) z.func (ap calls c.call)

        called : (i : IntentId) (z : Instance) (c : CallerOf d histories s i z) → is_call (effect_before d c.waiter c.step) ≡ true
        called i z c = ap is_call c.call

        inside : (i : IntentId) (z : Instance) (c : CallerOf d histories s i z) → is_inside d c.waiter.func c.waiter.args (is_some c.waiter.enclosing) (take c.step c.waiter.answers) ≡ true
        inside i z c = sym (tx_is d c.waiter c.caller (take c.step c.waiter.answers) (λ begin. let clash = sym c.call ∙ begin in cc)) ∙ ap is_some c.enclosing

        first : (i : IntentId) (z : Instance) → z.enclosing ≡ Some s → (c : CallerOf d histories s i z) → c.waiter.enclosing ≡ None → Own c.caller c.waiter.func (txs_after d c.waiter (take c.step c.waiter.answers)).begun s → (n : ℕ) → z.func ≡ suc n → reaches Call d.funcs (blocks d.funcs) n ≡ true
        first i z inner c out own n is =
            let e = edge_at i z c in
            let same : e.to ≡ n = same_at e.to n (sym e.callee ∙ is) in
            let block : e.in_block ≡ true = ap (λ w. is_some w || e.in_block) (sym out) ∙ sym e.inner ∙ inside i z c in
            subst (λ y. reaches Call d.funcs (blocks d.funcs) y ≡ true) same (reach_one Call d.funcs (blocks d.funcs) e.to (e.enclosing (called i z c) block))

        later : (i : IntentId) (z : Instance) → z.enclosing ≡ Some s → (c : CallerOf d histories s i z) → c.waiter.enclosing ≡ Some s → ((n : ℕ) → c.waiter.func ≡ suc n → reaches Call d.funcs (blocks d.funcs) n ≡ true) → (n : ℕ) → z.func ≡ suc n → reaches Call d.funcs (blocks d.funcs) n ≡ true
        later i z inner c on up n is =
            let e = edge_at i z c in
            let same : e.to ≡ n = same_at e.to n (sym e.callee ∙ is) in
            subst (λ y. reaches Call d.funcs (blocks d.funcs) y ≡ true) same (reach_more Call d.funcs (blocks d.funcs) e.from e.to (up e.from e.caller) (e.goes (called i z c)))
