-- Every state of a run is well formed, also while a transaction goes on: what one answer, one call and one return keep.
use Rattle.beldi_plain_laws.proofs.Names.{Answer, Bool, Caller, Deployment, Effect, FinMap, Instance, IntentId, IsAnswer, IsCalled, IsCommitted, None, Option, Outcome, Place, Some, TxId, Txs, Value, WentSo, [], answer_given, answer_of, answered, ap, arith, call_of, callee_of, calls_at, child_of, child_same, effect_before, effect_of, end_of, ended, false, id_cmp, if◌then◌else◌, inl, inr, is_owner, length, length-append, option_map, or_own, refl, root_of, subst, suc, sym, true, tx_at, tx_by, tx_now, txs_after, txs_by, enclosing_by, zero, ℕ, ◌<◌, ◌∙◌, ◌∷◌, ◌≡◌, ◌⊎◌}
use Rattle.beldi_plain_laws.proofs.Called.{Linked, Links, IsAlone, last_hop, not_root, not_own, next_step, effect_now, tx_here_now, made_in, caller_new, caller_answered, caller_ended, callee_answered, callee_over, callee_new, callee_ended, pairs_set, both_set}
use Rattle.beldi_plain_laws.proofs.{Ends.ends_go_on, Went.txs_pushed, Went.went_pushed, Maps.same_some, Maps.made_set, Maps.still_made, Maps.elsewhere, Maps.equal, Maps.none_by}
use Rattle.beldi_plain_laws.proofs.Names.map

-- ---- Begins and Ends
abbrev pub is_edge : Effect → Bool
is_edge Effect.Begin = true
is_edge (Effect.End c) = true
is_edge e = false

no_edge : (e : Effect) (n : ℕ) (s : Txs) → is_edge e ≡ false → txs_by n e s ≡ s
no_edge Effect.Begin n s h = cc
no_edge (Effect.End c) n s h = cc
no_edge e n s h = refl

-- the transaction that an effect stands in, by the Begin that is open
pub tx_is : (id : IntentId) (func n : ℕ) (e : Effect) (o : Option ℕ) → is_edge e ≡ false → tx_by id func n e o ≡ option_map (λ b. record { intent = id; begin = b; func = func }) o
tx_is id func n Effect.Begin o h = cc
tx_is id func n e None h = refl
tx_is id func n e (Some b) h = refl

pub begun_pushed : (d : Deployment) (q : Instance) (a : Answer) → is_edge (effect_of d q) ≡ false → (txs_after d q (answered q a).answers).begun ≡ (txs_after d q q.answers).begun
begun_pushed d q a edge = ap (λ (s : Txs). s.begun) (txs_pushed d q q.answers a ∙ no_edge (effect_of d q) (length q.answers) (txs_after d q q.answers) edge)

-- ---- one instance, where at most this transaction is open
abbrev pub open_of : Option TxId → IntentId → Option ℕ
open_of None i = None
open_of (Some t) i = if is_owner t i then Some t.begin else None

pub record WellFormedIn (d : Deployment) (o : Option TxId) (id : IntentId) (q : Instance) : Type 0 where
  pub past : WentSo d id q
  pub over : (u : Outcome) → q.outcome ≡ Some u → effect_of d q ≡ Effect.Return u
  pub begun : (txs_after d q q.answers).begun ≡ open_of o id

abbrev pub WellFormedInAt : Deployment → Option TxId → IntentId → Option Instance → Type 0
WellFormedInAt d o id None = Unit {0}
WellFormedInAt d o id (Some q) = WellFormedIn d o id q

abbrev pub Roots : FinMap id_cmp Instance → Type 0
Roots f = (t : ℕ) (q : Instance) → map.get f (root_of t) ≡ Some q → (q.parent ≡ None) × (q.enclosing ≡ None)

-- what was called in a transaction was called in this one, or in one that committed
abbrev pub WithinGood : Deployment → Option TxId → FinMap id_cmp Instance → Type 0
WithinGood d o f = (i : IntentId) (q : Instance) (u : TxId) → map.get f i ≡ Some q → q.enclosing ≡ Some u → (o ≡ Some u) ⊎ IsCommitted d f u

pub record WellFormedWith (d : Deployment) (o : Option TxId) (f : FinMap id_cmp Instance) : Type 0 where
  pub each : (id : IntentId) → WellFormedInAt d o id (map.get f id)
  pub links : Links d f
  pub roots : Roots f
  pub committed : WithinGood d o f

-- ---- what follows an instance: it stays in its transaction, and what ended stays so
pub record Follows (d : Deployment) (q z : Instance) : Type 0 where
  pub func : z.func ≡ q.func
  pub enclosing : z.enclosing ≡ q.enclosing
  pub ends : (b : ℕ) (e : ℕ × Bool) → end_of d q b ≡ Some e → end_of d z b ≡ Some e

follows_self : (d : Deployment) (q : Instance) → Follows d q q
follows_self d q = record { func = refl; enclosing = refl; ends = λ b e h. h }

pub follows_answer : (d : Deployment) (q : Instance) (a : Answer) → Follows d q (answered q a)
follows_answer d q a = record { func = refl; enclosing = refl; ends = λ b e h. ends_go_on d q a b e h }

pub follows_end : (d : Deployment) (q : Instance) (o : Outcome) → Follows d q (ended q o)
follows_end d q o = record { func = refl; enclosing = refl; ends = λ b e h. h }

module _ (d : Deployment) (f : FinMap id_cmp Instance) (k : IntentId) (z : Instance) (follows : (q : Instance) → map.get f k ≡ Some q → Follows d q z) where
  pub committed_set : (u : TxId) → IsCommitted d f u → IsCommitted d (map.insert f k z) u
  committed_set u h =
      let w = made_set f k z (λ j op. j ≡ u.intent → (x : Instance) × (op ≡ Some x) × Follows d h.owner x)
      (λ same. (z, refl, follows h.owner (ap (map.get f) same ∙ h.made)))
      (λ j same. (h.owner, ap (map.get f) same ∙ h.made, follows_self d h.owner)) u.intent refl in
      record { owner = w.0; made = w.1; func = w.2.func ∙ h.func; outside = w.2.enclosing ∙ h.outside; step = h.step; ends = w.2.ends u.begin (h.step, true) h.ends }

  pub good_set : (o : Option TxId) → WithinGood d o f → ((u : TxId) → z.enclosing ≡ Some u → (o ≡ Some u) ⊎ IsCommitted d f u) → WithinGood d o (map.insert f k z)
  good_set o good new i q u is within = elim (made_set f k z (λ j op. op ≡ Some q → (o ≡ Some u) ⊎ IsCommitted d f u) (λ g. new u (ap (λ (x : Instance). x.enclosing) (same_some g) ∙ within)) (λ j g. good j q u g within) i is) [
    | inl e ↦ inl e
    | inr c ↦ inr (committed_set u c)
  ]

root_here : (f : FinMap id_cmp Instance) (id : IntentId) (q : Instance) → Roots f → map.get f id ≡ Some q → (t : ℕ) → id ≡ root_of t → (q.parent ≡ None) × (q.enclosing ≡ None)
root_here f id q h is t same = h t q (ap (map.get f) (sym same) ∙ is)

pub roots_set : (f : FinMap id_cmp Instance) (k : IntentId) (s : Instance) → Roots f → ((t : ℕ) → k ≡ root_of t → (s.parent ≡ None) × (s.enclosing ≡ None)) → Roots (map.insert f k s)
roots_set f k s h new t q = made_set f k s (λ j o. j ≡ root_of t → o ≡ Some q → (q.parent ≡ None) × (q.enclosing ≡ None))
    (λ same is. subst (λ (z : Instance). (z.parent ≡ None) × (z.enclosing ≡ None)) (same_some is) (new t same)) (λ j same is. root_here f j q h is t same) (root_of t) refl

-- ---- callers and callees
-- who waits for an instance: it stands at the call
pub record Waited (d : Deployment) (f : FinMap id_cmp Instance) (id : IntentId) (q : Instance) : Type 0 where
  pub caller : IntentId
  pub waiter : Instance
  pub is_callee : id ≡ callee_of caller waiter
  pub made : map.get f caller ≡ Some waiter
  pub open_still : waiter.outcome ≡ None
  pub stands : effect_of d waiter ≡ Effect.Call q.func q.args
  pub called : IsCalled d caller waiter (length waiter.answers) q
  pub parent : q.parent ≡ Some (calls_at caller waiter true)
  pub enclosing : q.enclosing ≡ tx_now d caller waiter

-- one that stands at a call has no outcome
pub open_at_call : (d : Deployment) (q : Instance) (g : ℕ) (v : Value) → effect_of d q ≡ Effect.Call g v → ((u : Outcome) → q.outcome ≡ Some u → effect_of d q ≡ Effect.Return u) → q.outcome ≡ None
open_at_call d q g v call over = none_by q.outcome (λ u is. let clash = sym call ∙ over u is in cc)

-- so who called one that has no outcome stands at its call, where it waits
abbrev pub waited_by : (d : Deployment) (f : FinMap id_cmp Instance) (id : IntentId) (q : Instance) (i : IntentId) (n : ℕ) (z : Instance) → id ≡ child_of i n → map.get f i ≡ Some z → (c : IsCalled d i z n q) → c.waits ≡ true → q.outcome ≡ None → ((u : Outcome) → z.outcome ≡ Some u → effect_of d z ≡ Effect.Return u) → Waited d f id q
waited_by d f id q i n z same made c so none over =
    let last = next_step z.answers n c.here (c.answered ∙ ap (λ b. answer_given b q.outcome) so ∙ ap (option_map answer_of) none) in
    let stands = sym (effect_now d z) ∙ ap (effect_before d z) (sym last) ∙ c.call ∙ ap (λ b. call_of b q.func q.args) so in
    record {
      caller = i;
      waiter = z;
      is_callee = same ∙ ap (child_of i) last;
      made = made;
      open_still = open_at_call d z q.func q.args stands over;
      stands = stands;
      called = subst (λ m. IsCalled d i z m q) last c;
      parent = c.parent ∙ ap (λ m. Some (record { place = record { intent = i; step = m }; func = z.func; waits = c.waits })) last ∙ ap (λ b. Some (calls_at i z b)) so;
      enclosing = c.enclosing ∙ ap (λ b. enclosing_by b (tx_at d i z n)) so ∙ ap (tx_at d i z) last ∙ tx_here_now d z i;
    }

-- nobody waits for it, and it was called in no transaction
pub record Unwaited (q : Instance) : Type 0 where
  pub alone : IsAlone q.parent
  pub outside : q.enclosing ≡ None

module _ (d : Deployment) (o : Option TxId) (f : FinMap id_cmp Instance) (h : WellFormedWith d o f) where
  pub well_formed_in : (id : IntentId) (q : Instance) → map.get f id ≡ Some q → WellFormedIn d o id q
  well_formed_in id q is = subst (λ u. WellFormedInAt d o id u) is (h.each id)

  pub called_at : (i : IntentId) (n : ℕ) (j : Instance) → map.get f (child_of i n) ≡ Some j → (q : Instance) × (map.get f i ≡ Some q) × IsCalled d i q n j
  called_at i n j on = by_caller (map.get f i) refl (subst (Linked d i (map.get f i) n) on (h.links i n))
    where
      by_caller : (u : Option Instance) → map.get f i ≡ u → Linked d i u n (Some j) → (q : Instance) × (map.get f i ≡ Some q) × IsCalled d i q n j
      by_caller None is l = cc
      by_caller (Some q) is l = (q, is, l)

  -- for one that has no outcome nobody waits, or an instance that stands at its call
  pub waited_in : (id : IntentId) (q : Instance) → map.get f id ≡ Some q → q.outcome ≡ None → Unwaited q ⊎ Waited d f id q
  waited_in id q is none = elim (last_hop id.hops) [
    | inl e ↦
        let root : id ≡ root_of id.ticket = λ k. record { ticket = id.ticket; hops = e k } in
        let r = h.roots id.ticket q (ap (map.get f) (sym root) ∙ is) in
        inl (record { alone = λ c from. let clash = sym r.0 ∙ from in cc; outside = r.1 })
    | inr r ↦
        let i : IntentId = record { ticket = id.ticket; hops = r.0 } in
        let same : id ≡ child_of i r.1 = λ k. record { ticket = id.ticket; hops = r.2 k } in
        let c = called_at i r.1 q (ap (map.get f) (sym same) ∙ is) in
        by_waits i r.1 same c.0 c.1 c.2 c.2.waits refl
  ]
    where
      by_waits : (i : IntentId) (n : ℕ) → id ≡ child_of i n → (z : Instance) → map.get f i ≡ Some z → (c : IsCalled d i z n q) (b : Bool) → c.waits ≡ b → Unwaited q ⊎ Waited d f id q
      by_waits i n same z made c false so = inl (record {
        alone = λ a from. ap (λ (y : Caller). y.waits) (same_some (sym from ∙ c.parent)) ∙ so;
        outside = c.enclosing ∙ ap (λ b. enclosing_by b (tx_at d i z n)) so;
      })
      by_waits i n same z made c true so = inr (waited_by d f id q i n z same made c so none (well_formed_in i z made).over)

  -- the owner of the open transaction stands at a call
  pub record OwnerCalls : Type 0 where
    pub tx : TxId
    pub is : o ≡ Some tx
    pub owner : Instance
    pub made : map.get f tx.intent ≡ Some owner
    pub func : ℕ
    pub args : Value
    pub calls : effect_of d owner ≡ Effect.Call func args

  -- .. where one that was called in a transaction has no outcome
  open_owner : (k : IntentId) (y : Instance) (g : ℕ) (v : Value) (u : TxId) → map.get f k ≡ Some y → effect_of d y ≡ Effect.Call g v → tx_by k y.func (length y.answers) (effect_of d y) (txs_after d y y.answers).begun ≡ Some u → OwnerCalls
  open_owner k y g v u made calls in_it = by_open o refl (
      sym (tx_is k y.func (length y.answers) (effect_of d y) (txs_after d y y.answers).begun (ap is_edge calls)) ∙ in_it)
    where
      none_open : (b : Option ℕ) → b ≡ None → option_map (λ c. record { intent = k; begin = c; func = y.func }) b ≡ Some u → ⊥
      none_open None is g = cc
      none_open (Some b) is g = cc

      by_owner : (t : TxId) (b : Bool) → o ≡ Some t → is_owner t k ≡ b → option_map (λ c. record { intent = k; begin = c; func = y.func }) (txs_after d y y.answers).begun ≡ Some u → OwnerCalls
      by_owner t true so own e = record { tx = t; is = so; owner = y; made = ap (map.get f) (equal t.intent k own) ∙ made; func = g; args = v; calls = calls }
      by_owner t false so own e = absurd (none_open (txs_after d y y.answers).begun ((well_formed_in k y made).begun ∙ ap (λ w. open_of w k) so ∙ ap (λ b. if b then Some t.begin else None) own) e)

      by_open : (w : Option TxId) → o ≡ w → option_map (λ c. record { intent = k; begin = c; func = y.func }) (txs_after d y y.answers).begun ≡ Some u → OwnerCalls
      by_open None so g = absurd (none_open (txs_after d y y.answers).begun ((well_formed_in k y made).begun ∙ ap (λ w. open_of w k) so) g)
      by_open (Some t) so g = by_owner t (is_owner t k) so refl g

  waits_in : (n : ℕ) (i : IntentId) (q : Instance) (u : TxId) → length i.hops < n → map.get f i ≡ Some q → q.enclosing ≡ Some u → q.outcome ≡ None → OwnerCalls
  waits_in zero i q u few is within none = absurd (omega (arith, few))
  waits_in (suc n) i q u few is within none =
      elim (waited_in i q is none) [
        | inl w ↦ let c = sym within ∙ w.outside in cc
        | inr w ↦ by_waiter w w.waiter.enclosing refl
            (λ x e. waits_in n w.caller w.waiter x (let m = length-append w.caller.hops (length w.waiter.answers ∷ []) in let k = ap (λ (z : IntentId). length z.hops) w.is_callee in omega (arith, few, m, k)) w.made e w.open_still)
      ]
    where
      by_waiter : (w : Waited d f i q) (x : Option TxId) → w.waiter.enclosing ≡ x → ((y : TxId) → w.waiter.enclosing ≡ Some y → OwnerCalls) → OwnerCalls
      by_waiter w None outside up = open_owner w.caller w.waiter q.func q.args u w.made w.stands (sym (ap (λ x. or_own x (tx_by w.caller w.waiter.func (length w.waiter.answers) (effect_of d w.waiter) (txs_after d w.waiter w.waiter.answers).begun)) outside) ∙ sym w.enclosing ∙ within)
      by_waiter w (Some x) is up = up x is

  pub open_in : (i : IntentId) (q : Instance) (u : TxId) → map.get f i ≡ Some q → q.enclosing ≡ Some u → q.outcome ≡ None → OwnerCalls
  open_in i q u = waits_in (suc (length i.hops)) i q u (omega arith)

  -- ---- one that is open, outside of transactions
  pub outside_of : o ≡ None → (i : IntentId) (q : Instance) → map.get f i ≡ Some q → q.outcome ≡ None → q.enclosing ≡ None
  outside_of none i q is yet = none_by q.enclosing (λ u e. let w = open_in i q u is e yet in let c = sym none ∙ w.is in cc)

  -- ---- an answer to another effect than a call, a Begin or an End
  module _ (id : IntentId) (q : Instance) (is : map.get f id ≡ Some q) (none : q.outcome ≡ None) where
    pub pushed_in : (a : Answer) → IsAnswer (record { intent = id; step = length q.answers }) (tx_now d id q) (effect_of d q) a → is_edge (effect_of d q) ≡ false → WellFormedIn d o id (answered q a)
    pushed_in a fits edge = record {
      past = went_pushed d id q a fits (well_formed_in id q is).past;
      over = λ u g. let c = sym g ∙ none in cc;
      begun = begun_pushed d q a edge ∙ (well_formed_in id q is).begun;
    }

    pub answered_in : (a : Answer) → IsAnswer (record { intent = id; step = length q.answers }) (tx_now d id q) (effect_of d q) a → is_edge (effect_of d q) ≡ false → ((w : Bool) (g : ℕ) (v : Value) → effect_of d q ≡ call_of w g v → ⊥) → WellFormedWith d o (map.insert f id (answered q a))
    answered_in a fits edge other =
        let s = answered q a in
        let follows = λ (z : Instance) (g : map.get f id ≡ Some z). subst (λ (y : Instance). Follows d y s) (same_some (sym is ∙ g)) (follows_answer d q a) in
        record {
          each = made_set f id s (λ j u. WellFormedInAt d o j u) (pushed_in a fits edge) h.each;
          links = pairs_set (Linked d) f id s h.links (λ n u l. caller_answered d id q a n u (λ e. other) (subst (λ z. Linked d id z n u) is l))
              (λ i n same l. callee_answered d i (map.get (map.insert f id s) i) n q a (subst (λ z. Linked d i (map.get (map.insert f id s) i) n z) is l));
          roots = roots_set f id s h.roots (root_here f id q h.roots is);
          committed = good_set d f id s follows o h.committed (λ u within. h.committed id q u is within);
        }

  -- ---- one that was not there before
  new_in : (k : IntentId) (w : Option TxId) (g : ℕ) (v : Value) (c : Option Caller) → open_of o k ≡ None → WellFormedIn d o k (made_in w g v c)
  new_in k w g v c none = record { past = λ n a e. cc; over = λ u e. cc; begun = sym none }

  pub made_with : (k : IntentId) (w : Option TxId) (g : ℕ) (v : Value) (c : Option Caller) → map.get f k ≡ None → open_of o k ≡ None → ((t : ℕ) → k ≡ root_of t → (c ≡ None) × (w ≡ None)) → ((u : TxId) → w ≡ Some u → (o ≡ Some u) ⊎ IsCommitted d f u)
      → ((i : IntentId) (n : ℕ) → child_of i n ≡ k → Linked d i (map.get (map.insert f k (made_in w g v c)) i) n (Some (made_in w g v c))) → WellFormedWith d o (map.insert f k (made_in w g v c))
  made_with k w g v c gone none root good called =
      let s = made_in w g v c in
      record {
        each = made_set f k s (λ j u. WellFormedInAt d o j u) (new_in k w g v c none) h.each;
        links = pairs_set (Linked d) f k s h.links (λ n u l. caller_new d k n w g v c u (subst (λ z. Linked d k z n u) gone l)) (λ i n same l. called i n same);
        roots = roots_set f k s h.roots root;
        committed = good_set d f k s (λ q e. let x = sym gone ∙ e in cc) o h.committed good;
      }

  -- a callee of one that waits for it
  pub called_with : (id : IntentId) (q : Instance) (w : Option TxId) (g : ℕ) (v : Value) → map.get f id ≡ Some q → map.get f (callee_of id q) ≡ None → effect_of d q ≡ Effect.Call g v → w ≡ tx_now d id q → open_of o (callee_of id q) ≡ None
      → ((u : TxId) → w ≡ Some u → (o ≡ Some u) ⊎ IsCommitted d f u) → WellFormedWith d o (map.insert f (callee_of id q) (made_in w g v (Some (calls_at id q true))))
  called_with id q w g v is gone call in_it none good =
      let at = length q.answers in
      let s = made_in w g v (Some (calls_at id q true)) in
      let made = map.insert f (callee_of id q) s in
      let there : map.get made id ≡ Some q = still_made f (callee_of id q) id s q gone is in
      made_with (callee_of id q) w g v (Some (calls_at id q true)) gone none (λ t same. absurd (not_root id at t same)) good (λ i n same.
      let r = child_same i id n at same in
      subst (λ z. Linked d z (map.get made z) n (Some s)) (sym r.0) (subst (λ m. Linked d id (map.get made id) m (Some s)) (sym r.1) (subst (λ u. Linked d id u at (Some s)) (sym there) (callee_new d id q w g v call in_it))))

  -- ---- one that was answered at its call, once what it calls was set
  pub both_with : (id : IntentId) (q : Instance) (is : map.get f id ≡ Some q) → q.outcome ≡ None → (s : Instance) (a : Answer) → WellFormedIn d o (callee_of id q) s → IsAnswer (record { intent = id; step = length q.answers }) (tx_now d id q) (effect_of d q) a → is_edge (effect_of d q) ≡ false
      → ((t : ℕ) → callee_of id q ≡ root_of t → (s.parent ≡ None) × (s.enclosing ≡ None)) → ((z : Instance) → map.get f (callee_of id q) ≡ Some z → Follows d z s) → ((u : TxId) → s.enclosing ≡ Some u → (o ≡ Some u) ⊎ IsCommitted d f u)
      → ((n : ℕ) (u : Option Instance) → Linked d (callee_of id q) (map.get f (callee_of id q)) n u → Linked d (callee_of id q) (Some s) n u) → IsCalled d id (answered q a) (length q.answers) s
      → WellFormedWith d o (map.insert (map.insert f (callee_of id q) s) id (answered q a))
  both_with id q is none s a good fits edge root follows within kept two =
      let k = callee_of id q in
      let over = map.insert f k s in
      let there : map.get over id ≡ Some q = elsewhere f k id s (λ e. not_own id (length q.answers) (sym e)) ∙ is in
      record {
        each = made_set over id (answered q a) (λ j u. WellFormedInAt d o j u) (pushed_in id q is none a fits edge) (made_set f k s (λ j u. WellFormedInAt d o j u) good h.each);
        links = both_set (Linked d) f h.links k id (length q.answers) refl s (answered q a) kept
            (λ n u apart l. caller_answered d id q a n u (λ e w g v call. apart e) (subst (λ z. Linked d id z n u) is l))
            (λ j n u l. callee_answered d j u n q a (subst (Linked d j u n) is l)) two;
        roots = roots_set over id (answered q a) (roots_set f k s h.roots root) (root_here f id q h.roots is);
        committed = good_set d over id (answered q a) (λ z e. subst (λ (y : Instance). Follows d y (answered q a)) (same_some (sym there ∙ e)) (follows_answer d q a)) o
            (good_set d f k s follows o h.committed within)
            (λ u e. elim (h.committed id q u is e) [ inl x ↦ inl x | inr c ↦ inr (committed_set d f k s follows u c) ]);
      }

  -- ---- a return
  module _ (id : IntentId) (q : Instance) (is : map.get f id ≡ Some q) (none : q.outcome ≡ None) (u : Outcome) (returns : effect_of d q ≡ Effect.Return u) where
    good_end : WellFormedIn d o id (ended q u)
    good_end = let s = well_formed_in id q is in record { past = s.past; over = λ v g. returns ∙ ap Effect.Return (same_some g); begun = s.begun }

    caller_over : (n : ℕ) (w : Option Instance) → Linked d id (map.get f id) n w → Linked d id (Some (ended q u)) n w
    caller_over n w l = caller_ended d id q u n w (subst (λ z. Linked d id z n w) is l)

    follows_over : (z : Instance) → map.get f id ≡ Some z → Follows d z (ended q u)
    follows_over z e = subst (λ (y : Instance). Follows d y (ended q u)) (same_some (sym is ∙ e)) (follows_end d q u)

    -- nobody waits for it
    pub alone_with : IsAlone q.parent → WellFormedWith d o (map.insert f id (ended q u))
    alone_with alone =
        let over = map.insert f id (ended q u) in
        record {
          each = made_set f id (ended q u) (λ j w. WellFormedInAt d o j w) good_end h.each;
          links = pairs_set (Linked d) f id (ended q u) h.links caller_over (λ i n same l. callee_over d i (map.get over i) n q u alone (subst (Linked d i (map.get over i) n) is l));
          roots = roots_set f id (ended q u) h.roots (root_here f id q h.roots is);
          committed = good_set d f id (ended q u) follows_over o h.committed (λ w within. h.committed id q w is within);
        }

    call_answers : (t : Option TxId) (p : Place) (e : Effect) → e ≡ Effect.Call q.func q.args → IsAnswer p t e (answer_of u)
    call_answers t p e so = subst (λ z. IsAnswer p t z (answer_of u)) (sym so) (by_tx t u)
      where
        by_tx : (x : Option TxId) (v : Outcome) → IsAnswer p x (Effect.Call q.func q.args) (answer_of v)
        by_tx x (Outcome.Value v) = tt
        by_tx x (Outcome.Fault c) = tt
        by_tx x (Outcome.Aborted c) = tt

    -- somebody does
    pub returned_with : (w : Waited d f id q) → WellFormedWith d o (map.insert (map.insert f id (ended q u)) w.caller (answered w.waiter (answer_of u)))
    returned_with w =
        subst (λ z. WellFormedWith d o (map.insert (map.insert f z (ended q u)) w.caller (answered w.waiter (answer_of u)))) (sym w.is_callee)
        (both_with w.caller w.waiter w.made w.open_still (ended q u) (answer_of u) (subst (λ z. WellFormedIn d o z (ended q u)) w.is_callee good_end)
        (call_answers (tx_now d w.caller w.waiter) (record { intent = w.caller; step = length w.waiter.answers }) (effect_of d w.waiter) w.stands) (ap is_edge w.stands)
        (λ t same. root_here f id q h.roots is t (w.is_callee ∙ same)) (subst (λ z. (x : Instance) → map.get f z ≡ Some x → Follows d x (ended q u)) w.is_callee follows_over)
        (λ x within. h.committed id q x is within) (subst (λ z. (n : ℕ) (x : Option Instance) → Linked d z (map.get f z) n x → Linked d z (Some (ended q u)) n x) w.is_callee caller_over)
        (callee_ended d w.caller w.waiter q u w.called w.parent))
