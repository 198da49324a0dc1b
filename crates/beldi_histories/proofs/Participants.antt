-- Who was called in a transaction, and has no outcome, holds up its owner at a call: so at an End nobody else is inside.
use Rattle.beldi_histories.proofs.Names.{Bool, Deployment, Effect, Instance, IntentId, Item, Histories, None, Option, WellFormedHistories, Some, TxId, Value, ap, arith, effect_of, end_of, ended_by, false, fits, holds, id_cmp, id_total, inl, inr, is_begin, is_eq, is_some, length, or_own, same_some, sym, tied_itself, true, tx_by, tx_end, tx_now, txs_after, ℕ, ◌∙◌, ◌≡◌, ◌⊎◌}
use Rattle.beldi_histories.proofs.{Callers.all_called, Callers.waits_for, OwnTx.Own, OwnTx.own, OwnTx.own_by, OwnTx.own_intent, Phases.inside_holds_none, Cases.by_option}
use Rattle.beldi_histories.proofs.Names.map

-- one's own transaction has not ended, where it is that of the next step
own_begin : (id : IntentId) (func n : ℕ) (e : Effect) (o : Option ℕ) (t : TxId) → tx_by id func n e o ≡ Some t → (t.begin ≡ n) ⊎ (o ≡ Some t.begin)
own_begin id func n Effect.Begin o t h = inl (ap (λ (z : TxId). z.begin) (sym (same_some h)))
own_begin id func n e None t h = cc
own_begin id func n e (Some b) t h = inr (ap (λ (z : TxId). Some z.begin) (same_some h))

own_open : (d : Deployment) (id : IntentId) (q : Instance) (t : TxId) → tx_by id q.func (length q.answers) (effect_of d q) (txs_after d q q.answers).begun ≡ Some t → end_of d q t.begin ≡ None
own_open d id q t h = elim (own_begin id q.func (length q.answers) (effect_of d q) (txs_after d q q.answers).begun t h) [
  | inl e ↦ (fits d q).fresh t.begin (omega (arith, e))
  | inr e ↦ (fits d q).not_ended t.begin e
]

-- the owner of a transaction, which is open
pub record IsOpenOwner (d : Deployment) (histories : Histories) (t : TxId) : Type 0 where
  pub owner : Instance
  pub made : map.get histories t.intent ≡ Some owner
  pub outside : owner.enclosing ≡ None
  pub func_is : t.func ≡ owner.func
  pub begun : (txs_after d owner owner.answers).begun ≡ Some t.begin

module _ (d : Deployment) (histories : Histories) (h : WellFormedHistories d histories) where
  abbrev own_is : (j : IntentId) (z : Instance) (t : TxId) → map.get histories j ≡ Some z → z.enclosing ≡ None → Own j z.func (txs_after d z z.answers).begun t → IsOpenOwner d histories t
  own_is j z t on outside k = record { owner = z; made = ap (map.get histories) k.intent ∙ on; outside = outside; func_is = k.func_is; begun = k.begun }

  -- the owner of a transaction stands at a call
  record Waits (t : TxId) : Type 0 where
    owns : IsOpenOwner d histories t
    func : ℕ
    args : Value
    at_call : effect_of d owns.owner ≡ Effect.Call func args

  waits : (t : TxId) (i : IntentId) (z : Instance) → map.get histories i ≡ Some z → z.enclosing ≡ Some t → z.outcome ≡ None → Waits t
  waits t = all_called d histories h t (λ i z. z.outcome ≡ None → Waits t)
      (λ i z inner c outside o none.
      let w = waits_for d histories h t i z c inner none in
      record { owns = own_is w.caller w.waiter t w.made outside (own d w.caller w.waiter t outside (ap is_begin w.stands) (sym w.enclosing ∙ inner)); func = z.func; args = z.args; at_call = w.stands })
      (λ i z inner c up rest none. rest (waits_for d histories h t i z c inner none).open_still)

  -- who stands in a transaction owns it, or was called in it
  stands_in : (j : IntentId) (z : Instance) (t : TxId) → map.get histories j ≡ Some z → z.outcome ≡ None → tx_now d j z ≡ Some t → ((z.enclosing ≡ None) × (tx_by j z.func (length z.answers) (effect_of d z) (txs_after d z z.answers).begun ≡ Some t)) ⊎ Waits t
  stands_in j z t on none now = by_option z.enclosing (λ e. inl (e, in_it None e)) (λ u e. inr (waits t j z on (e ∙ in_it (Some u) e) none))
    where
      in_it : (w : Option TxId) → z.enclosing ≡ w → or_own w (tx_by j z.func (length z.answers) (effect_of d z) (txs_after d z z.answers).begun) ≡ Some t
      in_it w e = sym (ap (λ o. or_own o (tx_by j z.func (length z.answers) (effect_of d z) (txs_after d z z.answers).begun)) e) ∙ now

  -- where an instance stands at no call, nobody else that can step is in a transaction of its own
  pub ends_alone : (id : IntentId) (q : Instance) → map.get histories id ≡ Some q → ((f : ℕ) (v : Value) → effect_of d q ≡ Effect.Call f v → ⊥) → (j : IntentId) (z : Instance) (t : TxId) → map.get histories j ≡ Some z → is_eq (id_cmp j id) ≡ false → z.outcome ≡ None → tx_now d j z ≡ Some t → t.intent ≡ id → ⊥
  ends_alone id q is other j z t on apart none now mine = elim (stands_in j z t on none now) [
    | inl own ↦
        let same = sym (own_intent j z.func (length z.answers) (effect_of d z) (txs_after d z z.answers).begun t own.1) ∙ mine in
        let clash = sym apart ∙ ap (λ i. is_eq (id_cmp i id)) same ∙ ap is_eq (tied_itself id_total id) in cc
    | inr w ↦
        let same : w.owns.owner ≡ q = same_some (sym w.owns.made ∙ ap (map.get histories) mine ∙ is) in
        other w.func w.args (ap (effect_of d) (sym same) ∙ w.at_call)
  ]

  -- the transaction of who can step has not ended
  pub now_open : (j : IntentId) (z : Instance) (t : TxId) → map.get histories j ≡ Some z → z.outcome ≡ None → tx_now d j z ≡ Some t → tx_end d histories t ≡ None
  now_open j z t on none now = elim (stands_in j z t on none now) [
    | inl own ↦ ap (ended_by d t.begin) (ap (map.get histories) (own_intent j z.func (length z.answers) (effect_of d z) (txs_after d z z.answers).begun t own.1) ∙ on) ∙ own_open d j z t own.1
    | inr w ↦ ap (ended_by d t.begin) w.owns.made ∙ (fits d w.owns.owner).not_ended t.begin w.owns.begun
  ]

  -- its owner has its Begin open
  pub open_owner : (j : IntentId) (z : Instance) (t : TxId) → map.get histories j ≡ Some z → z.outcome ≡ None → is_begin (effect_of d z) ≡ false → tx_now d j z ≡ Some t → IsOpenOwner d histories t
  open_owner j z t on none apart now = elim (stands_in j z t on none now) [
    | inl own ↦ own_is j z t on own.0 (own_by j z.func (length z.answers) (effect_of d z) (txs_after d z z.answers).begun t apart own.1)
    | inr w ↦ w.owns
  ]

  -- so who was called in one that has ended has its outcome
  pub decided_over : (j : IntentId) (z : Instance) (t : TxId) (e : ℕ × Bool) → map.get histories j ≡ Some z → z.enclosing ≡ Some t → tx_end d histories t ≡ Some e → is_some z.outcome ≡ true
  decided_over j z t e on inner ended = by_option z.outcome
      (λ none. let clash = sym (now_open j z t on none (ap (λ w. or_own w (tx_by j z.func (length z.answers) (effect_of d z) (txs_after d z z.answers).begun)) inner)) ∙ ended in cc) (λ o some. ap is_some some)

  -- the owner of the transaction of who can step holds no lock of its own
  pub owner_holds_none : (j : IntentId) (z : Instance) (t : TxId) → map.get histories j ≡ Some z → z.outcome ≡ None → tx_now d j z ≡ Some t → (x : Item) → holds d x (map.get histories t.intent) ≡ false
  owner_holds_none j z t on none now x = elim (stands_in j z t on none now) [
    | inl own ↦
        let mine = own_intent j z.func (length z.answers) (effect_of d z) (txs_after d z z.answers).begun t own.1 in
        ap (holds d x) (ap (map.get histories) mine ∙ on) ∙ inside_holds_none d j z (h.each j z on) (ap is_some now) x
    | inr w ↦
        let o = w.owns in
        let inside : is_some (tx_now d t.intent o.owner) ≡ true = λ k. is_some (or_own (o.outside k) (tx_by t.intent o.owner.func (length o.owner.answers) (w.at_call k) (o.begun k))) in
        ap (holds d x) o.made ∙ inside_holds_none d t.intent o.owner (h.each t.intent o.owner o.made) inside x
  ]
