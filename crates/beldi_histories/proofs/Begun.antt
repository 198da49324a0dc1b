-- A transaction that got an item, or that somebody was called in, was begun: its owner is known, and went past its Begin. One of who can
-- step is open still, so its decision is not there.
use Rattle.beldi_histories.proofs.Names.{Bool, Deployment, Got, Instance, IntentId, Item, Histories, Matches, None, Rows, WellFormedHistories, Some, Tx, TxId, Value, ap, arith, decision_key, effect_of, false, got_by, if◌then◌else◌, is_begin, is_committed, listed_under, log_key, place_of, shadow_row, subst, sym, true, tx_now, value_in, ◌∙◌, ◌≡◌}
use Rattle.beldi_histories.proofs.{AtPending.no_decision, Callers.all_called, Callers.begun_before, Participants.open_owner, ReadLists.IsBegun, ReadLists.got_since, ReadLists.member_tx, Answers.true_false, Cases.by_option}
use Rattle.beldi_histories.proofs.Names.map

module _ (d : Deployment) (histories : Histories) (h : WellFormedHistories d histories) where
  -- a transaction that somebody was called in was begun
  pub called_begun : (j : IntentId) (z : Instance) (t : TxId) → map.get histories j ≡ Some z → z.enclosing ≡ Some t → IsBegun histories t
  called_begun j z t = all_called d histories h t (λ i q. IsBegun histories t)
      (λ i q inner c outside o. record { owner = c.waiter; made = ap (map.get histories) o.intent ∙ c.made; func_is = o.func_is; before = let b = begun_before d histories t i q c o in let l = c.here in omega (arith, b, l) })
      (λ i q inner c up begun. begun) j z

  -- .. and so was one that got an item
  module _ (t : TxId) (x : Item) (j : IntentId) (z : Instance) (is : map.get histories j ≡ Some z) where
    member_begun : (b : Bool) → got_by d t x j b (Some z) ≡ true → IsBegun histories t
    member_begun b g = by_option z.enclosing (λ e. let k = got_since d t x j z e b g in record { owner = z; made = ap (map.get histories) k.own ∙ is; func_is = k.func_is; before = k.before })
        (λ w e. subst (IsBegun histories) (sym (member_tx d t x j z w e b g)) (called_begun j z w is e))

  pub got_begun : (lock_ahead : IntentId → Bool) (t : TxId) (x : Item) → Got d histories lock_ahead t x → IsBegun histories t
  got_begun lock_ahead t x g = by_option (map.get histories g.member) (λ e. absurd (true_false (sym (sym (ap (got_by d t x g.member (lock_ahead g.member)) e) ∙ g.got))))
      (λ z e. member_begun t x g.member z e (lock_ahead g.member) (sym (ap (got_by d t x g.member (lock_ahead g.member)) e) ∙ g.got))

  -- ---- the transaction of who can step
  module _ (m : Rows) (lock_ahead : IntentId → Bool) (rows : Matches d m histories lock_ahead) (j : IntentId) (z : Instance) (t : TxId) (is : map.get histories j ≡ Some z) (none : z.outcome ≡ None) (apart : is_begin (effect_of d z) ≡ false) (now : tx_now d j z ≡ Some t) where
    -- its decision is not there
    pub undecided : map.get m (decision_key t) ≡ None
    undecided = let k = open_owner d histories h j z t is none apart now in ap (λ f. map.get m (log_key f (place_of t.intent t.begin))) k.func_is ∙ no_decision d m histories lock_ahead rows t.intent k.owner k.made t.begin k.begun

    -- so an item that it owns, or gets, is listed with the value of its own row
    pub listed_open : (x : Item) (v : Value) → listed_under m x (Some (Tx t)) v ≡ v
    listed_open x v = ap (λ r. if is_committed r then value_in (shadow_row m t x) v else v) undecided
