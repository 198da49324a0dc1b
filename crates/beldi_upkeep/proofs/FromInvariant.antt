-- What is known where the invariant holds of the host and its rows, of rows that are there.
use Rattle.beldi_value.proofs.Callees.{no_root}
use Rattle.beldi_plain_laws.proofs.Ends.{fits_at}
use Rattle.beldi_histories.proofs.{Instances.outcome_kept, Callers.called_in, Instances.row_of, Participants.IsOpenOwner, Participants.decided_over, Cases.by_option}
use Rattle.beldi_invariant.proofs.Names.{Body, BodyMatches, Bool, CalleeBodyMatches, Core, Deployment, FinishMatches, Instance, IntentId, IntentMatches, IntentRow, InvokeRow, IsBodyOf, IsCalled, IsCalleeRow, Kind, None, Option, Invariant, RootMatches, Row, Rows, Some, TxId, append-nil, ap, arith, body_of, child_of, eqb-true, false, func_called, has_ended, has_finish, has_no_hops, if◌then◌else◌, intent_key, invoke_key, is_some, is_waited, key_in, length, length-append, option_map, place_of, refl, same_some, subst, sym, true, tx_end, tx_in, txs_after, ℕ, ◌<◌, ◌==◌, ◌∙◌, ◌≡◌, []}
use Rattle.beldi_invariant.proofs.{Cases.false_by, Members.IsRecordedCall, Members.call_recorded, Members.call_there, StageTurns.no_return}
use Rattle.beldi_invariant.proofs.Names.map
use Rattle.beldi_upkeep.specs.Callees.{HasBody, owner_key}
use Rattle.beldi_upkeep.proofs.PastOwn.{WasOwner, ends_there, tx_ended}

-- the key of a callee's row
pub child_key : (i : IntentId) (n f : ℕ) → intent_key (child_of i n) f ≡ key_in f (child_of i n)
child_key i n f = λ k. record { home = ap (λ b. if b then 0 else f) (no_root i n) k; kind = Kind.Intent (child_of i n) }

-- .. and of one that is no root
pub below_key : (i : IntentId) (f : ℕ) → has_no_hops i.hops ≡ false → intent_key i f ≡ key_in f i
below_key i f below = λ k. record { home = ap (λ b. if b then 0 else f) below k; kind = Kind.Intent i }

module _ (d : Deployment) (c : Core) (m : Rows) (h : Invariant d c m) where
  -- the row of a key of an intent
  pub row_at : (home : ℕ) (i : IntentId) (o : Option Row) → map.get m (key_in home i) ≡ o → IntentMatches (has_ended d h.histories) (has_no_hops i.hops) home o (map.get h.histories i)
  row_at home i o is = subst (λ r. IntentMatches (has_ended d h.histories) (has_no_hops i.hops) home r (map.get h.histories i)) is (h.rows.keys (key_in home i))

  -- a body is that of an instance
  pub body_recorded : (home : ℕ) (i : IntentId) (r : IntentRow) (b : Body) → HasBody m home i r b → IsBodyOf b (map.get h.histories i)
  body_recorded home i r b body = (row_of (has_ended d h.histories) (has_no_hops i.hops) home r (map.get h.histories i) (row_at home i (Some (Row.Intent r)) body.there)).body b body.body

  -- ---- an instance that was called in no transaction has its finish with its outcome
  over_root : (t : Bool) (r : IntentRow) (q : Instance) → RootMatches t (Some (Row.Intent r)) (Some q) → is_some r.finish ≡ true → is_some q.outcome ≡ true
  over_root true r q f finish = by_body r.body f.body
    where
      by_body : (b : Option Body) → BodyMatches b r.outcome (Some q) → is_some q.outcome ≡ true
      by_body None g = let clash = g in cc
      by_body (Some b) g = ap (λ (y : Instance). is_some y.outcome) (same_some g.0.made) ∙ ap is_some g.1 ∙ sym f.finishes ∙ finish
  over_root false r q f finish = cc

  over_callee : (home : ℕ) (r : IntentRow) (q : Instance) → q.enclosing ≡ None → IsCalleeRow (has_ended d h.histories) home r (Some q) → is_some r.finish ≡ true → is_some q.outcome ≡ true
  over_callee home r q out f finish = by_body r.body f.body f.finishes
    where
      by_body : (b : Option Body) → CalleeBodyMatches home b r.outcome (Some q) → FinishMatches (has_ended d h.histories) (tx_in b) r.finish r.outcome → is_some q.outcome ≡ true
      by_body None g f = absurd g
      by_body (Some b) g f =
          let same : g.0.instance ≡ q = same_some (sym g.0.made) in
          let bare : b.tx ≡ None = ap (λ (z : Body). z.tx) (g.0.body ∙ ap body_of same) ∙ out in
          let both = subst (λ w. FinishMatches (has_ended d h.histories) w r.finish r.outcome) bare f in
          by_option r.outcome (λ none. let clash = sym (ap is_some none) ∙ sym both ∙ finish in cc) (λ u some. ap is_some (ap (λ (z : Instance). z.outcome) (sym same) ∙ outcome_kept (is_waited b.parent) r.outcome g.0.instance.outcome g.2 u some))

  pub finished_over : (home : ℕ) (i : IntentId) (q : Instance) → map.get h.histories i ≡ Some q → q.enclosing ≡ None → has_finish (map.get m (key_in home i)) ≡ true → is_some q.outcome ≡ true
  finished_over home i q made out finish = by_row (map.get m (key_in home i)) refl finish
    where
      by_root : (t : Bool) (r : IntentRow) → IntentMatches (has_ended d h.histories) t home (Some (Row.Intent r)) (Some q) → is_some r.finish ≡ true → is_some q.outcome ≡ true
      by_root true r f e = over_root (home == 0) r q f e
      by_root false r f e = over_callee home r q out f e

      by_row : (o : Option Row) → map.get m (key_in home i) ≡ o → has_finish o ≡ true → is_some q.outcome ≡ true
      by_row None is e = cc
      by_row (Some (Row.Intent r)) is e = by_root (has_no_hops i.hops) r (subst (λ o. IntentMatches (has_ended d h.histories) (has_no_hops i.hops) home (Some (Row.Intent r)) o) made (row_at home i (Some (Row.Intent r)) is)) e
      by_row (Some w) is e = cc

  -- so the owner of an open transaction has none
  pub open_unfinished : (t : TxId) → IsOpenOwner d h.histories t → has_finish (map.get m (owner_key t)) ≡ false
  open_unfinished t o = false_by (has_finish (map.get m (owner_key t))) (λ e.
      let over = finished_over (owner_key t).home t.intent o.owner o.made o.outside e in
      by_option o.owner.outcome (λ none. let clash = sym (ap is_some none) ∙ over in cc)
      (λ u some. no_return d o.owner o.owner.answers u (ap is_some o.begun) ((h.well_formed.each t.intent o.owner o.made).over u some)))

  -- ---- calls
  -- who has a row and an id of a callee was called there, by a call whose row is there
  pub record WasCalledAt (i : IntentId) (n : ℕ) (b : Body) : Type 0 where
    pub caller : Instance
    pub made : map.get h.histories i ≡ Some caller
    pub callee : Instance
    pub there : map.get h.histories (child_of i n) ≡ Some callee
    pub its : b ≡ body_of callee
    pub called : IsCalled d i caller n callee

  pub was_called : (home : ℕ) (i : IntentId) (n : ℕ) (r : IntentRow) (b : Body) → HasBody m home (child_of i n) r b → WasCalledAt i n b
  was_called home i n r b body =
      let k = body_recorded home (child_of i n) r b body in
      let at = called_in d h.histories h.well_formed i n k.instance k.made in
      record { caller = at.0; made = at.1; callee = k.instance; there = k.made; its = k.body; called = at.2 }

  -- who is known by an id of a callee was called there
  pub called_here : (i : IntentId) (n : ℕ) (j : Instance) → map.get h.histories (child_of i n) ≡ Some j → (q : Instance) × ((map.get h.histories i ≡ Some q) × IsCalled d i q n j)
  called_here i n j is = let at = called_in d h.histories h.well_formed i n j is in (at.0, (at.1, at.2))

  -- the row of a call is its caller's, in the home of its function
  pub call_is : (f : ℕ) (i : IntentId) (n : ℕ) (x : InvokeRow) → map.get m (invoke_key f (place_of i n)) ≡ Some (Row.Invoke x) → IsRecordedCall h.histories (i, f) (record { step = n; func = x.func })
  call_is f i n x is = call_recorded d m h.histories h.lock_ahead h.rows (i, f) (record { step = n; func = x.func }) (ap (option_map func_called) is)

  -- .. and where there is none, nobody has such a row
  pub call_absent : (f : ℕ) (i : IntentId) (n : ℕ) (home : ℕ) (r : IntentRow) (b : Body) (q : Instance) → map.get h.histories i ≡ Some q → q.func ≡ f → map.get m (invoke_key f (place_of i n)) ≡ None → HasBody m home (child_of i n) r b → ⊥
  call_absent f i n home r b q made func none body =
      let k = was_called home i n r b body in
      let there = call_there d m h.histories h.lock_ahead h.rows (i, f) (record { step = n; func = k.callee.func }) (record { caller = q; made = made; func = func; callee = k.callee; there = k.there; its = refl }) in
      let clash = sym (ap (option_map func_called) none) ∙ there in cc

  -- ---- who took part in a transaction that has ended has its row
  pub ended_has_row : (j : IntentId) (z : Instance) (t : TxId) (e : ℕ × Bool) → map.get h.histories j ≡ Some z → z.enclosing ≡ Some t → tx_end d h.histories t ≡ Some e → is_some (map.get m (key_in z.func j)) ≡ true
  ended_has_row j z t e made in_it ended = h.seated j z t made in_it (decided_over d h.histories h.well_formed j z t e made in_it ended)

  -- the owner of a transaction that somebody was called in, or that owns an item, has its finish: it has ended
  pub over_ended : (t : TxId) (w : WasOwner d h.histories t) → has_finish (map.get m (owner_key t)) ≡ true → (z : ℕ × Bool) × (tx_end d h.histories t ≡ Some z)
  over_ended t w finish =
      let over = finished_over (owner_key t).home t.intent w.owner w.made w.outside finish in
      by_option w.owner.outcome (λ none. let clash = sym (ap is_some none) ∙ over in cc) (λ u some.
      let l = ap length w.all in
      let n = length-append w.given w.later in
      let b = (fits_at d w.owner w.given).before t.begin w.begun in
      let closed : (txs_after d w.owner w.owner.answers).begun ≡ Some t.begin → ⊥ = λ is_open. no_return d w.owner w.owner.answers u (ap is_some is_open) ((h.well_formed.each t.intent w.owner w.made).over u some) in
      let less : t.begin < length w.owner.answers = omega (arith, l, n, b) in
      ((ends_there d h.histories t w w.owner.answers [] (append-nil w.owner.answers) less closed).0, tx_ended d h.histories t w w.owner.answers [] (append-nil w.owner.answers) less closed))

  -- ---- an intent that is known has its row in one home alone
  home_of_row : (i : IntentId) (q : Instance) (home : ℕ) (t : Bool) → has_no_hops i.hops ≡ t → (o : Option Row) → is_some o ≡ true → IntentMatches (has_ended d h.histories) t home o (Some q) → home ≡ (if t then 0 else q.func)
  home_of_row i q home true e o there f = by_home (home == 0) refl f
    where
      by_home : (b : Bool) → (home == 0) ≡ b → RootMatches b o (Some q) → home ≡ 0
      by_home true z g = eqb-true home 0 z
      by_home false z g = let clash = sym (ap is_some g) ∙ there in cc
  home_of_row i q home false e None there f = cc
  home_of_row i q home false e (Some (Row.Intent r)) there f = by_body r.body f.body
    where
      by_body : (b : Option Body) → CalleeBodyMatches home b r.outcome (Some q) → home ≡ q.func
      by_body None g = absurd g
      by_body (Some b) g = sym g.1 ∙ ap (λ (y : Body). y.func) (g.0.body ∙ ap body_of (same_some (sym g.0.made)))
  home_of_row i q home false e (Some w) there f = absurd f

  pub one_home : (i : IntentId) (q : Instance) (home : ℕ) → map.get h.histories i ≡ Some q → is_some (map.get m (key_in home i)) ≡ true → key_in home i ≡ intent_key i q.func
  one_home i q home made there =
      let same = home_of_row i q home (has_no_hops i.hops) refl (map.get m (key_in home i)) there (subst (IntentMatches (has_ended d h.histories) (has_no_hops i.hops) home (map.get m (key_in home i))) made (row_at home i (map.get m (key_in home i)) refl)) in
      ap (λ f. key_in f i) same
