-- What the rows tell of calls and owners, where they have the invariant and have their seats.
use Rattle.beldi_value.proofs.Callees.{no_root}
use Rattle.beldi_histories.proofs.Instances.{row_of}
use Rattle.beldi_invariant.proofs.Names.{Body, Bool, ByTx, CallMatches, CalleeBodyMatches, CalleeMatches, Caller, Core, Deployment, FinishMatches, Instance, IntentId, IntentMatches, IntentRow, InvokeRow, IsBodyOf, Item, None, Option, Outcome, Invariant, RootMatches, Row, RowKey, Rows, Some, TxId, ap, body_of, call_in, called_by, child_of, content_of, eq-eqb, false, has_ended, has_finish, has_no_hops, if◌then◌else◌, invoke_key, is_some, is_waited, key_in, none_by, expected_call, place_of, refl, result_in, result_of, same_some, subst, sym, true, tx_in, ℕ, ◌==◌, ◌∙◌, ◌≡◌}
use Rattle.beldi_invariant.proofs.Names.map
use Rattle.beldi_invariant.proofs.Returns.{HasCaller, has_caller}
use Rattle.beldi_invokelog.specs.InvokeLog.{registered_in}
use Rattle.beldi_upkeep.specs.Callees.{EndedHaveTold, HasBody, HasCallee, HasToldCaller, OwnersAreOpen, RegisteredHaveCallees, Seats, owner_key}
use Rattle.beldi_upkeep.proofs.{FromInvariant.body_recorded, FromInvariant.call_is, FromInvariant.row_at, FromInvariant.was_called, PastOwn.WasOwner, PastOwn.got_owner}

module _ (d : Deployment) (c : Core) (m : Rows) (h : Invariant d c m) (seats : Seats m) where
  -- ---- a registered call
  module _ (f : ℕ) (i : IntentId) (n : ℕ) (x : InvokeRow) (at : map.get m (invoke_key f (place_of i n)) ≡ Some (Row.Invoke x)) where
    abbrev callee : IntentId
    callee = child_of i n

    by_body : (r : IntentRow) → map.get m (key_in x.func callee) ≡ Some (Row.Intent r) → (o : Option Body) → r.body ≡ o → CalleeBodyMatches x.func o r.outcome (map.get h.histories callee) → HasCallee m f i n x
    by_body r is None bare g = absurd g
    by_body r is (Some b) body g =
        let has : HasBody m x.func callee r b = record { there = is; body = body } in
        let w = was_called d c m h x.func i n r b has in
        let q = call_is d c m h f i n x at in
        record {
          row = r;
          body = b;
          has = has;
          caller = record { place = place_of i n; func = w.caller.func; waits = w.called.waits };
          parent = ap (λ (z : Body). z.parent) w.its ∙ w.called.parent;
          place = refl;
          func = ap (λ (z : Instance). z.func) (same_some (sym w.made ∙ q.made)) ∙ q.func;
        }

    by_row : (o : Option Row) → map.get m (key_in x.func callee) ≡ o → is_some o ≡ true → CalleeMatches (has_ended d h.histories) x.func o (map.get h.histories callee) → HasCallee m f i n x
    by_row None is there g = cc
    by_row (Some (Row.Intent r)) is there g = by_body r is r.body refl g.body
    by_row (Some w) is there g = absurd g

    have : x.registered ≡ true → HasCallee m f i n x
    have is = by_row (map.get m (key_in x.func callee)) refl (seats.enrolled f i n x at is)
        (subst (λ b. IntentMatches (has_ended d h.histories) b x.func (map.get m (key_in x.func callee)) (map.get h.histories callee)) (no_root i n) (h.rows.keys (key_in x.func callee)))

  -- ---- who has its outcome
  module _ (home : ℕ) (i : IntentId) (r : IntentRow) (b : Body) (z : Caller) (o : Outcome) (body : HasBody m home i r b) (from : b.parent ≡ Some z) (out : r.outcome ≡ Some o) where
    k : IsBodyOf b (map.get h.histories i)
    k = body_recorded d c m h home i r b body

    w : HasCaller d h.histories i k.instance z
    w = has_caller d h.histories i k.instance z h.well_formed k.made (ap (λ (y : Body). y.parent) (sym k.body) ∙ from)

    abbrev key : RowKey
    key = invoke_key z.func z.place

    callee_is : map.get h.histories (child_of z.place.intent z.place.step) ≡ Some k.instance
    callee_is = ap (map.get h.histories) (sym w.is_callee) ∙ k.made

    owed : (t : Bool) → z.waits ≡ t → expected_call h.histories z.func z.place ≡ Some (k.instance.func, (if t then k.instance.outcome else None))
    owed t waits =
        (λ j. called_by z.func (w.made j) (callee_is j)) ∙ ap (λ u. if u then Some (k.instance.func, result_of k.instance) else None) (eq-eqb w.caller.func z.func w.func)
        ∙ ap (λ u. Some (k.instance.func, (if u then k.instance.outcome else None))) (ap is_waited (ap (λ (y : Body). y.parent) (sym k.body) ∙ from) ∙ waits)

    outcome : k.instance.outcome ≡ Some o
    outcome = (row_of (has_ended d h.histories) (has_no_hops i.hops) home r (map.get h.histories i) (row_at d c m h home i (Some (Row.Intent r)) body.there)).outcome b o k.instance body.body out k.made

    by_mark : (x : InvokeRow) (t : Bool) → x.registered ≡ t → map.get m key ≡ Some (Row.Invoke x) → z.waits ≡ false → t ≡ true
    by_mark x true e at waits = refl
    by_mark x false e at waits =
        let none = seats.registered z.func z.place.intent z.place.step x home r b at e (subst (λ j. HasBody m home j r b) w.is_callee body) (ap is_waited from ∙ waits) in
        let clash = sym none ∙ out in cc

    told_row : (t : Bool) → z.waits ≡ t → (u : Option Row) → map.get m key ≡ u → CallMatches u (Some (k.instance.func, (if t then k.instance.outcome else None))) → HasToldCaller m z t o
    told_row t waits None at g = cc
    told_row false waits (Some (Row.Invoke x)) at g = ap (λ y. registered_in (call_in y)) at ∙ by_mark x x.registered refl at waits
    told_row true waits (Some (Row.Invoke x)) at g = ap (λ y. result_in (call_in y)) at ∙ ap (λ y. y.1) (sym (same_some g)) ∙ outcome
    told_row t waits (Some v) at g = absurd g

    told : HasToldCaller m z z.waits o
    told = told_row z.waits refl (map.get m key) refl (subst (CallMatches (map.get m key)) (owed z.waits refl) (h.rows.keys key))

  -- ---- owners
  module _ (t : TxId) (x : Item) (r : IntentRow) (owned : (content_of m x).owner ≡ Some (ByTx t)) (at : map.get m (owner_key t) ≡ Some (Row.Intent r)) where
    its : WasOwner d h.histories t
    its = got_owner d h.histories h.well_formed t h.lock_ahead x ((h.rows.txs x).owned_is_got t owned)

    unfinished : r.finish ≡ None
    unfinished = none_by r.finish (λ f e. absurd (seats.owns_none t x (ap has_finish at ∙ ap is_some e) owned))

    by_root : (b : Bool) → RootMatches b (Some (Row.Intent r)) (Some its.owner) → is_some r.finish ≡ is_some r.outcome
    by_root true g = g.finishes
    by_root false g = cc

    by_callee : (b : Option Body) → CalleeBodyMatches (owner_key t).home b r.outcome (Some its.owner) → FinishMatches (has_ended d h.histories) (tx_in b) r.finish r.outcome → is_some r.finish ≡ is_some r.outcome
    by_callee None g f = absurd g
    by_callee (Some b) g f = subst (λ w. FinishMatches (has_ended d h.histories) w r.finish r.outcome) (ap (λ (z : Body). z.tx) (g.0.body ∙ ap body_of (same_some (sym g.0.made))) ∙ its.outside) f

    both : (b : Bool) → IntentMatches (has_ended d h.histories) b (owner_key t).home (Some (Row.Intent r)) (Some its.owner) → is_some r.finish ≡ is_some r.outcome
    both true g = by_root ((owner_key t).home == 0) g
    both false g = by_callee r.body g.body g.finishes

    is_open : (r.outcome ≡ None) × (r.finish ≡ None)
    is_open = (
      none_by r.outcome (λ o e. let clash = sym (ap is_some unfinished) ∙ both (has_no_hops t.intent.hops) (subst (IntentMatches (has_ended d h.histories) (has_no_hops t.intent.hops) (owner_key t).home (Some (Row.Intent r))) its.made (row_at d c m h (owner_key t).home t.intent (Some (Row.Intent r)) at)) ∙ ap is_some e in cc),
      unfinished,
    )

pub have_callees : RegisteredHaveCallees
have_callees d c m h seats = have d c m h seats

pub have_told : EndedHaveTold
have_told d c m h seats = told d c m h seats

pub owners_open : OwnersAreOpen
owners_open d c m h seats = is_open d c m h seats
