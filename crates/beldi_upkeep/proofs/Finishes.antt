-- Finishes in the rows: the one home of an intent, whom no row gives a finish, and which finish an event gives.
use Rattle.std.specs.FinMap as map
use Rattle.std.proofs.Common.{◌≡◌, ℕ, ◌+◌, ◌≤◌, ◌==◌, Bool, true, false, Option, Some, None, is_some, Result, Ok, Err, if◌then◌else◌, eqb-true, refl, ap, sym, ◌∙◌, subst, arith}
use Rattle.beldi_value.specs.{Id.has_no_hops, declared.id.IntentId.IntentId, declared.outcome.Outcome.Outcome, declared.place.TxId.TxId}
use Rattle.beldi_tree.specs.declared.deployment.Deployment.{Deployment}
use Rattle.beldi_plain.specs.Plain.{Instance, outcome_of}
use Rattle.beldi_row.specs.Act.{is_old, removed_reply, stays_unless}
use Rattle.beldi_row.specs.{Act.act, Act.finish_at, Act.end_with, Act.bind_to, Act.stamp_with, Table.Rows, declared.act.Act.Act, declared.key.Kind.Kind, declared.row.Body.Body, declared.row.IntentRow.IntentRow, declared.row.Row.Row}
use Rattle.beldi_query.specs.{declared.query.Query.Query, Query.CameOn, Query.QueryReply, Query.rows_after}
use Rattle.beldi_query.proofs.Lent.{refused_stand}
use Rattle.beldi_intent.specs.Intent.{intent_key}
use Rattle.beldi_row.specs.declared.table.TableErr.{TableErr}
use Rattle.beldi_histories.specs.{Histories.Histories, Histories.tx_end, Matches.Matches, Matches.has_ended, RowMatching.BodyMatches, RowMatching.CalleeBodyMatches, RowMatching.CalleeMatches, RowMatching.FinishMatches, RowMatching.IntentMatches, RowMatching.OutcomeMatches, RowMatching.RootMatches, RowMatching.tx_in, WellFormedHistories.WellFormedHistories, Stands.body_of, Stands.key_in}
use Rattle.beldi_histories.proofs.{Callers.all_called, Participants.decided_over, RowMaps.keys_set}
use Rattle.beldi_step.specs.Run.{is_waited}
use Rattle.beldi_invariant.specs.FoundInside.{has_finish}
use Rattle.beldi_upkeep.specs.{Callees.HasBody, Callees.Seats, Deadlines.IsNear, WorksFor.IsUnfinished, WorksFor.finish_in}
use Rattle.beldi_histories.proofs.Cases.{by_option}
use Rattle.beldi_step.proofs.StepRuns.{same_some}

-- ---- a finish that an event gives is now
module _ (now life deadline : ℕ) (soon : deadline ≤ now + life) where
  abbrev StaysNear : Option ℕ → Option ℕ → Type 0
  StaysNear f g = IsNear life deadline f → IsNear life deadline g

  at_end : (stamp : Bool) (f : Option ℕ) → StaysNear f (finish_at stamp now f)
  at_end false f near = near
  at_end true None near = soon
  at_end true (Some f) near = near

  ends : (o : Outcome) (stamp : Bool) (i : IntentRow) (p : Option Outcome) → StaysNear i.finish (end_with o stamp now i p).0.finish
  ends o stamp i None near = at_end stamp i.finish near
  ends o stamp i (Some p) near = near

  stamps : (i : IntentRow) (f : Option ℕ) → StaysNear i.finish (stamp_with now i f).0.finish
  stamps i None near = soon
  stamps i (Some f) near = near

  acts : (a : Act) (r : Option Row) → StaysNear (finish_in r) (finish_in (act a now r).0)
  acts (Act.Bind f v) (Some (Row.Intent i)) near = by_body i.body
    where
      by_body : (b : Option Body) → IsNear life deadline (bind_to f v i b).0.finish
      by_body None = near
      by_body (Some b) = near
  acts (Act.End o stamp) (Some (Row.Intent i)) near = ends o stamp i i.outcome near
  acts Act.Stamp (Some (Row.Intent i)) near = stamps i i.finish near
  acts (Act.DropIntent l) (Some (Row.Intent i)) near = by_old (is_old l now i)
    where
      by_old : (b : Bool) → IsNear life deadline (finish_in (stays_unless b (Row.Intent i, removed_reply (is_old l now i))).0)
      by_old true = tt
      by_old false = near
  acts a (Some (Row.Intent i)) near = near
  acts a None near = grind arith
  acts a (Some r) near = grind arith

  asks : (q : Query) (m : Rows) (home : ℕ) (i : IntentId) → StaysNear (finish_in (map.get m (key_in home i))) (finish_in (map.get (rows_after q now m) (key_in home i)))
  asks (Query.Act k a) m home i = keys_set m k (act a now (map.get m k)).0 (λ l o. StaysNear (finish_in (map.get m l)) (finish_in o)) (acts a (map.get m k)) (λ l apart near. near) (key_in home i)
  asks (Query.After k) m home i = λ near. near

  pub came : (q : Query) (room : ℕ) (w : Result QueryReply TableErr) (m n : Rows) → CameOn q now room w m n → (home : ℕ) (i : IntentId) → StaysNear (finish_in (map.get m (key_in home i))) (finish_in (map.get n (key_in home i)))
  came q room (Ok t) m n is home i near = subst (λ l. IsNear life deadline (finish_in (map.get l (key_in home i)))) (sym is.0) (asks q m home i near)
  came q room (Err v) m n is home i near = subst (λ l. IsNear life deadline (finish_in (map.get l (key_in home i)))) (sym (refused_stand q now room v m n is)) near

-- ---- no row of an intent has a finish
-- a finish is there, or none is
has_it : (r : Option Row) → has_finish r ≡ false → finish_in r ≡ None
has_it r h = grind arith

false_by : (b : Bool) → (b ≡ true → ⊥) → b ≡ false
false_by true never = absurd (never refl)
false_by false never = refl

none_there : {A : Type 0} (o : Option A) → is_some o ≡ false → o ≡ None
none_there o h = grind arith

module _ (d : Deployment) (m : Rows) (histories : Histories) (lock_ahead : IntentId → Bool) (h : Matches d m histories lock_ahead) (well_formed : WellFormedHistories d histories) where
  -- ---- an intent has its rows in one home
  its_home : (b : Bool) (home : ℕ) (r : Option Row) (q : Instance) → IntentMatches (has_ended d histories) b home r (Some q) → is_some r ≡ true → home ≡ (if b then 0 else q.func)
  its_home true home r q fits there = by_test (home == 0) refl fits
    where
      by_test : (b : Bool) → (home == 0) ≡ b → RootMatches b r (Some q) → home ≡ 0
      by_test true e fits = eqb-true home 0 e
      by_test false e fits = let clash = sym (ap is_some fits) ∙ there in cc
  its_home false home None q fits there = cc
  its_home false home (Some (Row.Intent r)) q fits there = by_body r.body fits.body
    where
      by_body : (b : Option Body) → CalleeBodyMatches home b r.outcome (Some q) → home ≡ q.func
      by_body None fits = absurd fits
      by_body (Some b) fits = sym fits.1 ∙ ap (λ (z : Body). z.func) fits.0.body ∙ ap (λ (z : Instance). z.func) (same_some (sym fits.0.made))
  its_home false home (Some r) q fits there = absurd fits

  pub one_home : (i : IntentId) (q : Instance) → map.get histories i ≡ Some q → (home : ℕ) → is_some (map.get m (key_in home i)) ≡ true → key_in home i ≡ intent_key i q.func
  one_home i q made home there =
      let e = its_home (has_no_hops i.hops) home (map.get m (key_in home i)) q (subst (IntentMatches (has_ended d histories) (has_no_hops i.hops) home (map.get m (key_in home i))) made (h.keys (key_in home i))) there in
      λ k. record { home = e k; kind = Kind.Intent i }

  -- so where that row has no finish, none has
  pub none_at : (i : IntentId) (q : Instance) → map.get histories i ≡ Some q → finish_in (map.get m (intent_key i q.func)) ≡ None → IsUnfinished m i
  none_at i q made none home = by_option (map.get m (key_in home i)) (λ e. ap finish_in e) (λ r e. ap (λ k. finish_in (map.get m k)) (one_home i q made home (ap is_some e)) ∙ none)

  -- ---- who has no outcome has no finish
  over_inside : (q : Instance) (t : TxId) (i : IntentId) → map.get histories i ≡ Some q → q.enclosing ≡ Some t → has_ended d histories t ≡ true → is_some q.outcome ≡ true
  over_inside q t i made within ended = by_option (tx_end d histories t) (λ e. let clash = sym (ap is_some e) ∙ ended in cc) (λ z e. decided_over d histories well_formed i q t z made within e)

  root_none : (b : Bool) (r : Option Row) (o : Option Instance) → outcome_of o ≡ None → RootMatches b r o → finish_in r ≡ None
  root_none true None o none fits = refl
  root_none true (Some (Row.Intent r)) o none fits = by_body r.body refl fits.body
    where
      by_outcome : r.outcome ≡ None → r.finish ≡ None
      by_outcome e = none_there r.finish (fits.finishes ∙ ap is_some e)

      by_body : (b : Option Body) → r.body ≡ b → BodyMatches b r.outcome o → r.finish ≡ None
      by_body None bare same = by_outcome (fits.bare bare)
      by_body (Some b) has same = by_outcome (sym same.1 ∙ sym (ap outcome_of same.0.made) ∙ none)
  root_none true (Some r) o none fits = absurd fits
  root_none false r o none fits = ap finish_in fits

  callee_none : (home : ℕ) (i : IntentId) (r : Option Row) → outcome_of (map.get histories i) ≡ None → CalleeMatches (has_ended d histories) home r (map.get histories i) → finish_in r ≡ None
  callee_none home i None none fits = refl
  callee_none home i (Some (Row.Intent r)) none fits = by_body r.body refl fits.body fits.finishes
    where
      no_outcome : (waits : Bool) (o u : Option Outcome) → u ≡ None → OutcomeMatches waits o u → o ≡ None
      no_outcome waits o u none fits = grind arith

      by_tx : (q : Instance) → map.get histories i ≡ Some q → q.outcome ≡ None → (t : Option TxId) → q.enclosing ≡ t → r.outcome ≡ None → FinishMatches (has_ended d histories) t r.finish r.outcome → r.finish ≡ None
      by_tx q made open_still None within none fits = none_there r.finish (fits ∙ ap is_some none)
      by_tx q made open_still (Some t) within none fits = by_option r.finish (λ e. e) (λ f e. let over = over_inside q t i made within (fits (ap is_some e)) in let clash = sym (ap is_some open_still) ∙ over in cc)

      by_body : (b : Option Body) → r.body ≡ b → CalleeBodyMatches home b r.outcome (map.get histories i) → FinishMatches (has_ended d histories) (tx_in b) r.finish r.outcome → r.finish ≡ None
      by_body None has fits finishes = absurd fits
      by_body (Some b) has fits finishes =
          let q = fits.0.instance in
          let open_still : q.outcome ≡ None = sym (ap outcome_of fits.0.made) ∙ none in
          by_tx q fits.0.made open_still b.tx (sym (ap (λ (z : Body). z.tx) fits.0.body)) (no_outcome (is_waited b.parent) r.outcome q.outcome open_still fits.2) finishes
  callee_none home i (Some r) none fits = absurd fits

  pub open_none : (i : IntentId) → outcome_of (map.get histories i) ≡ None → IsUnfinished m i
  open_none i none home = by_root (has_no_hops i.hops) (h.keys (key_in home i))
    where
      by_root : (b : Bool) → IntentMatches (has_ended d histories) b home (map.get m (key_in home i)) (map.get histories i) → finish_in (map.get m (key_in home i)) ≡ None
      by_root true fits = root_none (home == 0) (map.get m (key_in home i)) (map.get histories i) none fits
      by_root false fits = callee_none home i (map.get m (key_in home i)) none fits

  -- ---- nor has a callee outside transactions whose row has no outcome
  outside_none : (home : ℕ) (r : Option Row) (q : Instance) → q.enclosing ≡ None → ((s : IntentRow) (b : Body) → r ≡ Some (Row.Intent s) → s.body ≡ Some b → b ≡ body_of q → s.outcome ≡ None) → CalleeMatches (has_ended d histories) home r (Some q) → finish_in r ≡ None
  outside_none home None q out none fits = refl
  outside_none home (Some (Row.Intent r)) q out none fits = by_body r.body refl fits.body fits.finishes
    where
      by_tx : (t : Option TxId) → t ≡ None → r.outcome ≡ None → FinishMatches (has_ended d histories) t r.finish r.outcome → r.finish ≡ None
      by_tx None e none fits = none_there r.finish (fits ∙ ap is_some none)
      by_tx (Some t) e none fits = cc

      by_body : (b : Option Body) → r.body ≡ b → CalleeBodyMatches home b r.outcome (Some q) → FinishMatches (has_ended d histories) (tx_in b) r.finish r.outcome → r.finish ≡ None
      by_body None has fits finishes = absurd fits
      by_body (Some b) has fits finishes =
          let same : b ≡ body_of q = fits.0.body ∙ ap body_of (same_some (sym fits.0.made)) in
          by_tx b.tx (ap (λ (z : Body). z.tx) same ∙ out) (none r b refl has same) finishes
  outside_none home (Some r) q out none fits = absurd fits

  pub sent_none : (i : IntentId) (q : Instance) → has_no_hops i.hops ≡ false → map.get histories i ≡ Some q → q.enclosing ≡ None → ((home : ℕ) (r : IntentRow) (b : Body) → HasBody m home i r b → b ≡ body_of q → r.outcome ≡ None) → IsUnfinished m i
  sent_none i q hops made out none home =
      let k = key_in home i in
      outside_none home (map.get m k) q out (λ r b is body same. none home r b (record { there = is; body = body }) same)
      (subst (CalleeMatches (has_ended d histories) home (map.get m k)) made (subst (λ b. IntentMatches (has_ended d histories) b home (map.get m k) (map.get histories i)) hops (h.keys k)))

  -- ---- nor the owner of a transaction, where one who took part has none
  pub owner_of : (t : TxId) (i : IntentId) (q : Instance) → map.get histories i ≡ Some q → q.enclosing ≡ Some t → (o : Instance) × (map.get histories t.intent ≡ Some o) × (o.func ≡ t.func)
  owner_of t = all_called d histories well_formed t (λ i q. (o : Instance) × (map.get histories t.intent ≡ Some o) × (o.func ≡ t.func))
      (λ i q inner c outside own. (c.waiter, ap (map.get histories) own.intent ∙ c.made, sym own.func_is)) (λ i q inner c up rest. rest)

  pub owner_none : Seats m → (t : TxId) (home : ℕ) (i : IntentId) (r : IntentRow) (b : Body) → HasBody m home i r b → r.finish ≡ None → (q : Instance) → map.get histories i ≡ Some q → b ≡ body_of q → b.tx ≡ Some t → IsUnfinished m t.intent
  owner_none seats t home i r b has none q made same inner =
      let o = owner_of t i q made (sym (ap (λ (z : Body). z.tx) same) ∙ inner) in
      none_at t.intent o.0 o.1 (ap (λ f. finish_in (map.get m (intent_key t.intent f))) o.2 ∙ has_it (map.get m (intent_key t.intent t.func)) (false_by (has_finish (map.get m (intent_key t.intent t.func))) (λ e. let clash = sym (ap is_some none) ∙ seats.ends_last t home i r b e has inner in cc)))
