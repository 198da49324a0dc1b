-- The row of an intent that is known: it has the instance's body, and where it has its finish the instance has its outcome.
use Rattle.std.proofs.Common.{◌≡◌, ℕ, ◌==◌, Bool, true, false, Option, None, Some, is_some, refl, ap, sym, ◌∙◌, subst}
use Rattle.std.specs.FinMap as map
use Rattle.beldi_value.specs.{Id.has_no_hops, declared.id.IntentId.IntentId, declared.outcome.Outcome.Outcome, declared.place.TxId.TxId}
use Rattle.beldi_tree.specs.declared.deployment.Deployment.{Deployment}
use Rattle.beldi_plain.specs.Plain.{Instance}
use Rattle.beldi_plain_laws.proofs.Maps.{same_some}
use Rattle.beldi_row.specs.{Table.Rows, declared.row.Body.Body, declared.row.IntentRow.IntentRow, declared.row.Row.Row}
use Rattle.beldi_step.specs.HostStep.{Core}
use Rattle.beldi_histories.specs.{Matches.has_ended, RowMatching.BodyMatches, RowMatching.CalleeBodyMatches, RowMatching.FinishMatches, RowMatching.IntentMatches, RowMatching.IsBodyOf, RowMatching.RootMatches, RowMatching.tx_in, Stands.body_of, Stands.key_in, Histories.tx_end}
use Rattle.beldi_histories.proofs.{Cases.by_option, Participants.decided_over}
use Rattle.beldi_invariant.specs.{FoundInside.has_finish, Invariant.Invariant}
use Rattle.beldi_upkeep.specs.Checked.{body_at}
use Rattle.beldi_upkeep.proofs.FromInvariant.{finished_over, row_at}

of_instance : (b : Body) (q : Instance) → IsBodyOf b (Some q) → b ≡ body_of q
of_instance b q w = w.body ∙ ap body_of (same_some (sym w.made))

root_body : (b : Option Body) (o : Option Outcome) (q : Instance) → BodyMatches b o (Some q) → b ≡ Some (body_of q)
root_body None o q h = cc
root_body (Some b) o q h = ap Some (of_instance b q h.0)

callee_body : (home : ℕ) (b : Option Body) (o : Option Outcome) (q : Instance) → CalleeBodyMatches home b o (Some q) → b ≡ Some (body_of q)
callee_body home None o q h = absurd h
callee_body home (Some b) o q h = ap Some (of_instance b q h.0)

at_root : (t : Bool) (r : Option Row) (q : Instance) → is_some r ≡ true → RootMatches t r (Some q) → body_at r ≡ Some (body_of q)
at_root true None q there h = cc
at_root true (Some (Row.Intent r)) q there h = root_body r.body r.outcome q h.body
at_root true (Some r) q there h = absurd h
at_root false r q there h = let clash = sym (ap is_some h) ∙ there in cc

module _ (ended : TxId → Bool) where
  pub body_here : (b : Bool) (home : ℕ) (r : Option Row) (q : Instance) → is_some r ≡ true → IntentMatches ended b home r (Some q) → body_at r ≡ Some (body_of q)
  body_here true home r q there h = at_root (home == 0) r q there h
  body_here false home None q there h = cc
  body_here false home (Some (Row.Intent r)) q there h = callee_body home r.body r.outcome q h.body
  body_here false home (Some r) q there h = absurd h

module _ (d : Deployment) (c : Core) (m : Rows) (h : Invariant d c m) (i : IntentId) (q : Instance) (made : map.get h.histories i ≡ Some q) where
  abbrev Fits : ℕ → Option Row → Type 0
  Fits home r = IntentMatches (has_ended d h.histories) (has_no_hops i.hops) home r (Some q)

  fits : (home : ℕ) (r : Option Row) → map.get m (key_in home i) ≡ r → Fits home r
  fits home r is = subst (IntentMatches (has_ended d h.histories) (has_no_hops i.hops) home r) made (row_at d c m h home i r is)

  -- a row of it that is there has its body
  pub has_body : (home : ℕ) → is_some (map.get m (key_in home i)) ≡ true → body_at (map.get m (key_in home i)) ≡ Some (body_of q)
  has_body home there = body_here (has_ended d h.histories) (has_no_hops i.hops) home (map.get m (key_in home i)) q there (fits home (map.get m (key_in home i)) refl)

  -- a root has its row
  root_there : (r : Option Row) → RootMatches true r (Some q) → is_some r ≡ true
  root_there None g = let clash = g in cc
  root_there (Some r) g = refl

  pub root_has_row : has_no_hops i.hops ≡ true → is_some (map.get m (key_in 0 i)) ≡ true
  root_has_row root = root_there (map.get m (key_in 0 i)) (subst (λ b. IntentMatches (has_ended d h.histories) b 0 (map.get m (key_in 0 i)) (Some q)) root (fits 0 (map.get m (key_in 0 i)) refl))

  -- ---- the finish of who was called in a transaction
  module _ (t : TxId) (in_it : q.enclosing ≡ Some t) where
    by_body : (home : ℕ) (b : Option Body) (f : Option ℕ) (o : Option Outcome) → b ≡ Some (body_of q) → FinishMatches (has_ended d h.histories) (tx_in b) f o → is_some f ≡ true → has_ended d h.histories t ≡ true
    by_body home b f o is g over = subst (λ w. FinishMatches (has_ended d h.histories) w f o) (ap tx_in is ∙ in_it) g over

    ended_over : has_ended d h.histories t ≡ true → is_some q.outcome ≡ true
    ended_over over = by_option (tx_end d h.histories t) (λ none. let clash = sym (ap is_some none) ∙ over in cc) (λ e some. decided_over d h.histories h.well_formed i q t e made in_it some)

    by_row : (b : Bool) (home : ℕ) (r : IntentRow) → IntentMatches (has_ended d h.histories) b home (Some (Row.Intent r)) (Some q) → is_some r.finish ≡ true → is_some q.outcome ≡ true
    by_row true home r g over = by_home (home == 0) g
      where
        by_home : (z : Bool) → RootMatches z (Some (Row.Intent r)) (Some q) → is_some q.outcome ≡ true
        by_home true g = by_root r.body g.body
          where
            by_root : (b : Option Body) → BodyMatches b r.outcome (Some q) → is_some q.outcome ≡ true
            by_root None w = let clash = w in cc
            by_root (Some b) w = ap (λ (y : Instance). is_some y.outcome) (same_some w.0.made) ∙ ap is_some w.1 ∙ sym g.finishes ∙ over
        by_home false g = cc
    by_row false home r g over = ended_over (by_body home r.body r.finish r.outcome (callee_body home r.body r.outcome q g.body) g.finishes over)

    inside_over : (home : ℕ) (r : Option Row) → map.get m (key_in home i) ≡ r → has_finish r ≡ true → is_some q.outcome ≡ true
    inside_over home None is over = cc
    inside_over home (Some (Row.Intent r)) is over = by_row (has_no_hops i.hops) home r (fits home (Some (Row.Intent r)) is) over
    inside_over home (Some r) is over = cc

  -- who has its finish has its outcome
  pub over_here : (home : ℕ) → has_finish (map.get m (key_in home i)) ≡ true → is_some q.outcome ≡ true
  over_here home over = by_option q.enclosing (λ out. finished_over d c m h home i q made out over) (λ t in_it. inside_over t in_it home (map.get m (key_in home i)) refl over)
