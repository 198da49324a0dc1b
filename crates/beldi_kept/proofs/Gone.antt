-- Who is gone, by the kept rows: its rows stand in one home, where it has its finish, or no body.
use Rattle.std.specs.FinMap as map
use Rattle.std.proofs.lemmas.Bool.{lt-ltb}
use Rattle.std.proofs.Common.{◌≡◌, ◌⊎◌, inl, inr, ℕ, ◌+◌, ◌≤◌, ◌==◌, Bool, true, false, ltb-true, Option, Some, None, is_some, if◌then◌else◌, eqb-true, refl, ap, sym, ◌∙◌, subst, arith}
use Rattle.beldi_value.specs.{Id.has_no_hops, declared.id.IntentId.IntentId}
use Rattle.beldi_tree.specs.declared.deployment.Deployment.{Deployment}
use Rattle.beldi_plain.specs.Plain.{Instance}
use Rattle.beldi_row.specs.{Table.Rows, declared.key.Kind.Kind, declared.row.Body.Body, declared.row.Row.Row}
use Rattle.beldi_intent.specs.Intent.{intent_key}
use Rattle.beldi_step.specs.HostStep.{Core}
use Rattle.beldi_histories.specs.{Matches.has_ended, RowMatching.CalleeBodyMatches, RowMatching.IntentMatches, RowMatching.RootMatches, Stands.key_in}
use Rattle.beldi_invariant.specs.{FoundInside.has_finish, Invariant.Invariant}
use Rattle.beldi_upkeep.specs.WorksFor.{IsUnfinished, finish_in}
use Rattle.beldi_kept.specs.KeptRows.{IsOld, IsOver, IsUnbound}
use Rattle.beldi_kept.proofs.Less.{IsBare}

module _ (d : Deployment) (c : Core) (m : Rows) (h : Invariant d c m) where
  abbrev func_in : Option Instance → ℕ
  func_in None = 0
  func_in (Some q) = q.func

  its_home : (b : Bool) (home : ℕ) (r : Option Row) (o : Option Instance) → IntentMatches (has_ended d h.histories) b home r o → is_some r ≡ true → home ≡ (if b then 0 else func_in o)
  its_home true home r o fits there = by_test (home == 0) refl fits
    where
      by_test : (b : Bool) → (home == 0) ≡ b → RootMatches b r o → home ≡ 0
      by_test true e fits = eqb-true home 0 e
      by_test false e fits = let clash = sym (ap is_some fits) ∙ there in cc
  its_home false home None o fits there = cc
  its_home false home (Some (Row.Intent r)) o fits there = by_body r.body fits.body
    where
      by_body : (b : Option Body) → CalleeBodyMatches home b r.outcome o → home ≡ func_in o
      by_body None fits = absurd fits
      by_body (Some b) fits = sym fits.1 ∙ ap (λ (z : Body). z.func) fits.0.body ∙ sym (ap func_in fits.0.made)
  its_home false home (Some r) o fits there = absurd fits

  home_of_rows : (i : IntentId) (home : ℕ) → is_some (map.get m (key_in home i)) ≡ true → home ≡ (if has_no_hops i.hops then 0 else func_in (map.get h.histories i))
  home_of_rows i home there = its_home (has_no_hops i.hops) home (map.get m (key_in home i)) (map.get h.histories i) (h.rows.keys (key_in home i)) there

  -- all rows of an intent are one
  pub one_row : (i : IntentId) (home room : ℕ) → is_some (map.get m (key_in home i)) ≡ true → is_some (map.get m (key_in room i)) ≡ true → key_in home i ≡ key_in room i
  one_row i home room here there = let e : home ≡ room = home_of_rows i home here ∙ sym (home_of_rows i room there) in λ k. record { home = e k; kind = Kind.Intent i }

  -- .. and of one that is known they stand at its function
  pub recorded_home : (i : IntentId) (q : Instance) (home : ℕ) → map.get h.histories i ≡ Some q → is_some (map.get m (key_in home i)) ≡ true → key_in home i ≡ intent_key i q.func
  recorded_home i q home made there = let e = home_of_rows i home there ∙ ap (λ o. if has_no_hops i.hops then 0 else func_in o) made in λ k. record { home = e k; kind = Kind.Intent i }

  pub root_home : (i : IntentId) (home : ℕ) → has_no_hops i.hops ≡ true → is_some (map.get m (key_in home i)) ≡ true → home ≡ 0
  root_home i home root there = home_of_rows i home there ∙ ap (λ b. if b then 0 else func_in (map.get h.histories i)) root

-- ---- who is gone
pub record IsDone (kept : Rows) (i : IntentId) : Type 0 where
  pub home : ℕ
  pub over : (has_finish (map.get kept (key_in home i)) ≡ true) ⊎ IsBare (map.get kept (key_in home i))

pub unbound_bare : (newest : ℕ) (i : IntentId) (s r : Option Row) → IsUnbound newest i s r → IsBare r
unbound_bare newest i None (Some (Row.Intent r)) u = u.0
unbound_bare newest i None None u = absurd u
unbound_bare newest i None (Some r) u = absurd u
unbound_bare newest i (Some s) r u = absurd u

pub unbound_none : (newest : ℕ) (i : IntentId) (s r : Option Row) → IsUnbound newest i s r → s ≡ None
unbound_none newest i None r u = refl
unbound_none newest i (Some s) r u = absurd u

pub unbound_root : (newest : ℕ) (i : IntentId) (s r : Option Row) → IsUnbound newest i s r → has_no_hops i.hops ≡ true
unbound_root newest i None (Some (Row.Intent r)) u = u.1
unbound_root newest i None None u = absurd u
unbound_root newest i None (Some r) u = absurd u
unbound_root newest i (Some s) r u = absurd u

-- ---- finishes that are old
pub old_finished : (life now : ℕ) (r : Option Row) → IsOld life now (finish_in r) → has_finish r ≡ true
old_finished life now None old = cc
old_finished life now (Some (Row.Intent i)) old = by_finish i.finish old
  where
    by_finish : (f : Option ℕ) → IsOld life now f → is_some f ≡ true
    by_finish None o = cc
    by_finish (Some f) o = refl
old_finished life now (Some r) old = cc

pub old_still : (life now after : ℕ) (o p : Option ℕ) → now ≤ after → ((f : ℕ) → o ≡ Some f → p ≡ Some f) → IsOld life now o → IsOld life after p
old_still life now after None p later same old = cc
old_still life now after (Some f) p later same old = let was = ltb-true (f + life) now old in subst (IsOld life after) (sym (same f refl)) (lt-ltb (f + life) after (omega (arith, later, was)))

pub is_done : (life newest latest : ℕ) (m kept : Rows) (i : IntentId) → IsOver life newest latest m kept i → IsDone kept i
is_done life newest latest m kept i o = record { home = o.home; over = by_over o.over }
  where
    by_over : IsOld life latest (finish_in (map.get kept (key_in o.home i))) ⊎ IsUnbound newest i (map.get m (key_in o.home i)) (map.get kept (key_in o.home i)) → (has_finish (map.get kept (key_in o.home i)) ≡ true) ⊎ IsBare (map.get kept (key_in o.home i))
    by_over (inl old) = inl (old_finished life latest (map.get kept (key_in o.home i)) old)
    by_over (inr u) = inr (unbound_bare newest i (map.get m (key_in o.home i)) (map.get kept (key_in o.home i)) u)

pub done_there : (r : Option Row) → (has_finish r ≡ true) ⊎ IsBare r → is_some r ≡ true
done_there (Some r) o = refl
done_there None (inl o) = cc
done_there None (inr o) = absurd o

-- who has a finish is not unfinished
pub finished : (m : Rows) (i : IntentId) (home : ℕ) → has_finish (map.get m (key_in home i)) ≡ true → IsUnfinished m i → ⊥
finished m i home fin none = by_row (map.get m (key_in home i)) fin (none home)
  where
    by_row : (r : Option Row) → has_finish r ≡ true → finish_in r ≡ None → ⊥
    by_row r fin none = grind (arith, fin, none)
