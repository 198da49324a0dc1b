-- At the start nothing is known, no lock is ahead, and no row is there: all that matches.
use Rattle.beldi_histories.proofs.Names.{Bool, Content, Deployment, Instance, IntentId, IntentMatches, IsLinked, ItemMatches, Kind, Histories, LocksAreAheadAtEnds, Matches, None, RootMatches, RowKey, RowMatches, WellFormedHistories, ShadowMatches, Some, TxId, TxsMatch, ap, at_row, called_by, chain, child_of, content, content_in, false, get-empty, got_by, has_ended, has_no_hops, head_key, holds, id_cmp, key_cmp, no_content, none_linked, expected_lockset, expected_note, expected_shadow, expected_value, refl, root_of, shadow_key, subst, sym, true, ℕ, ◌==◌, ◌∙◌, ◌≡◌}
use Rattle.beldi_histories.proofs.Instances.{no_callee}
use Rattle.beldi_histories.proofs.Names.map

abbrev none : Histories
none = map.empty

abbrev unlocked : IntentId → Bool
unlocked id = false

absent : (id : IntentId) → map.get none id ≡ None
absent id = get-empty id_cmp id

nobody : (id : IntentId) (q : Instance) → map.get none id ≡ Some q → ⊥
nobody id q is = let clash = sym (absent id) ∙ is in cc

pub well_formed_nothing : (d : Deployment) → WellFormedHistories d none
well_formed_nothing d = record {
  each = λ id q is. absurd (nobody id q is);
  closed = λ id q is. absurd (nobody id q is);
  called = λ i n j is. absurd (nobody (child_of i n) j is);
  callees = λ i q n w f a is. absurd (nobody i q is);
  roots = λ t q is. absurd (nobody (root_of t) q is);
}

pub ahead_nothing : (d : Deployment) → LocksAreAheadAtEnds d none unlocked
ahead_nothing d id e = cc

-- ---- rows
no_intent : (ended : TxId → Bool) (home : ℕ) (b : Bool) → IntentMatches ended b home None None
no_intent ended home true = elim (home == 0) as (λ b. RootMatches b None None) [ true ↦ refl | false ↦ refl ]
no_intent ended home false = record { open_still = λ q is same idle. cc }

no_row : (d : Deployment) (home : ℕ) (k : Kind) → RowMatches d none home k None
no_row d home (Kind.Intent id) = subst (IntentMatches (has_ended d none) (has_no_hops id.hops) home None) (sym (absent id)) (no_intent (has_ended d none) home (has_no_hops id.hops))
no_row d home (Kind.ReadLog a) = ap (expected_value d home a.step) (absent a.intent)
no_row d home (Kind.Invoke a) = ap (called_by home (map.get none a.intent)) (absent (child_of a.intent a.step)) ∙ no_callee home (map.get none a.intent)
no_row d home (Kind.Lockset i b t k) = ap (expected_lockset d b (record { func = home; table = t; key = k }) i) (absent i)
no_row d home (Kind.Data t k n) = tt
no_row d home (Kind.Shadow s t k n) = tt

no_chain : (k : RowKey) → content (chain map.empty k) ≡ content_in None
no_chain k = no_content (chain map.empty k) (get-empty key_cmp (at_row k 0))

none_is_linked : (k : RowKey) → IsLinked (chain map.empty k)
none_is_linked k = none_linked (chain map.empty k) (λ n. get-empty key_cmp (at_row k n))

pub nothing_matches : (d : Deployment) → Matches d map.empty none unlocked
nothing_matches d = record {
  keys = λ k. subst (RowMatches d none k.home k.kind) (sym (get-empty key_cmp k)) (no_row d k.home k.kind);
  chains = λ x. none_is_linked (head_key x);
  asides = λ t x. record { linked = none_is_linked (shadow_key t x); unowned = ap (λ (c : Content). c.owner) (no_chain (shadow_key t x)) };
  items = λ x. subst (ItemMatches d none unlocked x) (sym (no_chain (head_key x)))
      (record { owner = λ j. sym (ap (holds d x) (absent j)); notes = λ a other. sym (ap (expected_note d x a.intent false a.step) (absent a.intent)) });
  shadows = λ t x. subst (ShadowMatches d none t x) (sym (no_chain (shadow_key t x))) (λ a. sym (ap (expected_shadow d t x a.intent a.step) (absent a.intent)));
  txs = λ x. subst (λ (c : Content). TxsMatch d none unlocked x c.owner) (sym (no_chain (head_key x)))
      (record { owned_is_got = λ t e. cc; got_is_owned = λ t g open_still. let clash = sym (ap (got_by d t x g.member false) (absent g.member)) ∙ g.got in cc });
}
