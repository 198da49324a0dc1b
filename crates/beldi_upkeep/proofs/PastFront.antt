-- Where an instance has not ended and stands at a step, nothing shows that it is past that step.
use Rattle.beldi_plain_laws.proofs.Ends.{fits}
use Rattle.beldi_chain.specs.Chain.{chain}
use Rattle.beldi_histories.proofs.{FrameAt.no_mark_at, Cases.by_option, Instances.row_of}
use Rattle.beldi_histories.specs.{Histories.at_step, Histories.ahead_by, Histories.ahead_note, Histories.commit_in, Histories.decision_by, Histories.note_by, Histories.note_or, Histories.expected_note, Histories.expected_read, Histories.expected_value, Histories.read_at, Histories.row_at as value_at, Histories.value_or, Expected.called_by, Expected.result_of, Expected.value_for, RowMatching.CalleeBodyMatches, RowMatching.RootMatches}
use Rattle.beldi_invariant.proofs.Names.{Answer, Body, Bool, CallMatches, Core, Deployment, Instance, IntentId, IntentMatches, IntentRow, Item, Kind, List, None, Option, Outcome, Place, Invariant, Row, RowKey, Rows, Some, [], ap, arith, child_of, effect_after, false, has_ended, has_no_hops, head_key, if◌then◌else◌, inl, inr, invoke_key, is_some, is_waited, key_in, length, expected_call, refl, same_some, slice_get, subst, suc, sym, take, true, tx_after, tx_now, effect_of, zero, ℕ, ◌==◌, ◌∙◌, ◌∷◌, ◌≡◌, ◌≤◌}
use Rattle.beldi_invariant.proofs.Names.map
use Rattle.beldi_histories.specs.{RowMatching.LogMatches}
use Rattle.std.proofs.Common.{eqb-true}
use Rattle.std.proofs.lemmas.Bool.{false_from_ne_true}
use Rattle.beldi_upkeep.specs.Passed.{IsLater, ShowsPast, has_note, has_outcome, has_result, is_call, is_log}
use Rattle.beldi_upkeep.proofs.{FromInvariant.call_is, FromInvariant.called_here, FromInvariant.row_at, RowNotes.row_noted}

not_some : {A : Type 0} (v : A) → ◌≡◌ {A = Option A} (Some v) None → ⊥
not_some v e = cc

past_end : (xs : List Answer) (n : ℕ) → length xs ≤ n → slice_get xs n ≡ None
past_end [] n le = refl
past_end (x ∷ xs) zero le = absurd (omega (arith, le))
past_end (x ∷ xs) (suc n) le = past_end xs n (omega (arith, le))

no_if : {A : Type 0} (b : Bool) (o : Option A) → o ≡ None → (if b then o else None) ≡ None
no_if true o h = h
no_if false o h = refl

no_result : (f : ℕ) (i : Option Instance) (j : Instance) (z : ℕ × Option Outcome) → j.outcome ≡ None → called_by f i (Some j) ≡ Some z → z.1 ≡ None
no_result f None j z none h = cc
no_result f (Some i) j z none h = by_test (i.func == f) h
  where
    by_waits : (b : Bool) → (if b then j.outcome else None) ≡ None
    by_waits true = none
    by_waits false = refl

    by_test : (b : Bool) → (if b then Some (j.func, result_of j) else None) ≡ Some z → z.1 ≡ None
    by_test true h = ap (λ y. y.1) (sym (same_some h)) ∙ by_waits (is_waited j.parent)
    by_test false h = cc

module _ (d : Deployment) (c : Core) (m : Rows) (h : Invariant d c m) (id : IntentId) (q : Instance) (made : map.get h.histories id ≡ Some q) (none : q.outcome ≡ None) where
  abbrev at : ℕ
  at = length q.answers

  -- neither a read nor a decision
  no_read : (home : ℕ) (p : Place) → IsLater p id at → (o : Option Row) → LogMatches o (expected_read d h.histories home p) → is_log o ≡ true → ⊥
  no_read home p later o fits_in there = by_row o fits_in there
    where
      over : at ≤ p.step
      over = let l = later.later in omega (arith, l)

      nothing : value_at d q p.step ≡ None
      nothing = ap (λ z. value_or (decision_by z) (read_at d q p.step)) ((fits d q).fresh p.step over) ∙ ap (at_step (λ given a. value_for (effect_after d q given) a) (take p.step q.answers)) (past_end q.answers p.step over)

      by_row : (o : Option Row) → LogMatches o (expected_read d h.histories home p) → is_log o ≡ true → ⊥
      by_row (Some (Row.ReadLog v)) f t = let clash = sym f ∙ ap (expected_value d home p.step) (ap (map.get h.histories) later.intent ∙ made) ∙ no_if (q.func == home) (value_at d q p.step) nothing in not_some v clash
      by_row None f t = cc
      by_row (Some w) f t = absurd f

  -- no note
  no_note : (home t z : ℕ) (k : List ℕ) (p : Place) → IsLater p id at → has_note p (map.get m (record { home = home; kind = Kind.Data t k z })) ≡ true → ⊥
  no_note home t z k p later there =
      let x : Item = record { func = home; table = t; key = k } in
      let over : at ≤ p.step = let l = later.later in omega (arith, l) in
      let gone = past_end q.answers p.step over in
      let is = ap (map.get h.histories) later.intent ∙ made in
      let marks = no_mark_at d h.histories p.intent q p.step is later.short (ap (at_step (λ given a. commit_in (effect_after d q given)) (take p.step q.answers)) gone) in
      let owed : expected_note d x p.intent (h.lock_ahead p.intent) p.step (map.get h.histories p.intent) ≡ None = ap (expected_note d x p.intent (h.lock_ahead p.intent) p.step) is
      ∙ ap (λ o. note_or (at_step (λ given a. note_by x q.func (tx_after d p.intent q given) (effect_after d q given) a) (take p.step q.answers) o) (ahead_note d x p.intent (h.lock_ahead p.intent) p.step q)) gone
      ∙ ap (λ b. if b then ahead_by x q.func (tx_now d p.intent q) (effect_of d q) (h.lock_ahead p.intent) else None) (false_from_ne_true (p.step == at) (λ e. let l = later.later in let s = eqb-true p.step at e in absurd (omega (arith, l, s)))) in
      let clash = sym (ap is_some ((h.rows.items x).notes p marks ∙ owed)) ∙ row_noted (chain m (head_key x)) p (h.rows.chains x) z there in cc

  -- no call
  no_call : (home : ℕ) (p : Place) → IsLater p id at → (o : Option Row) → map.get m (invoke_key home p) ≡ o → CallMatches o (expected_call h.histories home p) → is_call o ≡ true → ⊥
  no_call home p later (Some (Row.Invoke x)) is f t =
      let i = call_is d c m h home p.intent p.step x is in
      let w = called_here d c m h p.intent p.step i.callee i.there in
      let same : w.0 ≡ q = same_some (sym w.1.0 ∙ ap (map.get h.histories) later.intent ∙ made) in
      let le = w.1.1.here in let l = later.later in let e = ap (λ (y : Instance). length y.answers) same in absurd (omega (arith, le, l, e))
  no_call home p later None is f t = cc
  no_call home p later (Some w) is f t = absurd f

  -- no result
  no_back : (home : ℕ) (p : Place) → child_of p.intent p.step ≡ id → (o : Option Row) → CallMatches o (expected_call h.histories home p) → has_result o ≡ true → ⊥
  no_back home p child (Some (Row.Invoke x)) f t =
      let e : called_by home (map.get h.histories p.intent) (Some q) ≡ Some (x.func, x.result) = ap (called_by home (map.get h.histories p.intent)) (sym (ap (map.get h.histories) child ∙ made)) ∙ f in
      let clash = sym (ap is_some (no_result home (map.get h.histories p.intent) q (x.func, x.result) none e)) ∙ t in cc
  no_back home p child None f t = cc
  no_back home p child (Some w) f t = absurd f

  -- no outcome
  has_body : (t : Bool) (home : ℕ) (r : IntentRow) (u : Outcome) → r.outcome ≡ Some u → IntentMatches (has_ended d h.histories) t home (Some (Row.Intent r)) (Some q) → (b : Body) × (r.body ≡ Some b)
  has_body true home r u some f = by_root (home == 0) f
    where
      by_root : (b : Bool) → RootMatches b (Some (Row.Intent r)) (Some q) → (b : Body) × (r.body ≡ Some b)
      by_root true g = by_option r.body (λ e. absurd (not_some u (sym some ∙ g.bare e))) (λ b e. (b, e))
      by_root false g = cc
  has_body false home r u some f = by_body r.body refl f.body
    where
      by_body : (o : Option Body) → r.body ≡ o → CalleeBodyMatches home o r.outcome (Some q) → (b : Body) × (r.body ≡ Some b)
      by_body None e g = absurd g
      by_body (Some b) e g = (b, e)

  no_outcome : (home : ℕ) (o : Option Row) → map.get m (key_in home id) ≡ o → has_outcome o ≡ true → ⊥
  no_outcome home (Some (Row.Intent r)) is t = by_option r.outcome (λ e. let clash = sym (ap is_some e) ∙ t in cc) (λ u some.
      let f = subst (IntentMatches (has_ended d h.histories) (has_no_hops id.hops) home (Some (Row.Intent r))) made (row_at d c m h home id (Some (Row.Intent r)) is) in
      let b = has_body (has_no_hops id.hops) home r u some f in
      not_some u (sym ((row_of (has_ended d h.histories) (has_no_hops id.hops) home r (Some q) f).outcome b.0 u q b.1 some refl) ∙ none))
  no_outcome home o is t = cc

  pub none_past : (l : RowKey) → ShowsPast l.kind (map.get m l) id at → ⊥
  none_past l = by_kind l.home l.kind
    where
      by_kind : (home : ℕ) (κ : Kind) → ShowsPast κ (map.get m (record { home = home; kind = κ })) id (length q.answers) → ⊥
      by_kind home (Kind.ReadLog p) s = no_read home p s.0 (map.get m (record { home = home; kind = Kind.ReadLog p })) (h.rows.keys (record { home = home; kind = Kind.ReadLog p })) s.1
      by_kind home (Kind.Invoke p) (inl s) = no_call home p s.0 (map.get m (invoke_key home p)) refl (h.rows.keys (invoke_key home p)) s.1
      by_kind home (Kind.Invoke p) (inr s) = no_back home p s.0 (map.get m (invoke_key home p)) (h.rows.keys (invoke_key home p)) s.1
      by_kind home (Kind.Data t k z) s = no_note home t z k s.place s.later s.noted
      by_kind home (Kind.Intent j) s = no_outcome home (map.get m (key_in home id)) refl (ap (λ i. has_outcome (map.get m (key_in home i))) (sym s.0) ∙ s.1)
      by_kind home (Kind.Shadow s t k z) x = absurd x
      by_kind home (Kind.Lockset i b t k) x = absurd x
