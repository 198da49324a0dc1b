-- The row of an intent, over what the histories have: its instance is made, or ends, or only the row is set.
use Rattle.beldi_histories.proofs.Names.{Body, BodyMatches, Bool, CalleeBodyMatches, CalleeMatches, Deployment, EndsRow, FinishMatches, Instance, IntentId, IntentMatches, IntentRow, IsCalleeRow, IsRootRow, Histories, Matches, None, Option, Outcome, OutcomeMatches, Place, RootMatches, Row, RowKey, Rows, Some, Value, ap, local_steps, body_of, called_by, child_of, effect_of, elsewhere, ended, eq-eqb, eqb-true, false, get_set, has_ended, has_no_hops, id_exact, id_total, if◌then◌else◌, is_eq, is_some, is_waited, key_cmp, key_self, new_instance, no_root, expected_call, refl, same_some, set_row, subst, sym, true, tx_in, ℕ, ◌==◌, ◌∙◌, ◌≡◌, Effect, Kind}
use Rattle.beldi_histories.proofs.Instances.{body_stays, intent_stays, calls_moved, same_caller, same_callee, no_callee, no_own_callee}
use Rattle.beldi_histories.proofs.{Answers.true_false, Sets.ExpectsStill, Sets.ended_more, Sets.instance_set, Sets.row_put, CallRows.ended_expects, CallRows.made_expects, Frame.local_steps_same, Cases.by_cases}
use Rattle.beldi_histories.proofs.Names.map

-- the key of an intent's row in a home
abbrev pub own_key : ℕ → IntentId → RowKey
own_key home id = record { home = home; kind = Kind.Intent id }

-- ---- an instance was set with its row in this home, and matches those in others still
module _ (d : Deployment) (histories : Histories) (lock_ahead : IntentId → Bool) (id : IntentId) (s : Instance) (unlocked : lock_ahead id ≡ false) (expects : ExpectsStill d histories id (map.get histories id) s) where
  abbrev after : Histories
  after = map.insert histories id s

  module _ (home : ℕ) (others : (f : ℕ) (r : Option Row) → (f == home) ≡ false → IntentMatches (has_ended d histories) (has_no_hops id.hops) f r (map.get histories id) → IntentMatches (has_ended d histories) (has_no_hops id.hops) f r (Some s))
      (calls : (f : ℕ) (b : Place) → expected_call after f b ≡ expected_call histories f b) where
    pub own_set : (m : Rows) (r : IntentRow) → IntentMatches (has_ended d histories) (has_no_hops id.hops) home (Some (Row.Intent r)) (Some s) → Matches d m histories lock_ahead → Matches d (set_row m (own_key home id) (Some (Row.Intent r))) after lock_ahead
    own_set m r fits h = instance_set d histories lock_ahead id s unlocked expects m (own_key home id) (Some (Row.Intent r)) refl
        (intent_stays (has_ended d histories) (has_ended d after) (ended_more d histories lock_ahead id s unlocked expects) (has_no_hops id.hops) home (Some (Row.Intent r)) (map.get after id)
        (subst (IntentMatches (has_ended d histories) (has_no_hops id.hops) home (Some (Row.Intent r))) (sym (get_set id_total id_exact histories id s)) fits))
        (λ l other e g. by_cases (l.home == home)
        (λ at. absurd (true_false (sym (key_self (own_key home id)) ∙ (λ i. is_eq (key_cmp (record { home = sym (eqb-true l.home home at) i; kind = sym e i }) (own_key home id))) ∙ other)))
        (λ away. others l.home (map.get m l) away g))
        (λ l b other e. calls l.home b) h

  -- a root: its row stands in the host's home, and it is nobody's callee
  pub root_set : has_no_hops id.hops ≡ true → ((f : ℕ) (b : Place) → b.intent ≡ id → called_by f (Some s) (map.get after (child_of b.intent b.step)) ≡ called_by f (map.get histories id) (map.get after (child_of b.intent b.step)))
      → (m : Rows) (r : IntentRow) → IsRootRow r (Some s) → Matches d m histories lock_ahead → Matches d (set_row m (own_key 0 id) (Some (Row.Intent r))) after lock_ahead
  root_set root calls m r fits h = own_set 0 others kept m r (subst (λ b. IntentMatches (has_ended d histories) b 0 (Some (Row.Intent r)) (Some s)) (sym root) fits) h
    where
      kept : (f : ℕ) (b : Place) → expected_call after f b ≡ expected_call histories f b
      kept f b = calls_moved histories id s f b (calls f b) (λ e. absurd (true_false (sym root ∙ ap (λ z. has_no_hops z.hops) (sym e) ∙ no_root b.intent b.step)))

      others : (f : ℕ) (w : Option Row) → (f == 0) ≡ false → IntentMatches (has_ended d histories) (has_no_hops id.hops) f w (map.get histories id) → IntentMatches (has_ended d histories) (has_no_hops id.hops) f w (Some s)
      others f w off g = subst (λ b. IntentMatches (has_ended d histories) b f w (Some s)) (sym root) (subst (λ b. RootMatches b w (Some s)) (sym off) (subst (λ b. RootMatches b w (map.get histories id)) off (subst (λ b. IntentMatches (has_ended d histories) b f w (map.get histories id)) root g)))

-- ---- an instance that nobody waits for ended, and so did its row
finishes_too : (r s : IntentRow) (o : Outcome) → EndsRow r s o → is_some s.finish ≡ is_some s.outcome
finishes_too r s o e = e.finish ∙ sym (ap is_some e.outcome)

module _ (d : Deployment) (histories : Histories) (lock_ahead : IntentId → Bool) (id : IntentId) (q : Instance) (o : Outcome) (is : map.get histories id ≡ Some q) (unlocked : lock_ahead id ≡ false) (expects : ExpectsStill d histories id (map.get histories id) (ended q o)) (idle : is_waited q.parent ≡ false) (own : q.enclosing ≡ None) where
  abbrev over : Histories
  over = map.insert histories id (ended q o)

  as_caller : (f : ℕ) (b : Place) → called_by f (Some (ended q o)) (map.get over (child_of b.intent b.step)) ≡ called_by f (map.get histories id) (map.get over (child_of b.intent b.step))
  as_caller f b = same_caller f q (ended q o) (map.get over (child_of b.intent b.step)) refl ∙ ap (λ z. called_by f z (map.get over (child_of b.intent b.step))) (sym is)

  kept : (f : ℕ) (b : Place) → expected_call over f b ≡ expected_call histories f b
  kept f b = calls_moved histories id (ended q o) f b (λ e. as_caller f b)
      (λ e. same_callee f (map.get histories b.intent) q (ended q o) refl (ap (λ t. if t then Some o else None) idle ∙ sym (ap (λ t. if t then q.outcome else None) idle)) ∙ ap (called_by f (map.get histories b.intent)) (sym is))

  root_body : (b : Option Body) (u : Option Outcome) → BodyMatches b u (Some q) → BodyMatches b (Some o) (Some (ended q o))
  root_body None u g = cc
  root_body (Some b) u g = (body_stays b q (ended q o) refl g.0, refl)

  pub root_ended : has_no_hops id.hops ≡ true → (m : Rows) (r s : IntentRow) → EndsRow r s o → map.get m (own_key 0 id) ≡ Some (Row.Intent r) → Matches d m histories lock_ahead → Matches d (set_row m (own_key 0 id) (Some (Row.Intent s))) over lock_ahead
  root_ended root m r s e at h = root_set d histories lock_ahead id (ended q o) unlocked expects root (λ f b same. as_caller f b) m s (record {
    bare = λ none. absurd (no_body (r.body) (sym e.body ∙ none) was.body);
    finishes = finishes_too r s o e;
    body = subst (λ b. BodyMatches b s.outcome (Some (ended q o))) (sym e.body) (subst (λ u. BodyMatches r.body u (Some (ended q o))) (sym e.outcome) (root_body r.body r.outcome was.body));
  }) h
    where
      was : IsRootRow r (Some q)
      was = subst (IsRootRow r) is (subst (λ w. RootMatches true w (map.get histories id)) at (subst (λ b. IntentMatches (has_ended d histories) b 0 (map.get m (own_key 0 id)) (map.get histories id)) root (h.keys (own_key 0 id))))

      no_body : (b : Option Body) → b ≡ None → BodyMatches b r.outcome (Some q) → ⊥
      no_body None none g = cc
      no_body (Some b) none g = cc

  -- in another home a callee has no row
  others : (f : ℕ) (w : Option Row) → (f == q.func) ≡ false → CalleeMatches (has_ended d histories) f w (Some q) → CalleeMatches (has_ended d histories) f w (Some (ended q o))
  others f None off g = record { open_still = λ z at func away. absurd (true_false (sym (eq-eqb f q.func (sym func ∙ ap (λ y. y.func) (sym (same_some at)))) ∙ off)) }
  others f (Some (Row.Intent j)) off g = absurd (no_body j.body g.body)
    where
      no_body : (b : Option Body) → CalleeBodyMatches f b j.outcome (Some q) → ⊥
      no_body None y = y
      no_body (Some b) y = true_false (sym (eq-eqb f q.func (sym y.1 ∙ ap (λ z. z.func) y.0.body ∙ ap (λ z. z.func) (same_some (sym y.0.made)))) ∙ off)
  others f (Some w) off g = absurd g

  callee_body : (b : Option Body) (u : Option Outcome) → CalleeBodyMatches q.func b u (Some q) → CalleeBodyMatches q.func b (Some o) (Some (ended q o))
  callee_body None u g = absurd g
  callee_body (Some b) u g =
      let from = ap (λ z. is_waited z.parent) g.0.body ∙ ap (λ z. is_waited z.parent) (same_some (sym g.0.made)) ∙ idle in
      (body_stays b q (ended q o) refl g.0, g.1, subst (λ t. OutcomeMatches t (Some o) (Some o)) (sym from) refl)

  outside : (b : Option Body) (u : Option Outcome) → CalleeBodyMatches q.func b u (Some q) → tx_in b ≡ None
  outside None u g = absurd g
  outside (Some b) u g = ap (λ z. z.tx) (g.0.body ∙ ap body_of (same_some (sym g.0.made))) ∙ own

  pub callee_ended : has_no_hops id.hops ≡ false → (m : Rows) (r s : IntentRow) → EndsRow r s o → map.get m (own_key q.func id) ≡ Some (Row.Intent r) → Matches d m histories lock_ahead → Matches d (set_row m (own_key q.func id) (Some (Row.Intent s))) over lock_ahead
  callee_ended hops m r s e at h = own_set d histories lock_ahead id (ended q o) unlocked expects q.func
      (λ f w off g. subst (λ b. IntentMatches (has_ended d histories) b f w (Some (ended q o))) (sym hops) (others f w off (subst (CalleeMatches (has_ended d histories) f w) is (subst (λ b. IntentMatches (has_ended d histories) b f w (map.get histories id)) hops g)))) kept m s
      (subst (λ b. IntentMatches (has_ended d histories) b q.func (Some (Row.Intent s)) (Some (ended q o))) (sym hops) (record {
        finishes = subst (λ w. FinishMatches (has_ended d histories) w s.finish s.outcome) (sym (ap tx_in e.body ∙ outside r.body r.outcome was.body)) (finishes_too r s o e);
        body = subst (λ b. CalleeBodyMatches q.func b s.outcome (Some (ended q o))) (sym e.body) (subst (λ u. CalleeBodyMatches q.func r.body u (Some (ended q o))) (sym e.outcome) (callee_body r.body r.outcome was.body));
      })) h
    where
      was : IsCalleeRow (has_ended d histories) q.func r (Some q)
      was = subst (IsCalleeRow (has_ended d histories) q.func r) is (subst (λ w. CalleeMatches (has_ended d histories) q.func w (map.get histories id)) at (subst (λ b. IntentMatches (has_ended d histories) b q.func (map.get m (own_key q.func id)) (map.get histories id)) hops (h.keys (own_key q.func id))))

-- ---- a callee's row was set, and nothing more is known
pub callee_put : (d : Deployment) (histories : Histories) (lock_ahead : IntentId → Bool) (m : Rows) (id : IntentId) (home : ℕ) (r : IntentRow) → has_no_hops id.hops ≡ false → IsCalleeRow (has_ended d histories) home r (map.get histories id) → Matches d m histories lock_ahead → Matches d (set_row m (own_key home id) (Some (Row.Intent r))) histories lock_ahead
callee_put d histories lock_ahead m id home r hops fits h = row_put d histories lock_ahead m (own_key home id) (Some (Row.Intent r)) refl (subst (λ b. IntentMatches (has_ended d histories) b home (Some (Row.Intent r)) (map.get histories id)) (sym hops) fits) h

-- ---- who nobody waits for ends with its row: a root's in the host's home, a callee's in that of its function
pub intent_ended : (d : Deployment) (histories : Histories) (lock_ahead : IntentId → Bool) (id : IntentId) (q : Instance) (o : Outcome) → map.get histories id ≡ Some q → lock_ahead id ≡ false → effect_of d q ≡ Effect.Return o → is_waited q.parent ≡ false → q.enclosing ≡ None → (m : Rows) (r s : IntentRow) → EndsRow r s o
    → let key : RowKey = own_key (if has_no_hops id.hops then 0 else q.func) id in map.get m key ≡ Some (Row.Intent r) → Matches d m histories lock_ahead → Matches d (set_row m key (Some (Row.Intent s))) (map.insert histories id (ended q o)) lock_ahead
intent_ended d histories lock_ahead id q o is unlocked returns idle own m r s ends at h =
    let expects : ExpectsStill d histories id (map.get histories id) (ended q o) = subst (λ z. ExpectsStill d histories id z (ended q o)) (sym is) (ended_expects d histories id q o o returns) in
    elim (has_no_hops id.hops) as (λ b. has_no_hops id.hops ≡ b → map.get m (own_key (if b then 0 else q.func) id) ≡ Some (Row.Intent r) → Matches d (set_row m (own_key (if b then 0 else q.func) id) (Some (Row.Intent s))) (map.insert histories id (ended q o)) lock_ahead) [
      | true ↦ λ root there. root_ended d histories lock_ahead id q o is unlocked expects idle own root m r s ends there h
      | false ↦ λ hops there. callee_ended d histories lock_ahead id q o is unlocked expects idle own hops m r s ends there h
    ] refl at

-- ---- a root is made as its body is bound
pub root_bound : (d : Deployment) (histories : Histories) (lock_ahead : IntentId → Bool) (id : IntentId) (f : ℕ) (v : Value) → map.get histories id ≡ None → has_no_hops id.hops ≡ true → ((n : ℕ) → map.get histories (child_of id n) ≡ None) → lock_ahead id ≡ false → (m : Rows) (r : IntentRow)
    → r.body ≡ Some (body_of (new_instance f v None)) → r.outcome ≡ None → r.finish ≡ None → Matches d m histories lock_ahead → Matches d (set_row m (own_key 0 id) (Some (Row.Intent r))) (map.insert histories id (local_steps d id (new_instance f v None))) lock_ahead
root_bound d histories lock_ahead id f v new root childless unlocked m r body none unfinished h =
    let s = local_steps d id (new_instance f v None) in
    let same = local_steps_same d id (new_instance f v None) in
    let gone : (b : Place) → b.intent ≡ id → map.get (map.insert histories id s) (child_of b.intent b.step) ≡ None = λ b is. ap (λ z. map.get (map.insert histories id s) (child_of z b.step)) is ∙ elsewhere histories id (child_of id b.step) s (λ e. no_own_callee id b.step (sym e)) ∙ childless b.step in
    root_set d histories lock_ahead id s unlocked (subst (λ o. ExpectsStill d histories id o s) (sym new) (made_expects d histories id f v None None)) root
    (λ u b is. ap (called_by u (Some s)) (gone b is) ∙ no_callee u (Some s) ∙ sym (ap (called_by u (map.get histories id)) (gone b is) ∙ no_callee u (map.get histories id)))
    m r (record {
      bare = λ e. none;
      finishes = ap is_some unfinished ∙ sym (ap is_some none);
      body = subst (λ b. BodyMatches b r.outcome (Some s)) (sym body) (record { instance = s; made = refl; body = same.body }, same.outcome ∙ sym none);
    }) h
