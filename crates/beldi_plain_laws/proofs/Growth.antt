-- A legal book grows by a change at its end, or by a read that belongs earlier.
use Rattle.beldi_plain_laws.proofs.Names.{BelongsEarlier, Deployment, EndsWith, Entry, GrownAt, Instance, IntentId, IsGuarded, IsKeptLate, IsLast, List, None, PlainState, Read, Some, Value, [], after, ap, arith, suffix, count_changes, prefix, front_back, kind_of, length, linear, linear_changes, nothing, refl, run_from, step_by, subst, sym, waits_at, with_answer, ℕ, ◌++◌, ◌+◌, ◌∙◌, ◌∷◌, ◌≡◌, ◌≤◌, Answer}
use Rattle.beldi_plain_laws.proofs.EntryPlaces.{front_more, linear_change, linear_read, put_between, put_after, VersionAt, bounded_more}
use Rattle.beldi_plain_laws.proofs.{EntryLaws.runs_on, EntryLaws.one_more, EntryLaws.run_grows, EntryLaws.enabled_read, Maps.same_some, Guard.guarded_parts, Guard.guarded_first, Guard.guarded_second, Guard.past, Guard.same_holds, LateReads.StandsAtRead, LateReads.unmoved, LateReads.put_late, WellFormed.WellFormedWith, Sound.well_formed_with, Sound.run_is_well_formed}
use Rattle.beldi_plain_laws.proofs.Names.map

from_zero : (n : ℕ) → n ≡ 0 + n
from_zero n = omega arith

in_order : (book : List Entry) (s : ℕ) → s ≤ count_changes book → s ≤ count_changes (linear book)
in_order book s h = subst (λ n. s ≤ n) (ap length (sym (linear_changes book))) h

pub change_last : (d : Deployment) (book : List Entry) (p : PlainState) (e : Entry) (q : PlainState) → EndsWith d book p e q → IsLast d book e q
change_last d book p e q h =
    let last = linear_change book e h.bounded h.change in
    record {
      bounded = bounded_more book e 0 h.bounded (subst (λ o. VersionAt o (0 + count_changes book)) (sym h.change) tt);
      legal = ap (run_from d nothing) last ∙ runs_on d nothing p (linear book) (e ∷ []) h.legal ∙ one_more d p e ∙ h.enabled;
      guarded = subst (IsGuarded d nothing) (sym last) (guarded_parts d nothing p (linear book) (e ∷ []) h.legal h.guarded (h.free, λ r led. tt));
      earlier = λ s r few is. ap (λ xs. run_from d nothing (prefix s xs)) last ∙ ap (run_from d nothing) (front_more e h.change s (linear book) (in_order book s few)) ∙ is;
    }

module _ (d : Deployment) (book : List Entry) (p : PlainState) (id : IntentId) (s : ℕ) (a : Instance) (v : Value) (h : BelongsEarlier d book p id s a v) where
  good : WellFormedWith d None h.state.made
  good = well_formed_with d h.state (run_is_well_formed d (prefix s (linear book)) h.state h.is_state)

  -- the instance has not moved in any state between
  there : (fs gs : List Entry) (r : PlainState) → run_from d h.state fs ≡ Some r → run_from d r gs ≡ Some p → map.get r.made id ≡ Some a
  there fs gs r to from =
      unmoved a (map.get r.made id) h.open_still
      (subst (λ o. GrownAt o (map.get r.made id)) h.was_made (run_grows d h.state fs r to id))
      (subst (λ o. GrownAt (map.get r.made id) o) h.has_not_moved (run_grows d r gs p from id))

  put : (fs : List Entry) (r : PlainState) → run_from d h.state fs ≡ Some r → map.get r.made id ≡ Some a → run_from d nothing (prefix s (linear book) ++ Read id s ∷ fs) ≡ Some (with_answer r id a v)
  put fs r to stays = put_late d nothing h.state r (prefix s (linear book)) fs id s a h.table h.key v good h.is_state h.was_made h.open_still h.stands h.value to stays

  order : linear (book ++ Read id s ∷ []) ≡ prefix s (linear book) ++ Read id s ∷ suffix s (linear book)
  order = linear_read book (Read id s) s refl

  behind : run_from d h.state (suffix s (linear book)) ≡ Some p
  behind = sym (runs_on d nothing h.state (prefix s (linear book)) (suffix s (linear book)) h.is_state) ∙ ap (run_from d nothing) (front_back s (linear book)) ∙ h.legal

  whole : IsGuarded d nothing (prefix s (linear book) ++ suffix s (linear book))
  whole = subst (IsGuarded d nothing) (sym (front_back s (linear book))) h.guarded

  stands : StandsAtRead d h.state id a
  stands = record { made = h.was_made; open_still = h.open_still; kind = ap (kind_of id) h.stands }

  -- from its place on the instance stands there
  to : (t : ℕ) (r : PlainState) (le : s ≤ t) → run_from d nothing (prefix t (linear book)) ≡ Some r → run_from d h.state (put_between (Read id s) s refl s t (linear book) le).between ≡ Some r
  to t r le is =
      let b = put_between (Read id s) s refl s t (linear book) le in
      sym (runs_on d nothing h.state (prefix s (linear book)) b.between h.is_state) ∙ ap (run_from d nothing) (sym b.longer) ∙ is

  still : (t : ℕ) (r : PlainState) → s ≤ t → run_from d nothing (prefix t (linear book)) ≡ Some r → map.get r.made id ≡ Some a
  still t r le is =
      there (put_between (Read id s) s refl s t (linear book) le).between (suffix t (linear book)) r (to t r le is)
      (sym (runs_on d nothing r (prefix t (linear book)) (suffix t (linear book)) is) ∙ ap (run_from d nothing) (front_back t (linear book)) ∙ h.legal)

  -- the read is enabled at its place, and answered by the value
  answers : after d h.state (Read id s) ≡ Some (with_answer h.state id a v)
  answers = enabled_read d h.state id a h.was_made h.open_still (ap (waits_at h.state.made id a) h.stands) s stands.kind ∙ ap Some (ap (step_by h.state id a) h.stands ∙ ap (λ w. with_answer h.state id a w) h.value)

  pub kept_late : IsKeptLate d book p id s a v
  kept_late = record {
    bounded = bounded_more book (Read id s) 0 h.bounded (subst (λ n. s ≤ n) (from_zero (count_changes book)) h.few);
    legal = ap (run_from d nothing) order ∙ put (suffix s (linear book)) p behind h.has_not_moved;
    guarded = subst (IsGuarded d nothing) (sym order) (guarded_parts d nothing h.state (prefix s (linear book)) (Read id s ∷ suffix s (linear book)) h.is_state
        (guarded_first d nothing (prefix s (linear book)) (suffix s (linear book)) whole) (
          h.free,
          λ r led. subst (λ z. IsGuarded d z (suffix s (linear book))) (same_some (sym answers ∙ led)) (past d h.state p (suffix s (linear book)) id a (Answer.Value v) good stands h.has_not_moved behind
              (guarded_second d nothing h.state (prefix s (linear book)) (suffix s (linear book)) h.is_state whole)),
        ));
    before = λ t r lt is. ap (λ xs. run_from d nothing (prefix t xs)) order
        ∙ ap (run_from d nothing) (put_after t s (linear book) (Read id s ∷ suffix s (linear book)) lt (in_order book s h.few)) ∙ is;
    since = λ t r le is.
        let b = put_between (Read id s) s refl s t (linear book) le in
        ap (λ xs. run_from d nothing (prefix t xs)) order ∙ ap (run_from d nothing) b.with_read ∙ put b.between r (to t r le is) (still t r le is);
    locks = λ t r le is. same_holds d r id a (Answer.Value v) (well_formed_with d r (run_is_well_formed d (prefix t (linear book)) r is)) (record { made = still t r le is; open_still = h.open_still; kind = stands.kind });
  }
