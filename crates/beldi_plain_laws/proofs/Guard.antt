-- Entries that are guarded, in parts; and a read that is kept late leaves those that it passes guarded.
use Rattle.beldi_plain_laws.proofs.Names.{Aborts, Answer, Commits, Deployment, Entry, Going, Instance, IntentId, IsFree, IsGuarded, Item, LateReadsLeaveGuards, Leads, List, Move, None, Option, Place, PlainState, Read, Some, Start, Step, TouchedIn, TouchedInCommit, TouchedInAbort, Touches, AbortedTx, CommittedTx, [], actor, after, answered, ap, effect_of, holds, op_of, opened, option_and_then, refl, run_from, subst, sym, touched_by, tx_begun, with_instance, ◌++◌, ◌∙◌, ◌∷◌, ◌≡◌, Effect, Kind}
use Rattle.beldi_plain_laws.proofs.LateReads.{stands_next, StandsAtRead, passes, apart, begin_apart, out_of, commit_there, abort_there}
use Rattle.beldi_plain_laws.proofs.{EntryLaws.did, EntryLaws.Did, EntryLaws.read_is, CallStack.line_opened, Maps.same_some, Maps.elsewhere, Passes.touched_back, Passes.opened_passes, WellFormed.WellFormedWith, Sound.well_formed_with, Sound.by_entry, Touched.transactions_touch_their_items, PlainOperations.holds_answered}
use Rattle.beldi_plain_laws.proofs.Names.map

-- ---- entries in parts
pub guarded_parts : (d : Deployment) (p q : PlainState) (es fs : List Entry) → run_from d p es ≡ Some q → IsGuarded d p es → IsGuarded d q fs → IsGuarded d p (es ++ fs)
guarded_parts d p q [] fs h g k = subst (λ z. IsGuarded d z fs) (sym (same_some h)) k
guarded_parts d p q (e ∷ es) fs h g k = (g.0, λ r led. guarded_parts d r q es fs (sym (ap (option_and_then (λ s. run_from d s es)) led) ∙ h) (g.1 r led) k)

pub guarded_first : (d : Deployment) (p : PlainState) (es fs : List Entry) → IsGuarded d p (es ++ fs) → IsGuarded d p es
guarded_first d p [] fs g = tt
guarded_first d p (e ∷ es) fs g = (g.0, λ r led. guarded_first d r es fs (g.1 r led))

pub guarded_second : (d : Deployment) (p q : PlainState) (es fs : List Entry) → run_from d p es ≡ Some q → IsGuarded d p (es ++ fs) → IsGuarded d q fs
guarded_second d p q [] fs h g = subst (λ z. IsGuarded d z fs) (same_some h) g
guarded_second d p q (e ∷ es) fs h g =
    (elim (after d p e) as (λ o. after d p e ≡ o → option_and_then (λ r. run_from d r es) o ≡ Some q → IsGuarded d q fs) [
      | None ↦ λ step is. cc
      | Some r ↦ λ step is. guarded_second d r q es fs is (g.1 r step)
    ]) refl h

-- ---- a late read
module _ (d : Deployment) (p : PlainState) (i : IntentId) (a : Instance) (v : Answer) (well_formed : WellFormedWith d None p.made) (stands : StandsAtRead d p i a) where
  abbrev later : PlainState
  later = with_instance p i (answered a v)

  -- a read moves no lock
  pub same_holds : (x : Item) (j : IntentId) → holds d x (map.get later.made j) ≡ holds d x (map.get p.made j)
  same_holds x = holds_answered d x p.made i a v stands.made (ap op_of (read_is i (effect_of d a) stands.kind).2)

  module _ (r : PlainState) (stays : map.get r.made i ≡ Some a) where
    other : (e : Entry) → Did d p e r → i ≡ actor e → ⊥
    other (Start t f w) s same = let clash = sym s.absent ∙ ap (map.get p.made) (sym same) ∙ stands.made in cc
    other (Read j k) s same = apart d p r i a v well_formed stands stays j Kind.Read s same
    other (Step j) s same = apart d p r i a v well_formed stands stays j Kind.Change s same
    other (CommittedTx j) s same = begin_apart d p r i a v well_formed stands stays j s.instance s.runs.made s.runs.begins same
    other (AbortedTx j place holder) s same = begin_apart d p r i a v well_formed stands stays j s.instance s.runs.made s.runs.begins same

    module _ (e : Entry) (h : after d p e ≡ Some r) where
      apart_from : i ≡ actor e → ⊥
      apart_from = other e (did d p e r h)

      next_there : (x : Item) → touched_by d (map.get later.made (actor e)) ≡ Some x → touched_by d (map.get p.made (actor e)) ≡ Some x
      next_there x touched = ap (touched_by d) (sym (elsewhere p.made i (actor e) (answered a v) apart_from)) ∙ touched

    -- what a transaction touches, it touches before the answer
    module _ (j : IntentId) where
      back : (z : Instance) (ms : List Move) (l : Going) (x : Item) → map.get p.made j ≡ Some z → z.outcome ≡ None → effect_of d z ≡ Effect.Begin → Leads d (tx_begun j z) (opened p j z) ms l → TouchedIn d (tx_begun j z) (opened later j z) ms x → TouchedIn d (tx_begun j z) (opened p j z) ms x
      back z ms l x made none begins leads on =
          let other = begin_apart d p r i a v well_formed stands stays j z made begins in
          touched_back d (tx_begun j z) i (answered a v) (out_of d p r i a v well_formed stands stays j z made begins) (opened p j z) ms l x (line_opened d p j z none) leads
          (subst (λ s. TouchedIn d (tx_begun j z) s ms x) (sym (opened_passes p j i z (answered a v) other)) on)

      commit_back : Commits d p j r → (x : Item) → TouchedInCommit d later j x → TouchedInCommit d p j x
      commit_back c x t =
          let on = transactions_touch_their_items.commits d later j (with_instance r i (answered a v)) (commit_there d p r i a v well_formed stands stays j c) x t in
          record { state = r; commit = c; touched_it = back c.instance c.moves c.last x c.runs.made c.runs.open_still c.runs.begins c.runs.leads on }

      abort_back : (place : Place) (holder : Option IntentId) → Aborts d p j place holder r → (x : Item) → TouchedInAbort d later j place holder x → TouchedInAbort d p j place holder x
      abort_back place holder c x t =
          let on = transactions_touch_their_items.aborts d later j place holder (with_instance r i (answered a v)) (abort_there d p r i a v well_formed stands stays j place holder c) x t in
          record { state = r; abort = c; touched_it = back c.instance c.before c.there x c.runs.made c.runs.open_still c.runs.begins c.runs.leads on }

    touches_there : (e : Entry) → after d p e ≡ Some r → (x : Item) → Touches d later e x → Touches d p e x
    touches_there (Start t f w) h x touched = next_there (Start t f w) h x touched
    touches_there (Read j k) h x touched = next_there (Read j k) h x touched
    touches_there (Step j) h x touched = next_there (Step j) h x touched
    touches_there (CommittedTx j) h x touched = commit_back j (did d p (CommittedTx j) r h) x touched
    touches_there (AbortedTx j place holder) h x touched = abort_back j place holder (did d p (AbortedTx j place holder) r h) x touched

    free_there : (e : Entry) → after d p e ≡ Some r → IsFree d p e → IsFree d later e
    free_there e h free x touched j held = free x (touches_there e h x touched) j (sym (same_holds x j) ∙ held)

pub past : (d : Deployment) (p q : PlainState) (es : List Entry) (i : IntentId) (a : Instance) (v : Answer) → WellFormedWith d None p.made → StandsAtRead d p i a → map.get q.made i ≡ Some a → run_from d p es ≡ Some q
    → IsGuarded d p es → IsGuarded d (with_instance p i (answered a v)) es
past d p q [] i a v well_formed stands stays h g = tt
past d p q (e ∷ es) i a v well_formed stands stays h g = by_option (after d p e) refl h (λ r. past d r q es i a v)
  where
    by_option : (o : Option PlainState) → after d p e ≡ o → option_and_then (λ r. run_from d r es) o ≡ Some q
        → ((r : PlainState) → WellFormedWith d None r.made → StandsAtRead d r i a → map.get q.made i ≡ Some a → run_from d r es ≡ Some q → IsGuarded d r es → IsGuarded d (with_instance r i (answered a v)) es)
        → IsGuarded d (with_instance p i (answered a v)) (e ∷ es)
    by_option None step is rest = cc
    by_option (Some r) step is rest =
        let there = stands_next d p q r e es i a stands stays step is in (
          free_there d p i a v well_formed stands r there.made e step g.0,
          λ s led. subst (λ z. IsGuarded d z es) (same_some (sym (passes d p r i a v well_formed stands there.made e step) ∙ led)) (rest r (by_entry d p e r (did d p e r step) well_formed) there stays is (g.1 r step)),
        )

pub guards_left : LateReadsLeaveGuards
guards_left d p q es i a v h = past d p q es i a v (well_formed_with d p h.well_formed) (record { made = h.made; open_still = h.open_still; kind = h.kind }) h.stays h.run
