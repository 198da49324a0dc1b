-- Where all intents are idle, all that belongs to one is of one that is gone, or old.
use Rattle.std.specs.FinMap as map
use Rattle.std.proofs.Common.{◌≡◌, ℕ, ◌==◌, ◌||◌, ◌&&◌, not, Bool, true, false, is_some, Option, Some, None, refl, ap, sym, ◌∙◌, subst}
use Rattle.beldi_value.specs.{Id.child_of, Id.has_no_hops, declared.id.IntentId.IntentId, declared.outcome.Outcome.Outcome, declared.value.Value.Value}
use Rattle.beldi_tree.specs.declared.deployment.Deployment.{Deployment}
use Rattle.beldi_plain.specs.{Item.Item, Plain.Instance}
use Rattle.beldi_row.specs.{Act.is_left_row, Act.is_old_row, Act.is_past, Key.RowKey, Key.at_row, Log.note_at, Table.Rows, declared.key.Kind.Kind, declared.notes.Note.Note, declared.row.Body.Body, declared.row.Cell.Cell, declared.row.IntentRow.IntentRow, declared.row.Row.Row}
use Rattle.beldi_chain.specs.Chain.{chain}
use Rattle.beldi_links.proofs.Last.{last_there}
use Rattle.beldi_intent.specs.Intent.{intent_key}
use Rattle.beldi_splice.proofs.Pruned.{is_of}
use Rattle.beldi_prune.specs.{CellEntries.HasEntryOf, PruneLaws.IsOldAt, PruneLaws.is_left, Prune.is_newest, Seat.belongs_to, Seat.seat_of}
use Rattle.beldi_sweep.specs.SweptRows.{AllIsOld, IsIdle, IsIntentIdle}
use Rattle.beldi_step.specs.HostStep.{Core}
use Rattle.beldi_histories.specs.{Contents.content_of, Contents.head_key, Contents.shadow_chain, Histories.Histories, Histories.is_mark, Histories.expected_call, Histories.expected_note, Histories.expected_read, Histories.expected_lockset, Histories.expected_value, Expected.called_by, Matches.LocksetMatches, Matches.has_ended, Matches.lockset_ahead, RowMatching.CallMatches, RowMatching.CalleeBodyMatches, RowMatching.BodyMatches, RowMatching.IntentMatches, RowMatching.LogMatches, RowMatching.RootMatches, Stands.key_in}
use Rattle.beldi_upkeep.specs.Passed.{has_note}
use Rattle.beldi_upkeep.proofs.{PastOwn.got_owner, RowNotes.row_noted}
use Rattle.beldi_kept.specs.{KeptRows.HasKept}
use Rattle.beldi_kept.proofs.{Less.there_kept, Seated.noted_place}
use Rattle.beldi_tidy.specs.Tidy.{IdleAreOld}
use Rattle.beldi_plain_laws.proofs.Maps.{same_some}
use Rattle.beldi_tidy.proofs.Sound.{not_item}

-- ---- an idle intent
intent_old : (newest : Bool) (life now : ℕ) (r : Row) → newest ≡ false → IsIntentIdle newest life now r → is_old_row life now r ≡ true
intent_old true life now r off idle = cc
intent_old false life now (Row.Intent i) off idle = by_body i.body idle
  where
    by_body : (b : Option Body) → (is_some b ≡ true → is_past life now i.finish ≡ true) × (b ≡ None → is_past life now (Some i.issued) ≡ true) → ((not (is_some b) && is_past life now (Some i.issued)) || is_past life now i.finish) ≡ true
    by_body None idle = ap (λ z. z || is_past life now i.finish) (idle.1 refl)
    by_body (Some b) idle = idle.0 refl
intent_old false life now (Row.ReadLog v) off idle = absurd idle
intent_old false life now (Row.Invoke i) off idle = absurd idle
intent_old false life now (Row.Cell c) off idle = absurd idle
intent_old false life now Row.Lockset off idle = absurd idle

-- .. that has a body
pub bound_past : (newest : Bool) (life now : ℕ) (i : IntentRow) → is_some i.body ≡ true → IsIntentIdle newest life now (Row.Intent i) → is_past life now i.finish ≡ true
bound_past true life now i bound idle = idle bound
bound_past false life now i bound idle = idle.0 bound

-- ---- the row of one that is known has a body
some_body : (b : Option Body) (o : Option Outcome) (q : Instance) → BodyMatches b o (Some q) → is_some b ≡ true
some_body None o q fits = cc
some_body (Some b) o q fits = refl

callee_body : (home : ℕ) (b : Option Body) (o : Option Outcome) (i : Option Instance) → CalleeBodyMatches home b o i → is_some b ≡ true
callee_body home None o i fits = absurd fits
callee_body home (Some b) o i fits = refl

module _ (d : Deployment) (c : Core) (m : Rows) (h : HasKept d c m) (idle : IsIdle c.newest d.life c.now m) where
  abbrev recorded : Histories
  recorded = h.upkeep.invariant.histories

  -- the row of one that is known, if it is there, is old
  bound : (b : Bool) (home : ℕ) (i : IntentRow) (q : Instance) → IntentMatches (has_ended d recorded) b home (Some (Row.Intent i)) (Some q) → is_some i.body ≡ true
  bound true home i q fits = by_home (home == 0) fits
    where
      by_home : (z : Bool) → RootMatches z (Some (Row.Intent i)) (Some q) → is_some i.body ≡ true
      by_home true fits = some_body i.body i.outcome q fits.body
      by_home false fits = cc
  bound false home i q fits = callee_body home i.body i.outcome (Some q) fits.body

  -- .. and no other row is idle
  other_idle : (newest : Bool) (r : Row) → is_left_row r ≡ true → IsIntentIdle newest d.life c.now r → ⊥
  other_idle newest (Row.Intent i) left is = cc
  other_idle true (Row.ReadLog v) left is = is
  other_idle false (Row.ReadLog v) left is = is
  other_idle true (Row.Invoke i) left is = is
  other_idle false (Row.Invoke i) left is = is
  other_idle true (Row.Cell e) left is = is
  other_idle false (Row.Cell e) left is = is
  other_idle true Row.Lockset left is = is
  other_idle false Row.Lockset left is = is

  row_old : (b newest : Bool) (home : ℕ) (r : Row) (q : Instance) → IsIntentIdle newest d.life c.now r → IntentMatches (has_ended d recorded) b home (Some r) (Some q) → IsOldAt d.life c.now (Some r)
  row_old b newest home (Row.Intent i) q is fits = bound_past newest d.life c.now i (bound b home i q fits) is
  row_old b newest home (Row.ReadLog v) q is fits = absurd (other_idle newest (Row.ReadLog v) refl is)
  row_old b newest home (Row.Invoke i) q is fits = absurd (other_idle newest (Row.Invoke i) refl is)
  row_old b newest home (Row.Cell e) q is fits = absurd (other_idle newest (Row.Cell e) refl is)
  row_old b newest home Row.Lockset q is fits = absurd (other_idle newest Row.Lockset refl is)

  seat_old : (home : ℕ) (i : IntentId) → is_some (map.get recorded i) ≡ true → IsOldAt d.life c.now (map.get m (key_in home i))
  seat_old home i made = by_recorded (map.get recorded i) refl made
    where
      by_recorded : (o : Option Instance) → map.get recorded i ≡ o → is_some o ≡ true → IsOldAt d.life c.now (map.get m (key_in home i))
      by_recorded None is some = cc
      by_recorded (Some q) is some = by_row (map.get m (key_in home i)) refl
        where
          by_row : (r : Option Row) → map.get m (key_in home i) ≡ r → IsOldAt d.life c.now r
          by_row None none = tt
          by_row (Some r) there =
              let row = there_kept h.gone m h.kept h.less (key_in home i) r refl there in
              row_old (has_no_hops i.hops) (is_newest c.newest i) home r q (idle (key_in home i) i r refl there)
              (subst (λ z. IntentMatches (has_ended d recorded) (has_no_hops i.hops) home z (Some q)) row (subst (IntentMatches (has_ended d recorded) (has_no_hops i.hops) home (map.get h.kept (key_in home i))) is (h.upkeep.invariant.rows.keys (key_in home i))))

  -- ---- whose a row is, is known
  of_read : (f n : ℕ) (o : Option Instance) (v : Option Value) → expected_value d f n o ≡ v → is_some v ≡ true → is_some o ≡ true
  of_read f n None v is some = let clash = ap is_some is ∙ some in cc
  of_read f n (Some q) v is some = refl

  of_call : (f : ℕ) (o j : Option Instance) (v : Option (ℕ × Option Outcome)) → called_by f o j ≡ v → is_some v ≡ true → is_some o ≡ true
  of_call f None j v is some = let clash = ap is_some is ∙ some in cc
  of_call f (Some q) j v is some = refl

  logged : (r : Row) (o : Option Value) → LogMatches (Some r) o → is_some o ≡ true
  logged (Row.ReadLog v) o fits = ap is_some fits
  logged (Row.Intent i) o fits = absurd fits
  logged (Row.Invoke i) o fits = absurd fits
  logged (Row.Cell e) o fits = absurd fits
  logged Row.Lockset o fits = absurd fits

  called : (r : Row) (o : Option (ℕ × Option Outcome)) → CallMatches (Some r) o → is_some o ≡ true
  called (Row.Invoke i) o fits = ap is_some fits
  called (Row.Intent i) o fits = absurd fits
  called (Row.ReadLog v) o fits = absurd fits
  called (Row.Cell e) o fits = absurd fits
  called Row.Lockset o fits = absurd fits

  locked_by : (r : Row) (a b : Bool) → LocksetMatches (Some r) a b → (a || b) ≡ true
  locked_by Row.Lockset a b fits = fits
  locked_by (Row.Intent i) a b fits = absurd fits
  locked_by (Row.ReadLog v) a b fits = absurd fits
  locked_by (Row.Invoke i) a b fits = absurd fits
  locked_by (Row.Cell e) a b fits = absurd fits

  of_lockset : (b : ℕ) (x : Item) (i : IntentId) (o : Option Instance) → (expected_lockset d b x i o || lockset_ahead d recorded b x i o) ≡ true → is_some o ≡ true
  of_lockset b x i None is = is
  of_lockset b x i (Some q) is = refl

  of_note : (x : Item) (i : IntentId) (b : Bool) (n : ℕ) (o : Option Instance) (u : Option Note) → (is_mark d recorded n o ≡ false → u ≡ expected_note d x i b n o) → is_some u ≡ true → is_some o ≡ true
  of_note x i b n None u is some = ap is_some (sym (is refl)) ∙ some
  of_note x i b n (Some q) u is some = refl

  its_intent : (home : ℕ) (k : Kind) (r : Row) (i : IntentId) → is_left k ≡ true → belongs_to k ≡ Some i → map.get h.kept (record { home = home; kind = k }) ≡ Some r → is_some (map.get recorded i) ≡ true
  its_intent home (Kind.ReadLog a) r i left of is =
      let p = subst (λ z. LogMatches z (expected_read d recorded home a)) is (h.upkeep.invariant.rows.keys (record { home = home; kind = Kind.ReadLog a })) in
      ap (λ j. is_some (map.get recorded j)) (sym (same_some of)) ∙ of_read home a.step (map.get recorded a.intent) (expected_read d recorded home a) refl (logged r (expected_read d recorded home a) p)
  its_intent home (Kind.Invoke a) r i left of is =
      let p = subst (λ z. CallMatches z (expected_call recorded home a)) is (h.upkeep.invariant.rows.keys (record { home = home; kind = Kind.Invoke a })) in
      ap (λ j. is_some (map.get recorded j)) (sym (same_some of)) ∙ of_call home (map.get recorded a.intent) (map.get recorded (child_of a.intent a.step)) (expected_call recorded home a) refl (called r (expected_call recorded home a) p)
  its_intent home (Kind.Shadow s t k n) r i left of is =
      let x : Item = record { func = home; table = t; key = k } in
      let there = last_there (shadow_chain h.kept s x) (h.upkeep.invariant.rows.asides s x).linked n (ap is_some is) in
      ap (λ j. is_some (map.get recorded j)) (sym (same_some of)) ∙ ap is_some (got_owner d recorded h.upkeep.invariant.well_formed s h.upkeep.invariant.lock_ahead x (h.upkeep.invariant.shadows.got s x there)).made
  its_intent home (Kind.Lockset j b t k) r i left of is =
      let x : Item = record { func = home; table = t; key = k } in
      let p = subst (λ z. LocksetMatches z (expected_lockset d b x j (map.get recorded j)) (lockset_ahead d recorded b x j (map.get recorded j))) is (h.upkeep.invariant.rows.keys (record { home = home; kind = Kind.Lockset j b t k })) in
      ap (λ y. is_some (map.get recorded y)) (sym (same_some of)) ∙ of_lockset b x j (map.get recorded j) (locked_by r (expected_lockset d b x j (map.get recorded j)) (lockset_ahead d recorded b x j (map.get recorded j)) p)
  its_intent home (Kind.Intent j) r i left of is = cc
  its_intent home (Kind.Data t k n) r i left of is = cc

  left_old : (k : RowKey) (i : IntentId) → is_some (map.get m k) ≡ true → is_left k.kind ≡ true → belongs_to k.kind ≡ Some i → IsOldAt d.life c.now (map.get m (seat_of k i))
  left_old k i there left of = by_row (map.get m k) refl there
    where
      by_row : (o : Option Row) → map.get m k ≡ o → is_some o ≡ true → IsOldAt d.life c.now (map.get m (seat_of k i))
      by_row None none some = cc
      by_row (Some r) is some = seat_old (seat_of k i).home i (its_intent k.home k.kind r i left of (there_kept h.gone m h.kept h.less k r (not_item d c m h k.kind left) is))

  entry_old : (x : Item) (n : ℕ) (e : Cell) (i : IntentId) → map.get m (at_row (head_key x) n) ≡ Some (Row.Cell e) → HasEntryOf e.log i → IsOldAt d.life c.now (map.get m (intent_key i x.func))
  entry_old x n e i is of =
      let k = is_of h.gone (chain m (head_key x)) (chain h.kept (head_key x)) (h.less.cells x) n e is in
      let z = noted_place k.kept.log i (subst (λ es. HasEntryOf es i) k.less.log of) in
      let p = z.place in
      let noted = row_noted (chain h.kept (head_key x)) p (h.upkeep.invariant.rows.chains x) n (ap (has_note p) k.there ∙ z.noted) in
      let made = of_note x p.intent (h.upkeep.invariant.lock_ahead p.intent) p.step (map.get recorded p.intent) (note_at (content_of h.kept x).notes p) ((h.upkeep.invariant.rows.items x).notes p) noted in
      seat_old (intent_key i x.func).home i (ap (λ j. is_some (map.get recorded j)) (sym z.intent) ∙ made)

  pub all_old : AllIsOld c.newest d.life c.now m
  all_old = record {
    intents = λ k i r is off there. intent_old (is_newest c.newest i) d.life c.now r off (idle k i r is there);
    left = left_old;
    entries = λ k t n q e i is there of.
        let x : Item = record { func = k.home; table = t; key = q } in
        let at : k ≡ at_row (head_key x) n = λ j. record { home = k.home; kind = is j } in
        entry_old x n e i (ap (map.get m) (sym at) ∙ there) of;
  }

pub idle_are_old : IdleAreOld
idle_are_old d c m h idle = all_old d c m h idle
