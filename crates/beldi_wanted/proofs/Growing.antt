-- What an act that removes none leaves of a row: one with a next as it is, a full one its value, owner and log; and an intent's body.
use Rattle.std.proofs.Common.{◌≡◌, ℕ, Bool, true, false, length, Option, None, Some, if◌then◌else◌, refl, ap, sym, ◌∙◌, subst, arith, inl, inr, eq-eqb}
use Rattle.std.specs.FinMap as map
use Rattle.beldi_value.specs.{Id.age_of, Passes.passes, declared.place.Owner.Owner, declared.place.Place.Place}
use Rattle.beldi_row.specs.declared.act.Act.TheVariants.{Look, Issue, Bind, Register, End, Stamp, PutRead, OpenInvoke, CallBack, NoteRegistered, PutLockset, MakeCell, WriteCell, CondCell, LockCell, FreeCell, LinkCell, DropIntent, DropRow, MarkCell, SkipCell, DangleCell, DropCell}
use Rattle.beldi_row.specs.Act.{ActReply, act, prunes, stays_unless, gone, did, held, died, no_row, tested, not_owner, next, packed, not_full, on, on_intent, on_invoke, on_cell, bind_to, end_with, stamp_with, call_back_to, register_to, noted_or, next_or, held_or, waits_for, owned_or, at_tail, unless_held, if_owned, if_room, is_full, link_to, owns, given_or, other_owner, entered, write_at, cond_at, lock_at, free_at}
use Rattle.beldi_row.{specs.Key.RowKey, specs.Log.most_entries, specs.Log.note_at, specs.Table.Rows, proofs.Removed.act_stays, proofs.Removed.not_removed, proofs.Removed.spares, specs.declared.act.Act.Act, specs.declared.notes.Note.Note, specs.declared.notes.Note.TheVariants.Wrote, specs.declared.notes.Note.TheVariants.Cond, specs.declared.notes.Note.TheVariants.Got, specs.declared.notes.Note.TheVariants.Died, specs.declared.notes.Note.TheVariants.Freed, specs.declared.row.Body.Body, specs.declared.row.Cell.Cell, specs.declared.row.IntentRow.IntentRow, specs.declared.row.InvokeRow.InvokeRow, specs.declared.row.Row.Row}
use Rattle.beldi_links.specs.Links.{GrowsBy, RowGrows}
use Rattle.beldi_query.{proofs.Promises.at_each, specs.declared.query.Query.Query}
use Rattle.beldi_step.specs.HostStep.{Core}
use Rattle.beldi_invariant.specs.InvariantLaws.{OneRowChanged}
use Rattle.beldi_upkeep.specs.Checked.{body_at}

-- ---- a cell after an act
abbrev Grown : Cell → Cell → Type 0
Grown c d = GrowsBy c.next c d

stays_by : (z : Option ℕ) (c : Cell) → GrowsBy z c c
stays_by None c = λ full. (refl, refl, refl)
stays_by (Some k) c = refl

same_cell : (c : Cell) → Grown c c
same_cell c = stays_by c.next c

module _ (c : Cell) where
  abbrev Keeps : Cell × ActReply → Type 0
  Keeps z = Grown c z.0

  by_note : (o : Option Note) (z : Cell × ActReply) → Keeps z → Keeps (noted_or c o z)
  by_note None z h = h
  by_note (Some n) z h = same_cell c

  by_next : (o : Option ℕ) (z : Cell × ActReply) → c.next ≡ o → (c.next ≡ None → Keeps z) → Keeps (next_or c o z)
  by_next None z is h = h is
  by_next (Some n) z is h = same_cell c

  by_other : (o : Option Owner) (z : Cell × ActReply) → Keeps z → Keeps (held_or c o z)
  by_other None z h = h
  by_other (Some o) z h = same_cell c

  by_own : (b : Bool) (z : Cell × ActReply) → Keeps z → Keeps (if b then z else (c, not_owner))
  by_own true z h = h
  by_own false z h = same_cell c

  last : (p : Place) (z : Cell × ActReply) → (c.next ≡ None → Keeps z) → Keeps (at_tail p c z)
  last p z h = by_note (note_at c.log p) (next_or c c.next z) (by_next c.next z refl h)

  -- where there is room, whatever is put
  room : (z : Cell × ActReply) → c.next ≡ None → Keeps (if_room c z)
  room z is = by_test (is_full c) refl
    where
      by_test : (b : Bool) → is_full c ≡ b → Keeps (if b then (c, packed c.value c.owner) else z)
      by_test true e = same_cell c
      by_test false e = subst (λ o. GrowsBy o c z.0) (sym is) (λ full. absurd (let clash = sym e ∙ eq-eqb (length c.log) most_entries full in cc))

  unheld : (p : Place) (w : Owner) (z : Cell × ActReply) → Keeps (at_tail p c (unless_held w c (if_room c z)))
  unheld p w z = last p (unless_held w c (if_room c z)) (λ is. by_other (other_owner w c.owner) (if_room c z) (room z is))

  by_age : (b : Bool) (o : Owner) (z : Cell × ActReply) → Keeps z → Keeps (if b then (c, held o) else z)
  by_age true o z h = same_cell c
  by_age false o z h = h

  dies : (p : Place) (w : Owner) (o : Option Owner) (z : Cell × ActReply) → c.next ≡ None → Keeps z → Keeps (owned_or p w c o z)
  dies p w None z is h = h
  dies p w (Some o) z is h = let dead : Cell × ActReply = (entered p (Died (age_of o)) c.value c.owner c, died (age_of o)) in by_age (waits_for w o) o (if_room c dead) (room dead is)

  locked : (p : Place) (w : Owner) → Keeps (lock_at p w c)
  locked p w =
      let z : Cell × ActReply = (entered p Got c.value (Some w) c, did) in
      last p (owned_or p w c (other_owner w c.owner) (if_room c z)) (λ is. dies p w (other_owner w c.owner) (if_room c z) is (room z is))

  owned : (p : Place) (w : Owner) (z : Cell × ActReply) → Keeps (at_tail p c (if_owned w c (if_room c z)))
  owned p w z = last p (if_owned w c (if_room c z)) (λ is. by_own (owns w c.owner) (if_room c z) (room z is))

  linked : (n : ℕ) → Keeps (link_to n c)
  linked n = by_next c.next (if is_full c then (record c { next = Some n }, next n) else (c, not_full)) refl (λ is. by_test (is_full c) is)
    where
      by_test : (b : Bool) → c.next ≡ None → Keeps (if b then (record c { next = Some n }, next n) else (c, not_full))
      by_test true is = subst (λ o. GrowsBy o c (record c { next = Some n })) (sym is) (λ full. (refl, refl, refl))
      by_test false is = same_cell c

-- ---- on a row
stays : (r : Row) → RowGrows (Some r) (Some r)
stays (Row.Cell c) = same_cell c
stays (Row.Intent i) = tt
stays (Row.ReadLog v) = tt
stays (Row.Invoke i) = tt
stays Row.Lockset = tt

row_stays : (r : Option Row) → RowGrows r r
row_stays None = tt
row_stays (Some r) = stays r

on_intents : (f : IntentRow → IntentRow × ActReply) (t : ActReply) (r : Row) → RowGrows (Some r) (Some (on_intent f t r).0)
on_intents f t (Row.Intent i) = tt
on_intents f t (Row.Cell c) = same_cell c
on_intents f t (Row.ReadLog v) = tt
on_intents f t (Row.Invoke i) = tt
on_intents f t Row.Lockset = tt

on_calls : (f : InvokeRow → InvokeRow × ActReply) (t : ActReply) (r : Row) → RowGrows (Some r) (Some (on_invoke f t r).0)
on_calls f t (Row.Invoke i) = tt
on_calls f t (Row.Cell c) = same_cell c
on_calls f t (Row.Intent i) = tt
on_calls f t (Row.ReadLog v) = tt
on_calls f t Row.Lockset = tt

on_cells : (f : Cell → Cell × ActReply) (t : ActReply) → ((c : Cell) → Keeps c (f c)) → (r : Row) → RowGrows (Some r) (Some (on_cell f t r).0)
on_cells f t h (Row.Cell c) = h c
on_cells f t h (Row.Intent i) = tt
on_cells f t h (Row.ReadLog v) = tt
on_cells f t h (Row.Invoke i) = tt
on_cells f t h Row.Lockset = tt

act_on : (a : Act) (now : ℕ) (r : Row) → prunes a ≡ false → RowGrows (Some r) (Some (on a now r).0)
act_on Look now r keeps = stays r
act_on Issue now r keeps = stays r
act_on (Bind f v) now r keeps = on_intents (λ i. bind_to f v i i.body) gone r
act_on (Register b) now r keeps = stays r
act_on (End o s) now r keeps = on_intents (λ i. end_with o s now i i.outcome) gone r
act_on Stamp now r keeps = on_intents (λ i. stamp_with now i i.finish) gone r
act_on (PutRead v) now r keeps = stays r
act_on (OpenInvoke f) now r keeps = stays r
act_on (CallBack o) now r keeps = on_calls (λ i. call_back_to o i i.result) gone r
act_on NoteRegistered now r keeps = on_calls (λ i. register_to i i.registered) gone r
act_on PutLockset now r keeps = stays r
act_on (MakeCell v o l) now r keeps = stays r
act_on (WriteCell p w v) now r keeps = on_cells (write_at p w v) no_row (λ c. unheld c p w (entered p Wrote v c.owner c, did)) r
act_on (CondCell p w k o v) now r keeps = on_cells (cond_at p w k o v) no_row (λ c. let b = passes c.value k o in unheld c p w (entered p (Cond b) (if b then v else c.value) c.owner c, tested b)) r
act_on (LockCell p w s) now r keeps = on_cells (lock_at p w) no_row (λ c. locked c p w) r
act_on (FreeCell p w v) now r keeps = on_cells (free_at p w v) no_row (λ c. owned c p w (entered p Freed (given_or v c.value) None c, did)) r
act_on (LinkCell n) now r keeps = on_cells (link_to n) no_row (λ c. linked c n) r
act_on (DropIntent l) now r keeps = cc
act_on DropRow now r keeps = cc
act_on MarkCell now r keeps = cc
act_on (SkipCell f t) now r keeps = cc
act_on DangleCell now r keeps = cc
act_on (DropCell l) now r keeps = cc

act_grows : (a : Act) (now : ℕ) (r : Option Row) → prunes a ≡ false → RowGrows r (act a now r).0
act_grows a now None keeps = tt
act_grows a now (Some r) keeps = subst (λ b. RowGrows (Some r) (stays_unless b (on a now r)).0) (sym (not_removed a now r (spares a keeps))) (act_on a now r keeps)

-- ---- a body that is there stays
body_on : (b : Body) (a : Act) (now : ℕ) (r : Row) → body_at (Some r) ≡ Some b → body_at (Some (on a now r).0) ≡ Some b
body_on b a now r is = grind arith

body_stays : (b : Body) (a : Act) (now : ℕ) (r : Option Row) → prunes a ≡ false → body_at r ≡ Some b → body_at (act a now r).0 ≡ Some b
body_stays b a now None keeps is = cc
body_stays b a now (Some r) keeps is = ap (λ z. body_at z.0) (act_stays a now r (spares a keeps)) ∙ body_on b a now r is

-- ---- what an event leaves of each row
module _ (c : Core) (m n : Rows) (one : OneRowChanged c m n) where
  each_row : (P : Option Row → Option Row → Type 0) → ((r : Option Row) → P r r) → ((a : Act) (now : ℕ) (r : Option Row) → prunes a ≡ false → P r (act a now r).0) → (k : RowKey) → P (map.get m k) (map.get n k)
  each_row P same made k = elim one.rows [
    | inl is ↦ subst (λ l. P (map.get m k) (map.get l k)) (sym is) (same (map.get m k))
    | inr s ↦ subst (λ l. P (map.get m k) (map.get l k)) (sym s.2) (at_each P same made (Query.Act one.key s.0) s.1 c.now m k)
  ]

  pub grows_at : (k : RowKey) → RowGrows (map.get m k) (map.get n k)
  grows_at k = each_row RowGrows row_stays act_grows k

  pub body_kept : (k : RowKey) (b : Body) → body_at (map.get m k) ≡ Some b → body_at (map.get n k) ≡ Some b
  body_kept k b = each_row (λ r s. body_at r ≡ Some b → body_at s ≡ Some b) (λ r h. h) (λ a now r keeps. body_stays b a now r keeps) k
