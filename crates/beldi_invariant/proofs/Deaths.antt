-- A death is noted and told only where another has the lock.
use Rattle.std.specs.Prelude.{nat_lt, not, ◌&&◌, is_some}
use Rattle.std.proofs.Common.{◌≡◌, ℕ, Bool, true, false, List, [], ◌∷◌, ◌++◌, Option, None, Some, ap, if◌then◌else◌, refl, subst, sym, ◌∙◌}
use Rattle.std.proofs.lemmas.Option.{same_Some}
use Rattle.beldi_value.specs.{Id.age_of, Id.is_older, Passes.passes, declared.id.IntentId.IntentId, declared.place.Owner.Owner, declared.place.Place.Place, declared.place.TxId.TxId, declared.value.Value.Value}
use Rattle.beldi_row.specs.declared.act.Act.TheVariants.{Look, Issue, Bind, Register, End, Stamp, PutRead, OpenInvoke, CallBack, NoteRegistered, PutLockset, MakeCell, WriteCell, CondCell, LockCell, FreeCell, LinkCell, DropIntent, DropRow, MarkCell, SkipCell, DangleCell, DropCell}
use Rattle.beldi_row.specs.Act.{ActReply, act, removes, stays_unless, at_tail, bind_to, call_back_to, cond_at, dangle_at, dangle_by, did, died, end_with, entered, free_at, given_or, gone, held, held_or, if_owned, if_room, is_full, leads_from, link_to, lock_at, mark_by, marked, next, next_or, no_row, not_full, not_owner, not_so, noted as reply_noted, noted_or, off, on, on_cell, on_intent, on_invoke, other_owner, owned_or, owns, packed, register_to, skip_by, skip_to, stamp_with, tested, unless_held, write_at}
use Rattle.beldi_row.{proofs.Logs.place_same, specs.declared.act.Act.Act, specs.declared.notes.Note.Note, specs.declared.notes.Note.TheVariants.Wrote, specs.declared.notes.Note.TheVariants.Cond, specs.declared.notes.Note.TheVariants.Got, specs.declared.notes.Note.TheVariants.Died, specs.declared.notes.Note.TheVariants.Freed, specs.declared.row.Cell.Cell, specs.declared.row.IntentRow.IntentRow, specs.declared.row.InvokeRow.InvokeRow, specs.declared.row.Row.Row, specs.Log.note_at, specs.Log.owner_eq, specs.Log.place_eq}
use Rattle.beldi_query.{proofs.Lent.only_transactions_die, specs.Query.is_death, specs.Query.may_die}
use Rattle.beldi_chain.specs.Content.{content_in}
use Rattle.beldi_invariant.specs.Deaths.{DeathsHaveHolders, DiesOfHolder, HasHolder}

-- a note that came with an entry is that of the entry
entered_note : (es : List (Place × Note)) (q p : Place) (n x : Note) → note_at es p ≡ None → note_at (es ++ (q, n) ∷ []) p ≡ Some x → (q ≡ p) × (n ≡ x)
entered_note [] q p n x none is = elim (place_eq q p) as (λ b. place_eq q p ≡ b → (if b then Some n else None) ≡ Some x → (q ≡ p) × (n ≡ x)) [
  | true ↦ λ e f. (place_same q p e, same_Some n x f)
  | false ↦ λ e f. cc
] refl is
entered_note (e ∷ es) q p n x none is = by (place_eq e.0 p) (entered_note es q p n x) none is
  where
    by : (b : Bool) → (note_at es p ≡ None → note_at (es ++ (q, n) ∷ []) p ≡ Some x → (q ≡ p) × (n ≡ x)) → (if b then Some e.1 else note_at es p) ≡ None → (if b then Some e.1 else note_at (es ++ (q, n) ∷ []) p) ≡ Some x → (q ≡ p) × (n ≡ x)
    by true more n i = cc
    by false more n i = more n i

same_death : (x y : IntentId) → Died x ≡ Died y → x ≡ y
same_death x y e = cc

same_told : (x y : IntentId) → died x ≡ died y → x ≡ y
same_told x y e = cc

other_from : (who : Owner) (o : Option Owner) (h : Owner) → other_owner who o ≡ Some h → (o ≡ Some h) × (owner_eq h who ≡ false)
other_from who None h e = cc
other_from who (Some o) h e = elim (owner_eq o who) as (λ b. owner_eq o who ≡ b → (if b then None else Some o) ≡ Some h → (Some o ≡ Some h) × (owner_eq h who ≡ false)) [
  | true ↦ λ f g. cc
  | false ↦ λ f g. (g, subst (λ z. owner_eq z who ≡ false) (same_Some o h g) f)
] refl e

-- ---- a lock of a transaction
module _ (q : Place) (t : TxId) (s : IntentId) (c : Cell) where
  abbrev lock : Act
  lock = LockCell q (Owner.Tx t) s

  -- what it leaves of the cell, and tells
  record OfHolder (z : Cell × ActReply) : Type 0 where
    noted : (p : Place) (age : IntentId) → note_at c.log p ≡ None → note_at z.0.log p ≡ Some (Died age) → HasHolder lock (Some (Row.Cell c)) p age
    told : (age : IntentId) → z.1 ≡ died age → (p : Place) × HasHolder lock (Some (Row.Cell c)) p age

  as_it_was : (w : ActReply) → ((age : IntentId) → w ≡ died age → ⊥) → OfHolder (c, w)
  as_it_was w other = record { noted = λ p age none is. let clash = sym none ∙ is in cc; told = λ age e. absurd (other age e) }

  holder : (o : Owner) → other_owner (Owner.Tx t) c.owner ≡ Some o → is_older t.intent (age_of o) ≡ false → (p : Place) (age : IntentId) → q ≡ p → age ≡ age_of o → HasHolder lock (Some (Row.Cell c)) p age
  holder o is young p age at age_is =
      let h = other_from (Owner.Tx t) c.owner o is in
      record { asker = t; spare = s; asks = ap (λ x. LockCell x (Owner.Tx t) s) at; cell = c; item = refl; holder = o; owns = h.0; other = h.1; age_is = age_is; not_older = young }

  by_room : (z : Cell × ActReply) → OfHolder z → OfHolder (if_room c z)
  by_room z h = by_test (is_full c)
    where
      by_test : (b : Bool) → OfHolder (if b then (c, packed c.value c.owner) else z)
      by_test true = as_it_was (packed c.value c.owner) (λ age e. cc)
      by_test false = h

  by_age : (o : Owner) (b : Bool) → other_owner (Owner.Tx t) c.owner ≡ Some o → is_older t.intent (age_of o) ≡ b → OfHolder (if b then (c, held o) else if_room c (entered q (Died (age_of o)) c.value c.owner c, died (age_of o)))
  by_age o true is older = as_it_was (held o) (λ age e. cc)
  by_age o false is older = by_room (entered q (Died (age_of o)) c.value c.owner c, died (age_of o)) (record {
    noted = λ p age none noted. let e = entered_note c.log q p (Died (age_of o)) (Died age) none noted in holder o is older p age e.0 (sym (same_death (age_of o) age e.1));
    told = λ age e. (q, holder o is older q age refl (sym (same_told (age_of o) age e)));
  })

  by_other : (o : Option Owner) → other_owner (Owner.Tx t) c.owner ≡ o → OfHolder (owned_or q (Owner.Tx t) c o (if_room c (entered q Got c.value (Some (Owner.Tx t)) c, did)))
  by_other None is = by_room (entered q Got c.value (Some (Owner.Tx t)) c, did) (record { noted = λ p age none noted. let e = (entered_note c.log q p Got (Died age) none noted).1 in cc; told = λ age e. cc })
  by_other (Some o) is = by_age o (is_older t.intent (age_of o)) is refl

  by_next : (o : Option ℕ) (z : Cell × ActReply) → OfHolder z → OfHolder (next_or c o z)
  by_next None z h = h
  by_next (Some n) z h = as_it_was (next n) (λ age e. cc)

  by_note : (o : Option Note) (z : Cell × ActReply) → OfHolder z → OfHolder (noted_or c o z)
  by_note None z h = h
  by_note (Some n) z h = as_it_was (reply_noted n) (λ age e. cc)

  locked : OfHolder (lock_at q (Owner.Tx t) c)
  locked =
      let z : Cell × ActReply = owned_or q (Owner.Tx t) c (other_owner (Owner.Tx t) c.owner) (if_room c (entered q Got c.value (Some (Owner.Tx t)) c, did)) in
      by_note (note_at c.log q) (next_or c c.next z) (by_next c.next z (by_other (other_owner (Owner.Tx t) c.owner) refl))

-- ---- no other act notes a death
module _ (c : Cell) where
  abbrev Lives : Cell × ActReply → Type 0
  Lives z = (p : Place) (age : IntentId) → note_at c.log p ≡ None → note_at z.0.log p ≡ Some (Died age) → ⊥

  stays : (t : ActReply) → Lives (c, t)
  stays t p age none is = let clash = sym none ∙ is in cc

  last : (q : Place) (z : Cell × ActReply) → Lives z → Lives (at_tail q c z)
  last q z h = by (note_at c.log q) c.next
    where
      by : (o : Option Note) (n : Option ℕ) → Lives (noted_or c o (next_or c n z))
      by None None = h
      by None (Some k) = stays (next k)
      by (Some k) n = stays (reply_noted k)

  enters : (q : Place) (n : Note) (v : Value) (o : Option Owner) (t : ActReply) → ((age : IntentId) → n ≡ Died age → ⊥) → Lives (entered q n v o c, t)
  enters q n v o t other p age none is = other age (entered_note c.log q p n (Died age) none is).1

  room : (z : Cell × ActReply) → Lives z → Lives (if_room c z)
  room z h = by (is_full c)
    where
      by : (b : Bool) → Lives (if b then (c, packed c.value c.owner) else z)
      by true = stays (packed c.value c.owner)
      by false = h

  linked : (n : ℕ) → Lives (link_to n c)
  linked n = by c.next (is_full c)
    where
      by : (o : Option ℕ) (b : Bool) → Lives (next_or c o (if b then (record c { next = Some n }, next n) else (c, not_full)))
      by None true = λ p age none is. let clash = sym none ∙ is in cc
      by None false = stays not_full
      by (Some k) b = stays (next k)

  unheld : (q : Place) (who : Owner) (z : Cell × ActReply) → Lives z → Lives (at_tail q c (unless_held who c z))
  unheld q who z h = last q (unless_held who c z) (by (other_owner who c.owner))
    where
      by : (o : Option Owner) → Lives (held_or c o z)
      by None = h
      by (Some o) = stays (held o)

  owned : (q : Place) (who : Owner) (z : Cell × ActReply) → Lives z → Lives (at_tail q c (if_owned who c z))
  owned q who z h = last q (if_owned who c z) (by (owns who c.owner))
    where
      by : (b : Bool) → Lives (if b then z else (c, not_owner))
      by true = h
      by false = stays not_owner

  waits : (q : Place) (i : IntentId) (z : Cell × ActReply) → Lives z → Lives (at_tail q c (owned_or q (Owner.Intent i) c (other_owner (Owner.Intent i) c.owner) z))
  waits q i z h = last q (owned_or q (Owner.Intent i) c (other_owner (Owner.Intent i) c.owner) z) (by (other_owner (Owner.Intent i) c.owner))
    where
      by : (o : Option Owner) → Lives (owned_or q (Owner.Intent i) c o z)
      by None = h
      by (Some o) = stays (held o)

  -- what leads past it enters nothing
  same_log : (d : Cell) (t : ActReply) → d.log ≡ c.log → Lives (d, t)
  same_log d t same p age none is = let clash = sym none ∙ ap (λ l. note_at l p) (sym same) ∙ is in cc

  marks : (n : Option ℕ) → Lives (mark_by n c)
  marks None = stays not_so
  marks (Some n) = same_log (mark_by (Some n) c).0 (marked n) refl

  skips : (t : ℕ) (b : Bool) → Lives (skip_by b t c)
  skips t false = stays not_so
  skips t true = same_log (skip_by true t c).0 did refl

  dangles : (now : ℕ) (b : Bool) → Lives (dangle_by b now c)
  dangles now false = stays not_so
  dangles now true = same_log (dangle_by true now c).0 did refl

abbrev LivesOn : Option Row → Option Row → Type 0
LivesOn r s = (p : Place) (age : IntentId) → note_at (content_in r).notes p ≡ None → note_at (content_in s).notes p ≡ Some (Died age) → ⊥

row_stays : (r : Option Row) → LivesOn r r
row_stays r p age none is = let clash = sym none ∙ is in cc

on_intents : (f : IntentRow → IntentRow × ActReply) (t : ActReply) (r : Row) → LivesOn (Some r) (Some (on_intent f t r).0)
on_intents f t (Row.Intent i) = λ p age none is. cc
on_intents f t r = row_stays (Some r)

on_calls : (f : InvokeRow → InvokeRow × ActReply) (t : ActReply) (r : Row) → LivesOn (Some r) (Some (on_invoke f t r).0)
on_calls f t (Row.Invoke i) = λ p age none is. cc
on_calls f t r = row_stays (Some r)

on_cells : (f : Cell → Cell × ActReply) (t : ActReply) → ((c : Cell) → Lives c (f c)) → (r : Row) → LivesOn (Some r) (Some (on_cell f t r).0)
on_cells f t h (Row.Cell c) = h c
on_cells f t h r = row_stays (Some r)

row_lives : (a : Act) (now : ℕ) (r : Row) → may_die a ≡ false → LivesOn (Some r) (Some (on a now r).0)
row_lives Look now r h = row_stays (Some r)
row_lives Issue now r h = row_stays (Some r)
row_lives (Bind f v) now r h = on_intents (λ i. bind_to f v i i.body) gone r
row_lives (Register b) now r h = row_stays (Some r)
row_lives (End o s) now r h = on_intents (λ i. end_with o s now i i.outcome) gone r
row_lives Stamp now r h = on_intents (λ i. stamp_with now i i.finish) gone r
row_lives (PutRead v) now r h = row_stays (Some r)
row_lives (OpenInvoke f) now r h = row_stays (Some r)
row_lives (CallBack o) now r h = on_calls (λ i. call_back_to o i i.result) gone r
row_lives NoteRegistered now r h = on_calls (λ i. register_to i i.registered) gone r
row_lives PutLockset now r h = row_stays (Some r)
row_lives (MakeCell v o l) now r h = row_stays (Some r)
row_lives (WriteCell p w v) now r h = on_cells (write_at p w v) no_row (λ c. let z : Cell × ActReply = (entered p Wrote v c.owner c, did) in unheld c p w (if_room c z) (room c z (enters c p Wrote v c.owner did (λ age e. cc)))) r
row_lives (CondCell p w k o v) now r h =
    on_cells (cond_at p w k o v) no_row
    (λ c. let b = passes c.value k o in let u = if b then v else c.value in let z : Cell × ActReply = (entered p (Cond b) u c.owner c, tested b) in unheld c p w (if_room c z) (room c z (enters c p (Cond b) u c.owner (tested b) (λ age e. cc))))
    r
row_lives (LockCell p (Owner.Intent i) s) now r h =
    on_cells (lock_at p (Owner.Intent i)) no_row (λ c. let z : Cell × ActReply = (entered p Got c.value (Some (Owner.Intent i)) c, did) in waits c p i (if_room c z) (room c z (enters c p Got c.value (Some (Owner.Intent i)) did (λ age e. cc)))) r
row_lives (LockCell p (Owner.Tx t) s) now r h = cc
row_lives (FreeCell p w v) now r h = on_cells (free_at p w v) no_row (λ c. let z : Cell × ActReply = (entered p Freed (given_or v c.value) None c, did) in owned c p w (if_room c z) (room c z (enters c p Freed (given_or v c.value) None did (λ age e. cc)))) r
row_lives (LinkCell n) now r h = on_cells (link_to n) no_row (λ c. linked c n) r
row_lives (DropIntent l) now r h = row_stays (Some r)
row_lives DropRow now r h = row_stays (Some r)
row_lives MarkCell now r h = on_cells (λ c. mark_by c.next c) not_so (λ c. marks c c.next) r
row_lives (SkipCell f t) now r h = on_cells (skip_to f t) not_so (λ c. skips c t (not c.marked && leads_from f c.next && nat_lt f t)) r
row_lives DangleCell now r h = on_cells (dangle_at now) not_so (λ c. dangles c now (c.marked && not (is_some c.dangled))) r
row_lives (DropCell l) now r h = row_stays (Some r)

none_lives : (a : Act) (now : ℕ) → LivesOn None (off a now).0
none_lives Look now p age none is = cc
none_lives a now p age none is = cc

lives : (a : Act) (now : ℕ) (r : Option Row) → may_die a ≡ false → LivesOn r (act a now r).0
lives a now None h = none_lives a now
lives a now (Some r) h = by_stay (removes a now r)
  where
    by_stay : (b : Bool) → LivesOn (Some r) (stays_unless b (on a now r)).0
    by_stay true = λ p age none is. cc
    by_stay false = row_lives a now r h

-- ---- all acts
-- an act that no transaction may die of
living : (a : Act) (now : ℕ) (r : Option Row) → may_die a ≡ false → DiesOfHolder a now r
living a now r h = record {
  noted = λ p age none is. absurd (lives a now r h p age none is);
  told = λ age e. let clash = sym (only_transactions_die a now r h) ∙ ap is_death e in cc;
}

-- a lock where no item is
off_item : (a : Act) (now : ℕ) (r : Option Row) → (act a now r).0 ≡ r → is_death (act a now r).1 ≡ false → DiesOfHolder a now r
off_item a now r same alive = record {
  noted = λ p age none is. absurd (row_stays r p age none (ap (λ s. note_at (content_in s).notes p) (sym same) ∙ is));
  told = λ age e. let clash = sym alive ∙ ap is_death e in cc;
}

asked : (q : Place) (t : TxId) (s : IntentId) (now : ℕ) (r : Option Row) → DiesOfHolder (LockCell q (Owner.Tx t) s) now r
asked q t s now (Some (Row.Cell c)) = let h = locked q t s c in record { noted = h.noted; told = h.told }
asked q t s now None = off_item (LockCell q (Owner.Tx t) s) now None refl refl
asked q t s now (Some r) = off_item (LockCell q (Owner.Tx t) s) now (Some r) refl refl

pub deaths_have_holders : DeathsHaveHolders
deaths_have_holders (LockCell q (Owner.Tx t) s) now r = asked q t s now r
deaths_have_holders (LockCell q (Owner.Intent i) s) now r = living (LockCell q (Owner.Intent i) s) now r refl
deaths_have_holders a now r = living a now r refl
