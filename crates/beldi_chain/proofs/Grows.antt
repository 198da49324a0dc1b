-- What an act leaves of a row, and so of a chain: a cell without a next gets entries at its end or a next at most, and one with a next stays.
use Rattle.std.specs.FinMap as map
use Rattle.std.specs.Ordering.{is_eq}
use Rattle.std.proofs.Common.{◌≡◌, ◌⊎◌, ℕ, zero, suc, Bool, true, false, cond, List, [], ◌∷◌, ◌++◌, Option, None, Some, nat_lt, if◌then◌else◌, inl, inr, refl, ap, sym, ◌∙◌, subst, append-nil}
use Rattle.beldi_value.specs.{Id.age_of, Passes.passes, declared.place.Owner.Owner, declared.place.Place.Place, declared.value.Value.Value}
use Rattle.beldi_row.specs.declared.act.Act.TheVariants.{Look, Issue, Bind, Register, End, Stamp, PutRead, OpenInvoke, CallBack, NoteRegistered, PutLockset, MakeCell, WriteCell, CondCell, LockCell, FreeCell, LinkCell, DropIntent, DropRow, MarkCell, SkipCell, DangleCell, DropCell}
use Rattle.beldi_row.specs.Act.{ActReply, act, prunes, removes, stays_unless, gone, did, held, died, no_row, tested, not_owner, next, packed, not_full, on, on_intent, on_invoke, on_cell, bind_to, end_with, stamp_with, call_back_to, register_to, noted_or, next_or, held_or, waits_for, owned_or, at_tail, unless_held, if_owned, if_room, is_full, link_to, owns, given_or, other_owner, entered, write_at, cond_at, lock_at, free_at}
use Rattle.beldi_row.{specs.Key.RowKey, specs.Key.at_row, specs.Key.key_cmp, specs.Table.Rows, specs.Table.after_act, proofs.Gets.got, proofs.Gets.key_same, proofs.Removed.not_removed, proofs.Removed.spares, specs.declared.act.Act.Act, specs.declared.notes.Note.Note, specs.declared.notes.Note.TheVariants.Wrote, specs.declared.notes.Note.TheVariants.Cond, specs.declared.notes.Note.TheVariants.Got, specs.declared.notes.Note.TheVariants.Died, specs.declared.notes.Note.TheVariants.Freed, specs.declared.row.Cell.Cell, specs.declared.row.IntentRow.IntentRow, specs.declared.row.InvokeRow.InvokeRow, specs.declared.row.Row.Row, specs.Log.note_at, specs.Log.place_eq}
use Rattle.beldi_chain.specs.{Chain.Chain, Chain.above, Chain.chain, Chain.content, Chain.most_rows, Chain.next_of, Chain.notes_from, Chain.on_next, Chain.tail_from, Content.held_in, Content.log_of, ChainLaws.NotesStay}

front_note : (es fs : List (Place × Note)) (p : Place) (n : Note) → note_at es p ≡ Some n → note_at (es ++ fs) p ≡ Some n
front_note [] fs p n is = cc
front_note (e ∷ es) fs p n is = by_test (place_eq e.0 p) is (front_note es fs p n)
  where
    by_test : (b : Bool) → (if b then Some e.1 else note_at es p) ≡ Some n → (note_at es p ≡ Some n → note_at (es ++ fs) p ≡ Some n) → (if b then Some e.1 else note_at (es ++ fs) p) ≡ Some n
    by_test true is more = is
    by_test false is more = more is

-- a note of a front that another list follows stays where that list's notes do
then_note : (es fs gs : List (Place × Note)) (p : Place) (n : Note) → (note_at fs p ≡ Some n → note_at gs p ≡ Some n) → note_at (es ++ fs) p ≡ Some n → note_at (es ++ gs) p ≡ Some n
then_note [] fs gs p n h is = h is
then_note (e ∷ es) fs gs p n h is = by_test (place_eq e.0 p) is (then_note es fs gs p n h)
  where
    by_test : (b : Bool) → (if b then Some e.1 else note_at (es ++ fs) p) ≡ Some n → (note_at (es ++ fs) p ≡ Some n → note_at (es ++ gs) p ≡ Some n) → (if b then Some e.1 else note_at (es ++ gs) p) ≡ Some n
    by_test true is more = is
    by_test false is more = more is

-- ---- a cell after an act
-- it stays, where a row follows; and else gets these entries, or a next
record More (c d : Cell) : Type 0 where
  pub last : c.next ≡ None
  pub entries : List (Place × Note)
  pub log : d.log ≡ c.log ++ entries

abbrev GrowsTo : Cell → Cell → Type 0
GrowsTo c d = (d ≡ c) ⊎ More c d

module _ (c : Cell) where
  abbrev Keeps : Cell × ActReply → Type 0
  Keeps z = GrowsTo c z.0

  by_note : (o : Option Note) (z : Cell × ActReply) → Keeps z → Keeps (noted_or c o z)
  by_note None z h = h
  by_note (Some n) z h = inl refl

  by_next : (o : Option ℕ) (z : Cell × ActReply) → c.next ≡ o → (c.next ≡ None → Keeps z) → Keeps (next_or c o z)
  by_next None z is h = h is
  by_next (Some n) z is h = inl refl

  by_other : (o : Option Owner) (z : Cell × ActReply) → Keeps z → Keeps (held_or c o z)
  by_other None z h = h
  by_other (Some o) z h = inl refl

  by_own : (b : Bool) (z : Cell × ActReply) → Keeps z → Keeps (if b then z else (c, not_owner))
  by_own true z h = h
  by_own false z h = inl refl

  last : (p : Place) (z : Cell × ActReply) → (c.next ≡ None → Keeps z) → Keeps (at_tail p c z)
  last p z h = by_note (note_at c.log p) (next_or c c.next z) (by_next c.next z refl h)

  -- an entry is put at the end ..
  put : (p : Place) (m : Note) (v : Value) (o : Option Owner) (t : ActReply) → c.next ≡ None → Keeps (entered p m v o c, t)
  put p m v o t is = inr (record { last = is; entries = (p, m) ∷ []; log = refl })

  -- .. where there is room for it
  room : (z : Cell × ActReply) → Keeps z → Keeps (if_room c z)
  room z h = by_test (is_full c)
    where
      by_test : (b : Bool) → Keeps (if b then (c, packed c.value c.owner) else z)
      by_test true = inl refl
      by_test false = h

  -- .. where no other owner is, or where who asks is the owner
  unheld : (p : Place) (w : Owner) (m : Note) (v : Value) (o : Option Owner) (t : ActReply) → Keeps (at_tail p c (unless_held w c (if_room c (entered p m v o c, t))))
  unheld p w m v o t = let z : Cell × ActReply = (entered p m v o c, t) in last p (unless_held w c (if_room c z)) (λ is. by_other (other_owner w c.owner) (if_room c z) (room z (put p m v o t is)))

  -- .. and so is a death
  by_age : (b : Bool) (o : Owner) (z : Cell × ActReply) → Keeps z → Keeps (if b then (c, held o) else z)
  by_age true o z h = inl refl
  by_age false o z h = h

  dies : (p : Place) (w : Owner) (o : Option Owner) (z : Cell × ActReply) → c.next ≡ None → Keeps z → Keeps (owned_or p w c o z)
  dies p w None z is h = h
  dies p w (Some o) z is h = (let dead : Cell × ActReply = (entered p (Died (age_of o)) c.value c.owner c, died (age_of o)) in by_age (waits_for w o) o (if_room c dead) (room dead (put p (Died (age_of o)) c.value c.owner (died (age_of o)) is)))

  locked : (p : Place) (w : Owner) → Keeps (lock_at p w c)
  locked p w =
      let z : Cell × ActReply = (entered p Got c.value (Some w) c, did) in
      last p (owned_or p w c (other_owner w c.owner) (if_room c z)) (λ is. dies p w (other_owner w c.owner) (if_room c z) is (room z (put p Got c.value (Some w) did is)))

  owned : (p : Place) (w : Owner) (m : Note) (v : Value) (o : Option Owner) (t : ActReply) → Keeps (at_tail p c (if_owned w c (if_room c (entered p m v o c, t))))
  owned p w m v o t = let z : Cell × ActReply = (entered p m v o c, t) in last p (if_owned w c (if_room c z)) (λ is. by_own (owns w c.owner) (if_room c z) (room z (put p m v o t is)))

  -- a next is given to the last row
  linked : (n : ℕ) → Keeps (link_to n c)
  linked n = by_next c.next (if is_full c then (record c { next = Some n }, next n) else (c, not_full)) refl (λ is. by_test (is_full c) is)
    where
      by_test : (b : Bool) → c.next ≡ None → Keeps (if b then (record c { next = Some n }, next n) else (c, not_full))
      by_test true is = inr (record { last = is; entries = []; log = sym (append-nil c.log) })
      by_test false is = inl refl

-- ---- on a row
abbrev RowGrows : Option Row → Option Row → Type 0
RowGrows (Some (Row.Cell c)) (Some (Row.Cell d)) = GrowsTo c d
RowGrows (Some (Row.Cell c)) s = ⊥
RowGrows r s = Unit {0}

stays : (r : Row) → RowGrows (Some r) (Some r)
stays (Row.Cell c) = inl refl
stays (Row.Intent i) = tt
stays (Row.ReadLog v) = tt
stays (Row.Invoke i) = tt
stays Row.Lockset = tt

row_stays : (r : Option Row) → RowGrows r r
row_stays None = tt
row_stays (Some r) = stays r

on_intents : (f : IntentRow → IntentRow × ActReply) (t : ActReply) (r : Row) → RowGrows (Some r) (Some (on_intent f t r).0)
on_intents f t (Row.Intent i) = tt
on_intents f t (Row.Cell c) = inl refl
on_intents f t (Row.ReadLog v) = tt
on_intents f t (Row.Invoke i) = tt
on_intents f t Row.Lockset = tt

on_calls : (f : InvokeRow → InvokeRow × ActReply) (t : ActReply) (r : Row) → RowGrows (Some r) (Some (on_invoke f t r).0)
on_calls f t (Row.Invoke i) = tt
on_calls f t (Row.Cell c) = inl refl
on_calls f t (Row.Intent i) = tt
on_calls f t (Row.ReadLog v) = tt
on_calls f t Row.Lockset = tt

on_cells : (f : Cell → Cell × ActReply) (t : ActReply) → ((c : Cell) → Keeps c (f c)) → (r : Row) → RowGrows (Some r) (Some (on_cell f t r).0)
on_cells f t h (Row.Cell c) = h c
on_cells f t h (Row.Intent i) = tt
on_cells f t h (Row.ReadLog v) = tt
on_cells f t h (Row.Invoke i) = tt
on_cells f t h Row.Lockset = tt

act_on : (a : Act) (now : ℕ) (r : Row) → prunes a ≡ false → RowGrows (Some r) (Some (on a now r).0)
act_on Look now r keeps = stays r
act_on Issue now r keeps = stays r
act_on (Bind f v) now r keeps = on_intents (λ i. bind_to f v i i.body) gone r
act_on (Register b) now r keeps = stays r
act_on (End o s) now r keeps = on_intents (λ i. end_with o s now i i.outcome) gone r
act_on Stamp now r keeps = on_intents (λ i. stamp_with now i i.finish) gone r
act_on (PutRead v) now r keeps = stays r
act_on (OpenInvoke f) now r keeps = stays r
act_on (CallBack o) now r keeps = on_calls (λ i. call_back_to o i i.result) gone r
act_on NoteRegistered now r keeps = on_calls (λ i. register_to i i.registered) gone r
act_on PutLockset now r keeps = stays r
act_on (MakeCell v o l) now r keeps = stays r
act_on (WriteCell p w v) now r keeps = on_cells (write_at p w v) no_row (λ c. unheld c p w Wrote v c.owner did) r
act_on (CondCell p w k o v) now r keeps = on_cells (cond_at p w k o v) no_row (λ c. let b = passes c.value k o in unheld c p w (Cond b) (if b then v else c.value) c.owner (tested b)) r
act_on (LockCell p w s) now r keeps = on_cells (lock_at p w) no_row (λ c. locked c p w) r
act_on (FreeCell p w v) now r keeps = on_cells (free_at p w v) no_row (λ c. owned c p w Freed (given_or v c.value) None did) r
act_on (LinkCell n) now r keeps = on_cells (link_to n) no_row (λ c. linked c n) r
act_on (DropIntent l) now r keeps = cc
act_on DropRow now r keeps = cc
act_on MarkCell now r keeps = cc
act_on (SkipCell f t) now r keeps = cc
act_on DangleCell now r keeps = cc
act_on (DropCell l) now r keeps = cc

act_grows : (a : Act) (now : ℕ) (r : Option Row) → prunes a ≡ false → RowGrows r (act a now r).0
act_grows a now None keeps = tt
act_grows a now (Some r) keeps = subst (λ b. RowGrows (Some r) (stays_unless b (on a now r)).0) (sym (not_removed a now r (spares a keeps))) (act_on a now r keeps)

-- ---- on a chain
-- each of its rows grows
abbrev ChainGrows : Chain → Chain → Type 0
ChainGrows f g = (n : ℕ) → RowGrows (f n) (g n)

module _ (f g : Chain) (p : Place) (note : Note) (grows : ChainGrows f g) where
  abbrev Has : List (Place × Note) → Type 0
  Has es = note_at es p ≡ Some note

  -- what follows a row keeps the note
  by_after : (s n : ℕ) (o : Option ℕ) → ((k : ℕ) → Has (notes_from s f k) → Has (notes_from s g k)) → Has (on_next (above n o) [] (notes_from s f)) → Has (on_next (above n o) [] (notes_from s g))
  by_after s n None more has = has
  by_after s n (Some k) more has = by_test (nat_lt n k) has
    where
      by_test : (b : Bool) → Has (on_next (if b then Some k else None) [] (notes_from s f)) → Has (on_next (if b then Some k else None) [] (notes_from s g))
      by_test true has = more k has
      by_test false has = has

  on_last : (r q : Option Row) → RowGrows r q → Has (log_of r) → Has (log_of q)
  on_last (Some (Row.Cell c)) (Some (Row.Cell d)) (inl same) has = subst (λ (z : Cell). Has z.log) (sym same) has
  on_last (Some (Row.Cell c)) (Some (Row.Cell d)) (inr more) has = subst Has (sym more.log) (front_note c.log more.entries p note has)
  on_last (Some (Row.Cell c)) q h has = absurd h
  on_last None q h has = cc
  on_last (Some r) q h has = cc

  on_way : (s n : ℕ) (r q : Option Row) → RowGrows r q → ((k : ℕ) → Has (notes_from s f k) → Has (notes_from s g k)) → Has (log_of r ++ on_next (above n (next_of r)) [] (notes_from s f))
      → Has (log_of q ++ on_next (above n (next_of q)) [] (notes_from s g))
  on_way s n (Some (Row.Cell c)) (Some (Row.Cell d)) (inl same) more has =
      subst (λ (z : Cell). Has (z.log ++ on_next (above n z.next) [] (notes_from s g))) (sym same)
      (then_note c.log (on_next (above n c.next) [] (notes_from s f)) (on_next (above n c.next) [] (notes_from s g)) p note (by_after s n c.next more) has)
  on_way s n (Some (Row.Cell c)) (Some (Row.Cell d)) (inr more) rest has =
      let here : Has c.log = subst Has (append-nil c.log) (subst (λ o. Has (c.log ++ on_next (above n o) [] (notes_from s f))) more.last has) in
      front_note d.log (on_next (above n d.next) [] (notes_from s g)) p note (subst Has (sym more.log) (front_note c.log more.entries p note here))
  on_way s n (Some (Row.Cell c)) q h more has = absurd h
  on_way s n None q h more has = cc
  on_way s n (Some r) q h more has = cc

  keeps : (s n : ℕ) → Has (notes_from s f n) → Has (notes_from s g n)
  keeps zero n has = on_last (f n) (g n) (grows n) has
  keeps (suc s) n has = on_way s n (f n) (g n) (grows n) (keeps s) has

notes_are : (r : Option Row) (es : List (Place × Note)) → (held_in r es).notes ≡ es
notes_are None es = refl
notes_are (Some (Row.Cell c)) es = refl
notes_are (Some (Row.Intent i)) es = refl
notes_are (Some (Row.ReadLog v)) es = refl
notes_are (Some (Row.Invoke i)) es = refl
notes_are (Some Row.Lockset) es = refl

chain_keeps : (f g : Chain) (p : Place) (n : Note) → ChainGrows f g → note_at (content f).notes p ≡ Some n → note_at (content g).notes p ≡ Some n
chain_keeps f g p n grows is =
    ap (λ es. note_at es p) (notes_are (tail_from most_rows g 0) (notes_from most_rows g 0))
    ∙ keeps f g p n grows most_rows 0 (ap (λ es. note_at es p) (sym (notes_are (tail_from most_rows f 0) (notes_from most_rows f 0))) ∙ is)

-- the rows of a chain grow by an act, on whatever row
rows_grow : (a : Act) → prunes a ≡ false → (now : ℕ) (l head : RowKey) (m : Rows) → ChainGrows (chain m head) (chain (after_act a now l m) head)
rows_grow a keeps now l head m i = let k = at_row head i in
    subst (RowGrows (map.get m k)) (sym (got m l k (act a now (map.get m l)).0)) (by_key (is_eq (key_cmp k l)) refl)
  where
    by_key : (b : Bool) → is_eq (key_cmp (at_row head i) l) ≡ b → RowGrows (map.get m (at_row head i)) (cond b (act a now (map.get m l)).0 (map.get m (at_row head i)))
    by_key true e = subst (λ z. RowGrows (map.get m (at_row head i)) (act a now (map.get m z)).0) (key_same (at_row head i) l e) (act_grows a now (map.get m (at_row head i)) keeps)
    by_key false e = row_stays (map.get m (at_row head i))

pub notes_stay : NotesStay
notes_stay a keeps now l head m p n is = chain_keeps (chain m head) (chain (after_act a now l m) head) p n (rows_grow a keeps now l head m) is
