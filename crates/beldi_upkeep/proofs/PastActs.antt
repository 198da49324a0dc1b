-- Which act makes a row show that an intent is past a step, and which one opens a call.
use Rattle.beldi_value.specs.{Id.child_of, declared.id.IntentId.IntentId, declared.place.Place.Place}
use Rattle.beldi_value.specs.{Id.age_of, Passes.passes, declared.place.Owner.Owner}
use Rattle.beldi_row.proofs.Logs.{place_same}
use Rattle.beldi_row.specs.Act.{removes, stays_unless, ActReply, act, at_tail, cond_at, dangle_by, died, entered, free_at, held, held_or, if_owned, if_room, is_full, leads_from, link_to, lock_at, mark_by, next, next_or, no_row, not_full, not_owner, noted_or, off, on, on_cell, other_owner, owned_or, owns, packed, skip_by, waits_for, write_at}
use Rattle.beldi_row.specs.{Log.note_at, Log.place_eq, declared.act.Act.Act, declared.key.Kind.Kind, declared.notes.Note.Note, declared.row.Cell.Cell, declared.row.Row.Row}
use Rattle.beldi_chain.specs.Content.{content_in}
use Rattle.std.specs.Prelude.{is_none, nat_lt, not}
use Rattle.std.proofs.Common.{Bool, List, None, Option, Some, [], ap, arith, false, if◌then◌else◌, inl, inr, is_some, refl, sym, true, ℕ, ◌&&◌, ◌++◌, ◌||◌, ◌∙◌, ◌∷◌, ◌≡◌, ◌⊎◌}
use Rattle.beldi_upkeep.specs.Passed.{IsLater, ShowsPast, has_note, has_outcome, has_result, is_call, is_log, may_pass}

-- ---- the acts that make such a row
abbrev pub puts_read : Act → Bool
puts_read (Act.PutRead v) = true
puts_read a = false

abbrev pub opens_call : Act → Bool
opens_call (Act.OpenInvoke f) = true
opens_call a = false

abbrev pub calls_back : Act → Bool
calls_back (Act.CallBack o) = true
calls_back a = false

abbrev pub ends_intent : Act → Bool
ends_intent (Act.End o s) = true
ends_intent a = false

-- an operation leaves its note at its place
abbrev pub notes_at : Act → Option Place
notes_at (Act.WriteCell p w v) = Some p
notes_at (Act.CondCell p w r o v) = Some p
notes_at (Act.LockCell p w s) = Some p
notes_at (Act.FreeCell p w v) = Some p
notes_at a = None

log_by : (a : Act) (now : ℕ) (o : Option Row) → is_log (act a now o).0 ≡ true → (is_log o || puts_read a) ≡ true
log_by a now o h = grind arith

call_by : (a : Act) (now : ℕ) (o : Option Row) → is_call (act a now o).0 ≡ true → (is_call o || opens_call a) ≡ true
call_by a now o h = grind arith

result_by : (a : Act) (now : ℕ) (o : Option Row) → has_result (act a now o).0 ≡ true → (has_result o || calls_back a) ≡ true
result_by a now o h = grind arith

outcome_by : (a : Act) (now : ℕ) (o : Option Row) → has_outcome (act a now o).0 ≡ true → (has_outcome o || ends_intent a) ≡ true
outcome_by a now o h = grind arith

-- a call that may be passed stays so, and an absent row is one that may not be passed only where a call is opened
pub may_by : (a : Act) (now : ℕ) (o : Option Row) → may_pass o ≡ true → (may_pass (act a now o).0 || (is_none o && opens_call a)) ≡ true
may_by a now o h = grind arith

-- ---- notes
-- a log has as many notes as before, or one more, of this place
abbrev Adds : Place → Cell → Cell → Type 0
Adds p c x = (x.log ≡ c.log) ⊎ ((w : Note) × (x.log ≡ c.log ++ (p, w) ∷ []))

pushed : (es : List (Place × Note)) (p a : Place) (w : Note) → is_some (note_at (es ++ (p, w) ∷ []) a) ≡ true → (is_some (note_at es a) ≡ true) ⊎ (p ≡ a)
pushed [] p a w h = by_test (place_eq p a) refl h
  where
    by_test : (b : Bool) → place_eq p a ≡ b → is_some (if b then Some w else None) ≡ true → (is_some (note_at [] a) ≡ true) ⊎ (p ≡ a)
    by_test true e h = inr (place_same p a e)
    by_test false e h = cc
pushed (e ∷ es) p a w h = by_test (place_eq e.0 a) h (pushed es p a w)
  where
    by_test : (b : Bool) → is_some (if b then Some e.1 else note_at (es ++ (p, w) ∷ []) a) ≡ true → (is_some (note_at (es ++ (p, w) ∷ []) a) ≡ true → (is_some (note_at es a) ≡ true) ⊎ (p ≡ a)) → (is_some (if b then Some e.1 else note_at es a) ≡ true) ⊎ (p ≡ a)
    by_test true h rest = inl refl
    by_test false h rest = rest h

tail_adds : (p : Place) (c : Cell) (r : Cell × ActReply) → Adds p c r.0 → Adds p c (at_tail p c r).0
tail_adds p c r h = by_note (note_at c.log p)
  where
    by_next : (o : Option ℕ) → Adds p c (next_or c o r).0
    by_next None = h
    by_next (Some n) = inl refl

    by_note : (o : Option Note) → Adds p c (noted_or c o (next_or c c.next r)).0
    by_note None = by_next c.next
    by_note (Some n) = inl refl

held_adds : (p : Place) (c : Cell) (o : Option Owner) (r : Cell × ActReply) → Adds p c r.0 → Adds p c (held_or c o r).0
held_adds p c None r h = h
held_adds p c (Some o) r h = inl refl

room_adds : (p : Place) (c : Cell) (r : Cell × ActReply) → Adds p c r.0 → Adds p c (if_room c r).0
room_adds p c r h = by_test (is_full c)
  where
    by_test : (b : Bool) → Adds p c (if◌then◌else◌ {A = Cell × ActReply} b (c, packed c.value c.owner) r).0
    by_test true = inl refl
    by_test false = h

owned_adds : (p : Place) (w : Owner) (c : Cell) (o : Option Owner) (r : Cell × ActReply) → Adds p c r.0 → Adds p c (owned_or p w c o r).0
owned_adds p w c None r h = h
owned_adds p w c (Some o) r h = by_test (waits_for w o)
  where
    by_test : (b : Bool) → Adds p c (if◌then◌else◌ {A = Cell × ActReply} b (c, held o) (if_room c (entered p (Note.Died (age_of o)) c.value c.owner c, died (age_of o)))).0
    by_test true = inl refl
    by_test false = room_adds p c (entered p (Note.Died (age_of o)) c.value c.owner c, died (age_of o)) (inr (Note.Died (age_of o), refl))

free_adds : (p : Place) (w : Owner) (c : Cell) (r : Cell × ActReply) → Adds p c r.0 → Adds p c (if_owned w c r).0
free_adds p w c r h = by_test (owns w c.owner)
  where
    by_test : (b : Bool) → Adds p c (if◌then◌else◌ {A = Cell × ActReply} b r (c, not_owner)).0
    by_test true = h
    by_test false = inl refl

added : (p a : Place) (c x : Cell) → Adds p c x → is_some (note_at x.log a) ≡ true → (is_some (note_at c.log a) ≡ true) ⊎ (Some p ≡ Some a)
added p a c x (inl same) h = inl (ap (λ es. is_some (note_at es a)) (sym same) ∙ h)
added p a c x (inr more) h = elim (pushed c.log p a more.0 (ap (λ es. is_some (note_at es a)) (sym more.1) ∙ h)) [
  | inl was ↦ inl was
  | inr here ↦ inr (ap Some here)
]

cell_by : (p a : Place) (f : Cell → Cell × ActReply) (t : ActReply) (r : Row) → ((c : Cell) → Adds p c (f c).0) → has_note a (Some (on_cell f t r).0) ≡ true → (has_note a (Some r) ≡ true) ⊎ (Some p ≡ Some a)
cell_by p a f t (Row.Cell c) adds h = added p a c (f c).0 (adds c) h
cell_by p a f t (Row.Intent i) adds h = inl h
cell_by p a f t (Row.ReadLog v) adds h = inl h
cell_by p a f t (Row.Invoke v) adds h = inl h
cell_by p a f t Row.Lockset adds h = inl h

-- a next is no note
linked_log : (n : ℕ) (c : Cell) → (link_to n c).0.log ≡ c.log
linked_log n c = by_next c.next
  where
    by_test : (b : Bool) → (if◌then◌else◌ {A = Cell × ActReply} b (record c { next = Some n }, next n) (c, not_full)).0.log ≡ c.log
    by_test true = refl
    by_test false = refl

    by_next : (o : Option ℕ) → (next_or c o (if is_full c then (record c { next = Some n }, next n) else (c, not_full))).0.log ≡ c.log
    by_next None = by_test (is_full c)
    by_next (Some k) = refl

-- nor is what log collectors change
marked_log : (o : Option ℕ) (c : Cell) → (mark_by o c).0.log ≡ c.log
marked_log None c = refl
marked_log (Some n) c = refl

skipped_log : (b : Bool) (t : ℕ) (c : Cell) → (skip_by b t c).0.log ≡ c.log
skipped_log true t c = refl
skipped_log false t c = refl

dangled_log : (b : Bool) (now : ℕ) (c : Cell) → (dangle_by b now c).0.log ≡ c.log
dangled_log true now c = refl
dangled_log false now c = refl

note_on : (p : Place) (a : Act) (now : ℕ) (r : Row) → has_note p (Some (on a now r).0) ≡ true → (has_note p (Some r) ≡ true) ⊎ (notes_at a ≡ Some p)
note_on p (Act.WriteCell q w v) now r h = cell_by q p (write_at q w v) no_row r (λ c. tail_adds q c _ (held_adds q c (other_owner w c.owner) _ (room_adds q c _ (inr (Note.Wrote, refl))))) h
note_on p (Act.CondCell q w k o v) now r h = cell_by q p (cond_at q w k o v) no_row r (λ c. tail_adds q c _ (held_adds q c (other_owner w c.owner) _ (room_adds q c _ (inr (Note.Cond (passes c.value k o), refl))))) h
note_on p (Act.LockCell q w s) now r h = cell_by q p (lock_at q w) no_row r (λ c. tail_adds q c _ (owned_adds q w c (other_owner w c.owner) _ (room_adds q c _ (inr (Note.Got, refl))))) h
note_on p (Act.FreeCell q w v) now r h = cell_by q p (free_at q w v) no_row r (λ c. tail_adds q c _ (free_adds q w c _ (room_adds q c _ (inr (Note.Freed, refl))))) h
note_on p (Act.LinkCell n) now (Row.Cell c) h = inl (ap (λ es. is_some (note_at es p)) (sym (linked_log n c)) ∙ h)
note_on p Act.MarkCell now (Row.Cell c) h = inl (ap (λ es. is_some (note_at es p)) (sym (marked_log c.next c)) ∙ h)
note_on p (Act.SkipCell f t) now (Row.Cell c) h = inl (ap (λ es. is_some (note_at es p)) (sym (skipped_log (not c.marked && leads_from f c.next && nat_lt f t) t c)) ∙ h)
note_on p Act.DangleCell now (Row.Cell c) h = inl (ap (λ es. is_some (note_at es p)) (sym (dangled_log (c.marked && not (is_some c.dangled)) now c)) ∙ h)
note_on p a now (Row.Cell c) h = inl h
note_on p a now (Row.Intent i) h = grind arith
note_on p a now (Row.ReadLog v) h = grind arith
note_on p a now (Row.Invoke i) h = grind arith
note_on p a now Row.Lockset h = grind arith

note_by : (p : Place) (a : Act) (now : ℕ) (o : Option Row) → has_note p (act a now o).0 ≡ true → (has_note p o ≡ true) ⊎ (notes_at a ≡ Some p)
note_by p a now (Some r) h = by_stay (removes a now r) h
  where
    by_stay : (b : Bool) → has_note p (stays_unless b (on a now r)).0 ≡ true → (has_note p (Some r) ≡ true) ⊎ (notes_at a ≡ Some p)
    by_stay true h = cc
    by_stay false h = note_on p a now r h
note_by p a now None h = absurd (no_note a now h)
  where
    no_note : (a : Act) (now : ℕ) → is_some (note_at (content_in (off a now).0).notes p) ≡ true → ⊥
    no_note a now h = grind arith

-- ---- so an act that makes a row show it is one of these, on a row of this kind
abbrev pub Does : Act → Kind → IntentId → ℕ → Type 0
Does a (Kind.ReadLog p) i n = IsLater p i n × (puts_read a ≡ true)
Does a (Kind.Invoke p) i n = (IsLater p i n × (opens_call a ≡ true)) ⊎ ((child_of p.intent p.step ≡ i) × (calls_back a ≡ true))
Does a (Kind.Data t k z) i n = (p : Place) × (notes_at a ≡ Some p) × IsLater p i n
Does a (Kind.Intent j) i n = (j ≡ i) × (ends_intent a ≡ true)
Does a (Kind.Shadow s t k z) i n = ⊥
Does a (Kind.Lockset j b t k) i n = ⊥

pub or_parts : (a b : Bool) → (a || b) ≡ true → (a ≡ true) ⊎ (b ≡ true)
or_parts true b h = inl refl
or_parts false b h = inr h

pub shows_by : (a : Act) (now : ℕ) (κ : Kind) (o : Option Row) (i : IntentId) (n : ℕ) → ShowsPast κ (act a now o).0 i n → ShowsPast κ o i n ⊎ Does a κ i n
shows_by a now (Kind.ReadLog p) o i n h = elim (or_parts _ _ (log_by a now o h.1)) [
  | inl was ↦ inl (h.0, was)
  | inr does ↦ inr (h.0, does)
]
shows_by a now (Kind.Invoke p) o i n (inl h) = elim (or_parts _ _ (call_by a now o h.1)) [
  | inl was ↦ inl (inl (h.0, was))
  | inr does ↦ inr (inl (h.0, does))
]
shows_by a now (Kind.Invoke p) o i n (inr h) = elim (or_parts _ _ (result_by a now o h.1)) [
  | inl was ↦ inl (inr (h.0, was))
  | inr does ↦ inr (inr (h.0, does))
]
shows_by a now (Kind.Data t k z) o i n h = elim (note_by h.place a now o h.noted) [
  | inl was ↦ inl (record { place = h.place; later = h.later; noted = was })
  | inr does ↦ inr (h.place, does, h.later)
]
shows_by a now (Kind.Intent j) o i n h = elim (or_parts _ _ (outcome_by a now o h.1)) [
  | inl was ↦ inl (h.0, was)
  | inr does ↦ inr (h.0, does)
]
shows_by a now (Kind.Shadow s t k z) o i n h = absurd h
shows_by a now (Kind.Lockset j b t k) o i n h = absurd h
