-- Acts that leave the row that they find, by what they say.
use Rattle.std.specs.FinMap as map
use Rattle.std.specs.Prelude.{IfSome}
use Rattle.std.proofs.Common.{◌≡◌, ℕ, Bool, true, false, not, ◌&&◌, Option, None, Some, Ok, slice_get, refl, subst, ap, sym, ◌∙◌, if◌then◌else◌, nat_lt, is_some}
use Rattle.beldi_value.specs.declared.{value.Value.Value, outcome.Outcome.Outcome, place.Place.Place, place.Owner.Owner}
use Rattle.beldi_row.{specs.Key.RowKey, specs.KeyOrder.key_total, specs.KeyOrder.key_exact, specs.Table.Rows, specs.Table.Tells, specs.declared.row.Row.Row, specs.declared.row.Body.Body, specs.declared.row.IntentRow.IntentRow, specs.declared.row.InvokeRow.InvokeRow, specs.declared.row.Cell.Cell, specs.declared.notes.Note.Note, specs.declared.act.Act.Act, specs.declared.act.Change.Change, specs.declared.table.TableErr.TableErr, proofs.TableRows.same_set}
use Rattle.beldi_row.specs.Act.{ActReply, drops, bound, did, tested, died, held, packed, marked, mark_by, skip_by, skip_to, dangle_by, dangle_at, leads_from, Changes, on, on_intent, on_invoke, on_cell, change_reply, intent_reply, cell_reply, other_reply, ended_reply, held_reply, noted_reply, bind_to, end_with, stamp_with, call_back_to, register_to, held_or, next_or, noted_or, owned_or, waits_for, owns, at_tail, other_owner, if_room, is_full, entered, cond_to, given_or}
use Rattle.beldi_row.specs.Log.{note_at, note_of}
use Rattle.beldi_row.specs.declared.notes.Note.TheVariants.{Wrote, Got, Died, Freed}
use Rattle.beldi_value.specs.{Id.age_of, Passes.passes}
use Rattle.beldi_sqltable.{specs.StoreCounts.leaves, specs.StoreCounts.links, specs.Store.settled, specs.RowTable.ChangedOn, proofs.Carrying.changed, proofs.Carrying.told_changed}

-- what says that a row was changed
abbrev sets : ActReply → Bool
sets bound = true
sets did = true
sets (tested b) = true
sets (died a) = true
sets (marked n) = true
sets t = false

-- ---- a change that leaves the row says nothing else
of_intent : (f : IntentRow → ActReply) (r : Option Row) → ((i : IntentRow) → sets (f i) ≡ false) → sets (intent_reply f r) ≡ false
of_intent f (Some (Row.Intent i)) h = h i
of_intent f r h = refl

of_cell : (f : Cell → ActReply) (r : Option Row) → ((c : Cell) → sets (f c) ≡ false) → sets (cell_reply f r) ≡ false
of_cell f (Some (Row.Cell c)) h = h c
of_cell f r h = refl

of_other : (b : Option Body) → sets (other_reply b) ≡ false
of_other None = refl
of_other (Some b) = refl

of_ended : (o : Option Outcome) → sets (ended_reply o) ≡ false
of_ended None = refl
of_ended (Some o) = refl

of_held : (o : Option Owner) → sets (held_reply o) ≡ false
of_held None = refl
of_held (Some o) = refl

of_noted : (n : Option Note) → sets (noted_reply n) ≡ false
of_noted None = refl
of_noted (Some n) = refl

says_none : (c : Change) (r : Option Row) → leaves c ≡ true → sets (change_reply c r) ≡ false
says_none Change.Bound r h = cc
says_none Change.Did r h = cc
says_none (Change.Tested b) r h = cc
says_none Change.Died r h = cc
says_none (Change.Marked n) r h = cc
says_none Change.Row None h = refl
says_none Change.Row (Some r) h = refl
says_none Change.Other r h = of_intent (λ i. other_reply i.body) r (λ i. of_other i.body)
says_none Change.Ended r h = of_intent (λ i. ended_reply i.outcome) r (λ i. of_ended i.outcome)
says_none Change.Kept (Some (Row.ReadLog v)) h = refl
says_none Change.Kept r h = refl
says_none (Change.Noted n) r h = of_cell (λ c. noted_reply (note_of (slice_get c.log n))) r (λ c. of_noted (note_of (slice_get c.log n)))
says_none Change.Held r h = of_cell (λ c. held_reply c.owner) r (λ c. of_held c.owner)
says_none Change.Packed r h = of_cell (λ c. packed c.value c.owner) r (λ c. refl)
says_none c r h = refl

-- ---- what does not say that it changed a row leaves it
abbrev Leaves : {A : Type 0} → A → A × ActReply → Type 0
Leaves x r = sets r.1 ≡ false → r.0 ≡ x

in_intent : (f : IntentRow → IntentRow × ActReply) (t : ActReply) (r : Row) → ((i : IntentRow) → Leaves i (f i)) → Leaves r (on_intent f t r)
in_intent f t (Row.Intent i) h = λ q. ap Row.Intent (h i q)
in_intent f t r h = λ q. refl

in_invoke : (f : InvokeRow → InvokeRow × ActReply) (t : ActReply) (r : Row) → ((i : InvokeRow) → Leaves i (f i)) → Leaves r (on_invoke f t r)
in_invoke f t (Row.Invoke i) h = λ q. ap Row.Invoke (h i q)
in_invoke f t r h = λ q. refl

in_cell : (f : Cell → Cell × ActReply) (t : ActReply) (r : Row) → ((c : Cell) → Leaves c (f c)) → Leaves r (on_cell f t r)
in_cell f t (Row.Cell c) h = λ q. ap Row.Cell (h c q)
in_cell f t r h = λ q. refl

binds : (f : ℕ) (a : Value) (i : IntentRow) (b : Option Body) → Leaves i (bind_to f a i b)
binds f a i None = λ q. cc
binds f a i (Some b) = λ q. refl

ends : (o : Outcome) (s : Bool) (now : ℕ) (i : IntentRow) (p : Option Outcome) → Leaves i (end_with o s now i p)
ends o s now i None = λ q. cc
ends o s now i (Some p) = λ q. refl

stamps : (now : ℕ) (i : IntentRow) (f : Option ℕ) → Leaves i (stamp_with now i f)
stamps now i None = λ q. cc
stamps now i (Some f) = λ q. refl

calls_back : (o : Outcome) (i : InvokeRow) (p : Option Outcome) → Leaves i (call_back_to o i p)
calls_back o i None = λ q. cc
calls_back o i (Some p) = λ q. refl

registers : (i : InvokeRow) (b : Bool) → Leaves i (register_to i b)
registers i false = λ q. cc
registers i true = λ q. refl

if_held : (c : Cell) (o : Option Owner) (r : Cell × ActReply) → Leaves c r → Leaves c (held_or c o r)
if_held c None r h = h
if_held c (Some o) r h = λ q. refl

if_next : (c : Cell) (n : Option ℕ) (r : Cell × ActReply) → Leaves c r → Leaves c (next_or c n r)
if_next c None r h = h
if_next c (Some n) r h = λ q. refl

if_noted : (c : Cell) (n : Option Note) (r : Cell × ActReply) → Leaves c r → Leaves c (noted_or c n r)
if_noted c None r h = h
if_noted c (Some n) r h = λ q. refl

in_tail : (p : Place) (c : Cell) (r : Cell × ActReply) → Leaves c r → Leaves c (at_tail p c r)
in_tail p c r h = if_noted c (note_at c.log p) (next_or c c.next r) (if_next c c.next r h)

unless : (b : Bool) (c : Cell) (t : ActReply) (r : Cell × ActReply) → Leaves c r → Leaves c (if b then (c, t) else r)
unless true c t r h = λ q. refl
unless false c t r h = h

if_fits : (c : Cell) (r : Cell × ActReply) → Leaves c r → Leaves c (if_room c r)
if_fits c r h = unless (is_full c) c (packed c.value c.owner) r h

if_owned_by : (p : Place) (w : Owner) (c : Cell) (o : Option Owner) (r : Cell × ActReply) → Leaves c r → Leaves c (owned_or p w c o r)
if_owned_by p w c None r h = h
if_owned_by p w c (Some o) r h = unless (waits_for w o) c (held o) _ (if_fits c (entered p (Died (age_of o)) c.value c.owner c, died (age_of o)) (λ q. cc))

if_own : (b : Bool) (c : Cell) (t : ActReply) (r : Cell × ActReply) → Leaves c r → Leaves c (if b then r else (c, t))
if_own true c t r h = h
if_own false c t r h = λ q. refl

marks : (n : Option ℕ) (c : Cell) → Leaves c (mark_by n c)
marks None c = λ q. refl
marks (Some n) c = λ q. cc

skips : (b : Bool) (t : ℕ) (c : Cell) → Leaves c (skip_by b t c)
skips false t c = λ q. refl
skips true t c = λ q. cc

dangles : (b : Bool) (now : ℕ) (c : Cell) → Leaves c (dangle_by b now c)
dangles false now c = λ q. refl
dangles true now c = λ q. cc

act_leaves : (a : Act) (now : ℕ) (r : Row) → links a ≡ false → Leaves r (on a now r)
act_leaves (Act.Bind f v) now r n = in_intent (λ i. bind_to f v i i.body) _ r (λ i. binds f v i i.body)
act_leaves (Act.End o s) now r n = in_intent (λ i. end_with o s now i i.outcome) _ r (λ i. ends o s now i i.outcome)
act_leaves Act.Stamp now r n = in_intent (λ i. stamp_with now i i.finish) _ r (λ i. stamps now i i.finish)
act_leaves (Act.CallBack o) now r n = in_invoke (λ i. call_back_to o i i.result) _ r (λ i. calls_back o i i.result)
act_leaves Act.NoteRegistered now r n = in_invoke (λ i. register_to i i.registered) _ r (λ i. registers i i.registered)
act_leaves (Act.WriteCell p w v) now r n = in_cell _ _ r (λ c. in_tail p c _ (if_held c (other_owner w c.owner) _ (if_fits c (entered p Wrote v c.owner c, did) (λ q. cc))))
act_leaves (Act.CondCell p w k o v) now r n = in_cell _ _ r (λ c. in_tail p c _ (if_held c (other_owner w c.owner) _ (if_fits c (cond_to (passes c.value k o) p v c) (λ q. cc))))
act_leaves (Act.LockCell p w s) now r n = in_cell _ _ r (λ c. in_tail p c _ (if_owned_by p w c (other_owner w c.owner) _ (if_fits c (entered p Got c.value (Some w) c, did) (λ q. cc))))
act_leaves (Act.FreeCell p w v) now r n = in_cell _ _ r (λ c. in_tail p c _ (if_own (owns w c.owner) c _ _ (if_fits c (entered p Freed (given_or v c.value) None c, did) (λ q. cc))))
act_leaves (Act.LinkCell k) now r n = cc
act_leaves Act.MarkCell now r n = in_cell _ _ r (λ c. marks c.next c)
act_leaves (Act.SkipCell f t) now r n = in_cell _ _ r (λ c. skips (not c.marked && leads_from f c.next && nat_lt f t) t c)
act_leaves Act.DangleCell now r n = in_cell _ _ r (λ c. dangles (c.marked && not (is_some c.dangled)) now c)
act_leaves a now r n = λ q. refl

-- the row is there, and was left
pub told_left : (a : Act) (now : ℕ) (k : RowKey) (room : ℕ) (told : Option Rows) (r s : Row) (c : Change) → drops a ≡ false → IfSome told (λ m. map.get m k ≡ Some r) → Changes a now r s c → links a ≡ false → leaves c ≡ true → Tells told told (ChangedOn a now k room (Some s) (Ok c))
told_left a now k room None r s c keeps here done apart leave = refl
told_left a now k room (Some m) r s c keeps here done apart leave =
    let same : s ≡ r = ap (λ p. p.0) done ∙ act_leaves a now r apart (ap (λ p. sets p.1) (sym done) ∙ says_none c (Some s) leave) in
    subst (λ n. ChangedOn a now k room (Some s) (Ok c) m n) (ap (map.insert m k) same ∙ same_set key_total key_exact m k r here) (changed a now k room m r s c keeps here done)

-- the row is there, and was written where it was changed
first : (b d : Bool) → (not b && d) ≡ true → (b ≡ false) × (d ≡ true)
first true d h = cc
first false d h = (refl, h)

pub told_settled : (a : Act) (now : ℕ) (k : RowKey) (room : ℕ) (told after : Option Rows) (r s : Row) (c : Change) (left : Bool) → drops a ≡ false → IfSome told (λ m. map.get m k ≡ Some r) → after ≡ settled {E = TableErr} left k s (Ok tt) told → left ≡ (not (links a) && leaves c)
    → Changes a now r s c → Tells told after (ChangedOn a now k room (Some s) (Ok c))
told_settled a now k room told after r s c true keeps here is l done =
    let p = first (links a) (leaves c) (sym l) in
    subst (λ o. Tells told o (ChangedOn a now k room (Some s) (Ok c))) (sym is) (told_left a now k room told r s c keeps here done p.0 p.1)
told_settled a now k room told after r s c false keeps here is l done = told_changed a now k room told after r s c keeps here is done
