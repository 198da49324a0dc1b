-- The act table: what an act does to one row, and what it says.
use Rattle.std.specs.Prelude.{◌≡◌, ℕ, ◌+◌, Bool, true, false, not, ◌&&◌, ◌||◌, ◌==◌, nat_lt, is_some, [], ◌∷◌, ◌++◌, length, Option, Some, None, if◌then◌else◌, slice_get}
use Rattle.std.specs.Option.{option_copied}
use Rattle.beldi_value.specs.{declared.value.Value.Value, declared.outcome.Outcome.Outcome, declared.place.Place.Place, declared.place.Owner.Owner, declared.id.IntentId.IntentId, Id.age_of, Id.is_older, declared.rel.Rel.Rel, Passes.passes, Same.same_value}
use Rattle.beldi_row.specs.declared.act.Act.TheVariants.{Look, Issue, Bind, Register, End, Stamp, PutRead, OpenInvoke, CallBack, NoteRegistered, PutLockset, MakeCell, WriteCell, CondCell, LockCell, FreeCell, LinkCell, DropIntent, DropRow, MarkCell, SkipCell, DangleCell, DropCell}
use Rattle.beldi_row.specs.{declared.notes.Note.Note, declared.notes.Note.TheVariants.Wrote, declared.notes.Note.TheVariants.Cond, declared.notes.Note.TheVariants.Got, declared.notes.Note.TheVariants.Died, declared.notes.Note.TheVariants.Freed, declared.row.Body.Body, declared.row.IntentRow.IntentRow, declared.row.InvokeRow.InvokeRow, declared.row.Cell.Cell, declared.row.Row.Row, declared.act.Act.Act, declared.act.ActReplyRef.ActReplyRef, declared.act.Change.Change, Log.most_entries, Log.note_at, Log.note_of, Log.owner_eq}

-- what an act says, without where it lies in memory
pub data ActReply : Type 0 where
  absent : ActReply
  here : Row → ActReply
  added : ActReply
  present : ActReply
  gone : ActReply
  bound : ActReply
  other : Body → ActReply
  ended : Outcome → ActReply
  running : ActReply
  already : ActReply
  did : ActReply
  kept : Value → ActReply
  no_row : ActReply
  noted : Note → ActReply
  next : ℕ → ActReply
  held : Owner → ActReply
  not_owner : ActReply
  tested : Bool → ActReply
  died : IntentId → ActReply
  packed : Value → Option Owner → ActReply
  not_full : ActReply
  not_so : ActReply
  marked : ℕ → ActReply

abbrev pub act_reply_of : ActReplyRef → ActReply
act_reply_of ActReplyRef.Absent = absent
act_reply_of (ActReplyRef.Row r) = here r.now
act_reply_of ActReplyRef.Added = added
act_reply_of ActReplyRef.Present = present
act_reply_of ActReplyRef.Gone = gone
act_reply_of ActReplyRef.Bound = bound
act_reply_of (ActReplyRef.Other b) = other b.now
act_reply_of (ActReplyRef.Ended o) = ended o.now
act_reply_of ActReplyRef.Running = running
act_reply_of ActReplyRef.Already = already
act_reply_of ActReplyRef.Did = did
act_reply_of (ActReplyRef.Kept v) = kept v.now
act_reply_of ActReplyRef.NoRow = no_row
act_reply_of (ActReplyRef.Noted n) = noted n.now
act_reply_of (ActReplyRef.Next n) = next n
act_reply_of (ActReplyRef.Held o) = held o.now
act_reply_of ActReplyRef.NotOwner = not_owner
act_reply_of (ActReplyRef.Tested b) = tested b
act_reply_of (ActReplyRef.Died a) = died a.now
act_reply_of (ActReplyRef.Packed v o) = packed v.now (option_copied o)
act_reply_of ActReplyRef.NotFull = not_full
act_reply_of ActReplyRef.NotSo = not_so
act_reply_of (ActReplyRef.Marked n) = marked n

-- ---- the acts on the row of an intent
abbrev pub outcome_reply : Option Outcome → ActReply
outcome_reply None = running
outcome_reply (Some o) = ended o

-- binds it to a function and arguments, by the body that is there
abbrev pub bind_to : ℕ → Value → IntentRow → Option Body → IntentRow × ActReply
bind_to f a i None = (record i { body = Some (record { func = f; args = a; tx = None; parent = None }) }, bound)
bind_to f a i (Some b) = (i, (if (b.func == f) && same_value b.args a then outcome_reply i.outcome else other b))

-- the moment of the finish, by whether one is to be set and the one that is there
abbrev pub finish_at : Bool → ℕ → Option ℕ → Option ℕ
finish_at false now f = f
finish_at true now None = Some now
finish_at true now (Some f) = Some f

-- ends it, by the outcome that is there
abbrev pub end_with : Outcome → Bool → ℕ → IntentRow → Option Outcome → IntentRow × ActReply
end_with o stamp now i None = (record i { outcome = Some o; finish = finish_at stamp now i.finish }, did)
end_with o stamp now i (Some p) = (i, already)

-- sets its finish, by the finish that is there
abbrev pub stamp_with : ℕ → IntentRow → Option ℕ → IntentRow × ActReply
stamp_with now i None = (record i { finish = Some now }, did)
stamp_with now i (Some f) = (i, already)

-- ---- the act on what a read was given: it stays as it is, and is told
abbrev pub kept_reply : Option Row → ActReply
kept_reply (Some (Row.ReadLog v)) = kept v
kept_reply r = no_row

-- ---- the acts on the row of a call
-- sets what it gave back, by what is there
abbrev pub call_back_to : Outcome → InvokeRow → Option Outcome → InvokeRow × ActReply
call_back_to o i None = (record i { result = Some o }, did)
call_back_to o i (Some p) = (i, already)

-- says that it is registered, by whether that was said
abbrev pub register_to : InvokeRow → Bool → InvokeRow × ActReply
register_to i false = (record i { registered = true }, did)
register_to i true = (i, already)

-- ---- the acts on a cell
-- the owner, where it is another than this one
abbrev pub other_owner : Owner → Option Owner → Option Owner
other_owner who None = None
other_owner who (Some o) = if owner_eq o who then None else Some o

-- by the owner that stands in the way: it is told, or else the act is done
abbrev pub held_or : Cell → Option Owner → Cell × ActReply → Cell × ActReply
held_or c None r = r
held_or c (Some o) r = (c, held o)

-- by the row after this one: it is told, or else the act is done
abbrev pub next_or : Cell → Option ℕ → Cell × ActReply → Cell × ActReply
next_or c None r = r
next_or c (Some n) r = (c, next n)

-- by the note that the place has: it is told, or else the act is done
abbrev pub noted_or : Cell → Option Note → Cell × ActReply → Cell × ActReply
noted_or c None r = r
noted_or c (Some n) r = (c, noted n)

-- what is done only by a place without a note, and only at the last row of an item
abbrev pub at_tail : Place → Cell → Cell × ActReply → Cell × ActReply
at_tail p c r = noted_or c (note_at c.log p) (next_or c c.next r)

-- an entry is made for a place: the cell has its note, this value and this owner
abbrev pub entered : Place → Note → Value → Option Owner → Cell → Cell
entered p n v o c = record c { value = v; owner = o; log = c.log ++ (p, n) ∷ [] }

-- .. where no other than who asks owns it
abbrev pub unless_held : Owner → Cell → Cell × ActReply → Cell × ActReply
unless_held w c r = held_or c (other_owner w c.owner) r

-- .. and where there is room for the entry: else the value and the owner are told
abbrev pub is_full : Cell → Bool
is_full c = length c.log == most_entries

abbrev pub if_room : Cell → Cell × ActReply → Cell × ActReply
if_room c r = if is_full c then (c, packed c.value c.owner) else r

-- .. or where who asks owns it
abbrev pub owns : Owner → Option Owner → Bool
owns who None = false
owns who (Some o) = owner_eq o who

abbrev pub if_owned : Owner → Cell → Cell × ActReply → Cell × ActReply
if_owned w c r = if owns w c.owner then r else (c, not_owner)

-- the value, or the one that is there
abbrev pub given_or : Option Value → Value → Value
given_or None w = w
given_or (Some v) w = v

abbrev pub write_at : Place → Owner → Value → Cell → Cell × ActReply
write_at p w v c = at_tail p c (unless_held w c (if_room c (entered p Wrote v c.owner c, did)))

-- a condition, by the test of the value that is there
abbrev pub cond_to : Bool → Place → Value → Cell → Cell × ActReply
cond_to b p v c = (entered p (Cond b) (if b then v else c.value) c.owner c, tested b)

abbrev pub cond_at : Place → Owner → Rel → Value → Value → Cell → Cell × ActReply
cond_at p w r o v c = at_tail p c (unless_held w c (if_room c (cond_to (passes c.value r o) p v c)))

-- a lock: who waits for another owner is an intent, or a transaction that is older than that owner; ..
abbrev pub waits_for : Owner → Owner → Bool
waits_for (Owner.Intent a) o = true
waits_for (Owner.Tx t) o = is_older t.intent (age_of o)

-- .. any other transaction dies there, and its death is kept, with that owner's age
abbrev pub wait_or_die : Place → Owner → Cell → Owner → Cell × ActReply
wait_or_die p w c o = if waits_for w o then (c, held o) else if_room c (entered p (Died (age_of o)) c.value c.owner c, died (age_of o))

abbrev pub owned_or : Place → Owner → Cell → Option Owner → Cell × ActReply → Cell × ActReply
owned_or p w c None r = r
owned_or p w c (Some o) r = wait_or_die p w c o

abbrev pub lock_at : Place → Owner → Cell → Cell × ActReply
lock_at p w c = at_tail p c (owned_or p w c (other_owner w c.owner) (if_room c (entered p Got c.value (Some w) c, did)))

abbrev pub free_at : Place → Owner → Option Value → Cell → Cell × ActReply
free_at p w v c = at_tail p c (if_owned w c (if_room c (entered p Freed (given_or v c.value) None c, did)))

-- the row of this number follows a full cell that none follows
abbrev pub link_to : ℕ → Cell → Cell × ActReply
link_to n c = next_or c c.next (if is_full c then (record c { next = Some n }, next n) else (c, not_full))

-- ---- the acts that remove a row
-- more than a life ago, by a moment, if there is one
abbrev pub is_past : ℕ → ℕ → Option ℕ → Bool
is_past life now None = false
is_past life now (Some t) = nat_lt (t + life) now

-- an intent is old: more than a life ago it finished, or it was issued and was given nothing to do
abbrev pub is_old : ℕ → ℕ → IntentRow → Bool
is_old life now i = (not (is_some i.body) && is_past life now (Some i.issued)) || is_past life now i.finish

abbrev pub is_old_row : ℕ → ℕ → Row → Bool
is_old_row life now (Row.Intent i) = is_old life now i
is_old_row life now r = false

-- a row that an intent left beside its own
abbrev pub is_left_row : Row → Bool
is_left_row (Row.Intent i) = false
is_left_row r = true

-- a cell that no row leads to for more than a life
abbrev pub is_adrift : ℕ → ℕ → Row → Bool
is_adrift life now (Row.Cell c) = is_past life now c.dangled
is_adrift life now r = false

-- the acts that may remove the row, and whether one removes this one
abbrev pub drops : Act → Bool
drops (DropIntent l) = true
drops DropRow = true
drops (DropCell l) = true
drops a = false

abbrev pub removes : Act → ℕ → Row → Bool
removes (DropIntent l) now r = is_old_row l now r
removes DropRow now r = is_left_row r
removes (DropCell l) now r = is_adrift l now r
removes a now r = false

-- the acts of log collectors: these, and those that lead past a cell
abbrev pub prunes : Act → Bool
prunes MarkCell = true
prunes (SkipCell f t) = true
prunes DangleCell = true
prunes a = drops a

-- what is said then
abbrev pub removed_reply : Bool → ActReply
removed_reply true = did
removed_reply false = not_so

-- ---- the acts that lead past a cell: it is marked, the one before leads past it, and then it is adrift
-- a cell that has a next is marked, and that is told
abbrev pub mark_by : Option ℕ → Cell → Cell × ActReply
mark_by None c = (c, not_so)
mark_by (Some n) c = (record c { marked = true }, marked n)

-- a cell that is not marked leads from this row past it to a greater one
abbrev pub leads_from : ℕ → Option ℕ → Bool
leads_from f None = false
leads_from f (Some n) = n == f

abbrev pub skip_by : Bool → ℕ → Cell → Cell × ActReply
skip_by false t c = (c, not_so)
skip_by true t c = (record c { next = Some t }, did)

abbrev pub skip_to : ℕ → ℕ → Cell → Cell × ActReply
skip_to f t c = skip_by (not c.marked && leads_from f c.next && nat_lt f t) t c

-- a marked one is adrift from now on
abbrev pub dangle_by : Bool → ℕ → Cell → Cell × ActReply
dangle_by false now c = (c, not_so)
dangle_by true now c = (record c { dangled = Some now }, did)

abbrev pub dangle_at : ℕ → Cell → Cell × ActReply
dangle_at now c = dangle_by (c.marked && not (is_some c.dangled)) now c

-- ---- the acts on a row of any kind: one that does not fit its kind changes nothing, and says this
abbrev pub on_intent : (IntentRow → IntentRow × ActReply) → ActReply → Row → Row × ActReply
on_intent f t (Row.Intent i) = (Row.Intent (f i).0, (f i).1)
on_intent f t (Row.ReadLog v) = (Row.ReadLog v, t)
on_intent f t (Row.Invoke v) = (Row.Invoke v, t)
on_intent f t (Row.Cell c) = (Row.Cell c, t)
on_intent f t Row.Lockset = (Row.Lockset, t)

abbrev pub on_invoke : (InvokeRow → InvokeRow × ActReply) → ActReply → Row → Row × ActReply
on_invoke f t (Row.Intent i) = (Row.Intent i, t)
on_invoke f t (Row.ReadLog v) = (Row.ReadLog v, t)
on_invoke f t (Row.Invoke i) = (Row.Invoke (f i).0, (f i).1)
on_invoke f t (Row.Cell c) = (Row.Cell c, t)
on_invoke f t Row.Lockset = (Row.Lockset, t)

abbrev pub on_cell : (Cell → Cell × ActReply) → ActReply → Row → Row × ActReply
on_cell f t (Row.Intent i) = (Row.Intent i, t)
on_cell f t (Row.ReadLog v) = (Row.ReadLog v, t)
on_cell f t (Row.Invoke v) = (Row.Invoke v, t)
on_cell f t (Row.Cell c) = (Row.Cell (f c).0, (f c).1)
on_cell f t Row.Lockset = (Row.Lockset, t)

-- on a row that is there: the row afterwards, and what is said. An act that removes it says so, and leaves it as it is
abbrev pub on : Act → ℕ → Row → Row × ActReply
on Look now r = (r, here r)
on Issue now r = (r, present)
on (Bind f a) now r = on_intent (λ i. bind_to f a i i.body) gone r
on (Register b) now r = (r, here r)
on (End o s) now r = on_intent (λ i. end_with o s now i i.outcome) gone r
on Stamp now r = on_intent (λ i. stamp_with now i i.finish) gone r
on (PutRead v) now r = (r, kept_reply (Some r))
on (OpenInvoke f) now r = (r, here r)
on (CallBack o) now r = on_invoke (λ i. call_back_to o i i.result) gone r
on NoteRegistered now r = on_invoke (λ i. register_to i i.registered) gone r
on PutLockset now r = (r, present)
on (MakeCell v o l) now r = (r, present)
on (WriteCell p w v) now r = on_cell (write_at p w v) no_row r
on (CondCell p w k o v) now r = on_cell (cond_at p w k o v) no_row r
on (LockCell p w s) now r = on_cell (lock_at p w) no_row r
on (FreeCell p w v) now r = on_cell (free_at p w v) no_row r
on (LinkCell n) now r = on_cell (link_to n) no_row r
on (DropIntent l) now r = (r, removed_reply (is_old_row l now r))
on DropRow now r = (r, removed_reply (is_left_row r))
on MarkCell now r = on_cell (λ c. mark_by c.next c) not_so r
on (SkipCell f t) now r = on_cell (skip_to f t) not_so r
on DangleCell now r = on_cell (dangle_at now) not_so r
on (DropCell l) now r = (r, removed_reply (is_adrift l now r))

-- where no row is
abbrev pub off : Act → ℕ → Option Row × ActReply
off Look now = (None, absent)
off Issue now = (Some (Row.Intent (record { issued = now; body = None; outcome = None; finish = None })), added)
off (Bind f a) now = (None, gone)
off (Register b) now = (Some (Row.Intent (record { issued = now; body = Some b; outcome = None; finish = None })), added)
off (End o s) now = (None, gone)
off Stamp now = (None, gone)
off (PutRead v) now = (Some (Row.ReadLog v), added)
off (OpenInvoke f) now = (Some (Row.Invoke (record { func = f; result = None; registered = false })), added)
off (CallBack o) now = (None, gone)
off NoteRegistered now = (None, gone)
off PutLockset now = (Some Row.Lockset, added)
off (MakeCell v o l) now = (Some (Row.Cell (record { value = v; owner = o; log = []; next = None; marked = false; dangled = None })), added)
off (WriteCell p w v) now = (None, no_row)
off (CondCell p w k o v) now = (None, no_row)
off (LockCell p w s) now = (None, no_row)
off (FreeCell p w v) now = (None, no_row)
off (LinkCell n) now = (None, no_row)
off (DropIntent l) now = (None, gone)
off DropRow now = (None, not_so)
off MarkCell now = (None, not_so)
off (SkipCell f t) now = (None, not_so)
off DangleCell now = (None, not_so)
off (DropCell l) now = (None, not_so)

abbrev pub stays : Row × ActReply → Option Row × ActReply
stays r = (Some r.0, r.1)

-- .. and where it is removed
abbrev pub stays_unless : Bool → Row × ActReply → Option Row × ActReply
stays_unless false r = stays r
stays_unless true r = (None, r.1)

-- the row afterwards, or none, and what is said
abbrev pub act : Act → ℕ → Option Row → Option Row × ActReply
act a now None = off a now
act a now (Some r) = stays_unless (removes a now r) (on a now r)

-- ---- a change, and what is said of it once the row is as the change left it
abbrev pub here_reply : Option Row → ActReply
here_reply None = absent
here_reply (Some r) = here r

abbrev pub other_reply : Option Body → ActReply
other_reply None = gone
other_reply (Some b) = other b

abbrev pub ended_reply : Option Outcome → ActReply
ended_reply None = gone
ended_reply (Some o) = ended o

abbrev pub held_reply : Option Owner → ActReply
held_reply None = no_row
held_reply (Some o) = held o

abbrev pub died_reply : Option Owner → ActReply
died_reply None = no_row
died_reply (Some o) = died (age_of o)

abbrev pub noted_reply : Option Note → ActReply
noted_reply None = no_row
noted_reply (Some n) = noted n

abbrev pub intent_reply : (IntentRow → ActReply) → Option Row → ActReply
intent_reply f (Some (Row.Intent i)) = f i
intent_reply f r = gone

abbrev pub cell_reply : (Cell → ActReply) → Option Row → ActReply
cell_reply f (Some (Row.Cell c)) = f c
cell_reply f r = no_row

abbrev pub change_reply : Change → Option Row → ActReply
change_reply Change.Absent r = absent
change_reply Change.Row r = here_reply r
change_reply Change.Added r = added
change_reply Change.Present r = present
change_reply Change.Gone r = gone
change_reply Change.Bound r = bound
change_reply Change.Other r = intent_reply (λ i. other_reply i.body) r
change_reply Change.Ended r = intent_reply (λ i. ended_reply i.outcome) r
change_reply Change.Running r = running
change_reply Change.Already r = already
change_reply Change.Did r = did
change_reply Change.Kept r = kept_reply r
change_reply Change.NoRow r = no_row
change_reply (Change.Noted n) r = cell_reply (λ c. noted_reply (note_of (slice_get c.log n))) r
change_reply (Change.Next n) r = next n
change_reply Change.Held r = cell_reply (λ c. held_reply c.owner) r
change_reply Change.NotOwner r = not_owner
change_reply (Change.Tested b) r = tested b
change_reply Change.Died r = cell_reply (λ c. died_reply c.owner) r
change_reply Change.Packed r = cell_reply (λ c. packed c.value c.owner) r
change_reply Change.NotFull r = not_full
change_reply Change.NotSo r = not_so
change_reply (Change.Marked n) r = marked n

-- what stands in the way of an act on a cell is told, or else the act is done
abbrev pub way_or : Option Change → Cell → Cell × ActReply → Cell × ActReply
way_or None c r = r
way_or (Some w) c r = (c, change_reply w (Some (Row.Cell c)))

-- the row and the answer of a change are those of the act, but for its removal
abbrev pub Changes : Act → ℕ → Row → Row → Change → Type 0
Changes a now before after c = (after, change_reply c (Some after)) ≡ on a now before
