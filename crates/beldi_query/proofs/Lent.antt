-- An act that lends what lies in the row has left it as it was.
use Rattle.std.specs.FinMap as map
use Rattle.std.specs.Prelude.{nat_lt, not}
use Rattle.std.proofs.Common.{◌≡◌, inl, inr, ℕ, ◌==◌, ◌&&◌, is_some, Bool, true, false, if◌then◌else◌, Option, None, Some, Ok, Err, refl, ap, sym, ◌∙◌, subst}
use Rattle.beldi_value.specs.{declared.value.Value.Value, declared.outcome.Outcome.Outcome, declared.place.Place.Place, declared.place.Owner.Owner, Passes.passes, Same.same_value, declared.id.IntentId.IntentId, Id.age_of}
use Rattle.beldi_row.specs.declared.act.Act.TheVariants.{Look, Issue, Bind, Register, End, Stamp, PutRead, OpenInvoke, CallBack, NoteRegistered, PutLockset, MakeCell, WriteCell, CondCell, LockCell, FreeCell, LinkCell, DropIntent, DropRow, MarkCell, SkipCell, DangleCell, DropCell}
use Rattle.beldi_row.specs.Act.{stays_unless, removes, removed_reply, is_adrift, is_old_row, is_left_row, mark_by, skip_by, skip_to, dangle_by, dangle_at, leads_from, not_so, ActReply, gone, no_row, did, not_owner, other, held, died, next, packed, not_full, kept_reply, outcome_reply, off, on, on_intent, on_invoke, on_cell, bind_to, end_with, stamp_with, call_back_to, register_to, other_owner, owns, noted_or, next_or, held_or, waits_for, owned_or, at_tail, unless_held, if_owned, if_room, is_full, given_or, entered, write_at, cond_to, cond_at, lock_at, free_at, link_to}
use Rattle.beldi_row.{specs.declared.notes.Note.Note, specs.declared.notes.Note.TheVariants.Wrote, specs.declared.notes.Note.TheVariants.Got, specs.declared.notes.Note.TheVariants.Died, specs.declared.notes.Note.TheVariants.Freed, specs.declared.row.Row.Row, specs.declared.row.Body.Body, specs.declared.row.Cell.Cell, specs.declared.row.IntentRow.IntentRow, specs.declared.row.InvokeRow.InvokeRow, specs.declared.act.Act.Act, specs.Log.note_at, specs.declared.table.TableErr.TableErr, specs.declared.table.TableErr.TheVariants.OutOfMemory, specs.declared.table.TableErr.TheVariants.Failed, specs.declared.table.TableErr.TheVariants.Full, specs.Table.Rows, specs.Table.TableState, specs.Table.Tells, proofs.Tells.tells_map, proofs.Unchanged.left}
use Rattle.beldi_query.specs.Query.{QueryReply, lent, lends, is_death, tells_death, may_die, may_tell_death, LentStands, OnlyTransactionsDie, rows_after, query_reply, CameOn}
use Rattle.beldi_query.specs.{declared.query.Query.Query, Walk.LeftAt, Walk.Left, Walk.Turned}

-- what lies in the row was lent, and it is no death
abbrev quiet : ActReply → Bool
quiet (died a) = false
quiet t = lent t

quiet_of : (t : ActReply) → lent t ≡ true → is_death t ≡ false → quiet t ≡ true
quiet_of (died a) h g = cc
quiet_of t h g = h

bound : (f : ℕ) (a : Value) (i : IntentRow) (b : Option Body) → quiet (bind_to f a i b).1 ≡ true → (bind_to f a i b).0 ≡ i
bound f a i None h = cc
bound f a i (Some b) h = refl

ended : (o : Outcome) (s : _) (now : ℕ) (i : IntentRow) (p : Option Outcome) → quiet (end_with o s now i p).1 ≡ true → (end_with o s now i p).0 ≡ i
ended o s now i None h = cc
ended o s now i (Some p) h = refl

stamped : (now : ℕ) (i : IntentRow) (f : Option ℕ) → quiet (stamp_with now i f).1 ≡ true → (stamp_with now i f).0 ≡ i
stamped now i None h = cc
stamped now i (Some f) h = refl

called_back : (o : Outcome) (i : InvokeRow) (p : Option Outcome) → quiet (call_back_to o i p).1 ≡ true → (call_back_to o i p).0 ≡ i
called_back o i None h = cc
called_back o i (Some p) h = refl

registered : (i : InvokeRow) (b : Bool) → quiet (register_to i b).1 ≡ true → (register_to i b).0 ≡ i
registered i false h = cc
registered i true h = refl

-- a result leaves what it lends
abbrev Leaves : {R : Type 0} → R → R × ActReply → Type 0
Leaves r z = quiet z.1 ≡ true → z.0 ≡ r

module _ (c : Cell) where
  at_last : (n : Option Note) (x : Option ℕ) (z : Cell × ActReply) → Leaves c z → Leaves c (noted_or c n (next_or c x z))
  at_last (Some n) x z l h = refl
  at_last None (Some x) z l h = refl
  at_last None None z l h = l h

  waits : (o : Option Owner) (z : Cell × ActReply) → Leaves c z → Leaves c (held_or c o z)
  waits None z l h = l h
  waits (Some o) z l h = refl

  -- a full cell is left, and what it tells is lent
  room : (z : Cell × ActReply) → Leaves c z → Leaves c (if_room c z)
  room z l = by_test (is_full c)
    where
      by_test : (b : Bool) → Leaves c (if b then (c, packed c.value c.owner) else z)
      by_test true h = refl
      by_test false h = l h

  -- who waits leaves the cell, and who dies tells a death
  by_age : (b : Bool) (o : Owner) (z : Cell × ActReply) → Leaves c z → Leaves c (if b then (c, held o) else z)
  by_age true o z l h = refl
  by_age false o z l h = l h

  dies : (p : Place) (w : Owner) (o : Option Owner) (z : Cell × ActReply) → Leaves c z → Leaves c (owned_or p w c o z)
  dies p w None z l h = l h
  dies p w (Some o) z l h = let dead : Cell × ActReply = (entered p (Died (age_of o)) c.value c.owner c, died (age_of o)) in by_age (waits_for w o) o (if_room c dead) (room dead (λ h. cc)) h

  linked : (n : ℕ) → Leaves c (link_to n c)
  linked n = by_next c.next (is_full c)
    where
      by_next : (x : Option ℕ) (b : Bool) → Leaves c (next_or c x (if b then (record c { next = Some n }, next n) else (c, not_full)))
      by_next (Some k) b h = refl
      by_next None true h = cc
      by_next None false h = cc

  gives : (b : Bool) (z : Cell × ActReply) → Leaves c z → Leaves c (if b then z else (c, not_owner))
  gives true z l h = l h
  gives false z l h = cc

  unheld : (p : Place) (w : Owner) (z : Cell × ActReply) → Leaves c z → Leaves c (at_tail p c (unless_held w c z))
  unheld p w z l = at_last (note_at c.log p) c.next (unless_held w c z) (waits (other_owner w c.owner) z l)

  locked : (p : Place) (w : Owner) (z : Cell × ActReply) → Leaves c z → Leaves c (at_tail p c (owned_or p w c (other_owner w c.owner) z))
  locked p w z l = at_last (note_at c.log p) c.next (owned_or p w c (other_owner w c.owner) z) (dies p w (other_owner w c.owner) z l)

  owned : (p : Place) (w : Owner) (z : Cell × ActReply) → Leaves c z → Leaves c (at_tail p c (if_owned w c z))
  owned p w z l = at_last (note_at c.log p) c.next (if_owned w c z) (gives (owns w c.owner) z l)

  -- what leads past it lends nothing
  marks : (n : Option ℕ) → Leaves c (mark_by n c)
  marks None h = refl
  marks (Some n) h = cc

  skips : (t : ℕ) (b : Bool) → Leaves c (skip_by b t c)
  skips t true h = cc
  skips t false h = refl

  dangles : (now : ℕ) (b : Bool) → Leaves c (dangle_by b now c)
  dangles now true h = cc
  dangles now false h = refl

-- .. and so does an act that fits one kind of row
intent_leaves : (f : IntentRow → IntentRow × ActReply) (t : ActReply) → ((i : IntentRow) → Leaves i (f i)) → (r : Row) → Leaves r (on_intent f t r)
intent_leaves f t l (Row.Intent i) h = ap Row.Intent (l i h)
intent_leaves f t l (Row.ReadLog v) h = refl
intent_leaves f t l (Row.Invoke i) h = refl
intent_leaves f t l (Row.Cell c) h = refl
intent_leaves f t l Row.Lockset h = refl

invoke_leaves : (f : InvokeRow → InvokeRow × ActReply) (t : ActReply) → ((i : InvokeRow) → Leaves i (f i)) → (r : Row) → Leaves r (on_invoke f t r)
invoke_leaves f t l (Row.Intent i) h = refl
invoke_leaves f t l (Row.ReadLog v) h = refl
invoke_leaves f t l (Row.Invoke i) h = ap Row.Invoke (l i h)
invoke_leaves f t l (Row.Cell c) h = refl
invoke_leaves f t l Row.Lockset h = refl

cell_leaves : (f : Cell → Cell × ActReply) (t : ActReply) → ((c : Cell) → Leaves c (f c)) → (r : Row) → Leaves r (on_cell f t r)
cell_leaves f t l (Row.Intent i) h = refl
cell_leaves f t l (Row.ReadLog v) h = refl
cell_leaves f t l (Row.Invoke i) h = refl
cell_leaves f t l (Row.Cell c) h = ap Row.Cell (l c h)
cell_leaves f t l Row.Lockset h = refl

none_there : (a : Act) (now : ℕ) → Leaves None (off a now)
none_there Look now h = refl
none_there Issue now h = cc
none_there (Bind f v) now h = refl
none_there (Register b) now h = cc
none_there (End o s) now h = refl
none_there Stamp now h = refl
none_there (PutRead v) now h = cc
none_there (OpenInvoke f) now h = cc
none_there (CallBack o) now h = refl
none_there NoteRegistered now h = refl
none_there PutLockset now h = cc
none_there (MakeCell v o l) now h = cc
none_there (WriteCell p w v) now h = refl
none_there (CondCell p w k o v) now h = refl
none_there (LockCell p w s) now h = refl
none_there (FreeCell p w v) now h = refl
none_there (LinkCell n) now h = refl
none_there (DropIntent l) now h = refl
none_there DropRow now h = refl
none_there MarkCell now h = refl
none_there (SkipCell f t) now h = refl
none_there DangleCell now h = refl
none_there (DropCell l) now h = refl

there : (a : Act) (now : ℕ) (r : Row) → Leaves r (on a now r)
there Look now r = λ h. refl
there Issue now r = λ h. refl
there (Bind f v) now r = intent_leaves (λ i. bind_to f v i i.body) gone (λ i. bound f v i i.body) r
there (Register b) now r = λ h. refl
there (End o s) now r = intent_leaves (λ i. end_with o s now i i.outcome) gone (λ i. ended o s now i i.outcome) r
there Stamp now r = intent_leaves (λ i. stamp_with now i i.finish) gone (λ i. stamped now i i.finish) r
there (PutRead v) now r = λ h. refl
there (OpenInvoke f) now r = λ h. refl
there (CallBack o) now r = invoke_leaves (λ i. call_back_to o i i.result) gone (λ i. called_back o i i.result) r
there NoteRegistered now r = invoke_leaves (λ i. register_to i i.registered) gone (λ i. registered i i.registered) r
there PutLockset now r = λ h. refl
there (MakeCell v o l) now r = λ h. refl
there (WriteCell p w v) now r = cell_leaves (write_at p w v) no_row (λ c. let z : Cell × ActReply = (entered p Wrote v c.owner c, did) in unheld c p w (if_room c z) (room c z (λ h. cc))) r
there (CondCell p w k o v) now r = cell_leaves (cond_at p w k o v) no_row (λ c. let z : Cell × ActReply = cond_to (passes c.value k o) p v c in unheld c p w (if_room c z) (room c z (λ h. cc))) r
there (LockCell p w s) now r = cell_leaves (lock_at p w) no_row (λ c. let z : Cell × ActReply = (entered p Got c.value (Some w) c, did) in locked c p w (if_room c z) (room c z (λ h. cc))) r
there (FreeCell p w v) now r = cell_leaves (free_at p w v) no_row (λ c. let z : Cell × ActReply = (entered p Freed (given_or v c.value) None c, did) in owned c p w (if_room c z) (room c z (λ h. cc))) r
there (LinkCell n) now r = cell_leaves (link_to n) no_row (λ c. linked c n) r
there (DropIntent l) now r = λ h. refl
there DropRow now r = λ h. refl
there MarkCell now r = cell_leaves (λ c. mark_by c.next c) not_so (λ c. marks c c.next) r
there (SkipCell f t) now r = cell_leaves (skip_to f t) not_so (λ c. skips c t (not c.marked && leads_from f c.next && nat_lt f t)) r
there DangleCell now r = cell_leaves (dangle_at now) not_so (λ c. dangles c now (c.marked && not (is_some c.dangled))) r
there (DropCell l) now r = λ h. refl

-- an act that removes its row lends nothing
removed_quiet : (b : Bool) → quiet (removed_reply b) ≡ false
removed_quiet true = refl
removed_quiet false = refl

stands_by : (a : Act) (now : ℕ) (r : Row) (b : Bool) → removes a now r ≡ b → lent (stays_unless b (on a now r)).1 ≡ true → is_death (stays_unless b (on a now r)).1 ≡ false → (stays_unless b (on a now r)).0 ≡ Some r
stands_by a now r false is h g = ap Some (there a now r (quiet_of (on a now r).1 h g))
stands_by (DropIntent l) now r true is h g = let clash = sym (removed_quiet (is_old_row l now r)) ∙ quiet_of (on (DropIntent l) now r).1 h g in cc
stands_by DropRow now r true is h g = let clash = sym (removed_quiet (is_left_row r)) ∙ quiet_of (on DropRow now r).1 h g in cc
stands_by (DropCell l) now r true is h g = let clash = sym (removed_quiet (is_adrift l now r)) ∙ quiet_of (on (DropCell l) now r).1 h g in cc
stands_by a now r true is h g = cc

pub stands : LentStands
stands a now None h g = none_there a now (quiet_of (off a now).1 h g)
stands a now (Some r) h g = stands_by a now r (removes a now r) refl h g

-- ---- only a transaction that asks for a lock dies
abbrev Lives : {R : Type 0} → R × ActReply → Type 0
Lives z = is_death z.1 ≡ false

bound_lives : (f : ℕ) (a : Value) (i : IntentRow) (b : Option Body) → Lives (bind_to f a i b)
bound_lives f a i None = refl
bound_lives f a i (Some b) = by_test ((b.func == f) && same_value b.args a) i.outcome
  where
    by_test : (c : Bool) (p : Option Outcome) → is_death (if c then outcome_reply p else other b) ≡ false
    by_test true None = refl
    by_test true (Some o) = refl
    by_test false p = refl

ended_lives : (o : Outcome) (s : _) (now : ℕ) (i : IntentRow) (p : Option Outcome) → Lives (end_with o s now i p)
ended_lives o s now i None = refl
ended_lives o s now i (Some p) = refl

stamped_lives : (now : ℕ) (i : IntentRow) (f : Option ℕ) → Lives (stamp_with now i f)
stamped_lives now i None = refl
stamped_lives now i (Some f) = refl

called_back_lives : (o : Outcome) (i : InvokeRow) (p : Option Outcome) → Lives (call_back_to o i p)
called_back_lives o i None = refl
called_back_lives o i (Some p) = refl

registered_lives : (i : InvokeRow) (b : Bool) → Lives (register_to i b)
registered_lives i false = refl
registered_lives i true = refl

module _ (c : Cell) where
  last_lives : (p : Place) (z : Cell × ActReply) → Lives z → Lives (at_tail p c z)
  last_lives p z l = by_note (note_at c.log p) c.next
    where
      by_note : (n : Option Note) (x : Option ℕ) → Lives (noted_or c n (next_or c x z))
      by_note (Some n) x = refl
      by_note None (Some x) = refl
      by_note None None = l

  held_lives : (o : Option Owner) (z : Cell × ActReply) → Lives z → Lives (held_or c o z)
  held_lives None z l = l
  held_lives (Some o) z l = refl

  room_lives : (z : Cell × ActReply) → Lives z → Lives (if_room c z)
  room_lives z l = by_test (is_full c)
    where
      by_test : (b : Bool) → Lives (if b then (c, packed c.value c.owner) else z)
      by_test true = refl
      by_test false = l

  linked_lives : (n : ℕ) → Lives (link_to n c)
  linked_lives n = by_next c.next (is_full c)
    where
      by_next : (x : Option ℕ) (b : Bool) → Lives (next_or c x (if b then (record c { next = Some n }, next n) else (c, not_full)))
      by_next (Some k) b = refl
      by_next None true = refl
      by_next None false = refl

  marks_lives : (n : Option ℕ) → Lives (mark_by n c)
  marks_lives None = refl
  marks_lives (Some n) = refl

  skips_lives : (t : ℕ) (b : Bool) → Lives (skip_by b t c)
  skips_lives t true = refl
  skips_lives t false = refl

  dangles_lives : (now : ℕ) (b : Bool) → Lives (dangle_by b now c)
  dangles_lives now true = refl
  dangles_lives now false = refl

  unheld_lives : (p : Place) (w : Owner) (z : Cell × ActReply) → Lives z → Lives (at_tail p c (unless_held w c z))
  unheld_lives p w z l = last_lives p (unless_held w c z) (held_lives (other_owner w c.owner) z l)

  -- an intent waits for each other owner
  intent_lives : (p : Place) (a : IntentId) (o : Option Owner) (z : Cell × ActReply) → Lives z → Lives (owned_or p (Owner.Intent a) c o z)
  intent_lives p a None z l = l
  intent_lives p a (Some o) z l = refl

  owned_lives : (p : Place) (w : Owner) (z : Cell × ActReply) → Lives z → Lives (at_tail p c (if_owned w c z))
  owned_lives p w z l = last_lives p (if_owned w c z) (by_own (owns w c.owner))
    where
      by_own : (b : Bool) → Lives (if b then z else (c, not_owner))
      by_own true = l
      by_own false = refl

on_intent_lives : (f : IntentRow → IntentRow × ActReply) (t : ActReply) → ((i : IntentRow) → Lives (f i)) → is_death t ≡ false → (r : Row) → Lives (on_intent f t r)
on_intent_lives f t l g (Row.Intent i) = l i
on_intent_lives f t l g r = g

on_invoke_lives : (f : InvokeRow → InvokeRow × ActReply) (t : ActReply) → ((i : InvokeRow) → Lives (f i)) → is_death t ≡ false → (r : Row) → Lives (on_invoke f t r)
on_invoke_lives f t l g (Row.Invoke i) = l i
on_invoke_lives f t l g r = g

on_cell_lives : (f : Cell → Cell × ActReply) (t : ActReply) → ((c : Cell) → Lives (f c)) → is_death t ≡ false → (r : Row) → Lives (on_cell f t r)
on_cell_lives f t l g (Row.Cell c) = l c
on_cell_lives f t l g r = g

kept_lives : (r : Row) → is_death (kept_reply (Some r)) ≡ false
kept_lives (Row.ReadLog v) = refl
kept_lives r = refl

removed_lives : (b : Bool) → is_death (removed_reply b) ≡ false
removed_lives true = refl
removed_lives false = refl

there_lives : (a : Act) (now : ℕ) (r : Row) → may_die a ≡ false → Lives (on a now r)
there_lives Look now r h = refl
there_lives Issue now r h = refl
there_lives (Bind f v) now r h = on_intent_lives (λ i. bind_to f v i i.body) gone (λ i. bound_lives f v i i.body) refl r
there_lives (Register b) now r h = refl
there_lives (End o s) now r h = on_intent_lives (λ i. end_with o s now i i.outcome) gone (λ i. ended_lives o s now i i.outcome) refl r
there_lives Stamp now r h = on_intent_lives (λ i. stamp_with now i i.finish) gone (λ i. stamped_lives now i i.finish) refl r
there_lives (PutRead v) now r h = kept_lives r
there_lives (OpenInvoke f) now r h = refl
there_lives (CallBack o) now r h = on_invoke_lives (λ i. call_back_to o i i.result) gone (λ i. called_back_lives o i i.result) refl r
there_lives NoteRegistered now r h = on_invoke_lives (λ i. register_to i i.registered) gone (λ i. registered_lives i i.registered) refl r
there_lives PutLockset now r h = refl
there_lives (MakeCell v o l) now r h = refl
there_lives (WriteCell p w v) now r h = on_cell_lives (write_at p w v) no_row (λ c. let z : Cell × ActReply = (entered p Wrote v c.owner c, did) in unheld_lives c p w (if_room c z) (room_lives c z refl)) refl r
there_lives (CondCell p w k o v) now r h = on_cell_lives (cond_at p w k o v) no_row (λ c. let z : Cell × ActReply = cond_to (passes c.value k o) p v c in unheld_lives c p w (if_room c z) (room_lives c z refl)) refl r
there_lives (LockCell p (Owner.Intent a) s) now r h =
    on_cell_lives (lock_at p (Owner.Intent a)) no_row
    (λ c. let z : Cell × ActReply = if_room c (entered p Got c.value (Some (Owner.Intent a)) c, did) in last_lives c p (owned_or p (Owner.Intent a) c (other_owner (Owner.Intent a) c.owner) z) (intent_lives c p a (other_owner (Owner.Intent a) c.owner) z (room_lives c (entered p Got c.value (Some (Owner.Intent a)) c, did) refl)))
    refl r
there_lives (LockCell p (Owner.Tx t) s) now r h = cc
there_lives (FreeCell p w v) now r h = on_cell_lives (free_at p w v) no_row (λ c. let z : Cell × ActReply = (entered p Freed (given_or v c.value) None c, did) in owned_lives c p w (if_room c z) (room_lives c z refl)) refl r
there_lives (LinkCell n) now r h = on_cell_lives (link_to n) no_row (λ c. linked_lives c n) refl r
there_lives (DropIntent l) now r h = removed_lives (is_old_row l now r)
there_lives DropRow now r h = removed_lives (is_left_row r)
there_lives MarkCell now r h = on_cell_lives (λ c. mark_by c.next c) not_so (λ c. marks_lives c c.next) refl r
there_lives (SkipCell f t) now r h = on_cell_lives (skip_to f t) not_so (λ c. skips_lives c t (not c.marked && leads_from f c.next && nat_lt f t)) refl r
there_lives DangleCell now r h = on_cell_lives (dangle_at now) not_so (λ c. dangles_lives c now (c.marked && not (is_some c.dangled))) refl r
there_lives (DropCell l) now r h = removed_lives (is_adrift l now r)

none_lives : (a : Act) (now : ℕ) → Lives (off a now)
none_lives Look now = refl
none_lives Issue now = refl
none_lives a now = refl

pub only_transactions_die : OnlyTransactionsDie
only_transactions_die a now None h = none_lives a now
only_transactions_die a now (Some r) h = by_stay (removes a now r)
  where
    by_stay : (b : Bool) → is_death (stays_unless b (on a now r)).1 ≡ false
    by_stay true = there_lives a now r h
    by_stay false = there_lives a now r h

-- ---- a query
-- one that lends leaves the rows, unless it tells a death ..
quiet_stand : (q : Query) (now : ℕ) (m : Rows) → tells_death (query_reply q now m) ≡ false → lends (query_reply q now m) ≡ true → rows_after q now m ≡ m
quiet_stand (Query.Act k a) now m g h = left a now k m (map.get m k) refl (stands a now (map.get m k) h g)
quiet_stand (Query.After k) now m g h = refl

-- .. which only a lock of a transaction does ..
no_death : (q : Query) (now : ℕ) (m : Rows) → may_tell_death q ≡ false → tells_death (query_reply q now m) ≡ false
no_death (Query.Act k a) now m h = only_transactions_die a now (map.get m k) h
no_death (Query.After k) now m h = refl

pub rows_stand : (q : Query) (now : ℕ) (m : Rows) → may_tell_death q ≡ false → lends (query_reply q now m) ≡ true → rows_after q now m ≡ m
rows_stand q now m lives h = quiet_stand q now m (no_death q now m lives) h

-- .. so what lends leaves the rows, or its death
pub lent_left : (q : Query) (now : ℕ) (m : Rows) → lends (query_reply q now m) ≡ true → Left OutOfMemory q now m (rows_after q now m)
lent_left q now m h = by_query (may_tell_death q) refl
  where
    by_death : (d : Bool) → tells_death (query_reply q now m) ≡ d → LeftAt true OutOfMemory q now m (rows_after q now m)
    by_death true e = inr (refl, e)
    by_death false e = inl (quiet_stand q now m e h)

    by_query : (b : Bool) → may_tell_death q ≡ b → LeftAt b OutOfMemory q now m (rows_after q now m)
    by_query true e = by_death (tells_death (query_reply q now m)) refl
    by_query false e = rows_stand q now m e h

-- rows that are as before
pub same_left : (e : TableErr) (q : Query) (now : ℕ) (m n : Rows) → n ≡ m → Left e q now m n
same_left e q now m n h = by_query (may_tell_death q) e
  where
    by_query : (b : Bool) (e : TableErr) → LeftAt b e q now m n
    by_query false e = h
    by_query true OutOfMemory = inl h
    by_query true Failed = h
    by_query true (Full live most) = h

-- .. and what a walk did not heed leaves them so: it lent, or it was refused
pub refused_stand : (q : Query) (now room : ℕ) (e : TableErr) (m n : Rows) → CameOn q now room (Err e) m n → n ≡ m
refused_stand (Query.Act k a) now room OutOfMemory m n h = h
refused_stand (Query.Act k a) now room Failed m n h = h
refused_stand (Query.Act k a) now room (Full live most) m n h = h.0
refused_stand (Query.After k) now room OutOfMemory m n h = h
refused_stand (Query.After k) now room Failed m n h = h
refused_stand (Query.After k) now room (Full live most) m n h = absurd h

-- out of memory for what was told
pub unheard_left : (q : Query) (now : ℕ) (e : TableErr) (t : QueryReply) (m n : Rows) → e ≡ OutOfMemory → lends t ≡ true → n ≡ rows_after q now m → t ≡ query_reply q now m → Left e q now m n
unheard_left q now e t m n is lent after by = subst (λ v. Left v q now m n) (sym is) (subst (Left OutOfMemory q now m) (sym after) (lent_left q now m (ap lends (sym by) ∙ lent)))

pub unheeded_stand : {W X : Type 0} (q : Query) (now : ℕ) (f : QueryReply → W) (g : QueryReply → X) (w x : W) (old new : TableState) (e : TableErr) → Turned q now f g w x old new (Err e) → Tells old.rows new.rows (Left e q now)
unheeded_stand q now f g w x old new e (Ok t, h, c) = tells_map {P = λ m n. CameOn q now old.room (Ok t) m n} {Q = Left e q now} old.rows new.rows (λ m n p. unheard_left q now e t m n h.1 h.2 p.0 p.1) c.rows
unheeded_stand q now f g w x old new e (Err v, h, c) = tells_map {P = λ m n. CameOn q now old.room (Err v) m n} {Q = Left e q now} old.rows new.rows (λ m n p. same_left e q now m n (refused_stand q now old.room v m n p)) c.rows
