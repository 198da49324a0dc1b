-- No run stays where it stood: a row that follows one has the next number, the note at its place and the decision are its own, and nobody
-- owns a shadow.
use Rattle.std.proofs.Common.{Bool, List, None, Option, Some, ap, arith, eq-eqb, false, if◌then◌else◌, is_some, length, refl, subst, sym, true, ℕ, ◌+◌, ◌-◌, ◌==◌, ◌∙◌, ◌≡◌}
use Rattle.std.specs.FinMap as map
use Rattle.beldi_value.specs.{Id.age_of, Id.child_of, Passes.passes, declared.id.IntentId.IntentId, declared.outcome.Outcome.Outcome, declared.place.Caller.Caller, declared.place.Owner.Owner, declared.place.Place.Place, declared.place.TxId.TxId, declared.value.Value.Value}
use Rattle.beldi_tree.specs.declared.deployment.Deployment.{Deployment}
use Rattle.beldi_lang.specs.declared.effect.{Answer.Answer, Effect.Effect}
use Rattle.beldi_book.specs.LinearOrder.{count_changes}
use Rattle.beldi_plain.specs.{Item.Item, Operation.OnItem, Operation.item_in, Operation.op_of, Operation.touched}
use Rattle.beldi_row.specs.{Act.ActReply, Act.act, Act.added, Act.kept, Act.at_tail, Act.cond_to, Act.did, Act.entered, Act.died, Act.given_or, Act.held, Act.held_or, Act.kept_reply, Act.noted, Act.register_to, Act.if_owned, Act.if_room, Act.is_full, Act.next, Act.next_or, Act.not_full, Act.not_owner, Act.noted_or, Act.other_owner, Act.owned_or, Act.owns, Act.packed, Act.unless_held, Act.waits_for, Key.RowKey, Key.at_row, Log.blank, Log.most_entries, Log.note_at, Table.Rows, declared.act.Act.Act, declared.notes.Note.Note, declared.row.Cell.Cell, declared.row.InvokeRow.InvokeRow, declared.row.Row.Row}
use Rattle.beldi_query.specs.Query.{QueryReply, rows_after, replied, query_reply}
use Rattle.beldi_chain.specs.{Chain.Chain, Chain.chain, Content.Content}
use Rattle.beldi_links.specs.Links.{FitsAt, IsLinked, LinkedFrom, SeesAt}
use Rattle.beldi_daal.proofs.Logged.{by_op}
use Rattle.beldi_daal.specs.{Cell.cell_goes, Cell.done_note, Cell.got_or_held, Cell.in_the_way, Cell.last_row, Cell.made_goes, Cell.op_act, Cell.read_goes, Cell.write_asks, Cell.write_goes, Logged.Logs, Logged.WasBarred, Logged.at_of, Logged.barred, Logged.dies, Logged.waited, WriteWalk.walk_so, declared.cell.CellOp.CellOp, declared.cell.ReadGoes.ReadGoes, declared.cell.WriteAt.WriteAt, declared.cell.WriteGoes.WriteGoes, declared.walk.Item.TheVariants.Plain, declared.walk.Item.TheVariants.Shadow, declared.walk.WriteOutput.WriteOutput, declared.walk.WriteWalk.WriteWalk}
use Rattle.beldi_lock.specs.{Lock.asks_at, Lock.item_goes, Lock.lock_goes, Lock.lockset_key, Lock.put_goes, declared.lock.LockAt.LockAt}
use Rattle.beldi_invokelog.specs.InvokeLog.{back_of, invoke_key, invoked_of, registered_asks}
use Rattle.beldi_readlog.specs.ReadLog.{given_of}
use Rattle.beldi_intent.specs.Intent.{is_did, look_asks}
use Rattle.beldi_invokelog.specs.declared.invoke_log.Back.{Back}
use Rattle.beldi_txn.specs.{End.decide_goes, End.decided_by, Tx.given_goes, Tx.head_made, Tx.item_goes as tx_item_goes, Tx.item_leads, Tx.locked_goes, Tx.seek_goes, Tx.shadow_read, Tx.keep_goes, Tx.lock_leads, Tx.note_goes, Tx.tx_asks, Tx.tx_goes, Tx.write_leads, TxTurn.Fits, declared.tx.TxAt.TxAt}
use Rattle.beldi_call.specs.{Async.async_asks, Async.async_output, Async.open_output, Call.call_output, declared.async_call.AsyncAt.AsyncAt, declared.call.CallAt.CallAt, declared.call.CallOutput.CallOutput}
use Rattle.beldi_step.specs.{declared.run.Begun.Begun, declared.run.Mark.Mark, declared.run.Run.Run, declared.run.RunTx.RunTx, declared.run.StageOutput.StageOutput, declared.run.Stage.Stage, HostStep.Core, Run.ask_output, Run.async_answer, Run.back_output, Run.begin_of, Run.call_answer, Run.callee_body, Run.cell_op, Run.close_output, Run.decided_output, Run.done_output, Run.note_of_op, Run.own_tx, Run.place_of, Run.put_asks, Run.put_output, Run.stage_asks, Run.stage_output, Run.tx_of, Run.tx_output, Run.walk_output, Run.write_output, Tables.decision_key}
use Rattle.beldi_histories.specs.{Contents.content_of, Contents.head_key, Contents.shadow_key, Contents.shadow_of, OutsideOperations.cell_of, Expected.called_by, Expected.result_of, RowMatching.CallMatches}
use Rattle.beldi_histories.proofs.Cases.{by_option}
use Rattle.beldi_invariant.specs.{FoundInside.InItem, FoundInside.SeesBoth, FoundInside.SeesPut, OneAnswer.IsBegun, Invariant.AtStage, Invariant.Knows, Invariant.Invariant, Invariant.is_sent}
use Rattle.beldi_upkeep.specs.Checked.{IsStill, NoTurnStays, is_of_lock, is_own_note, is_shadow_note, is_visit, works_on}
use Rattle.beldi_upkeep.proofs.{Notes.decisions_are_own, Notes.knows, Notes.notes_are_own, Notes.shadow_notes_are_own, Overs.held_else, Overs.its_cell, Overs.left_note, Overs.note_left}

-- ---- an act on a cell, by what is so of each thing that it may tell
module _ (P : ActReply → Type 0) where
  noted_output : (c : Cell) (o : Option Note) (r : Cell × ActReply) → ((w : Note) → o ≡ Some w → P (noted w)) → P r.1 → P (noted_or c o r).1
  noted_output c None r f h = h
  noted_output c (Some w) r f h = f w refl

  next_output : (c : Cell) (o : Option ℕ) (r : Cell × ActReply) → ((k : ℕ) → o ≡ Some k → P (next k)) → P r.1 → P (next_or c o r).1
  next_output c None r f h = h
  next_output c (Some k) r f h = f k refl

  tail_output : (p : Place) (c : Cell) (r : Cell × ActReply) → ((w : Note) → P (noted w)) → ((k : ℕ) → c.next ≡ Some k → P (next k)) → P r.1 → P (at_tail p c r).1
  tail_output p c r f g h = noted_output c (note_at c.log p) (next_or c c.next r) (λ w at. f w) (next_output c c.next r g h)

  held_output : (c : Cell) (o : Option Owner) (r : Cell × ActReply) → ((w : Owner) → P (held w)) → P r.1 → P (held_or c o r).1
  held_output c None r f h = h
  held_output c (Some w) r f h = f w

  if_output : (b : Bool) (r s : Cell × ActReply) → P r.1 → P s.1 → P (if b then r else s).1
  if_output true r s h k = h
  if_output false r s h k = k

  room_output : (c : Cell) (r : Cell × ActReply) → P (packed c.value c.owner) → P r.1 → P (if_room c r).1
  room_output c r f h = if_output (is_full c) (c, packed c.value c.owner) r f h

  owned_output : (p : Place) (w : Owner) (c : Cell) (o : Option Owner) (r : Cell × ActReply) → ((u : Owner) → P (held u)) → P (packed c.value c.owner) → ((a : IntentId) → P (died a)) → P r.1 → P (owned_or p w c o r).1
  owned_output p w c None r f full g h = h
  owned_output p w c (Some u) r f full g h = let dead : Cell × ActReply = (entered p (Note.Died (age_of u)) c.value c.owner c, died (age_of u)) in if_output (waits_for w u) (c, held u) (if_room c dead) (f u) (room_output c dead full (g (age_of u)))

-- ---- rows that are linked
head_fits : (f : Chain) (y : Option Row) → LinkedFrom y f → (i : ℕ) → FitsAt (f i)
head_fits f None none i = subst FitsAt (sym (none i)) tt
head_fits f (Some r) l i = l.fits i

head_number : (f : Chain) (y : Option Row) → LinkedFrom y f → (i : ℕ) (c : Cell) (k : ℕ) → f i ≡ Some (Row.Cell c) → c.next ≡ Some k → k ≡ i + 1
head_number f None none i c k is after = let clash = sym (none i) ∙ is in cc
head_number f (Some r) l i c k is after = l.numbers i c k is after

next_number : (f : Chain) → IsLinked f → (i : ℕ) (c : Cell) (k : ℕ) → f i ≡ Some (Row.Cell c) → c.next ≡ Some k → k ≡ i + 1
next_number f l = head_number f (f 0) l

-- ---- a write goes on from where it stands
abbrev Off : WriteAt → WriteGoes → Type 0
Off at (WriteGoes.On b) = b ≡ at → ⊥
Off at WriteGoes.Stays = ⊥
Off at z = Unit {0}

further : (i k : ℕ) → k ≡ i + 1 → WriteAt.Try k ≡ WriteAt.Try i → ⊥
further i k after same = let e = number same in omega (arith, e, after)
  where
    number : {x y : ℕ} → WriteAt.Try x ≡ WriteAt.Try y → x ≡ y
    number e = cc

module _ (n : Note) (p : Place) (who : Owner) (now : ℕ) where
  abbrev OffBy : WriteAt → ActReply → Type 0
  OffBy at t = Off at (write_goes n at (replied t))

  full_off : (i : ℕ) (v : Value) (o : Option Owner) → OffBy (WriteAt.Try i) (packed v o)
  full_off i v o = by_test (i == last_row)
    where
      by_test : (b : Bool) → Off (WriteAt.Try i) (if b then WriteGoes.Worn else WriteGoes.On (WriteAt.Append (i + 1) (record { value = v; owner = o })))
      by_test true = tt
      by_test false = λ e. cc

  module _ (i : ℕ) (c : Cell) (after : (k : ℕ) → c.next ≡ Some k → k ≡ i + 1) where
    abbrev Here : ActReply → Type 0
    Here t = OffBy (WriteAt.Try i) t

    at_end : (r : Cell × ActReply) → Here r.1 → Here (at_tail p c r).1
    at_end r h = tail_output Here p c r (λ w. tt) (λ k is. further i k (after k is)) h

    in_room : (r : Cell × ActReply) → Here r.1 → Here (if_room c r).1
    in_room r h = room_output Here c r (full_off i c.value c.owner) h

    cell_off : (op : CellOp) → Here (act (op_act p who op) now (Some (Row.Cell c))).1
    cell_off (CellOp.Write v) = let r : Cell × ActReply = (entered p Note.Wrote v c.owner c, did) in at_end (unless_held who c (if_room c r)) (held_output Here c (other_owner who c.owner) (if_room c r) (λ w. tt) (in_room r tt))
    cell_off (CellOp.Cond k o v) = let r : Cell × ActReply = cond_to (passes c.value k o) p v c in at_end (unless_held who c (if_room c r)) (held_output Here c (other_owner who c.owner) (if_room c r) (λ w. tt) (in_room r tt))
    cell_off CellOp.Lock = let r : Cell × ActReply = (entered p Note.Got c.value (Some who) c, did) in at_end (owned_or p who c (other_owner who c.owner) (if_room c r)) (owned_output Here p who c (other_owner who c.owner) (if_room c r) (λ u. tt) (full_off i c.value c.owner) (λ a. tt) (in_room r tt))
    cell_off (CellOp.Free v) = let r : Cell × ActReply = (entered p Note.Freed (given_or v c.value) None c, did) in at_end (if_owned who c (if_room c r)) (if_output Here (owns who c.owner) (if_room c r) (c, not_owner) (in_room r tt) tt)

  none_off : (i : ℕ) (op : CellOp) → OffBy (WriteAt.Try i) (act (op_act p who op) now None).1
  none_off i (CellOp.Write v) = λ e. cc
  none_off i (CellOp.Cond k o v) = λ e. cc
  none_off i CellOp.Lock = λ e. cc
  none_off i (CellOp.Free v) = λ e. cc

  try_off : (op : CellOp) (i : ℕ) (r : Option Row) → FitsAt r → ((c : Cell) (k : ℕ) → r ≡ Some (Row.Cell c) → c.next ≡ Some k → k ≡ i + 1) → OffBy (WriteAt.Try i) (act (op_act p who op) now r).1
  try_off op i None fits after = none_off i op
  try_off op i (Some (Row.Cell c)) fits after = cell_off i c (λ k. after c k refl) op
  try_off op i (Some r) fits after = absurd fits

  -- one that made a row goes on, and one that links a row to a full one
  made_off : (at : WriteAt) (v : Value) (o : Option Owner) (r : Option Row) → Off at (made_goes at) → OffBy at (act (Act.MakeCell v o blank) now r).1
  made_off at v o None h = h
  made_off at v o (Some r) h = h

  link_off : (i : ℕ) (r : Option Row) (c : Cell) → r ≡ Some (Row.Cell c) → length c.log ≡ most_entries → OffBy (WriteAt.Link i) (act (Act.LinkCell i) now r).1
  link_off i r c is full = subst (λ z. OffBy (WriteAt.Link i) (act (Act.LinkCell i) now z).1) (sym is) (next_output (OffBy (WriteAt.Link i)) c c.next (if is_full c then (record c { next = Some i }, next i) else (c, not_full)) (λ k at e. cc) (by_test (is_full c) (eq-eqb (length c.log) most_entries full)))
    where
      by_test : (b : Bool) → b ≡ true → OffBy (WriteAt.Link i) (if◌then◌else◌ {A = Cell × ActReply} b (record c { next = Some i }, next i) (c, not_full)).1
      by_test true e = λ z. cc
      by_test false e = cc

  -- so at every row that it sees
  at_off : (m : Rows) (k : RowKey) (op : CellOp) (at : WriteAt) → IsLinked (chain m k) → SeesAt (chain m k) p (at_of at) → Off at (write_goes n at (query_reply (write_asks k p who op at) now m))
  at_off m k op (WriteAt.Try i) l sees = try_off op i (chain m k i) (head_fits (chain m k) (chain m k 0) l i) (λ c j. next_number (chain m k) l i c j)
  at_off m k op WriteAt.Make l sees = made_off WriteAt.Make Value.Null None (map.get m k) (λ e. cc)
  at_off m k op (WriteAt.Append i t) l sees = made_off (WriteAt.Append i t) t.value t.owner (map.get m (at_row k i)) (λ e. cc)
  at_off m k op (WriteAt.Link i) l (r, after, meets, passed, link) =
      let one : r ≡ i - 1 = let a = after.next in omega (arith, a) in
      link_off i (map.get m (at_row k (i - 1))) link.cell (ap (chain m k) (sym one) ∙ link.there) link.full

-- .. and so does a read
abbrev ReadOff : Option Owner → ℕ → ReadGoes → Type 0
ReadOff who i (ReadGoes.On k) = k ≡ i → ⊥
ReadOff who i ReadGoes.Stays = ⊥
ReadOff who i (ReadGoes.Got v) = Unit {0}
ReadOff None i (ReadGoes.Held o) = ⊥
ReadOff (Some w) i (ReadGoes.Held o) = Unit {0}

got_off : (who : Option Owner) (i : ℕ) (c : Cell) → ReadOff who i (got_or_held c (in_the_way who c.owner))
got_off None i c = tt
got_off (Some w) i c = by_owner (other_owner w c.owner)
  where
    by_owner : (o : Option Owner) → ReadOff (Some w) i (got_or_held c o)
    by_owner None = tt
    by_owner (Some u) = tt

look_off : (who : Option Owner) (now i : ℕ) (r : Option Row) → FitsAt r → ((c : Cell) (k : ℕ) → r ≡ Some (Row.Cell c) → c.next ≡ Some k → k ≡ i + 1) → ReadOff who i (read_goes who (replied (act Act.Look now r).1))
look_off who now i None fits after = tt
look_off who now i (Some (Row.Cell c)) fits after = by_next c.next refl
  where
    by_next : (o : Option ℕ) → c.next ≡ o → ReadOff who i (cell_goes who c o)
    by_next None is = got_off who i c
    by_next (Some k) is = λ same. let a = after c k refl is in omega (arith, a, same)
look_off who now i (Some r) fits after = absurd fits

reads_off : (who : Option Owner) (now i : ℕ) (f : Chain) → IsLinked f → ReadOff who i (read_goes who (replied (act Act.Look now (f i)).1))
reads_off who now i f l = look_off who now i (f i) (head_fits f (f 0) l i) (λ c k. next_number f l i c k)

-- ---- outside a transaction
ask_moves : (v : Option Value) → IsStill Stage.Ask (ask_output v) → ⊥
ask_moves None h = cc
ask_moves (Some v) h = h

walk_moves : (n i : ℕ) (w : Owner) (g : ReadGoes) → ReadOff (Some w) i g → IsStill (Stage.Walk i) (walk_output n g) → ⊥
walk_moves n i w (ReadGoes.On k) off h = off (number h)
  where
    number : {x y : ℕ} → Stage.Walk x ≡ Stage.Walk y → x ≡ y
    number e = cc
walk_moves n i w ReadGoes.Stays off h = off
walk_moves n i w (ReadGoes.Got v) off h = cc
walk_moves n i w (ReadGoes.Held o) off h = h

done_moves : (at : WriteAt) (first : Bool) (u : Option Answer) → IsStill (Stage.Write at) (done_output first u) → ⊥
done_moves at first None h = h
done_moves at first (Some a) h = h

put_moves : (e : Effect) (at : WriteAt) (z : WriteGoes) → Off at z → IsStill (Stage.Write at) (write_output e z) → ⊥
put_moves e at (WriteGoes.On b) off h = off (same h)
  where
    same : {x y : WriteAt} → Stage.Write x ≡ Stage.Write y → x ≡ y
    same e = cc
put_moves e at WriteGoes.Stays off h = off
put_moves e at (WriteGoes.Done w first) off h = done_moves at first _ h
put_moves e at WriteGoes.NotOwner off h = h
put_moves e at (WriteGoes.Held w) off h = h
put_moves e at WriteGoes.Worn off h = h

-- ---- calls
async_open_moves : (first registered : Bool) → IsStill (Stage.Async AsyncAt.Open) (async_answer AsyncAt.Open (open_output first registered)) → ⊥
async_open_moves first true h = h
async_open_moves first false h = cc

call_moves : (id : IntentId) (o : Option RunTx) (at : CallAt) (step : ℕ) (z : CallOutput) → IsStill (Stage.Call at) (call_answer id o step z) → ⊥
call_moves id o at step (CallOutput.Opened first) h = h
call_moves id o at step CallOutput.NotYet h = h
call_moves id o at step (CallOutput.Done u) h = h

back_moves : (o : Option RunTx) (z : Back) → IsStill Stage.Back (back_output o z) → ⊥
back_moves o Back.Set h = cc
back_moves o Back.AlreadySet h = cc
back_moves o Back.Absent h = cc

close_moves : (id : IntentId) (c : Option Caller) (u : Outcome) (b : Bool) → IsStill Stage.Close (close_output id c (Effect.Return u) b) → ⊥
close_moves id c u true h = h
close_moves id c u false h = h

-- the row of a call that was made
call_row : (r : Option Row) (x : ℕ × Option Outcome) → CallMatches r (Some x) → (i : InvokeRow) × (r ≡ Some (Row.Invoke i))
call_row None x h = cc
call_row (Some (Row.Invoke i)) x h = (i, refl)
call_row (Some r) x h = absurd h

registered_moves : (f now : ℕ) (i : InvokeRow) (b : Bool) → i.registered ≡ b → IsStill (Stage.Async AsyncAt.Note) (async_answer AsyncAt.Note (async_output f AsyncAt.Note (replied (register_to i b).1))) → ⊥
registered_moves f now i true is h = h
registered_moves f now i false is h = h

-- ---- the decision
own_moves : (commit : Bool) (w : Mark) → IsStill (Stage.Decide w) (decided_output commit w (decided_by commit commit)) → ⊥
own_moves true w h = cc
own_moves false w h = cc

decide_moves : (commit : Bool) (w : Mark) (now : ℕ) (r : Option Row) → ((u : Row) → r ≡ Some u → u ≡ Row.ReadLog (Value.Bool commit)) → IsStill (Stage.Decide w) (decided_output commit w (decide_goes commit (replied (act (Act.PutRead (Value.Bool commit)) now r).1))) → ⊥
decide_moves commit w now None its h = cc
decide_moves commit w now (Some u) its h = own_moves commit w (subst (λ z. IsStill (Stage.Decide w) (decided_output commit w (decide_goes commit (replied (kept_reply (Some z)))))) (its u refl) h)

-- ---- inside a transaction
-- the lock of its item
abbrev OfLock : WriteGoes → Type 0
OfLock (WriteGoes.Done w first) = is_of_lock w ≡ true
OfLock WriteGoes.NotOwner = ⊥
OfLock z = Unit {0}

of_lock : (p : Place) (t : TxId) (c d : Content) → ((w : Note) → note_at c.notes p ≡ Some w → is_of_lock w ≡ true) → (z : WriteGoes) → Logs p (Owner.Tx t) CellOp.Lock (walk_so z) c d → OfLock z
of_lock p t c d own (WriteGoes.Done w true) l = ap is_of_lock (sym (left_note p (Owner.Tx t) CellOp.Lock c d w (dies (Owner.Tx t) CellOp.Lock c.owner) l.0 l.1.0 l.1.1)) ∙ by_death (dies (Owner.Tx t) CellOp.Lock c.owner)
  where
    by_death : (a : Option IntentId) → is_of_lock (note_left CellOp.Lock c.value a) ≡ true
    by_death None = refl
    by_death (Some a) = refl
of_lock p t c d own (WriteGoes.Done w false) l = own w (ap (λ (x : Content). note_at x.notes p) (sym l.1) ∙ l.0)
of_lock p t c d own WriteGoes.NotOwner l = held_else (waited (Owner.Tx t) (other_owner (Owner.Tx t) c.owner)) l.1
of_lock p t c d own (WriteGoes.On b) l = tt
of_lock p t c d own WriteGoes.Stays l = tt
of_lock p t c d own (WriteGoes.Held w) l = tt
of_lock p t c d own WriteGoes.Worn l = tt

-- it goes on once it has the lock
locked_moves : (e : Effect) (a l : TxAt) (at : WriteAt) → Fits e a → IsStill (Stage.Tx (TxAt.Lock (LockAt.Item at))) (tx_output l (locked_goes e)) → ⊥
locked_moves (Effect.Read t k) a l at fits h = cc
locked_moves (Effect.Write t k v) a l at fits h = cc
locked_moves (Effect.CondWrite t k r o v) a l at fits h = cc
locked_moves e a l at fits h = absurd fits

lock_moves : (p : Place) (e : Effect) (at : WriteAt) (z : WriteGoes) → Fits e (TxAt.Lock (LockAt.Item at)) → Off at z → OfLock z → IsStill (Stage.Tx (TxAt.Lock (LockAt.Item at))) (tx_output (TxAt.Lock (LockAt.Item at)) (lock_leads p e (item_goes z))) → ⊥
lock_moves p e at (WriteGoes.On b) fits off of h = off (same h)
  where
    same : {x y : WriteAt} → Stage.Tx (TxAt.Lock (LockAt.Item x)) ≡ Stage.Tx (TxAt.Lock (LockAt.Item y)) → x ≡ y
    same e = cc
lock_moves p e at WriteGoes.Stays fits off of h = off
lock_moves p e at (WriteGoes.Done Note.Got first) fits off of h = locked_moves e (TxAt.Lock (LockAt.Item at)) (TxAt.Lock (LockAt.Item at)) at fits h
lock_moves p e at (WriteGoes.Done (Note.Died a) first) fits off of h = h
lock_moves p e at (WriteGoes.Done Note.Wrote first) fits off of h = cc
lock_moves p e at (WriteGoes.Done (Note.Cond b) first) fits off of h = cc
lock_moves p e at (WriteGoes.Done Note.Freed first) fits off of h = cc
lock_moves p e at WriteGoes.NotOwner fits off of h = of
lock_moves p e at (WriteGoes.Held w) fits off of h = h
lock_moves p e at WriteGoes.Worn fits off of h = h

lockset_moves : (p : Place) (e : Effect) (b now : ℕ) (r : Option Row) → IsStill (Stage.Tx (TxAt.Lock (LockAt.Lockset b))) (tx_output (TxAt.Lock (LockAt.Lockset b)) (lock_leads p e (put_goes (replied (act Act.PutLockset now r).1)))) → ⊥
lockset_moves p e b now None h = cc
lockset_moves p e b now (Some r) h = cc

-- what was kept for a read, and what it finds in the shadow and in the item
log_moves : (b : ℕ) (v : Option Value) → IsStill (Stage.Tx TxAt.Log) (tx_output TxAt.Log (given_goes b v)) → ⊥
log_moves b None h = cc
log_moves b (Some v) h = h

shadow_read_moves : (i : ℕ) (g : ReadGoes) → ReadOff None i g → IsStill (Stage.Tx (TxAt.Shadow i)) (tx_output (TxAt.Shadow i) (shadow_read g)) → ⊥
shadow_read_moves i (ReadGoes.On k) off h = off (number h)
  where
    number : {x y : ℕ} → Stage.Tx (TxAt.Shadow x) ≡ Stage.Tx (TxAt.Shadow y) → x ≡ y
    number e = cc
shadow_read_moves i ReadGoes.Stays off h = off
shadow_read_moves i (ReadGoes.Got None) off h = cc
shadow_read_moves i (ReadGoes.Got (Some v)) off h = cc
shadow_read_moves i (ReadGoes.Held o) off h = off

seek_moves : (now : ℕ) (r : Option Row) → IsStill (Stage.Tx TxAt.Seek) (tx_output TxAt.Seek (seek_goes (replied (act Act.Look now r).1))) → ⊥
seek_moves now None h = cc
seek_moves now (Some r) h = cc

leads_moves : (e : Effect) (i : ℕ) (v : Value) → Fits e (TxAt.Item i) → IsStill (Stage.Tx (TxAt.Item i)) (tx_output (TxAt.Item i) (item_leads e v)) → ⊥
leads_moves (Effect.Read t k) i v fits h = cc
leads_moves (Effect.CondWrite t k r o u) i v fits h = cc
leads_moves e i v fits h = fits

item_moves : (e : Effect) (i : ℕ) (g : ReadGoes) → ReadOff None i g → Fits e (TxAt.Item i) → IsStill (Stage.Tx (TxAt.Item i)) (tx_output (TxAt.Item i) (tx_item_goes e g)) → ⊥
item_moves e i (ReadGoes.On k) off fits h = off (number h)
  where
    number : {x y : ℕ} → Stage.Tx (TxAt.Item x) ≡ Stage.Tx (TxAt.Item y) → x ≡ y
    number e = cc
item_moves e i ReadGoes.Stays off fits h = off
item_moves e i (ReadGoes.Got None) off fits h = leads_moves e i Value.Null fits h
item_moves e i (ReadGoes.Got (Some v)) off fits h = leads_moves e i v fits h
item_moves e i (ReadGoes.Held o) off fits h = off

keep_moves : (v : Value) (t : QueryReply) → IsStill (Stage.Tx (TxAt.Keep v)) (tx_output (TxAt.Keep v) (keep_goes t)) → ⊥
keep_moves v (replied added) h = h
keep_moves v (replied (kept u)) h = h
keep_moves v t h = h

first_moves : (v : Value) (now : ℕ) (r : Option Row) → IsStill (Stage.Tx (TxAt.Head v)) (tx_output (TxAt.Head v) (head_made (replied (act (Act.MakeCell v None blank) now r).1))) → ⊥
first_moves v now None h = cc
first_moves v now (Some r) h = cc

-- its shadow, which nobody owns
abbrev OfShadow : Effect → WriteGoes → Type 0
OfShadow e (WriteGoes.Done w first) = is_shadow_note e w ≡ true
OfShadow e WriteGoes.NotOwner = ⊥
OfShadow e (WriteGoes.Held w) = ⊥
OfShadow e z = Unit {0}

module _ (p : Place) (t : TxId) (e : Effect) (op : CellOp) (c d : Content) (writes : (a : Option IntentId) (o : Option Owner) → dies (Owner.Tx t) op o ≡ a → is_shadow_note e (note_left op c.value a) ≡ true) (free : (s : WriteOutput) → barred op (Owner.Tx t) None ≡ Some s → ⊥)
    (unowned : c.owner ≡ None) (own : (w : Note) → note_at c.notes p ≡ Some w → is_shadow_note e w ≡ true) where
  bars_none : (s : WriteOutput) → WasBarred p (Owner.Tx t) op s c d → ⊥
  bars_none s l = free s (ap (barred op (Owner.Tx t)) (sym unowned) ∙ l.1)

  of_shadow : (z : WriteGoes) → Logs p (Owner.Tx t) op (walk_so z) c d → OfShadow e z
  of_shadow (WriteGoes.Done w true) l = ap (is_shadow_note e) (sym (left_note p (Owner.Tx t) op c d w (dies (Owner.Tx t) op c.owner) l.0 l.1.0 l.1.1)) ∙ writes (dies (Owner.Tx t) op c.owner) c.owner refl
  of_shadow (WriteGoes.Done w false) l = own w (ap (λ (x : Content). note_at x.notes p) (sym l.1) ∙ l.0)
  of_shadow WriteGoes.NotOwner l = bars_none WriteOutput.NotOwner l
  of_shadow (WriteGoes.Held w) l = bars_none (WriteOutput.Held w) l
  of_shadow (WriteGoes.On b) l = tt
  of_shadow WriteGoes.Stays l = tt
  of_shadow WriteGoes.Worn l = tt

noted_moves : (e : Effect) (at : WriteAt) (w : Note) → is_shadow_note e w ≡ true → IsStill (Stage.Tx (TxAt.Write at)) (tx_output (TxAt.Write at) (note_goes e w)) → ⊥
noted_moves (Effect.Write t k v) at Note.Wrote own h = h
noted_moves (Effect.CondWrite t k r o v) at (Note.Cond b) own h = h
noted_moves e at w own h = cc

aside_moves : (e : Effect) (at : WriteAt) (z : WriteGoes) → Off at z → OfShadow e z → IsStill (Stage.Tx (TxAt.Write at)) (tx_output (TxAt.Write at) (write_leads e z)) → ⊥
aside_moves e at (WriteGoes.On b) off of h = off (same h)
  where
    same : {x y : WriteAt} → Stage.Tx (TxAt.Write x) ≡ Stage.Tx (TxAt.Write y) → x ≡ y
    same e = cc
aside_moves e at WriteGoes.Stays off of h = off
aside_moves e at (WriteGoes.Done w first) off of h = noted_moves e at w of h
aside_moves e at WriteGoes.NotOwner off of h = of
aside_moves e at (WriteGoes.Held w) off of h = of
aside_moves e at WriteGoes.Worn off of h = h

-- ---- a live run
module _ (d : Deployment) (c : Core) (m : Rows) (r : Run) (g : Begun) (h : Invariant d c m) (b : IsBegun c r.id r g) (k : Knows d h.histories r g) where
  abbrev step : ℕ
  step = g.machine.steps

  abbrev place : Place
  place = place_of r.id step

  -- ---- inside a transaction
  module _ (o : RunTx) (in_it : g.tx ≡ Some o) where
    abbrev own : TxId
    own = tx_of r.id r.func o

    abbrev InTx : Effect → TxAt → Type 0
    InTx e a = IsStill (Stage.Tx a) (tx_output a (tx_goes place (begin_of o) e a (query_reply (tx_asks r.func place own e a) c.now m))) → ⊥

    module _ (e : Effect) (is : g.machine.effect ≡ e) (t : ℕ) (key : List ℕ) where
      abbrev x : Item
      x = record { func = r.func; table = t; key = key }

      lock_note : works_on e ≡ true → (w : Note) → note_at (content_of m x).notes place ≡ Some w → is_of_lock w ≡ true
      lock_note works w there = ap (λ z. is_own_note z g.machine.effect w) (sym in_it) ∙ notes_are_own d c m r g x w h b (ap works_on is ∙ works) there

      by_lock : works_on e ≡ true → (l : LockAt) → Fits e (TxAt.Lock l) → SeesBoth m place own x (TxAt.Lock l) → IsStill (Stage.Tx (TxAt.Lock l)) (tx_output (TxAt.Lock l) (lock_leads place e (lock_goes l (query_reply (asks_at r.func t key place (Owner.Tx own) l) c.now m)))) → ⊥
      by_lock works (LockAt.Lockset n) fits sees still = lockset_moves place e n c.now (map.get m (lockset_key r.func r.id n t key)) still
      by_lock works (LockAt.Item at) fits sees still =
          let walk : WriteWalk = record { home = r.func; item = Plain t key; place = place; who = Owner.Tx own; op = CellOp.Lock; at = at } in
          let z : WriteGoes = write_goes Note.Got at (query_reply (write_asks (head_key x) place (Owner.Tx own) CellOp.Lock at) c.now m) in
          let n : Rows = rows_after (write_asks (head_key x) place (Owner.Tx own) CellOp.Lock at) c.now m in
          lock_moves place e at z fits (at_off Note.Got place (Owner.Tx own) c.now m (head_key x) CellOp.Lock at (h.rows.chains x) sees)
          (of_lock place own (content_of m x) (content_of n x) (lock_note works) z (by_op walk m n c.now (h.rows.chains x) sees refl).logs) still

      by_shadow : (i : ℕ) → SeesBoth m place own x (TxAt.Shadow i) → IsStill (Stage.Tx (TxAt.Shadow i)) (tx_output (TxAt.Shadow i) (shadow_read (read_goes None (replied (act Act.Look c.now (chain m (shadow_key own x) i)).1)))) → ⊥
      by_shadow i sees still = shadow_read_moves i _ (reads_off None c.now i (chain m (shadow_key own x)) (h.rows.asides own x).linked) still

      by_item : (i : ℕ) → Fits e (TxAt.Item i) → IsStill (Stage.Tx (TxAt.Item i)) (tx_output (TxAt.Item i) (tx_item_goes e (read_goes None (replied (act Act.Look c.now (chain m (head_key x) i)).1)))) → ⊥
      by_item i fits still = item_moves e i _ (reads_off None c.now i (chain m (head_key x)) (h.rows.chains x)) fits still

      aside_note : (w : Note) → note_at (shadow_of m own x).notes place ≡ Some w → is_shadow_note e w ≡ true
      aside_note w there = ap (λ z. is_shadow_note z w) (sym is) ∙ shadow_notes_are_own d c m r g own x w h b there

      by_aside : (op : CellOp) → ((a : Option IntentId) (o : Option Owner) → dies (Owner.Tx own) op o ≡ a → is_shadow_note e (note_left op (shadow_of m own x).value a) ≡ true) → ((s : WriteOutput) → barred op (Owner.Tx own) None ≡ Some s → ⊥)
          → (at : WriteAt) → SeesBoth m place own x (TxAt.Write at) → IsStill (Stage.Tx (TxAt.Write at)) (tx_output (TxAt.Write at) (write_leads e (write_goes (done_note op) at (query_reply (write_asks (shadow_key own x) place (Owner.Tx own) op at) c.now m)))) → ⊥
      by_aside op writes free at sees still =
          let walk : WriteWalk = record { home = r.func; item = Shadow own t key; place = place; who = Owner.Tx own; op = op; at = at } in
          let z : WriteGoes = write_goes (done_note op) at (query_reply (write_asks (shadow_key own x) place (Owner.Tx own) op at) c.now m) in
          let n : Rows = rows_after (write_asks (shadow_key own x) place (Owner.Tx own) op at) c.now m in
          aside_moves e at z (at_off (done_note op) place (Owner.Tx own) c.now m (shadow_key own x) op at (h.rows.asides own x).linked sees)
          (of_shadow place own e op (shadow_of m own x) (shadow_of n own x) writes free (h.rows.asides own x).unowned aside_note z (by_op walk m n c.now (h.rows.asides own x).linked sees refl).logs) still

    by_tx : (e : Effect) (a : TxAt) → g.machine.effect ≡ e → Fits e a → InItem d m h.plain h.histories r.id r.func o step e a (touched e) → InTx e a
    by_tx (Effect.Read t key) TxAt.Log is fits inside still = log_moves (begin_of o) (given_of (query_reply (tx_asks r.func place own (Effect.Read t key) TxAt.Log) c.now m)) still
    by_tx (Effect.Read t key) (TxAt.Lock l) is fits inside still = by_lock (Effect.Read t key) is t key refl l fits inside.sees still
    by_tx (Effect.Read t key) (TxAt.Shadow i) is fits inside still = by_shadow (Effect.Read t key) is t key i inside.sees still
    by_tx (Effect.Read t key) (TxAt.Item i) is fits inside still = by_item (Effect.Read t key) is t key i fits still
    by_tx (Effect.Read t key) (TxAt.Keep v) is fits inside still = keep_moves v (query_reply (tx_asks r.func place own (Effect.Read t key) (TxAt.Keep v)) c.now m) still
    by_tx (Effect.Write t key v) (TxAt.Lock l) is fits inside still = by_lock (Effect.Write t key v) is t key refl l fits inside.sees still
    by_tx (Effect.Write t key v) (TxAt.Write at) is fits inside still = by_aside (Effect.Write t key v) is t key (CellOp.Write v) (λ a o e. by_none a e) (λ s e. cc) at inside.sees still
      where
        by_none : (a : Option IntentId) → ◌≡◌ {A = Option IntentId} None a → is_shadow_note (Effect.Write t key v) (note_left (CellOp.Write v) (shadow_of m own (record { func = r.func; table = t; key = key })).value a) ≡ true
        by_none None e = refl
        by_none (Some a) e = cc
    by_tx (Effect.CondWrite t key u w v) (TxAt.Lock l) is fits inside still = by_lock (Effect.CondWrite t key u w v) is t key refl l fits inside.sees still
    by_tx (Effect.CondWrite t key u w v) TxAt.Seek is fits inside still = seek_moves c.now (map.get m (shadow_key own (record { func = r.func; table = t; key = key }))) still
    by_tx (Effect.CondWrite t key u w v) (TxAt.Item i) is fits inside still = by_item (Effect.CondWrite t key u w v) is t key i fits still
    by_tx (Effect.CondWrite t key u w v) (TxAt.Head y) is fits inside still = first_moves y c.now (map.get m (shadow_key own (record { func = r.func; table = t; key = key }))) still
    by_tx (Effect.CondWrite t key u w v) (TxAt.Write at) is fits inside still = by_aside (Effect.CondWrite t key u w v) is t key (CellOp.Cond u w v) (λ a o e. by_none a e) (λ s e. cc) at inside.sees still
      where
        by_none : (a : Option IntentId) → ◌≡◌ {A = Option IntentId} None a → is_shadow_note (Effect.CondWrite t key u w v) (note_left (CellOp.Cond u w v) (shadow_of m own (record { func = r.func; table = t; key = key })).value a) ≡ true
        by_none None e = refl
        by_none (Some a) e = cc
    by_tx e a is fits inside still = fits

  -- ---- outside one
  module _ (e : Effect) (u : OnItem) (so : op_of e ≡ Some u) where
    abbrev op : CellOp
    op = cell_of u.does

    by_write : (at : WriteAt) → SeesPut m r.func place at (cell_op e) → IsStill (Stage.Write at) (put_output e at (note_of_op (cell_op e)) (query_reply (put_asks r.id r.func step at (cell_op e)) c.now m)) → ⊥
    by_write at = subst (λ z. SeesPut m r.func place at z → IsStill (Stage.Write at) (put_output e at (note_of_op z) (query_reply (put_asks r.id r.func step at z) c.now m)) → ⊥) (sym (its_cell e u so))
        (λ sees still. let k : RowKey = head_key (item_in r.func u) in put_moves e at (write_goes (done_note op) at (query_reply (write_asks k place (Owner.Intent r.id) op at) c.now m)) (at_off (done_note op) place (Owner.Intent r.id) c.now m k op at (h.rows.chains (item_in r.func u)) sees) still)

  -- the row of a call whose callee is known
  pub called_there : is_some (map.get h.histories (child_of r.id step)) ≡ true → (i : InvokeRow) × (map.get m (invoke_key r.func place) ≡ Some (Row.Invoke i))
  called_there made = by_option (map.get h.histories (child_of r.id step)) (λ none. let clash = sym (ap is_some none) ∙ made in cc)
      (λ j is. call_row (map.get m (invoke_key r.func place)) _ (subst (CallMatches (map.get m (invoke_key r.func place)))
      ((λ i. called_by r.func (k.made i) (is i)) ∙ ap (λ z. if z then Some (j.func, result_of j) else None) (eq-eqb k.instance.func r.func k.func)) (h.rows.keys (invoke_key r.func place))))

  by_note : (f : ℕ) → is_some (map.get h.histories (child_of r.id step)) ≡ true → IsStill (Stage.Async AsyncAt.Note) (async_answer AsyncAt.Note (async_output f AsyncAt.Note (query_reply (registered_asks r.func place) c.now m))) → ⊥
  by_note f made still =
      let i = called_there made in
      registered_moves f c.now i.0 i.0.registered refl (subst (λ z. IsStill (Stage.Async AsyncAt.Note) (async_answer AsyncAt.Note (async_output f AsyncAt.Note (replied (act Act.NoteRegistered c.now z).1)))) i.1 still)

  by_async : (f : ℕ) (a : Value) (at : AsyncAt) → (is_sent at ≡ true → is_some (map.get h.histories (child_of r.id step)) ≡ true)
      → IsStill (Stage.Async at) (async_answer at (async_output f at (query_reply (async_asks r.func place (callee_body r.id r.func step f a None false) at) c.now m))) → ⊥
  by_async f a AsyncAt.Open made still = let t = query_reply (async_asks r.func place (callee_body r.id r.func step f a None false) AsyncAt.Open) c.now m in async_open_moves (invoked_of f t).added (invoked_of f t).registered still
  by_async f a AsyncAt.Register made still = cc
  by_async f a AsyncAt.Note made still = by_note f (made refl) still

  abbrev told_at : Stage → Effect → Option RunTx → QueryReply
  told_at s e o = query_reply (stage_asks r.id r.func g.caller o step e s) c.now m

  by_stage : (s : Stage) (e : Effect) (o : Option RunTx) → g.machine.effect ≡ e → g.tx ≡ o → is_visit s ≡ false → AtStage m h.plain c.book k s e o → IsStill s (stage_output r.id r.func g.caller o (count_changes c.book) step e s (told_at s e o)) → ⊥
  by_stage Stage.Ask (Effect.Read t x) None is out near here still = ask_moves (given_of (told_at Stage.Ask (Effect.Read t x) None)) still
  by_stage (Stage.Walk i) (Effect.Read t x) None is out near here still = let y : Item = record { func = r.func; table = t; key = x } in walk_moves (count_changes c.book) i (Owner.Intent r.id) _ (reads_off (Some (Owner.Intent r.id)) c.now i (chain m (head_key y)) (h.rows.chains y)) still
  by_stage (Stage.Keep v version) (Effect.Read t x) None is out near here still = still
  by_stage (Stage.Write at) e None is out near here still = by_option (op_of e) (λ none. let clash = sym (ap is_some none) ∙ here.0 in cc) (λ u so. by_write e u so at here.1 still)
  by_stage (Stage.Async at) (Effect.Async f a) None is out near here still = by_async f a at here.1
      (subst (λ z. IsStill (Stage.Async at) (if z then async_answer at (async_output f at (query_reply (if z then async_asks r.func place (callee_body r.id r.func step f a None false) at else look_asks r.id r.func) c.now m)) else StageOutput.Ends None None)) here.0 still)
  by_stage (Stage.Call at) (Effect.Call f a) o is in_it near here still = call_moves r.id o at step (call_output f at (told_at (Stage.Call at) (Effect.Call f a) o))
      (subst (λ z. IsStill (Stage.Call at) (if z then call_answer r.id o step (call_output f at (told_at (Stage.Call at) (Effect.Call f a) o)) else StageOutput.Ends None None)) here.0 still)
  by_stage Stage.Back (Effect.Return u) o is in_it near here still = back_moves o (back_of (told_at Stage.Back (Effect.Return u) o)) still
  by_stage Stage.Notify (Effect.Return u) None is out near here still = cc
  by_stage Stage.Close (Effect.Return u) o is in_it near here still = close_moves r.id g.caller u (is_did (told_at Stage.Close (Effect.Return u) o)) still
  by_stage (Stage.Tx a) e (Some o) is in_it near here still = by_tx o in_it e a is here.0 here.1 still
  by_stage (Stage.Decide w) (Effect.End commit) (Some (RunTx.Own o)) is in_it near here still = decide_moves commit w c.now (map.get m (decision_key (own_tx r.id r.func o))) (λ u at. decisions_are_own d c m r g o commit u h b in_it is at) still
  by_stage (Stage.End v) e o is in_it near here still = cc
  by_stage s e o is in_it near here still = here

pub no_turn_stays : NoTurnStays
no_turn_stays d c m r g h b near still = let k = knows d c m h r g b in by_stage d c m r g h b k.0 g.stage g.machine.effect g.tx refl refl near k.1.here still
