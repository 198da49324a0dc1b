-- What a walk says of a lock is what a logged cell says of it.
use Rattle.beldi_lock.proofs.Names.{At, CameOn, Cell, Chain, Content, DidAs, Dies, Err, FitsAt, Going, HasNote, IntentId, IsLinked, Item, LeavesAt, Linked, Lock, LockAt, LockCell, LockOutput, LockTurn, LockWalk, Locks, LocksAreByTheRow, LocksStand, Lockset, LoggedTurn, Logs, None, Note, Ok, Option, Owner, Place, Plain, PutLockset, PutTurn, Row, RowKey, Rows, SeesAt, SeesItem, Some, StandsAt, ActReply, QueryReply, Try, TxId, WriteAt, WriteGoes, WriteWalk, act, after_act, age_of, ap, asks_at, at_of, barred, by_op, chain, cond, content, did, died_at, died_of, dies, entered, false, free, got, if_room, if◌then◌else◌, inl, inr, is_older, item_goes, key_self, linked_by, lock_asks, lock_at, lock_goes, lock_key, lock_next, lock_output, lock_so, lockset_key, next_or, no_content, none-some, none_at_all, note_at, note_goes, note_here, note_of_chain, noted_or, other_owner, owned_or, put_goes, put_row, refl, rows_after, replied, root_of, subst, sym, taken, tells_map, query_reply, true, waited, walk_at, walk_so, write_goes, ℕ, ◌∙◌, ◌≡◌, ◌⊎◌}
use Rattle.beldi_lock.proofs.Names.map

-- who neither waits nor dies meets no other owner
by_age : (t : TxId) (o : Owner) (b : _) → is_older t.intent (age_of o) ≡ b → waited (Owner.Tx t) (Some o) ≡ None → died_of (Owner.Tx t) (Some o) ≡ None → Some o ≡ None
by_age t o true older waits lives = let clash = sym (ap (λ x. if x then Some o else None) older) ∙ waits in cc
by_age t o false older waits lives = let clash = sym (ap (λ x. if x then None else Some (age_of o)) older) ∙ lives in cc

nobody : (t : TxId) (o : Option Owner) → waited (Owner.Tx t) o ≡ None → died_of (Owner.Tx t) o ≡ None → o ≡ None
nobody t None waits lives = refl
nobody t (Some o) waits lives = by_age t o (is_older t.intent (age_of o)) refl waits lives

unheld : (who : Owner) (o : Option Owner) → barred Lock who o ≡ None → dies who Lock o ≡ None → other_owner who o ≡ None
unheld (Owner.Intent a) o bar lives = free (other_owner (Owner.Intent a) o) bar
unheld (Owner.Tx t) o bar lives = nobody t (other_owner (Owner.Tx t) o) (free (waited (Owner.Tx t) (other_owner (Owner.Tx t) o)) bar) lives

-- the age in a death, and what the death left
abbrev age_in : Option Note → Option IntentId
age_in (Some (Note.Died a)) = Some a
age_in o = None

abbrev left_by : Place → Content → Option Note → Content
left_by p c (Some (Note.Died a)) = died_at p a c
left_by p c o = c

module _ (p : Place) (who : Owner) (c d : Content) where
  abbrev Promised : WriteGoes → Type 0
  Promised g = Locks p who (lock_so (item_goes g)) c d × HasNote p (lock_so (item_goes g)) d

  -- what was noted now, by whether who asked died
  done_as : (a : Option IntentId) (n : Note) → dies who Lock c.owner ≡ a → note_at d.notes p ≡ Some n → note_at c.notes p ≡ None → DidAs p who Lock a c d → Promised (WriteGoes.Done n true)
  done_as None n lives is none made = by_note n (sym is ∙ ap (λ x. note_at x.notes p) made.1 ∙ note_here c.notes p Note.Got none) is
    where
      by_note : (n : Note) → Some n ≡ Some Note.Got → note_at d.notes p ≡ Some n → Promised (WriteGoes.Done n true)
      by_note Note.Got same is = ((none, unheld who c.owner made.0 lives, made.1), is)
      by_note n same is = cc
  done_as (Some a) n dead is none made = by_note n (sym is ∙ ap (λ x. note_at x.notes p) made ∙ note_here c.notes p (Note.Died a) none) is
    where
      by_note : (n : Note) → Some n ≡ Some (Note.Died a) → note_at d.notes p ≡ Some n → Promised (WriteGoes.Done n true)
      by_note (Note.Died b) same is =
          (subst (λ o. Dies p who b o c d) (sym none) (dead ∙ ap age_in (sym same), made ∙ ap (left_by p c) (sym same)), is)
      by_note n same is = cc

  stood : (n : Note) → note_at c.notes p ≡ Some n → note_at d.notes p ≡ Some n → d ≡ c → Promised (WriteGoes.Done n false)
  stood Note.Wrote was is same = (same, tt)
  stood (Note.Cond b) was is same = (same, tt)
  stood Note.Got was is same = ((was, same), is)
  stood (Note.Died a) was is same = (subst (λ o. Dies p who a o c d) (sym was) (refl, same), is)
  stood Note.Freed was is same = (same, tt)

  locked : (g : WriteGoes) → Logs p who Lock (walk_so g) c d → Promised g
  locked (WriteGoes.On next) l = (l, tt)
  locked WriteGoes.Stays l = (l, tt)
  locked (WriteGoes.Done n true) l = done_as (dies who Lock c.owner) n refl l.0 l.1.0 l.1.1
  locked (WriteGoes.Done n false) l = stood n (ap (λ x. note_at x.notes p) (sym l.1) ∙ l.0) l.0 l.1
  locked WriteGoes.NotOwner l = (l.2, tt)
  locked (WriteGoes.Held o) l = ((l.0, taken (waited who (other_owner who c.owner)) o l.1, l.2), tt)
  locked WriteGoes.Worn l = (l, tt)

abbrev as_write : LockWalk → WriteAt → WriteWalk
as_write w at = record { home = w.home; item = Plain w.table w.key; place = w.place; who = w.who; op = Lock; at = at }

-- the walk at a stage of the item
abbrev at_item : LockWalk → WriteAt → LockWalk
at_item w at = record w { at = Item at }

-- what it sees where it goes is what the write's walk sees
seen : (w : LockWalk) (at : WriteAt) (f : Chain) (g : WriteGoes) → SeesAt f w.place (at_of (walk_at (as_write w at) g).at) → SeesItem (lock_at (at_item w at) (item_goes g)).at w.place f
seen w at f (WriteGoes.On next) h = h
seen w at f WriteGoes.Stays h = h
seen w at f (WriteGoes.Done Note.Wrote b) h = h
seen w at f (WriteGoes.Done (Note.Cond t) b) h = h
seen w at f (WriteGoes.Done Note.Got b) h = h
seen w at f (WriteGoes.Done (Note.Died a) b) h = h
seen w at f (WriteGoes.Done Note.Freed b) h = h
seen w at f WriteGoes.NotOwner h = h
seen w at f (WriteGoes.Held o) h = h
seen w at f WriteGoes.Worn h = h

module _ (w : LockWalk) (m n : Rows) where
  by_turn : (at : WriteAt) (g : WriteGoes) → LoggedTurn (as_write w at) (walk_at (as_write w at) g) m n (walk_so g) → LockTurn (at_item w at) (lock_at (at_item w at) (item_goes g)) m n (lock_so (item_goes g))
  by_turn at g h =
      let l = locked w.place w.who _ _ g h.logs in
      record { others = h.others; linked = h.linked; grows = h.grows; locks = l.0; noted = l.1; sees = seen w at (chain n (lock_key w)) g h.sees }

  -- the row of a lockset is put
  put_goes_on : (now : ℕ) (o : Option Row) → lock_so (put_goes (replied (act PutLockset now o).1)) ≡ Going
  put_goes_on now None = refl
  put_goes_on now (Some r) = refl

  put_is : (now : ℕ) (o : Option Row) → (act PutLockset now o).0 ≡ Some (put_row o)
  put_is now None = refl
  put_is now (Some r) = refl

  by_put : (k : RowKey) (now : ℕ) → n ≡ after_act PutLockset now k m → PutTurn k m n (lock_so (put_goes (replied (act PutLockset now (map.get m k)).1)))
  by_put k now is =
      let z = (act PutLockset now (map.get m k)).0 in
      record {
        output = put_goes_on now (map.get m k);
        others = λ q apart. ap (λ l. map.get l q) is ∙ got m k q z ∙ ap (λ b. cond b z (map.get m q)) apart;
        put = ap (λ l. map.get l k) is ∙ got m k k z ∙ ap (λ b. cond b z (map.get m k)) (key_self k) ∙ put_is now (map.get m k);
      }

  by_at : (at : LockAt) (now : ℕ) → let y = record w { at = at } in n ≡ rows_after (lock_asks y) now m → let t = query_reply (lock_asks y) now m in LeavesAt at y (lock_next y t) m n (lock_output y t)
  by_at (Lockset begin) now is = by_put (lockset_key w.home w.place.intent begin w.table w.key) now is
  by_at (Item at) now is = λ linked sees. by_turn at (write_goes Note.Got at (query_reply (lock_asks (at_item w at)) now m)) (by_op (as_write w at) m n now linked sees is)

-- an answer, and where the walk is then, are by what it was told
after_told : (w x : LockWalk) (now : ℕ) (m n : Rows) (t : QueryReply) (s : LockOutput) → x ≡ lock_next w t → s ≡ lock_output w t → n ≡ rows_after (lock_asks w) now m → t ≡ query_reply (lock_asks w) now m → LeavesAt w.at w x m n s
after_told w x now m n t s on output after told =
    let z = query_reply (lock_asks w) now m in
    subst (λ y. LeavesAt w.at w y m n s) (sym (on ∙ ap (lock_next w) told)) (subst (LeavesAt w.at w (lock_next w z) m n) (sym (output ∙ ap (lock_output w) told)) (by_at w m n w.at now after))

pub locks_are_by_the_row : LocksAreByTheRow
locks_are_by_the_row w x now old new s (Ok t, h, c) = tells_map {P = λ m n. CameOn (lock_asks w) now old.room (Ok t) m n} {Q = λ m n. LeavesAt w.at w x m n s} old.rows new.rows
    (λ m n q. after_told w x now m n t s h.0 h.1 q.0 q.1) c.rows
locks_are_by_the_row w x now old new s (Err v, h, c) = absurd h

-- ---- what a place came to stands
-- a row where a walk stands for a place that has this note has it; or it has none of the place, and a next
abbrev HasOrNext : Cell → Place → Note → Type 0
HasOrNext c p n = (note_at c.log p ≡ Some n) ⊎ ((note_at c.log p ≡ None) × (k : ℕ) × (c.next ≡ Some k))

record NotedRow (f : Chain) (r : ℕ) (p : Place) (n : Note) : Type 0 where
  cell : Cell
  there : f r ≡ Some (Row.Cell cell)
  shows : HasOrNext cell p n

noted_row : (f : Chain) (p : Place) (n : Note) (r : ℕ) → IsLinked f → SeesAt f p (At.Try r) → note_at (content f).notes p ≡ Some n → NotedRow f r p n
noted_row f p n r linked sees is = by_row (f r) refl
  where
    by_cell : (c : Cell) → f r ≡ Some (Row.Cell c) → Linked f → (o : Option Note) → note_at c.log p ≡ o → (k : Option ℕ) → c.next ≡ k → NotedRow f r p n
    by_cell c there l (Some u) here k after = record { cell = c; there = there; shows = inl (here ∙ sym (note_of_chain f l p r c u sees.1 there here) ∙ is) }
    by_cell c there l None none (Some k) after = record { cell = c; there = there; shows = inr (none, k, after) }
    by_cell c there l None none None ends = absurd (none-some n (sym (none_at_all f l r c sees.0 there ends p sees.1 none) ∙ is))

    by_row : (o : Option Row) → f r ≡ o → NotedRow f r p n
    by_row None none =
        let first : r ≡ 0 = subst (λ z. StandsAt z r) none sees.2 in
        absurd (none-some n (sym (ap (λ (c : Content). note_at c.notes p) (no_content f (sym (ap f first) ∙ none))) ∙ is))
    by_row (Some (Row.Cell c)) there = by_cell c there (linked_by f linked r (Row.Cell c) there) (note_at c.log p) refl c.next refl
    by_row (Some o) there = absurd (subst FitsAt there ((linked_by f linked r o there).fits r))

module _ (p : Place) (who : Owner) (now : ℕ) (n : Note) where
  -- it is told, or the next row is
  abbrev Stands : LockOutput → Type 0
  Stands s = (s ≡ lock_so (note_goes n false)) ⊎ (s ≡ Going)

  abbrev output_by : ℕ → ActReply → LockOutput
  output_by r t = lock_so (item_goes (write_goes Note.Got (Try r) (replied t)))

  abbrev lock_or : Cell → Cell × ActReply
  lock_or c = owned_or p who c (other_owner who c.owner) (if_room c (entered p Note.Got c.value (Some who) c, did))

  told_so : (r : ℕ) (c : Cell) → HasOrNext c p n → Stands (output_by r (act (LockCell p who (root_of 0)) now (Some (Row.Cell c))).1)
  told_so r c (inl is) = inl (ap (λ o. output_by r (noted_or c o (next_or c c.next (lock_or c))).1) is)
  told_so r c (inr h) = inr (ap (λ o. output_by r (noted_or c o (next_or c c.next (lock_or c))).1) h.0 ∙ ap (λ o. output_by r (next_or c o (lock_or c)).1) h.2)

pub locks_stand : LocksStand
locks_stand w now m r n here linked sees is =
    let f = chain m (lock_key w) in
    let c = noted_row f w.place n r linked sees is in
    subst (Stands w.place w.who now n) (sym (output ∙ ap (λ o. output_by w.place w.who now n r (act (LockCell w.place w.who (root_of 0)) now o).1) c.there)) (told_so w.place w.who now n r c.cell c.shows)
  where
    output : lock_output w (query_reply (lock_asks w) now m) ≡ output_by w.place w.who now n r (act (LockCell w.place w.who (root_of 0)) now (chain m (lock_key w) r)).1
    output = ap (λ at. lock_so (lock_goes at (query_reply (asks_at w.home w.table w.key w.place w.who at) now m))) here
