-- What a turn of a walk over the rows of an item is told, by what is so of each thing that it may be told; and what is left of the walk then.
use Rattle.std.specs.FinMap as map
use Rattle.std.proofs.Common.{arith, ◌≡◌, ◌⊎◌, inl, inr, ℕ, suc, ◌+◌, ◌-◌, ◌*◌, ◌<◌, ◌≤◌, ◌==◌, Bool, true, false, cond, if◌then◌else◌, is_some, length, Option, None, Some, eq-eqb, refl, ap, sym, ◌∙◌, subst}
use Rattle.beldi_value.specs.{Id.age_of, Passes.passes, declared.id.IntentId.IntentId, declared.place.Owner.Owner, declared.place.Place.Place, declared.value.Value.Value, declared.value.Value.TheVariants.Null}
use Rattle.beldi_row.{proofs.Gets.got, proofs.Gets.key_self, specs.Key.RowKey, specs.Key.at_row, specs.Log.blank, specs.Log.most_entries, specs.Log.note_at, specs.Table.Rows, specs.declared.act.Act.Act, specs.declared.notes.Note.Note, specs.declared.row.Cell.Cell, specs.declared.row.Row.Row}
use Rattle.beldi_row.specs.Act.{ActReply, act, added, cond_to, did, died, entered, given_or, held, held_or, if_owned, if_room, is_full, next, next_or, no_row, not_full, not_owner, noted, noted_or, other_owner, owned_or, owns, packed, present, tested, unless_held, waits_for}
use Rattle.beldi_daal.proofs.Spares.{write_spares}
use Rattle.beldi_query.{proofs.Promises.rows_there, specs.Query.may_remove, specs.Query.rows_after, specs.Query.replied, specs.Query.query_reply, specs.declared.query.Query.Query}
use Rattle.beldi_chain.specs.{Chain.Chain, Chain.chain, Chain.content, Chain.most_rows, Content.Content}
use Rattle.beldi_links.specs.Links.{At, FitsAt, IsLinked, LeadsTo, Linked, Meets, Passed, ReadsAt, SeesAt, StandsAt}
use Rattle.beldi_links.proofs.{Meets.last_is_last, Meets.next_is_read, Meets.none_noted, Meets.noted_is_noted, Meets.walks_end, Ways.content_is, Ways.few, Ways.one_cell, Ways.same_or}
use Rattle.beldi_daal.specs.{Cell.cell_goes, Cell.done_note, Cell.got_or_held, Cell.in_the_way, Cell.last_row, Cell.op_act, Cell.read_goes, Cell.write_asks, Cell.write_goes, Logged.at_of, declared.cell.CellOp.CellOp, declared.cell.FullRow.FullRow, declared.cell.ReadGoes.ReadGoes, declared.cell.WriteAt.WriteAt, declared.cell.WriteAt.TheVariants.Append, declared.cell.WriteAt.TheVariants.Link, declared.cell.WriteAt.TheVariants.Make, declared.cell.WriteAt.TheVariants.Try, declared.cell.WriteGoes.WriteGoes}
use Rattle.beldi_txn.specs.Visited.{RowsStay, SeesFreeing}
use Rattle.beldi_bound.specs.Visits.{chain_length, put_left}
use Rattle.beldi_bound.proofs.Lengths.{all_below, counts_row, is_counted, length_some, linked_by}

-- ---- an operation on a row that is there
-- what it is told where nothing stands in its way: a lock may die, and what is given back may not be owned
abbrev OnceDone : CellOp → (ActReply → Type 0) → Type 0
OnceDone (CellOp.Write v) P = P did
OnceDone (CellOp.Cond r o v) P = (b : Bool) → P (tested b)
OnceDone CellOp.Lock P = P did × ((a : IntentId) → P (died a))
OnceDone (CellOp.Free v) P = P did × P not_owner

-- what is given back waits for nobody
abbrev pub MayWait : CellOp → Type 0
MayWait (CellOp.Free v) = ⊥
MayWait op = Unit {0}

if_tells : (P : ActReply → Type 0) (b : Bool) (y z : Cell × ActReply) → P y.1 → P z.1 → P (if b then y else z).1
if_tells P true y z h k = h
if_tells P false y z h k = k

if_by : (P : ActReply → Type 0) (b : Bool) (y z : Cell × ActReply) → (b ≡ true → P y.1) → P z.1 → P (if b then y else z).1
if_by P true y z h k = h refl
if_by P false y z h k = k

if_so : (P : ActReply → Type 0) (b : Bool) (y z : Cell × ActReply) → b ≡ true → P y.1 → P (if b then y else z).1
if_so P true y z is h = h
if_so P false y z is h = cc

-- of a predicate on what is told
module _ (P : ActReply → Type 0) (p : Place) (who : Owner) (now : ℕ) (c : Cell) where
  record OnCell (op : CellOp) : Type 0 where
    its : (w : Note) → note_at c.log p ≡ Some w → P (noted w)
    goes : (k : ℕ) → c.next ≡ Some k → P (next k)
    waits : (o : Owner) → note_at c.log p ≡ None → c.next ≡ None → other_owner who c.owner ≡ Some o → (op ≡ CellOp.Lock → waits_for who o ≡ true) → MayWait op → P (held o)
    full : P (packed c.value c.owner)
    once : OnceDone op P

  tail_tells : (n : Option Note) (x : Option ℕ) (z : Cell × ActReply) → ((w : Note) → n ≡ Some w → P (noted w)) → ((k : ℕ) → x ≡ Some k → P (next k)) → (n ≡ None → x ≡ None → P z.1) → P (noted_or c n (next_or c x z)).1
  tail_tells (Some w) x z its goes last = its w refl
  tail_tells None (Some k) z its goes last = goes k refl
  tail_tells None None z its goes last = last refl refl

  held_tells : (o : Option Owner) (z : Cell × ActReply) → ((w : Owner) → o ≡ Some w → P (held w)) → P z.1 → P (held_or c o z).1
  held_tells None z waits h = h
  held_tells (Some w) z waits h = waits w refl

  room_tells : (z : Cell × ActReply) → P (packed c.value c.owner) → P z.1 → P (if_room c z).1
  room_tells z full h = if_tells P (is_full c) (c, packed c.value c.owner) z full h

  owned_tells : (o : Option Owner) (z : Cell × ActReply) → ((w : Owner) → o ≡ Some w → waits_for who w ≡ true → P (held w)) → ((a : IntentId) → P (died a)) → P (packed c.value c.owner) → P z.1 → P (owned_or p who c o z).1
  owned_tells None z waits dies full h = h
  owned_tells (Some w) z waits dies full h = let y : Cell × ActReply = (entered p (Note.Died (age_of w)) c.value c.owner c, died (age_of w)) in if_by P (waits_for who w) (c, held w) (if_room c y) (waits w refl) (room_tells y full (dies (age_of w)))

  cell_tells : (op : CellOp) → OnCell op → P (act (op_act p who op) now (Some (Row.Cell c))).1
  cell_tells (CellOp.Write v) h = let z : Cell × ActReply = (entered p Note.Wrote v c.owner c, did) in
      tail_tells (note_at c.log p) c.next (unless_held who c (if_room c z)) h.its h.goes (λ none last. held_tells (other_owner who c.owner) (if_room c z) (λ w is. h.waits w none last is (λ e. cc) tt) (room_tells z h.full h.once))
  cell_tells (CellOp.Cond k o v) h = let b = passes c.value k o in
      tail_tells (note_at c.log p) c.next (unless_held who c (if_room c (cond_to b p v c))) h.its h.goes (λ none last. held_tells (other_owner who c.owner) (if_room c (cond_to b p v c)) (λ w is. h.waits w none last is (λ e. cc) tt) (room_tells (cond_to b p v c) h.full (h.once b)))
  cell_tells CellOp.Lock h = let z : Cell × ActReply = (entered p Note.Got c.value (Some who) c, did) in
      tail_tells (note_at c.log p) c.next (owned_or p who c (other_owner who c.owner) (if_room c z)) h.its h.goes
      (λ none last. owned_tells (other_owner who c.owner) (if_room c z) (λ w is older. h.waits w none last is (λ e. older) tt) h.once.1 h.full (room_tells z h.full h.once.0))
  cell_tells (CellOp.Free v) h = let z : Cell × ActReply = (entered p Note.Freed (given_or v c.value) None c, did) in
      tail_tells (note_at c.log p) c.next (if_owned who c (if_room c z)) h.its h.goes (λ none last. if_tells P (owns who c.owner) (if_room c z) (c, not_owner) (room_tells z h.full h.once.0) h.once.1)

  -- a full cell is linked, or was
  link_tells : (n : ℕ) (x : Option ℕ) → is_full c ≡ true → ((k : ℕ) → x ≡ Some k → P (next k)) → P (next n) → P (next_or c x (if is_full c then (record c { next = Some n }, next n) else (c, not_full))).1
  link_tells n (Some k) full goes h = goes k refl
  link_tells n None full goes h = if_so P (is_full c) (record c { next = Some n }, next n) (c, not_full) full h

none_tells : (P : ActReply → Type 0) (p : Place) (who : Owner) (now : ℕ) (op : CellOp) → P no_row → P (act (op_act p who op) now None).1
none_tells P p who now (CellOp.Write v) h = h
none_tells P p who now (CellOp.Cond k o v) h = h
none_tells P p who now CellOp.Lock h = h
none_tells P p who now (CellOp.Free v) h = h

-- ---- a row that is made, and a lock that is asked for
module _ (P : ActReply → Type 0) (now : ℕ) where
  pub made_tells : (v : Value) (o : Option Owner) (r : Option Row) → P added → P present → P (act (Act.MakeCell v o blank) now r).1
  made_tells v o None new old = new
  made_tells v o (Some r) new old = old

  pub asked_tells : (r : Option Row) → P added → P present → P (act Act.PutLockset now r).1
  asked_tells None new old = new
  asked_tells (Some r) new old = old

-- ---- rows only come, so less is left of a walk over them
abbrev pub Comes : Bool → Bool → Type 0
Comes b c = b ≡ true → c ≡ true

pub there_stays : (q : Query) → may_remove q ≡ false → (now : ℕ) (m : Rows) (k : RowKey) → Comes (is_some (map.get m k)) (is_some (map.get (rows_after q now m) k))
there_stays = rows_there

-- a row that was made is there
pub made_there : (now : ℕ) (m : Rows) (k : RowKey) (v : Value) (o : Option Owner) → is_some (map.get (rows_after (Query.Act k (Act.MakeCell v o blank)) now m) k) ≡ true
made_there now m k v o = let z : Option Row = (act (Act.MakeCell v o blank) now (map.get m k)).0 in ap is_some (got m k k z ∙ ap (λ b. cond b z (map.get m k)) (key_self k)) ∙ by_row (map.get m k)
  where
    by_row : (r : Option Row) → is_some (act (Act.MakeCell v o blank) now r).0 ≡ true
    by_row None = refl
    by_row (Some r) = refl

-- ---- a turn of a write
-- the notes that an operation leaves
abbrev pub Leaves : CellOp → Note → Type 0
Leaves (CellOp.Write v) Note.Wrote = Unit {0}
Leaves (CellOp.Cond r o v) (Note.Cond b) = Unit {0}
Leaves CellOp.Lock Note.Got = Unit {0}
Leaves CellOp.Lock (Note.Died a) = Unit {0}
Leaves (CellOp.Free v) Note.Freed = Unit {0}
Leaves op w = ⊥

-- what is so where another owner is in the way: the place has no note, and who asks for a lock waits for that owner
pub record IsHeld (f : Chain) (p : Place) (who : Owner) (op : CellOp) (o : Owner) : Type 0 where
  pub other : other_owner who (content f).owner ≡ Some o
  pub note : note_at (content f).notes p ≡ None
  pub older : op ≡ CellOp.Lock → waits_for who o ≡ true
  pub waits : MayWait op

-- what is so where it goes: less is left of it, by how much was left, and what is; or what is said of its place and of the owner is so
abbrev pub Turned : (WriteAt → ℕ) → ℕ → Chain → Place → Owner → CellOp → WriteGoes → Type 0
Turned after n f p who op (WriteGoes.On w) = suc (after w) ≤ n
Turned after n f p who op WriteGoes.Stays = ⊥
Turned after n f p who op (WriteGoes.Done w true) = Leaves op w
Turned after n f p who op (WriteGoes.Done w false) = note_at (content f).notes p ≡ Some w
Turned after n f p who op WriteGoes.NotOwner = MayWait op → ⊥
Turned after n f p who op (WriteGoes.Held o) = IsHeld f p who op o
Turned after n f p who op WriteGoes.Worn = Unit {0}

-- ---- what a row says of the chain
module _ (f : Chain) (l : Linked f) (r : ℕ) (c : Cell) (meets : Meets f r) (is : f r ≡ Some (Row.Cell c)) where
  note_counts : (p : Place) (w : Note) → Passed f p r → note_at c.log p ≡ Some w → note_at (content f).notes p ≡ Some w
  note_counts p w passed note = by_rest (l.rest r c is)
    where
      by_rest : (r ≡ l.last + 1) ⊎ (LeadsTo f 0 r × LeadsTo f r l.last) → note_at (content f).notes p ≡ Some w
      by_rest (inl at) = let none = ap (λ z. note_at z p) (l.spare c (ap f (sym at) ∙ is)).log in let clash = sym none ∙ note in cc
      by_rest (inr on) = noted_is_noted f l p r c w on.0 on.1 passed is note

  none_counts : (p : Place) → Passed f p r → c.next ≡ None → note_at c.log p ≡ None → note_at (content f).notes p ≡ None
  none_counts p passed ends none =
      let at = last_is_last f l.last l.tail l.path l.there l.ends r c meets is ends in
      let same = one_cell c l.tail (sym is ∙ ap f at ∙ l.there) in
      none_noted f l p (subst (Passed f p) at passed) (ap (λ (z : Cell). note_at z.log p) (sym same) ∙ none)

  owner_counts : c.next ≡ None → c.owner ≡ (content f).owner
  owner_counts none =
      let at = last_is_last f l.last l.tail l.path l.there l.ends r c meets is none in
      let same = one_cell c l.tail (sym is ∙ ap f at ∙ l.there) in
      ap (λ (z : Cell). z.owner) same ∙ sym (ap (λ (z : Content). z.owner) (content_is f l.path.0 l.last l.tail l.path.1 l.there l.ends l.few))

-- .. and where a walk stands is a number of a row
pub meets_few : (f : Chain) (l : Linked f) (r : ℕ) → Meets f r → r < most_rows
meets_few f l r meets = let path = walks_end f l.last l.tail l.path l.there l.ends r meets in let most = few f r path.0 l.last path.1 in let last = l.few in omega (arith, most, last)

-- the row that is next is there, and has the next number
pub next_stands : (f : Chain) (l : Linked f) (r : ℕ) (c : Cell) (k : ℕ) → f r ≡ Some (Row.Cell c) → c.next ≡ Some k → (k ≡ r + 1) × Meets f k × (y : Row) × (f k ≡ Some y)
next_stands f l r c k is to = let at = l.numbers r c k is to in let reads = next_is_read f l r c k is to in let row = by_row (f k) refl reads.1 in (at, reads.0, row.0, row.1)
  where
    by_row : (o : Option Row) → f k ≡ o → StandsAt o k → (y : Row) × (f k ≡ Some y)
    by_row None none zero = let at = l.numbers r c k is to in absurd (omega (arith, at, zero))
    by_row (Some y) some h = (y, some)

-- ---- the turn of a write, over the rows of an item that go on to those in the end
module _ (e m : Rows) (now : ℕ) (head : RowKey) (first : at_row head 0 ≡ head) (p : Place) (who : Owner) (op : CellOp) (linked : IsLinked (chain m head)) where
  abbrev f : Chain
  f = chain m head

  abbrev c : ℕ
  c = chain_length e head

  abbrev asks : WriteAt → Query
  asks w = write_asks head p who op w

  abbrev late : WriteAt → Rows
  late w = rows_after (asks w) now m

  -- whether its first row is there
  abbrev there : Rows → Bool
  there n = is_some (map.get n head)

  abbrev Turns : WriteAt → Type 0
  Turns w = Turned (put_left c (there (late w))) (put_left c (there m) w) f p who op (write_goes (done_note op) w (query_reply (asks w) now m))

  some : 1 ≤ c
  some = length_some e head

  first_row : (r : ℕ) (x : Row) → f r ≡ Some x → there m ≡ true
  first_row r x is = ap (λ k. is_some (map.get m k)) (sym first) ∙ all_below f r x linked is 0 (omega arith)

  -- at a row ..
  abbrev Tried : ℕ → Bool → ActReply → Type 0
  Tried r b t = Turned (put_left c (there (late (Try r)))) (put_left c b (Try r)) f p who op (write_goes (done_note op) (Try r) (replied t))

  once : (op : CellOp) (r : ℕ) (n : ℕ) (after : WriteAt → ℕ) → OnceDone op (λ t. Turned after n f p who op (write_goes (done_note op) (Try r) (replied t)))
  once (CellOp.Write v) r n after = tt
  once (CellOp.Cond k o v) r n after = λ b. tt
  once CellOp.Lock r n after = (tt, λ a. tt)
  once (CellOp.Free v) r n after = (tt, λ h. h)

  full_goes_on : (r : ℕ) (v : Value) (o : Option Owner) → Tried r true (packed v o)
  full_goes_on r v o = by_last (r == last_row)
    where
      by_last : (b : Bool) → Turned (put_left c (there (late (Try r)))) (put_left c true (Try r)) f p who op (if b then WriteGoes.Worn else WriteGoes.On (Append (r + 1) (record { value = v; owner = o })))
      by_last true = tt
      by_last false = omega arith

  -- .. a next one leaves less
  goes_on : (r : ℕ) (x : Cell) → f r ≡ Some (Row.Cell x) → RowsStay (late (Try r)) e → (k : ℕ) → x.next ≡ Some k → suc (put_left c (there (late (Try r))) (Try k)) ≤ put_left c true (Try r)
  goes_on r x is stay k to = goes (next_stands f (linked_by f (f 0) r (Row.Cell x) linked is) r x k is to)
    where
      stays : RowsStay m e
      stays k h = stay k (there_stays (asks (Try r)) (write_spares head p who op (Try r)) now m k h)

      still : there (late (Try r)) ≡ true
      still = there_stays (asks (Try r)) (write_spares head p who op (Try r)) now m head (first_row r (Row.Cell x) is)

      goes : (k ≡ r + 1) × Meets f k × (y : Row) × (f k ≡ Some y) → suc (put_left c (there (late (Try r))) (Try k)) ≤ put_left c true (Try r)
      goes (at, meets, y, row) =
          let few = is_counted e m head k y stays linked row (meets_few f (linked_by f (f 0) r (Row.Cell x) linked is) k meets) in
          let less = ap (λ b. put_left c b (Try k)) still in
          omega (arith, at, few, less)

  -- .. and the first one is made where there is none
  abbrev Makes : ℕ → Type 0
  Makes r = suc (put_left c (there (late (Try r))) Make) ≤ put_left c (there m) (Try r)

  -- what is told at a row where a walk may stand, by what is so of each
  by_stand : (r : ℕ) (P : Bool → ActReply → Type 0) → StandsAt (f r) r → (Makes r → P (there m) no_row) → ((x : Cell) → f r ≡ Some (Row.Cell x) → P true (act (op_act p who op) now (Some (Row.Cell x))).1) → P (there m) (act (op_act p who op) now (f r)).1
  by_stand r P stands makes on_row = by_row (f r) refl stands
    where
      by_row : (o : Option Row) → f r ≡ o → StandsAt o r → P (there m) (act (op_act p who op) now (f r)).1
      by_row None none zero =
          let absent : there m ≡ false = ap (λ k. is_some (map.get m k)) (sym first) ∙ ap (λ k. is_some (f k)) (sym zero) ∙ ap is_some none in
          let less = ap (λ b. put_left c b (Try r)) absent in
          subst (λ y. P (there m) (act (op_act p who op) now y).1) (sym none) (none_tells (P (there m)) p who now op (makes (omega (arith, less, zero, some))))
      by_row (Some (Row.Cell x)) is stands = subst (λ y. P (there m) (act (op_act p who op) now y).1) (sym is) (subst (λ b. P b (act (op_act p who op) now (Some (Row.Cell x))).1) (sym (first_row r (Row.Cell x) is)) (on_row x is))
      by_row (Some y) is stands = absurd (subst FitsAt is ((linked_by f (f 0) r y linked is).fits r))

  tries : (r : ℕ) → SeesAt f p (At.Try r) → RowsStay (late (Try r)) e → Turns (Try r)
  tries r sees stay = by_stand r (Tried r) sees.2 (λ less. less) on_row
    where
      on_row : (x : Cell) → f r ≡ Some (Row.Cell x) → Tried r true (act (op_act p who op) now (Some (Row.Cell x))).1
      on_row x is = let l : Linked f = linked_by f (f 0) r (Row.Cell x) linked is in cell_tells (Tried r true) p who now x op (record {
        its = λ w note. note_counts f l r x sees.0 is p w sees.1 note;
        goes = goes_on r x is stay;
        waits = λ o none last other older waits. record {
          other = subst (λ z. other_owner who z ≡ Some o) (owner_counts f l r x sees.0 is last) other;
          note = none_counts f l r x sees.0 is p sees.1 last none;
          older = older;
          waits = waits;
        };
        full = full_goes_on r x.value x.owner;
        once = once op r (put_left c true (Try r)) (put_left c (there (late (Try r))));
      })

  -- .. or where it makes one ..
  makes : Turns Make
  makes =
      let less = ap (λ b. put_left c b (Try 0)) (made_there now m head Null None) in
      made_tells (λ t. Turned (put_left c (there (late Make))) (put_left c (there m) Make) f p who op (write_goes (done_note op) Make (replied t))) now Null None (map.get m head) (omega (arith, less, some)) (omega (arith, less, some))

  appends : (n : ℕ) (t : FullRow) → SeesAt f p (At.Append n t.value t.owner) → RowsStay (late (Append n t)) e → Turns (Append n t)
  appends n t (r, after, meets, passed, told) stay =
      made_tells (λ z. Turned (put_left c (there (late (Append n t)))) (put_left c (there m) (Append n t)) f p who op (write_goes (done_note op) (Append n t) (replied z))) now t.value t.owner (map.get m (at_row head n)) (omega (arith, few)) (omega (arith, few))
    where
      made : is_some (chain e head n) ≡ true
      made = stay (at_row head n) (made_there now m (at_row head n) t.value t.owner)

      before_it : (i : ℕ) → i ≤ r → is_some (chain e head i) ≡ true
      before_it i low = stay (at_row head i) (there_stays (asks (Append n t)) refl now m (at_row head i) (all_below f r (Row.Cell told.cell) linked told.there i low))

      below : (i : ℕ) → i ≤ n → is_some (chain e head i) ≡ true
      below i low = same_or i n (λ same. subst (λ j. is_some (chain e head j) ≡ true) (sym same) made)
          (λ apart. before_it i (let next = after.next in let differs : i ≡ n → ⊥ = λ same. (let yes = eq-eqb i n same in let clash = sym apart ∙ yes in cc) in omega (arith, next, low, differs)))

      few : n < c
      few = counts_row e head n below after.few

  -- .. or links it
  abbrev Linking : ℕ → ActReply → Type 0
  Linking n t = Turned (put_left c (there (late (Link n)))) (put_left c (there m) (Link n)) f p who op (write_goes (done_note op) (Link n) (replied t))

  links : (n : ℕ) → SeesAt f p (At.Link n) → RowsStay (late (Link n)) e → Turns (Link n)
  links n (r, after, meets, passed, row) stay = by_key (n - 1) (let next = after.next in omega (arith, next))
    where
      still : there (late (Link n)) ≡ true
      still = there_stays (asks (Link n)) refl now m head (first_row r (Row.Cell row.cell) row.there)

      full : is_full row.cell ≡ true
      full = eq-eqb (length row.cell.log) most_entries row.full

      goes : (k : ℕ) → k ≡ n → Linking n (next k)
      goes k at = let less = ap (λ b. put_left c b (Try k)) still in omega (arith, less, at)

      by_key : (k : ℕ) → k ≡ r → Linking n (act (Act.LinkCell n) now (f k)).1
      by_key k at = subst (λ z. Linking n (act (Act.LinkCell n) now z).1) (sym (ap f at ∙ row.there))
          (link_tells (Linking n) p who now row.cell n row.cell.next full (λ k to. goes k (let next = after.next in let number = (linked_by f (f 0) r (Row.Cell row.cell) linked row.there).numbers r row.cell k row.there to in omega (arith, next, number))) (goes n refl))

  pub put_turn : (w : WriteAt) → SeesAt f p (at_of w) → RowsStay (late w) e → Turns w
  put_turn (Try r) sees stay = tries r sees stay
  put_turn Make sees stay = makes
  put_turn (Append n t) sees stay = appends n t sees stay
  put_turn (Link n) sees stay = links n sees stay

-- ---- the turn of a walk that gives an item back
-- where it goes less is left of it
abbrev pub Freed : (WriteAt → ℕ) → ℕ → WriteGoes → Type 0
Freed after n (WriteGoes.On w) = suc (after w) ≤ n
Freed after n WriteGoes.Stays = ⊥
Freed after n (WriteGoes.Held o) = ⊥
Freed after n g = Unit {0}

module _ (e m : Rows) (now : ℕ) (head : RowKey) (first : at_row head 0 ≡ head) (p : Place) (who : Owner) (u : Option Value) (linked : IsLinked (chain m head)) where
  abbrev frees_late : WriteAt → Rows
  frees_late w = rows_after (write_asks head p who (CellOp.Free u) w) now m

  abbrev Frees : WriteAt → Type 0
  Frees w = Freed (put_left (chain_length e head) (is_some (map.get (frees_late w) head))) (put_left (chain_length e head) (is_some (map.get m head)) w) (write_goes Note.Freed w (query_reply (write_asks head p who (CellOp.Free u) w) now m))

  -- it is the turn of a write ..
  frees_by : (after : WriteAt → ℕ) (n : ℕ) (g : WriteGoes) → Turned after n (chain m head) p who (CellOp.Free u) g → Freed after n g
  frees_by after n (WriteGoes.On w) h = h
  frees_by after n WriteGoes.Stays h = h
  frees_by after n (WriteGoes.Held o) h = h.waits
  frees_by after n g h = tt

  frees_seen : (w : WriteAt) → SeesAt (chain m head) p (at_of w) → RowsStay (frees_late w) e → Frees w
  frees_seen w sees stay = frees_by (put_left (chain_length e head) (is_some (map.get (frees_late w) head))) (put_left (chain_length e head) (is_some (map.get m head)) w) (write_goes Note.Freed w (query_reply (write_asks head p who (CellOp.Free u) w) now m))
      (put_turn e m now head first p who (CellOp.Free u) linked w sees stay)

  -- .. but at a row it needs not to know which rows have its place
  module _ (r : ℕ) where
    abbrev after : WriteAt → ℕ
    after = put_left (chain_length e head) (is_some (map.get (frees_late (Try r)) head))

    abbrev Tries : Bool → ActReply → Type 0
    Tries b t = Freed after (put_left (chain_length e head) b (Try r)) (write_goes Note.Freed (Try r) (replied t))

    full_frees : (b : Bool) (v : Value) (o : Option Owner) → Freed after (put_left (chain_length e head) true (Try r)) (if b then WriteGoes.Worn else WriteGoes.On (Append (r + 1) (record { value = v; owner = o })))
    full_frees true v o = tt
    full_frees false v o = omega arith

    frees_tries : ReadsAt (chain m head) r → RowsStay (frees_late (Try r)) e → Frees (Try r)
    frees_tries reads stay = by_stand e m now head first p who (CellOp.Free u) linked r Tries reads.1 (λ less. less)
        (λ x is. cell_tells (Tries true) p who now x (CellOp.Free u) (record {
          its = λ w note. tt;
          goes = goes_on e m now head first p who (CellOp.Free u) linked r x is stay;
          waits = λ o none last other older waits. absurd waits;
          full = full_frees (r == last_row) x.value x.owner;
          once = (tt, tt);
        }))

  pub free_turn : (own : Bool) (w : WriteAt) → SeesFreeing own (chain m head) p w → RowsStay (frees_late w) e → Frees w
  free_turn own (Try r) sees stay = frees_tries r sees.0 stay
  free_turn own w sees stay = frees_seen w sees stay

-- ---- the turn of a read
abbrev pub ReadOn : ℕ → ℕ → Option Owner → Chain → ReadGoes → Type 0
ReadOn c r who f (ReadGoes.On k) = (k ≡ r + 1) × (k < c)
ReadOn c r who f ReadGoes.Stays = ⊥
ReadOn c r who f (ReadGoes.Got v) = Unit {0}
ReadOn c r who f (ReadGoes.Held o) = in_the_way who (content f).owner ≡ Some o

module _ (e m : Rows) (now : ℕ) (head : RowKey) (who : Option Owner) (r : ℕ) (linked : IsLinked (chain m head)) (reads : ReadsAt (chain m head) r) where
  abbrev Reads : ReadGoes → Type 0
  Reads g = ReadOn (chain_length e head) r who (chain m head) g

  pub read_turn : let q = Query.Act (at_row head r) Act.Look in RowsStay (rows_after q now m) e → Reads (read_goes who (query_reply q now m))
  read_turn stay = by_row (chain m head r) refl
    where
      found : (x : Cell) (o : Option Owner) → ((w : Owner) → o ≡ Some w → Reads (ReadGoes.Held w)) → Reads (got_or_held x o)
      found x None waits = tt
      found x (Some w) waits = waits w refl

      by_next : (x : Cell) (n : Option ℕ) → chain m head r ≡ Some (Row.Cell x) → x.next ≡ n → Reads (cell_goes who x n)
      by_next x None is last = let l = linked_by (chain m head) (chain m head 0) r (Row.Cell x) linked is in
          found x (in_the_way who x.owner) (λ w other. subst (λ z. in_the_way who z ≡ Some w) (owner_counts (chain m head) l r x reads.0 is last) other)
      by_next x (Some k) is to =
          let l = linked_by (chain m head) (chain m head 0) r (Row.Cell x) linked is in
          let there = next_stands (chain m head) l r x k is to in
          (there.0, is_counted e m head k there.2 (λ k h. stay k (there_stays (Query.Act (at_row head r) Act.Look) refl now m k h)) linked there.3 (meets_few (chain m head) l k there.1))

      by_row : (o : Option Row) → chain m head r ≡ o → Reads (read_goes who (replied (act Act.Look now (chain m head r)).1))
      by_row None none = subst (λ y. Reads (read_goes who (replied (act Act.Look now y).1))) (sym none) tt
      by_row (Some (Row.Cell x)) is = subst (λ y. Reads (read_goes who (replied (act Act.Look now y).1))) (sym is) (by_next x x.next is refl)
      by_row (Some y) is = absurd (subst FitsAt is ((linked_by (chain m head) (chain m head 0) r y linked is).fits r))

-- ---- how much is left of a write
pub put_falls : (c : ℕ) (a b : Bool) (w : WriteAt) → Comes a b → put_left c b w ≤ put_left c a w
put_falls c a b Make h = omega arith
put_falls c a b (Append n t) h = omega arith
put_falls c a b (Link n) h = omega arith
put_falls c false false (Try r) h = omega arith
put_falls c false true (Try r) h = omega arith
put_falls c true true (Try r) h = omega arith
put_falls c true false (Try r) h = let clash = h refl in cc

pub put_some : (c : ℕ) (b : Bool) (w : WriteAt) → 1 ≤ c → 1 ≤ put_left c b w
put_some c true (Try r) some = omega arith
put_some c false (Try r) some = omega arith
put_some c b Make some = omega (arith, some)
put_some c b (Append n t) some = omega arith
put_some c b (Link n) some = omega arith

-- .. wherever it stands
pub put_few : (c : ℕ) (b : Bool) (w : WriteAt) → 1 ≤ c → put_left c b w ≤ 3 * c + 1
put_few c true (Try r) some = omega (arith, some)
put_few c false (Try r) some = omega (arith, some)
put_few c b Make some = omega arith
put_few c b (Append n t) some = omega arith
put_few c b (Link n) some = omega (arith, some)
