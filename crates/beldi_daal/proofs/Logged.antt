-- A chain is a logged cell.
use Rattle.std.specs.FinMap as map
use Rattle.std.proofs.Common.{◌≡◌, ℕ, ◌+◌, ◌-◌, ◌<◌, Bool, true, false, if◌then◌else◌, [], length, Option, None, Some, Ok, Err, refl, ap, sym, ◌∙◌, subst, arith, eq-eqb}
use Rattle.beldi_value.specs.declared.{place.Owner.Owner, value.Value.Value, value.Value.TheVariants.Null}
use Rattle.beldi_row.specs.Act.{ActReply, act, next, not_full, next_or, is_full}
use Rattle.beldi_row.{specs.declared.notes.Note.Note, specs.declared.row.Cell.Cell, specs.declared.row.Row.Row, specs.declared.act.Act.TheVariants.LinkCell, specs.declared.act.Act.TheVariants.Look, specs.declared.act.Act.TheVariants.MakeCell, specs.declared.table.TableErr.TableErr, specs.declared.table.TableErr.TheVariants.OutOfMemory, specs.declared.table.TableErr.TheVariants.Failed, specs.declared.table.TableErr.TheVariants.Full, specs.Key.RowKey, specs.Key.at_row, specs.Log.blank, specs.Log.most_entries, specs.Log.note_at, specs.Table.Rows, specs.Table.after_act, specs.Table.set_row, proofs.Tells.tells_map, proofs.Unchanged.left}
use Rattle.beldi_chain.{specs.Chain.Chain, specs.Chain.chain, specs.Chain.content, specs.Chain.most_rows, specs.Chain.most_rows_are, specs.Content.Content, proofs.OneRow.no_content}
use Rattle.beldi_links.specs.Links.{At, Fits, FitsAt, GrowsBy, IsAfter, IsLinked, Linkable, Linked, LinkedFrom, Meets, Passed, ReadsAt, RowsGrow, SeesAt, SetTo, StandsAt}
use Rattle.beldi_links.proofs.{Grows.making_grows, Grows.one_grows, Grows.others_keep, LinkKeeps.first_linked, LinkKeeps.linked as link_changes_nothing, LinkKeeps.linking_keeps, LinkKeeps.made as making_changes_nothing, LinkKeeps.making_keeps, Meets.linked_is_seen, Meets.next_is_read, Meets.spare_is_made, Meets.spare_is_seen, Meets.walks_begin, Ways.content_is, Ways.one_cell}
use Rattle.beldi_query.{specs.Query.QueryReply, specs.Query.replied, specs.Query.rows_after, specs.Query.query_reply, specs.Query.CameOn, proofs.Looks.look_stands, proofs.Looks.never_full}
use Rattle.beldi_daal.specs.{Cell.op_act, Cell.done_note, Cell.write_asks, Cell.write_goes, Cell.cell_goes, Cell.got_or_held, Cell.in_the_way, Cell.read_goes, Logged.LoggedTurn, Logged.LooksOn, Logged.ReadTurn, Logged.ReadsAreContents, Logged.WritesAreLogged, Logged.at_of, ReadWalk.read_asks, ReadWalk.read_at, ReadWalk.read_key, ReadWalk.read_next, ReadWalk.read_output, ReadWalk.read_so, WriteWalk.walk_asks, WriteWalk.walk_at, WriteWalk.walk_key, WriteWalk.walk_next, WriteWalk.walk_output, WriteWalk.walk_so}
use Rattle.beldi_daal.specs.declared.{cell.FullRow.FullRow, cell.ReadGoes.ReadGoes, cell.WriteAt.WriteAt, cell.WriteAt.TheVariants.Append, cell.WriteAt.TheVariants.Link, cell.WriteAt.TheVariants.Make, cell.WriteAt.TheVariants.Try, cell.WriteGoes.WriteGoes, read_walk.ReadOutput.ReadOutput, read_walk.ReadWalk.ReadWalk, walk.WriteOutput.TheVariants.Going, walk.WriteWalk.WriteWalk}
use Rattle.beldi_daal.proofs.OneRow.{AtEnd, on_cell, on_none}
use Rattle.beldi_daal.proofs.WalkTurns.{Turn, at_last, content_here, first_head, is_set, is_tail, linked_by, moved, none_at_all, still, tried_cell}

-- ---- a cell that is made
abbrev made_cell : Value → Option Owner → Cell
made_cell v o = record { value = v; owner = o; log = []; next = None; marked = false; dangled = None }

made_fits : (v : Value) (o : Option Owner) → Fits (made_cell v o)
made_fits v o = record { entries = omega arith; marked = refl; dangled = refl }

module _ (w : WriteWalk) (m : Rows) (linked : IsLinked (chain m (walk_key w))) (stood : SeesAt (chain m (walk_key w)) w.place (at_of w.at)) (now : ℕ) where
  abbrev f : Chain
  f = chain m (walk_key w)

  -- ---- an operation is tried
  tried_row : (r : ℕ) → SeesAt f w.place (At.Try r) → (y : Row) → Linked f → f r ≡ Some y → FitsAt (Some y) → Turn w m (Try r) r (act (op_act w.place w.who w.op) now (Some y))
  tried_row r sees (Row.Cell c) l is fits = on_cell w.place w.who now w.op c (λ z. Turn w m (Try r) r z) (tried_cell w m linked stood l r c sees.0 sees.1 is)
  tried_row r sees y l is fits = absurd fits

  tried : (r : ℕ) → SeesAt f w.place (At.Try r) → (y : Option Row) → f r ≡ y → Turn w m (Try r) r (act (op_act w.place w.who w.op) now y)
  tried r sees None is = on_none w.place w.who now w.op (λ z. Turn w m (Try r) r z) (still w m linked (walk_at w (WriteGoes.On Make)) Going r None (sym is) refl tt)
  tried r sees (Some y) is = let l : Linked f = linked_by f linked r y is in tried_row r sees y l is (subst FitsAt is (l.fits r))

  -- ---- the first row is made
  module _ (none : (n : ℕ) → f n ≡ None) where
    abbrev first : Chain
    first = chain (set_row m (at_row (walk_key w) 0) (Some (Row.Cell (made_cell Null None)))) (walk_key w)

    first_set : SetTo f 0 (Some (Row.Cell (made_cell Null None))) first
    first_set = is_set w m 0 (Some (Row.Cell (made_cell Null None)))

    first_rows : Linked first × RowsGrow f first
    first_rows = first_linked f first (made_cell Null None) none first_set refl refl (made_fits Null None)

    first_content : content first ≡ content f
    first_content =
        content_is first [] 0 (made_cell Null None) refl first_set.here refl (let most = most_rows_are in omega (arith, most))
        ∙ sym (no_content f (none 0))

  made_first : (y : Option Row) → f 0 ≡ y → Turn w m Make 0 (act (MakeCell Null None blank) now y)
  made_first None is =
      let none : (n : ℕ) → f n ≡ None = subst (λ z. LinkedFrom z f) is linked in
      let rows = first_rows none in
      moved w m 0 (Some (Row.Cell (made_cell Null None))) (walk_at w (WriteGoes.On (Try 0))) Going rows.0 rows.1 (first_content none) (walks_begin (first none) w.place)
  made_first (Some y) is = still w m linked (walk_at w (WriteGoes.On (Try 0))) Going 0 (Some y) (sym is) refl (walks_begin f w.place)

  -- ---- a row is made that is to follow a full one
  module _ (n : ℕ) (t : FullRow) (sees : SeesAt f w.place (At.Append n t.value t.owner)) where
    abbrev spare : Cell
    spare = made_cell t.value t.owner

    abbrev more : Chain
    more = chain (set_row m (at_row (walk_key w) n) (Some (Row.Cell spare))) (walk_key w)

    made_more : (l : Linked f) → f n ≡ None → Turn w m (Append n t) n (Some (Row.Cell spare), ActReply.added)
    made_more l is =
        let made = spare_is_made f l w.place n t.value t.owner spare sees is refl refl refl refl in
        let set : SetTo f n (Some (Row.Cell spare)) more = is_set w m n (Some (Row.Cell spare)) in
        let past : SetTo f (l.last + 1) (Some (Row.Cell spare)) more = subst (λ z. SetTo f z (Some (Row.Cell spare)) more) made.0 set in
        let grows : RowsGrow f more = making_grows f more l (Row.Cell spare) (ap f (sym made.0) ∙ is) past in
        moved w m n (Some (Row.Cell spare)) (walk_at w (WriteGoes.On (Link n))) Going (making_keeps f more l spare made.1 (made_fits t.value t.owner) past) grows
        (making_changes_nothing f more l (Some (Row.Cell spare)) past)
        (spare_is_seen more w.place n t.value t.owner spare (others_keep f more w.place (At.Append n t.value t.owner) grows sees) set.here)

    there_already : (y : Row) → f n ≡ Some y → FitsAt (Some y) → Turn w m (Append n t) n (act (MakeCell t.value t.owner blank) now (Some y))
    there_already (Row.Cell c) is fits = still w m linked (walk_at w (WriteGoes.On (Link n))) Going n (Some (Row.Cell c)) (sym is) refl (spare_is_seen f w.place n t.value t.owner c sees is)
    there_already y is fits = absurd fits

    appended : Linked f → (y : Option Row) → f n ≡ y → Turn w m (Append n t) n (act (MakeCell t.value t.owner blank) now y)
    appended l None is = made_more l is
    appended l (Some y) is = there_already y is (subst FitsAt is (l.fits n))

  -- ---- .. and linked to it
  module _ (n r : ℕ) (after : IsAfter r n) (meets : Meets f r) (passed : Passed f w.place r) (link : Linkable f w.place r) where
    abbrev sees_link : SeesAt f w.place (At.Link n)
    sees_link = (r, after, meets, passed, link)

    abbrev full : Cell
    full = link.cell

    abbrev Links : Cell × ActReply → Type 0
    Links z = Turn w m (Link n) r (Some (Row.Cell z.0), z.1)

    abbrev onto : Cell
    onto = record link.cell { next = Some n }

    abbrev joined : Chain
    joined = chain (set_row m (at_row (walk_key w) r) (Some (Row.Cell onto))) (walk_key w)

    link_now : (l : Linked f) → link.cell.next ≡ None → Links (onto, next n)
    link_now l ends =
        let at : r ≡ l.last = at_last f l r full meets link.there ends in
        let same : full ≡ l.tail = is_tail f l r full meets link.there ends in
        let one : n ≡ l.last + 1 = after.next ∙ ap (λ z. z + 1) at in
        let set : SetTo f r (Some (Row.Cell onto)) joined = is_set w m r (Some (Row.Cell onto)) in
        let tail : SetTo f l.last (Some (Row.Cell (record l.tail { next = Some (l.last + 1) }))) joined =
        subst (λ z. SetTo f z (Some (Row.Cell (record l.tail { next = Some (l.last + 1) }))) joined) at (subst (λ (y : Cell). SetTo f r (Some (Row.Cell y)) joined) (λ i. record (same i) { next = Some (one i) }) set) in
        let follows : f (l.last + 1) ≡ Some (Row.Cell link.spare) = ap (λ z. f (z + 1)) (sym at) ∙ link.after in
        let less : l.last + 1 < most_rows = subst (λ z. z < most_rows) one after.few in
        let rows : Linked joined = linking_keeps f joined l link.spare follows less tail in
        let grows : RowsGrow f joined = one_grows f joined r (Row.Cell full) (Row.Cell onto) link.there set (subst (λ z. GrowsBy z full onto) (sym ends) (λ full. (refl, refl, refl))) in
        moved w m r (Some (Row.Cell onto)) (walk_at w (WriteGoes.On (Try n))) Going rows grows (link_changes_nothing f joined l link.spare follows less tail)
        (linked_is_seen joined rows w.place n r onto n (others_keep f joined w.place (At.Link n) grows sees_link) after.next set.here refl)

    by_room : (l : Linked f) (b : Bool) → is_full full ≡ b → link.cell.next ≡ None → Links (if b then (onto, next n) else (full, not_full))
    by_room l true is ends = link_now l ends
    by_room l false is ends = let clash : true ≡ false = sym (eq-eqb (length link.cell.log) most_entries link.full) ∙ is in cc

    by_next : (l : Linked f) (o : Option ℕ) → link.cell.next ≡ o → Links (next_or full o (if is_full full then (onto, next n) else (full, not_full)))
    by_next l None is = by_room l (is_full full) refl is
    by_next l (Some k) is = still w m linked (walk_at w (WriteGoes.On (Try k))) Going r (Some (Row.Cell full)) (sym link.there) refl (linked_is_seen f l w.place n r full k sees_link after.next link.there is)

    linked_on : Turn w m (Link n) r (act (LinkCell n) now (f r))
    linked_on = subst (λ y. Turn w m (Link n) r (act (LinkCell n) now y)) (sym link.there) (by_next (linked_by f linked r (Row.Cell full) link.there) link.cell.next refl)

    -- its number is one less
    before_one : r ≡ n - 1
    before_one = let a = after.next in omega (arith, a)

  -- ---- all stages
  abbrev IsLogged : WriteAt → Type 0
  IsLogged at =
      LoggedTurn w (walk_at w (write_goes (done_note w.op) at (query_reply (write_asks (walk_key w) w.place w.who w.op at) now m))) m (rows_after (write_asks (walk_key w) w.place w.who w.op at) now m)
      (walk_so (write_goes (done_note w.op) at (query_reply (write_asks (walk_key w) w.place w.who w.op at) now m)))

  by_stage : (at : WriteAt) → SeesAt f w.place (at_of at) → IsLogged at
  by_stage (Try r) sees = tried r sees (f r) refl
  by_stage Make sees =
      subst (λ (q : RowKey). LoggedTurn w (walk_at w (write_goes (done_note w.op) Make (replied (act (MakeCell Null None blank) now (map.get m q)).1))) m (set_row m q (act (MakeCell Null None blank) now (map.get m q)).0)
      (walk_so (write_goes (done_note w.op) Make (replied (act (MakeCell Null None blank) now (map.get m q)).1))))
      (first_head w.home w.item).first (made_first (f 0) refl)
  by_stage (Append n t) (r, after, meets, passed, told) = appended n t (r, after, meets, passed, told) (linked_by f linked r (Row.Cell told.cell) told.there) (f n) refl
  by_stage (Link n) (r, after, meets, passed, link) = subst (λ z. Turn w m (Link n) z (act (LinkCell n) now (f z))) (before_one n r after meets passed link) (linked_on n r after meets passed link)

pub by_op : (w : WriteWalk) (m n : Rows) (now : ℕ) → IsLinked (chain m (walk_key w)) → SeesAt (chain m (walk_key w)) w.place (at_of w.at) → n ≡ rows_after (walk_asks w) now m
    → LoggedTurn w (walk_next w (query_reply (walk_asks w) now m)) m n (walk_output w (query_reply (walk_asks w) now m))
by_op w m n now linked sees is = subst (λ z. LoggedTurn w (walk_next w (query_reply (walk_asks w) now m)) m z (walk_output w (query_reply (walk_asks w) now m))) (sym is) (by_stage w m linked sees now w.at sees)

pub writes_are_logged : WritesAreLogged
writes_are_logged w x now old new s (Ok t, h, c) = tells_map {P = λ m n. CameOn (walk_asks w) now old.room (Ok t) m n} {Q = λ m n. IsLinked (chain m (walk_key w)) → SeesAt (chain m (walk_key w)) w.place (at_of w.at) → LoggedTurn w x m n s} old.rows new.rows
    (λ m n p linked sees. subst (λ y. LoggedTurn w y m n s) (sym (h.0 ∙ ap (walk_next w) p.1)) (subst (LoggedTurn w (walk_next w (query_reply (walk_asks w) now m)) m n) (sym (h.1 ∙ ap (walk_output w) p.1)) (by_op w m n now linked sees p.0))) c.rows
writes_are_logged w x now old new s (Err v, h, c) = absurd h

-- ---- where the place has its note, no row changes
module _ (w : WriteWalk) (m : Rows) (linked : IsLinked (chain m (walk_key w))) (note : Note) (noted : note_at (content (chain m (walk_key w))).notes w.place ≡ Some note) (now : ℕ) where
  abbrev its : Chain
  its = chain m (walk_key w)

  -- so a row where the walk stands has it, or has a next
  not_last : (l : Linked its) (r : ℕ) (c : Cell) → Meets its r → Passed its w.place r → its r ≡ Some (Row.Cell c) → AtEnd w.place c → ⊥
  not_last l r c meets passed is end = let clash : None ≡ Some note = sym (none_at_all its l r c meets is end.ends w.place passed end.none) ∙ noted in cc

  tried_same : (r : ℕ) → Meets its r → Passed its w.place r → (y : Option Row) → its r ≡ y → (act (op_act w.place w.who w.op) now y).0 ≡ y
  tried_same r meets passed None is = on_none w.place w.who now w.op (λ z. z.0 ≡ None) refl
  tried_same r meets passed (Some y) is = let l : Linked its = linked_by its linked r y is in by_kind l y is (subst FitsAt is (l.fits r))
    where
      by_kind : Linked its → (y : Row) → its r ≡ Some y → FitsAt (Some y) → (act (op_act w.place w.who w.op) now (Some y)).0 ≡ Some y
      by_kind l (Row.Cell c) is fits = on_cell w.place w.who now w.op c (λ z. z.0 ≡ Some (Row.Cell c)) (record {
        has_note = λ note at. refl;
        has_next = λ k none to. refl;
        has_no_room = λ end full. refl;
        is_held = λ o end bar. refl;
        is_not_owned = λ end bar. refl;
        is_done = λ t goes end room alive free. absurd (not_last l r c meets passed is end);
        is_dead = λ a end room dead. absurd (not_last l r c meets passed is end);
      })
      by_kind l y is fits = absurd fits

  -- the first row is there
  first_same : (y : Option Row) → its 0 ≡ y → (act (MakeCell Null None blank) now y).0 ≡ y
  first_same None is = let clash : None ≡ Some note = sym (ap (λ (z : Content). note_at z.notes w.place) (no_content its is)) ∙ noted in cc
  first_same (Some y) is = refl

  -- .. and one after the row that is full
  after_same : (n : ℕ) (t : FullRow) → SeesAt its w.place (At.Append n t.value t.owner) → (y : Option Row) → its n ≡ y → (act (MakeCell t.value t.owner blank) now y).0 ≡ y
  after_same n t (r, after, meets, passed, told) (Some y) is = refl
  after_same n t (r, after, meets, passed, told) None is =
      let l : Linked its = linked_by its linked r (Row.Cell told.cell) told.there in
      let past = (spare_is_made its l w.place n t.value t.owner (made_cell t.value t.owner) (r, after, meets, passed, told) is refl refl refl refl).0 in
      let here = after.next in
      let at : r ≡ l.last = omega (arith, past, here) in
      let same : l.tail ≡ told.cell = one_cell l.tail told.cell (sym l.there ∙ ap its (sym at) ∙ told.there) in
      absurd (not_last l r told.cell meets passed told.there (record { none = told.none; ends = subst (λ (z : Cell). z.next ≡ None) same l.ends }))

  linked_same : (n r : ℕ) → Meets its r → Passed its w.place r → (link : Linkable its w.place r) → (act (LinkCell n) now (its r)).0 ≡ its r
  linked_same n r meets passed link = subst (λ y. (act (LinkCell n) now y).0 ≡ y) (sym link.there) (ap (λ z. Some (Row.Cell z)) (by_next link.cell.next refl))
    where
      by_next : (o : Option ℕ) → link.cell.next ≡ o → (next_or link.cell o (if is_full link.cell then (record link.cell { next = Some n }, next n) else (link.cell, not_full))).0 ≡ link.cell
      by_next (Some k) is = refl
      by_next None is = let l : Linked its = linked_by its linked r (Row.Cell link.cell) link.there in absurd (not_last l r link.cell meets passed link.there (record { none = link.none; ends = is }))

  by_place : (at : WriteAt) → SeesAt its w.place (at_of at) → rows_after (write_asks (walk_key w) w.place w.who w.op at) now m ≡ m
  by_place (Try r) sees = left (op_act w.place w.who w.op) now (at_row (walk_key w) r) m (its r) refl (tried_same r sees.0 sees.1 (its r) refl)
  by_place Make sees = subst (λ (q : RowKey). after_act (MakeCell Null None blank) now q m ≡ m) (first_head w.home w.item).first (left (MakeCell Null None blank) now (at_row (walk_key w) 0) m (its 0) refl (first_same (its 0) refl))
  by_place (Append n t) sees = left (MakeCell t.value t.owner blank) now (at_row (walk_key w) n) m (its n) refl (after_same n t sees (its n) refl)
  by_place (Link n) (r, after, meets, passed, link) =
      subst (λ z. after_act (LinkCell n) now (at_row (walk_key w) z) m ≡ m) (let a = after.next in omega (arith, a)) (left (LinkCell n) now (at_row (walk_key w) r) m (its r) refl (linked_same n r meets passed link))

pub noted_stays : (w : WriteWalk) (m : Rows) → IsLinked (chain m (walk_key w)) → SeesAt (chain m (walk_key w)) w.place (at_of w.at) → (note : Note) → note_at (content (chain m (walk_key w))).notes w.place ≡ Some note
    → (now : ℕ) → rows_after (walk_asks w) now m ≡ m
noted_stays w m linked sees note noted now = by_place w m linked note noted now w.at sees

-- ---- the walk of a read
module _ (w : ReadWalk) (m : Rows) (now : ℕ) (linked : IsLinked (chain m (read_key w))) (stood : ReadsAt (chain m (read_key w)) w.row) where
  abbrev rows : Chain
  rows = chain m (read_key w)

  abbrev ReadBy : ReadGoes → Type 0
  ReadBy goes = ReadTurn w (read_at w goes) m (read_so goes)

  -- at the last row, by the owner that is in the way
  by_way : (c : Cell) → (content rows).value ≡ c.value → (content rows).owner ≡ c.owner → (o : Option Owner) → in_the_way w.who c.owner ≡ o → ReadBy (got_or_held c o)
  by_way c value owner None is = record { reads = (ap (in_the_way w.who) owner ∙ is, sym value); sees = stood }
  by_way c value owner (Some o) is = record { reads = ap (in_the_way w.who) owner ∙ is; sees = stood }

  by_end : (l : Linked rows) (c : Cell) (n : Option ℕ) → rows w.row ≡ Some (Row.Cell c) → c.next ≡ n → ReadBy (cell_goes w.who c n)
  by_end l c (Some k) is to = record { reads = tt; sees = next_is_read rows l w.row c k is to }
  by_end l c None is ends =
      let here = content_here rows l w.row c stood.0 is ends in
      by_way c (ap (λ (z : Content). z.value) here) (ap (λ (z : Content). z.owner) here) (in_the_way w.who c.owner) refl

  by_row : (y : Option Row) → rows w.row ≡ y → ReadBy (read_goes w.who (replied (act Look now y).1))
  by_row None is =
      let first : w.row ≡ 0 = subst (λ z. StandsAt z w.row) is stood.1 in
      record { reads = no_content rows (ap rows (sym first) ∙ is); sees = stood }
  by_row (Some y) is = let l : Linked rows = linked_by rows linked w.row y is in by_kind y l is (subst FitsAt is (l.fits w.row))
    where
      by_kind : (y : Row) → Linked rows → rows w.row ≡ Some y → FitsAt (Some y) → ReadBy (read_goes w.who (replied (act Look now (Some y)).1))
      by_kind (Row.Cell c) l is fits = by_end l c c.next is refl
      by_kind y l is fits = absurd fits

pub by_read : (w : ReadWalk) (m : Rows) (now : ℕ) → IsLinked (chain m (read_key w)) → ReadsAt (chain m (read_key w)) w.row
    → ReadTurn w (read_next w (query_reply (read_asks w) now m)) m (read_output w (query_reply (read_asks w) now m))
by_read w m now linked sees = by_row w m now linked sees (chain m (read_key w) w.row) refl

module _ (w x : ReadWalk) (now room : ℕ) (m n : Rows) where
  read : (s : ReadOutput) (t : QueryReply) → x ≡ read_next w t → s ≡ read_output w t → CameOn (read_asks w) now room (Ok t) m n → LooksOn w x m n (Ok s)
  read s t goes output h = (
    look_stands (at_row (read_key w) w.row) now room m n (Ok t) h,
    λ linked sees. subst (λ y. ReadTurn w y m s) (sym (goes ∙ ap (read_next w) h.1)) (subst (ReadTurn w (read_next w (query_reply (read_asks w) now m)) m) (sym (output ∙ ap (read_output w) h.1)) (by_read w m now linked sees)),
  )

  -- it was out of memory after the Look, or there was none
  lost : (e : TableErr) (t : QueryReply) → e ≡ OutOfMemory → CameOn (read_asks w) now room (Ok t) m n → LooksOn w x m n (Err e)
  lost e t is h = subst (λ v. LooksOn w x m n (Err v)) (sym is) (look_stands (at_row (read_key w) w.row) now room m n (Ok t) h)

  refused : (e v : TableErr) → e ≡ v → CameOn (read_asks w) now room (Err v) m n → LooksOn w x m n (Err e)
  refused OutOfMemory v is h = look_stands (at_row (read_key w) w.row) now room m n (Err v) h
  refused Failed v is h = look_stands (at_row (read_key w) w.row) now room m n (Err v) h
  refused (Full live most) v is h = never_full (at_row (read_key w) w.row) now room m n live most (subst (λ x. CameOn (read_asks w) now room (Err x) m n) (sym is) h)

pub reads_are_contents : ReadsAreContents
reads_are_contents w x now old new (Ok s) (Ok t, h, c) = tells_map {P = λ m n. CameOn (read_asks w) now old.room (Ok t) m n} {Q = λ m n. LooksOn w x m n (Ok s)} old.rows new.rows (λ m n p. read w x now old.room m n s t h.0 h.1 p) c.rows
reads_are_contents w x now old new (Ok s) (Err v, h, c) = absurd h
reads_are_contents w x now old new (Err e) (Ok t, h, c) = tells_map {P = λ m n. CameOn (read_asks w) now old.room (Ok t) m n} {Q = λ m n. LooksOn w x m n (Err e)} old.rows new.rows (λ m n p. lost w x now old.room m n e t h.1 p) c.rows
reads_are_contents w x now old new (Err e) (Err v, h, c) = tells_map {P = λ m n. CameOn (read_asks w) now old.room (Err v) m n} {Q = λ m n. LooksOn w x m n (Err e)} old.rows new.rows (λ m n p. refused w x now old.room m n e v h.1 p) c.rows
