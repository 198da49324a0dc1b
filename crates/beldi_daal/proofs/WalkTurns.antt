-- What a turn at a cell of linked rows leaves of them.
use Rattle.std.specs.Ordering.{is_eq}
use Rattle.std.specs.FinMap as map
use Rattle.std.proofs.lemmas.Bool.{eqb-false, false_from_ne_true}
use Rattle.std.proofs.Common.{◌≡◌, ◌⊎◌, inl, inr, ℕ, ◌+◌, ◌-◌, ◌^◌, ◌<◌, ◌≤◌, ◌==◌, Bool, true, false, cond, if◌then◌else◌, List, [], ◌∷◌, ◌++◌, length, length-append, Option, None, Some, is_some, refl, ap, sym, ◌∙◌, subst, arith, append_assoc, nat_lt, ltb-true, ltb-false}
use Rattle.beldi_value.specs.{declared.id.IntentId.IntentId, declared.place.Owner.Owner, declared.place.Place.Place}
use Rattle.beldi_row.specs.Act.{ActReply, died, next, packed, is_full}
use Rattle.beldi_row.{specs.declared.notes.Note.Note, specs.declared.notes.Note.TheVariants.Died, specs.declared.row.Cell.Cell, specs.declared.row.Row.Row, specs.Key.RowKey, specs.Key.at_row, specs.Key.key_cmp, specs.Log.most_entries, specs.Log.note_at, specs.Table.Rows, specs.Table.set_row, proofs.Gets.got, proofs.Gets.key_same, proofs.Gets.key_self, proofs.Logs.note_here, proofs.Unchanged.unchanged}
use Rattle.beldi_chain.{specs.Chain.Chain, specs.Chain.ChangedAlone, specs.Chain.IsHead, specs.Chain.chain, specs.Chain.content, specs.Chain.is_row_of, specs.Chain.most_rows, specs.Chain.most_rows_are, specs.Content.Content, proofs.Heads.aside_head, proofs.Heads.item_head}
use Rattle.beldi_links.specs.Links.{Fits, FitsAt, FitsNext, GrowsBy, IsLinked, LeadsTo, Linked, LinkedFrom, Meets, Passed, RowsGrow, SeesAt, SetTo, StandsAt, before, behind, own}
use Rattle.beldi_links.proofs.{Grows.item_grows, Grows.one_grows, Grows.others_keep, Grows.same_grow, LinkKeeps.entries_keep, LinkKeeps.last_set, LinkKeeps.row_set, Meets.full_is_seen, Meets.last_is_last, Meets.next_is_seen, Meets.none_noted, Meets.noted_is_noted, Meets.rows_below, Ways.content_is, Ways.one_cell}
use Rattle.beldi_query.specs.Query.{replied}
use Rattle.beldi_daal.specs.{Cell.done_note, Cell.last_row, Cell.write_goes, Logged.DidAs, Logged.LoggedTurn, Logged.Logs, Logged.WasBarred, Logged.at_of, Logged.barred, Logged.died_at, Logged.dies, Logged.done_to, Logged.note_after, Logged.owner_after, Logged.value_after, WriteWalk.first_key, WriteWalk.walk_at, WriteWalk.walk_key, WriteWalk.walk_so}
use Rattle.beldi_daal.specs.declared.{cell.CellOp.CellOp, cell.FullRow.FullRow, cell.WriteAt.WriteAt, cell.WriteAt.TheVariants.Append, cell.WriteAt.TheVariants.Try, cell.WriteGoes.WriteGoes, walk.Item.Item, walk.WriteOutput.WriteOutput, walk.WriteOutput.TheVariants.Done, walk.WriteOutput.TheVariants.Going, walk.WriteOutput.TheVariants.Held, walk.WriteOutput.TheVariants.NotOwner, walk.WriteWalk.WriteWalk}
use Rattle.beldi_daal.proofs.OneRow.{AtEnd, Cases, IsDone, died_on_cell, done_to_cell}

-- ---- keys
true_is_false : (b : Bool) → b ≡ true → b ≡ false → ⊥
true_is_false true h g = cc
true_is_false false h g = cc

-- the key of a walk is that of a first row
pub first_head : (home : ℕ) (item : Item) → IsHead (first_key home item)
first_head home (Item.Plain t k) = item_head home t k
first_head home (Item.Shadow x t k) = aside_head home x t k

first_again : (home : ℕ) (item : Item) (r : ℕ) → at_row (at_row (first_key home item) r) 0 ≡ first_key home item
first_again home (Item.Plain t k) r = refl
first_again home (Item.Shadow x t k) r = refl

-- a row of an item that is set changes its item alone
pub alone_at : (m : Rows) (head : RowKey) (r : ℕ) (v : Option Row) → at_row (at_row head r) 0 ≡ head → ChangedAlone head m (set_row m (at_row head r) v)
alone_at m head r v again l off = got m (at_row head r) l v ∙ ap (λ b. cond b v (map.get m l)) apart
  where
    apart : is_eq (key_cmp l (at_row head r)) ≡ false
    apart = false_from_ne_true (is_eq (key_cmp l (at_row head r))) (λ e. true_is_false (is_row_of head l)
        (ap (λ z. is_eq (key_cmp z head)) (ap (λ z. at_row z 0) (key_same l (at_row head r) e) ∙ again) ∙ key_self head) off)

-- ---- rows of which one is there
-- they are linked
pub linked_by : (f : Chain) → IsLinked f → (r : ℕ) (y : Row) → f r ≡ Some y → Linked f
linked_by f linked r y is = by_first (f 0) linked
  where
    by_first : (z : Option Row) → LinkedFrom z f → Linked f
    by_first (Some x) l = l
    by_first None none = let clash : None ≡ Some y = sym (none r) ∙ is in cc

pub is_linked : (f : Chain) → Linked f → IsLinked f
is_linked f l = by_first (f 0) (rows_below f l l.last 0 (Row.Cell l.tail) l.there (omega arith))
  where
    by_first : (z : Option Row) → is_some z ≡ true → LinkedFrom z f
    by_first (Some x) there = l
    by_first None there = cc

-- each is a cell that fits
pub cell_fits : (f : Chain) (l : Linked f) (r : ℕ) (c : Cell) → f r ≡ Some (Row.Cell c) → Fits c
cell_fits f l r c is = subst FitsAt is (l.fits r)

-- ---- a row that none follows is the last one
module _ (f : Chain) (l : Linked f) (r : ℕ) (c : Cell) (meets : Meets f r) (is : f r ≡ Some (Row.Cell c)) (ends : c.next ≡ None) where
  pub at_last : r ≡ l.last
  at_last = last_is_last f l.last l.tail l.path l.there l.ends r c meets is ends

  pub is_tail : c ≡ l.tail
  is_tail = one_cell c l.tail (sym is ∙ ap f at_last ∙ l.there)

  -- so the chain holds what it does, behind the notes of the rows before it
  pub content_here : content f ≡ behind (before f 0 l.path.0) (own c)
  content_here = content_is f l.path.0 l.last l.tail l.path.1 l.there l.ends l.few ∙ ap (λ z. behind (before f 0 l.path.0) (own z)) (sym is_tail)

  pub none_at_all : (p : Place) → Passed f p r → note_at c.log p ≡ None → note_at (content f).notes p ≡ None
  none_at_all p passed none = none_noted f l p (subst (Passed f p) at_last passed) (ap (λ (z : Cell). note_at z.log p) (sym is_tail) ∙ none)

-- ---- a note that a row has is one of the chain
-- a row with a note is on the way
on_way : (f : Chain) (l : Linked f) (p : Place) (r : ℕ) (c : Cell) (w : Note) → f r ≡ Some (Row.Cell c) → note_at c.log p ≡ Some w → LeadsTo f 0 r × LeadsTo f r l.last
on_way f l p r c w is note = by_rest (l.rest r c is)
  where
    by_rest : (r ≡ l.last + 1) ⊎ (LeadsTo f 0 r × LeadsTo f r l.last) → LeadsTo f 0 r × LeadsTo f r l.last
    by_rest (inl e) = let clash : None ≡ Some w = sym (ap (λ es. note_at es p) (l.spare c (ap f (sym e) ∙ is)).log) ∙ note in cc
    by_rest (inr w) = w

pub note_of_chain : (f : Chain) (l : Linked f) (p : Place) (r : ℕ) (c : Cell) (w : Note) → Passed f p r → f r ≡ Some (Row.Cell c) → note_at c.log p ≡ Some w → note_at (content f).notes p ≡ Some w
note_of_chain f l p r c w passed is note = let path = on_way f l p r c w is note in noted_is_noted f l p r c w path.0 path.1 passed is note

-- ---- an operation at the last row
module _ (p : Place) (who : Owner) (op : CellOp) (f : Chain) (es : List (Place × Note)) (c : Cell) (here : content f ≡ behind es (own c)) (none : note_at (content f).notes p ≡ None) where
  -- it was barred
  barred_there : (s : WriteOutput) → barred op who c.owner ≡ Some s → WasBarred p who op s (content f) (content f)
  barred_there s bar = (none, ap (λ (z : Content). barred op who z.owner) here ∙ bar, refl)

  none_behind : note_at (es ++ c.log) p ≡ None
  none_behind = ap (λ (z : Content). note_at z.notes p) (sym here) ∙ none

  module _ (g : Chain) where
    -- it was done
    done_there : content g ≡ behind es (own (done_to_cell p who op c)) → dies who op c.owner ≡ None → barred op who c.owner ≡ None → Logs p who op (Done (note_after op c.value) true) (content f) (content g)
    done_there after alive free =
        subst (λ z. Logs p who op (Done (note_after op c.value) true) z (content g)) (sym here)
        (subst (Logs p who op (Done (note_after op c.value) true) (behind es (own c))) (sym made)
        (note_here (es ++ c.log) p (note_after op c.value) none_behind, (none_behind, subst (λ a. DidAs p who op a (behind es (own c)) (done_to p who op (behind es (own c)))) (sym alive) (free, refl))))
      where
        made : content g ≡ done_to p who op (behind es (own c))
        made = after ∙ (λ i. record { value = value_after op c.value; owner = owner_after op who c.owner; notes = sym (append_assoc es c.log ((p, note_after op c.value) ∷ [])) i })

    -- who asked died
    dead_there : (a : IntentId) → content g ≡ behind es (own (died_on_cell p a c)) → dies who op c.owner ≡ Some a → Logs p who op (Done (Died a) true) (content f) (content g)
    dead_there a after is =
        subst (λ z. Logs p who op (Done (Died a) true) z (content g)) (sym here)
        (subst (Logs p who op (Done (Died a) true) (behind es (own c))) (sym made)
        (note_here (es ++ c.log) p (Died a) none_behind, (none_behind, subst (λ z. DidAs p who op z (behind es (own c)) (died_at p a (behind es (own c)))) (sym is) refl)))
      where
        made : content g ≡ died_at p a (behind es (own c))
        made = after ∙ (λ i. record { value = c.value; owner = c.owner; notes = sym (append_assoc es c.log ((p, Died a) ∷ [])) i })

-- ---- an entry that is made
-- there is room, so the cell fits, and it may grow
entered_fits : (c d : Cell) (e : Place × Note) → Fits c → c.next ≡ None → is_full c ≡ false → d.log ≡ c.log ++ e ∷ [] → d.next ≡ c.next → d.marked ≡ c.marked → d.dangled ≡ c.dangled → Fits d
entered_fits c d e fits ends room log nexts marked dangled = record {
  entries = subst (λ z. FitsNext z (length d.log)) (sym (nexts ∙ ends)) few;
  marked = marked ∙ fits.marked;
  dangled = dangled ∙ fits.dangled;
}
  where
    few : length d.log ≤ most_entries
    few =
        let most : length c.log ≤ most_entries = subst (λ z. FitsNext z (length c.log)) ends fits.entries in
        let more : length d.log ≡ length c.log + 1 = ap length log ∙ length-append c.log (e ∷ []) in
        by_order (nat_lt (length c.log) most_entries) refl most more
      where
        by_order : (b : Bool) → nat_lt (length c.log) most_entries ≡ b → length c.log ≤ most_entries → length d.log ≡ length c.log + 1 → length d.log ≤ most_entries
        by_order true e most more = let less = ltb-true (length c.log) most_entries e in omega (arith, less, more)
        by_order false e most more = let past = ltb-false (length c.log) most_entries e in absurd (eqb-false (length c.log) most_entries room (omega (arith, past, most)))

-- ---- the turns of a walk
module _ (w : WriteWalk) (m : Rows) where
  abbrev before_it : Chain
  before_it = chain m (walk_key w)

  -- a turn that left the row of a number so, and was told this
  abbrev pub Turn : WriteAt → ℕ → Option Row × ActReply → Type 0
  Turn at r z = LoggedTurn w (walk_at w (write_goes (done_note w.op) at (replied z.1))) m (set_row m (at_row (walk_key w) r) z.0) (walk_so (write_goes (done_note w.op) at (replied z.1)))

  module _ (linked : IsLinked (chain m (walk_key w))) where
    -- no row changed
    pub still : (x : WriteWalk) (s : WriteOutput) (r : ℕ) (v : Option Row) → v ≡ map.get m (at_row (walk_key w) r) → Logs w.place w.who w.op s (content (chain m (walk_key w))) (content (chain m (walk_key w)))
        → SeesAt (chain m (walk_key w)) w.place (at_of x.at) → LoggedTurn w x m (set_row m (at_row (walk_key w) r) v) s
    still x s r v is logs sees = subst (λ n. LoggedTurn w x m n s) (sym (unchanged m (at_row (walk_key w) r) v is)) (record {
      others = λ l off. refl;
      linked = linked;
      grows = same_grow m m refl;
      logs = logs;
      sees = sees;
    })

  -- the row of a number was set
  module _ (r : ℕ) (v : Option Row) where
    abbrev after_it : Chain
    after_it = chain (set_row m (at_row (walk_key w) r) v) (walk_key w)

    pub is_set : SetTo (chain m (walk_key w)) r v (chain (set_row m (at_row (walk_key w) r) v) (walk_key w))
    is_set = row_set m (walk_key w) (first_head w.home w.item) r v

    pub moved : (x : WriteWalk) (s : WriteOutput) → Linked after_it → RowsGrow before_it after_it → Logs w.place w.who w.op s (content before_it) (content after_it)
        → SeesAt after_it w.place (at_of x.at) → LoggedTurn w x m (set_row m (at_row (walk_key w) r) v) s
    moved x s l grows logs sees =
        let alone = alone_at m (walk_key w) r v (first_again w.home w.item r) in
        record {
          others = alone;
          linked = is_linked after_it l;
          grows = item_grows m (set_row m (at_row (walk_key w) r) v) (walk_key w) (first_head w.home w.item) alone grows;
          logs = logs;
          sees = sees;
        }

-- ---- .. that tries an operation at a cell
-- a full row may have another one after it, if its number is not the greatest
few_more : (r : ℕ) → r < most_rows → (r == last_row) ≡ false → r + 1 < most_rows
few_more r less off = by_order (nat_lt (r + 1) most_rows) refl
  where
    by_order : (b : Bool) → nat_lt (r + 1) most_rows ≡ b → r + 1 < most_rows
    by_order true e = ltb-true (r + 1) most_rows e
    by_order false e =
        let past = ltb-false (r + 1) most_rows e in
        let most : most_rows ≡ 2 ^ 32 = most_rows_are in
        absurd (eqb-false r last_row off (omega (arith, past, less, most)))

module _ (w : WriteWalk) (m : Rows) (linked : IsLinked (chain m (walk_key w))) (stood : SeesAt (chain m (walk_key w)) w.place (at_of w.at))
    (l : Linked (chain m (walk_key w))) (r : ℕ) (c : Cell) (meets : Meets (chain m (walk_key w)) r) (passed : Passed (chain m (walk_key w)) w.place r) (is : chain m (walk_key w) r ≡ Some (Row.Cell c)) where
  abbrev f : Chain
  f = chain m (walk_key w)

  -- what is told changes nothing
  stays_so : (x : WriteWalk) (s : WriteOutput) → Logs w.place w.who w.op s (content f) (content f) → SeesAt f w.place (at_of x.at) → LoggedTurn w x m (set_row m (at_row (walk_key w) r) (Some (Row.Cell c))) s
  stays_so x s logs sees = still w m linked x s r (Some (Row.Cell c)) (sym is) logs sees

  module _ (end : AtEnd w.place c) where
    unnoted : note_at (content f).notes w.place ≡ None
    unnoted = none_at_all f l r c meets is end.ends w.place passed end.none

    holds : content f ≡ behind (before f 0 l.path.0) (own c)
    holds = content_here f l r c meets is end.ends

    -- an entry is made
    module _ (d : Cell) (note : Note) (room : is_full c ≡ false) (log : d.log ≡ c.log ++ (w.place, note) ∷ []) (nexts : d.next ≡ c.next) (fits : Fits d) where
      abbrev g : Chain
      g = chain (set_row m (at_row (walk_key w) r) (Some (Row.Cell d))) (walk_key w)

      set_last : SetTo f l.last (Some (Row.Cell d)) g
      set_last = subst (λ z. SetTo f z (Some (Row.Cell d)) g) (at_last f l r c meets is end.ends) (is_set w m r (Some (Row.Cell d)))

      holds_after : content g ≡ behind (before f 0 l.path.0) (own d)
      holds_after = last_set f g l d set_last (nexts ∙ end.ends)

      linked_after : Linked g
      linked_after = entries_keep f g l w.place note d set_last (nexts ∙ end.ends) (log ∙ ap (λ (z : Cell). z.log ++ (w.place, note) ∷ []) (is_tail f l r c meets is end.ends)) fits unnoted

      grows_so : RowsGrow f g
      grows_so = one_grows f g r (Row.Cell c) (Row.Cell d) is (is_set w m r (Some (Row.Cell d)))
          (subst (λ z. GrowsBy z c d) (sym end.ends) (λ full. absurd (eqb-false (length c.log) most_entries room full)))

      entered_so : (s : WriteOutput) → Logs w.place w.who w.op s (content f) (content g) → LoggedTurn w w m (set_row m (at_row (walk_key w) r) (Some (Row.Cell d))) s
      entered_so s logs = moved w m r (Some (Row.Cell d)) w s linked_after grows_so logs (others_keep f g w.place (at_of w.at) grows_so stood)

  -- the cell is full
  abbrev full_row : FullRow
  full_row = record { value = c.value; owner = c.owner }

  abbrev Packed : Bool → Type 0
  Packed b = LoggedTurn w (walk_at w (if b then WriteGoes.Worn else WriteGoes.On (Append (r + 1) full_row))) m (set_row m (at_row (walk_key w) r) (Some (Row.Cell c))) (walk_so (if b then WriteGoes.Worn else WriteGoes.On (Append (r + 1) full_row)))

  packed_by : AtEnd w.place c → length c.log ≡ most_entries → (b : Bool) → (r == last_row) ≡ b → Packed b
  packed_by end full true e = stays_so w WriteOutput.Worn (unnoted end, refl) stood
  packed_by end full false e = stays_so (walk_at w (WriteGoes.On (Append (r + 1) full_row))) Going refl
      (full_is_seen f w.place r c (meets, passed, subst (λ z. StandsAt z r) (sym is) tt) is full end.none
      (few_more r (subst (λ z. z < most_rows) (sym (at_last f l r c meets is end.ends)) l.few) e))

  packed_so : AtEnd w.place c → length c.log ≡ most_entries → Turn w m (Try r) r (Some (Row.Cell c), packed c.value c.owner)
  packed_so end full = packed_by end full (r == last_row) refl

  -- the operation was done
  abbrev made : Cell
  made = done_to_cell w.place w.who w.op c

  done_so : (t : ActReply) → IsDone w.op c t → AtEnd w.place c → is_full c ≡ false → dies w.who w.op c.owner ≡ None → barred w.op w.who c.owner ≡ None → Turn w m (Try r) r (Some (Row.Cell made), t)
  done_so t goes end room alive free =
      let note : Note = note_after w.op c.value in
      let fits = entered_fits c made (w.place, note) (cell_fits f l r c is) end.ends room refl refl refl refl in
      subst (λ z. LoggedTurn w (walk_at w z) m (set_row m (at_row (walk_key w) r) (Some (Row.Cell made))) (walk_so z)) (sym (goes (Try r)))
      (entered_so end made note room refl refl fits (Done note true)
      (done_there w.place w.who w.op f (before f 0 l.path.0) c (holds end) (unnoted end) (g end made note room refl refl fits) (holds_after end made note room refl refl fits) alive free))

  -- .. or who asks died
  dead_so : (a : IntentId) → AtEnd w.place c → is_full c ≡ false → dies w.who w.op c.owner ≡ Some a → Turn w m (Try r) r (Some (Row.Cell (died_on_cell w.place a c)), died a)
  dead_so a end room dead =
      let d : Cell = died_on_cell w.place a c in
      let fits = entered_fits c d (w.place, Died a) (cell_fits f l r c is) end.ends room refl refl refl refl in
      entered_so end d (Died a) room refl refl fits (Done (Died a) true)
      (dead_there w.place w.who w.op f (before f 0 l.path.0) c (holds end) (unnoted end) (g end d (Died a) room refl refl fits) a (holds_after end d (Died a) room refl refl fits) dead)

  pub tried_cell : Cases w.place w.who w.op c (λ z. Turn w m (Try r) r (Some (Row.Cell z.0), z.1))
  tried_cell = record {
    has_note = λ note at. stays_so w (Done note false) (note_of_chain f l w.place r c note passed is at, refl) stood;
    has_next = λ k none nexts. stays_so (walk_at w (WriteGoes.On (Try k))) Going refl (next_is_seen f l w.place r c k passed is nexts none);
    has_no_room = packed_so;
    is_held = λ o end bar. stays_so w (Held o) (barred_there w.place w.who w.op f (before f 0 l.path.0) c (holds end) (unnoted end) (Held o) bar) stood;
    is_not_owned = λ end bar. stays_so w NotOwner (barred_there w.place w.who w.op f (before f 0 l.path.0) c (holds end) (unnoted end) NotOwner bar) stood;
    is_done = done_so;
    is_dead = dead_so;
  }
