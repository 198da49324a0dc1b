-- A walk that gives an item back, by whether the item is still to be given back.
use Rattle.beldi_row.specs.Act.{did, given_or, if_owned, if_room, next_or, not_owner, noted_or, entered, ActReply}
use Rattle.beldi_row.specs.declared.act.Act.TheVariants.{FreeCell}
use Rattle.beldi_daal.proofs.WalkTurns.{content_here, linked_by}
use Rattle.beldi_txn.proofs.Names.{Bool, Cell, CellOp, Chain, Content, EndAt, EndWalk, FitsAt, Free, FreesStandFurther, IsLinked, Linked, List, None, Note, Option, Owner, Place, ReadsAt, Row, RowKey, Rows, RowsGrow, SeesAt, SeesFreeing, Some, Try, Value, Visited, WriteAt, WriteGoes, act, ap, at_of, at_row, chain, content, false, free_place, if◌then◌else◌, inl, inr, is_own, item_in, item_row, left_row, next_is_read, note_at, others_keep, owns, readers_keep, refl, rows_after, replied, subst, sym, query_reply, true, visited_by, write_asks, write_goes, ℕ, ◌∙◌, ◌≡◌, ◌⊎◌}

-- what a walk sees that puts is more than it has to see
pub freeing_sees : (own : Bool) (f : Chain) (p : Place) (a : WriteAt) → SeesAt f p (at_of a) → SeesFreeing own f p a
freeing_sees own f p (Try r) sees = ((sees.0, sees.2), λ is. sees.1)
freeing_sees own f p a sees = sees

-- .. and no more than that where the item is the transaction's
freeing_puts : (own : Bool) (f : Chain) (p : Place) (r : ℕ) → own ≡ true → SeesFreeing own f p (Try r) → SeesAt f p (at_of (Try r))
freeing_puts own f p r is sees = (sees.0.0, sees.1 is, sees.0.1)

-- it sees that after others acted, where they did not make the transaction the owner
pub freeing_stands : (f g : Chain) (p : Place) (a : WriteAt) (own still : Bool) → RowsGrow f g → (own ≡ false → still ≡ false) → SeesFreeing own f p a → SeesFreeing still g p a
freeing_stands f g p (Try r) own still grows keeps sees = (readers_keep f g r grows sees.0, λ is. (others_keep f g p (at_of (Try r)) grows (freeing_puts own f p r (was own keeps is) sees)).1)
  where
    was : (b : Bool) → (b ≡ false → still ≡ false) → still ≡ true → b ≡ true
    was true h is = refl
    was false h is = let clash = sym (h refl) ∙ is in cc
freeing_stands f g p a own still grows keeps sees = others_keep f g p (at_of a) grows sees

-- ---- a turn for an item that is not the transaction's
-- it goes on at the next row, or past the item ..
abbrev pub GoesPast : Chain → Place → WriteGoes → Type 0
GoesPast f p (WriteGoes.On a) = SeesFreeing false f p a
GoesPast f p (WriteGoes.Done w false) = Unit {0}
GoesPast f p WriteGoes.NotOwner = Unit {0}
GoesPast f p g = ⊥

module _ (head : RowKey) (p : Place) (who : Owner) (u : Option Value) (now : ℕ) (m : Rows) where
  -- .. and no row changes
  pub record Passes (a : WriteAt) : Type 0 where
    pub not_own : owns who (content (chain m head)).owner ≡ false
    pub rows : rows_after (write_asks head p who (CellOp.Free u) a) now m ≡ m
    pub goes : GoesPast (chain m head) p (write_goes Note.Freed a (query_reply (write_asks head p who (CellOp.Free u) a) now m))

-- so it is at a row
module _ (head : RowKey) (p : Place) (who : Owner) (u : Option Value) (now : ℕ) (m : Rows) (linked : IsLinked (chain m head)) (none : owns who (content (chain m head)).owner ≡ false) (r : ℕ) (reads : ReadsAt (chain m head) r) where
  abbrev f : Chain
  f = chain m head

  abbrev Stays : Option Row → Option Row × ActReply → Type 0
  Stays o z = (z.0 ≡ o) × GoesPast f p (write_goes Note.Freed (Try r) (replied z.1))

  module _ (c : Cell) (is : f r ≡ Some (Row.Cell c)) where
    abbrev l : Linked f
    l = linked_by f linked r (Row.Cell c) is

    abbrev StaysCell : Cell × ActReply → Type 0
    StaysCell z = Stays (Some (Row.Cell c)) (Some (Row.Cell z.0), z.1)

    abbrev given : Cell × ActReply
    given = if_room c (entered p Note.Freed (given_or u c.value) None c, did)

    by_owner : (b : Bool) → owns who c.owner ≡ b → c.next ≡ None → StaysCell (if b then given else (c, not_owner))
    by_owner true own ends = let clash = sym none ∙ ap (λ (z : Content). owns who z.owner) (content_here f l r c reads.0 is ends) ∙ own in cc
    by_owner false own ends = (refl, tt)

    by_next : (n : Option ℕ) → c.next ≡ n → StaysCell (next_or c n (if_owned who c given))
    by_next None ends = by_owner (owns who c.owner) refl ends
    by_next (Some k) next = (refl, (next_is_read f l r c k is next, λ e. cc))

    by_note : (n : Option Note) → StaysCell (noted_or c n (next_or c c.next (if_owned who c given)))
    by_note None = by_next c.next refl
    by_note (Some w) = (refl, tt)

  by_row : (o : Option Row) → f r ≡ o → Stays o (act (FreeCell p who u) now o)
  by_row None is = (refl, tt)
  by_row (Some (Row.Cell c)) is = by_note c is (note_at c.log p)
  by_row (Some o) is = absurd (subst FitsAt is ((linked_by f linked r o is).fits r))

  passes : Passes head p who u now m (Try r)
  passes = let h = by_row (f r) refl in record { not_own = none; rows = left_row (FreeCell p who u) now (at_row head r) m (f r) refl h.0; goes = h.1 }

-- any other turn is that of a walk that sees all that one sees that puts
pub puts_or_passes : (head : RowKey) (p : Place) (who : Owner) (u : Option Value) (now : ℕ) (m : Rows) → let f = chain m head in
    IsLinked f → (a : WriteAt) → SeesFreeing (owns who (content f).owner) f p a → SeesAt f p (at_of a) ⊎ Passes head p who u now m a
puts_or_passes head p who u now m linked (Try r) sees = by_own (owns who (content (chain m head)).owner) refl
  where
    by_own : (b : Bool) → owns who (content (chain m head)).owner ≡ b → SeesAt (chain m head) p (at_of (Try r)) ⊎ Passes head p who u now m (Try r)
    by_own true own = inl (freeing_puts (owns who (content (chain m head)).owner) (chain m head) p r own sees)
    by_own false none = inr (passes head p who u now m linked none r sees.0)
puts_or_passes head p who u now m linked a sees = inl sees

-- ---- such a walk may stand at a further row
further : (w : EndWalk) (m : Rows) (i : ℕ × List ℕ) (r k : ℕ) → let here = λ (z : ℕ). record w { visit = record w.visit { item = Some i; at = Free (Try z) } } in
    SeesFreeing (is_own w (item_in (visited_by w.tx w.visit.path).1 m i)) (chain m (item_row (visited_by w.tx w.visit.path).1 i)) (free_place w.tx w.end w.visit.path) (Try k) → Visited (here r) m → Visited (here k) m
further w m i r k sees v = record {
  decided = v.decided;
  item = refl;
  begins = tt;
  from = v.from;
  member = v.member;
  gives = v.gives;
  sees = sees;
  asked = v.asked;
  callees = v.callees;
  freed = v.freed;
  released = v.released;
  marked = v.marked;
  linked = v.linked;
}

pub frees_stand_further : FreesStandFurther
frees_stand_further w m i r k at item v reads passed =
    subst (λ (j : Option (ℕ × List ℕ)). Visited (record w { visit = record w.visit { item = j; at = Free (Try k) } }) m) (sym item)
    (further w m i r k (reads, passed)
    (subst (λ (j : Option (ℕ × List ℕ)). Visited (record w { visit = record w.visit { item = j; at = Free (Try r) } }) m) item
    (subst (λ (a : EndAt). Visited (record w { visit = record w.visit { at = a } }) m) at v)))
