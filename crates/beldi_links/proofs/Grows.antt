-- What the acts of others leave of the rows that a walk sees.
use Rattle.std.specs.FinMap as map
use Rattle.std.specs.Ordering.{is_eq}
use Rattle.std.proofs.lemmas.Option.{none-some}
use Rattle.std.proofs.Common.{◌≡◌, ◌⊎◌, inl, inr, ℕ, ◌+◌, ◌<◌, Bool, true, false, length, Option, None, Some, refl, ap, sym, ◌∙◌, subst, arith}
use Rattle.beldi_value.specs.declared.{place.Owner.Owner, place.Place.Place, value.Value.Value}
use Rattle.beldi_row.{specs.declared.row.Cell.Cell, specs.declared.row.Row.Row, specs.Key.RowKey, specs.Key.at_row, specs.Key.key_cmp, specs.Key.kind_at, specs.Key.row_of, specs.Log.most_entries, specs.Log.note_at, specs.Table.Rows, proofs.Gets.key_same, proofs.Keys.key_twice}
use Rattle.beldi_chain.{specs.Chain.Chain, specs.Chain.IsHead, specs.Chain.chain, specs.Chain.is_row_of, proofs.Heads.chain_off, proofs.Heads.chain_other}
use Rattle.beldi_links.specs.{LinkLaws.GrownAreFrozen, LinkLaws.MakingGrows, LinkLaws.OneItemGrows, LinkLaws.OneRowGrows, LinkLaws.OthersGrow, LinkLaws.OthersKeep, LinkLaws.ReadersKeep, Links.AllGrow, Links.At, Links.FitsAt, Links.LeadsTo, Links.Meets, Links.SetTo, Links.GrowsBy, Links.IsPassed, Links.Linkable, Links.Passed, Links.RowGrows, Links.RowsGrow, Links.StandsAt, Links.IsFullRow, Links.StillHolds}
use Rattle.beldi_links.proofs.Ways.{few, meetings_stay, none_next, same_or}

-- ---- a cell that is there
record Grown (c : Cell) (s : Option Row) : Type 0 where
  cell : Cell
  there : s ≡ Some (Row.Cell cell)
  grows : GrowsBy c.next c cell

grown_at : (c : Cell) (s : Option Row) → RowGrows (Some (Row.Cell c)) s → Grown c s
grown_at c (Some (Row.Cell d)) h = record { cell = d; there = refl; grows = h }
grown_at c s h = absurd h

grown : (f g : Chain) → RowsGrow f g → (r : ℕ) (c : Cell) → f r ≡ Some (Row.Cell c) → Grown c (g r)
grown f g grow r c is = grown_at c (g r) (subst (λ z. RowGrows z (g r)) is (grow.rows r))

pub grown_are_frozen : GrownAreFrozen
grown_are_frozen f g grow n c k is next =
    let w = grown f g grow n c is in
    let same : w.cell ≡ c = subst (λ z. GrowsBy z c w.cell) next w.grows in
    w.there ∙ ap (λ z. Some (Row.Cell z)) same

-- a full row keeps its log
full_log : (z : Option ℕ) (c d : Cell) → GrowsBy z c d → length c.log ≡ most_entries → d.log ≡ c.log
full_log None c d grows full = (grows full).2
full_log (Some k) c d same full = ap (λ (z : Cell). z.log) same

-- ---- what was passed
still_passed : (z : Option ℕ) (p : Place) (c d : Cell) → c.next ≡ z → GrowsBy z c d → IsPassed p c → IsPassed p d
still_passed (Some k) p c d is same h = subst (IsPassed p) (sym same) h
still_passed None p c d is grows h = absurd (none_next c h.after is h.next)

-- a row below was there before, or none was
passed : (f g : Chain) (p : Place) → RowsGrow f g → (r : ℕ) → StandsAt (f r) r → Passed f p r → Passed g p r
passed f g p grow r at h n d less is = by_row (f n) refl (subst (RowGrows (f n)) is (grow.rows n)) (f r) refl at
  where
    by_row : (y : Option Row) → f n ≡ y → RowGrows y (Some (Row.Cell d)) → (z : Option Row) → f r ≡ z → StandsAt z r → IsPassed p d
    by_row (Some (Row.Cell c)) was grows z here stand = still_passed c.next p c d refl grows (h n c less was)
    by_row (Some y) was grows z here stand = absurd grows
    by_row None was grows (Some z) here stand = let above = grow.fresh n r (Row.Cell d) z was is here in absurd (omega (arith, above, less))
    by_row None was grows None here stand = absurd (omega (arith, stand, less))

-- ---- where it stands
stands : (f g : Chain) → RowsGrow f g → (r : ℕ) → StandsAt (f r) r → StandsAt (g r) r
stands f g grow r h = by_row (f r) (g r) (grow.rows r) h
  where
    by_row : (y z : Option Row) → RowGrows y z → StandsAt y r → StandsAt z r
    by_row y (Some z) grows h = tt
    by_row None None grows h = h
    by_row (Some (Row.Cell c)) None grows h = absurd grows
    by_row (Some y) None grows h = absurd grows

told_still : (z y : Option ℕ) (c d : Cell) (v : Value) (o : Option Owner) → GrowsBy z c d → length c.log ≡ most_entries → d.next ≡ y → c.next ≡ z → StillHolds z c v o → StillHolds y d v o
told_still z (Some j) c d v o grows full is was h = tt
told_still None None c d v o grows full is was h = let w = grows full in (w.0 ∙ h.0, w.1 ∙ h.1)
told_still (Some k) None c d v o same full is was h = absurd (none_next c k (subst (λ (z : Cell). z.next ≡ None) same is) was)

told : (f g : Chain) (p : Place) → RowsGrow f g → (r : ℕ) (v : Value) (o : Option Owner) → IsFullRow f p r v o → IsFullRow g p r v o
told f g p grow r v o h =
    let w = grown f g grow r h.cell h.there in
    let log = full_log h.cell.next h.cell w.cell w.grows h.full in
    record {
      cell = w.cell;
      there = w.there;
      full = ap length log ∙ h.full;
      none = ap (λ z. note_at z p) log ∙ h.none;
      told = told_still h.cell.next w.cell.next h.cell w.cell v o w.grows h.full refl refl h.told;
    }

linkable : (f g : Chain) (p : Place) → RowsGrow f g → (r : ℕ) → Linkable f p r → Linkable g p r
linkable f g p grow r h =
    let w = grown f g grow r h.cell h.there in
    let s = grown f g grow (r + 1) h.spare h.after in
    let log = full_log h.cell.next h.cell w.cell w.grows h.full in
    record { cell = w.cell; there = w.there; full = ap length log ∙ h.full; none = ap (λ z. note_at z p) log ∙ h.none; spare = s.cell; after = s.there }

there_is : (f : Chain) (r : ℕ) (c : Cell) → f r ≡ Some (Row.Cell c) → StandsAt (f r) r
there_is f r c is = subst (λ z. StandsAt z r) (sym is) tt

meets_still : (f g : Chain) → RowsGrow f g → (r : ℕ) → Meets f r → Meets g r
meets_still f g grow r m = meetings_stay f g (grown_are_frozen f g grow) r m

pub others_keep : OthersKeep
others_keep f g p (At.Try r) grow h = (meets_still f g grow r h.0, passed f g p grow r h.2 h.1, stands f g grow r h.2)
others_keep f g p At.Make grow h = tt
others_keep f g p (At.Append n v o) grow (r, after, meets, all, is) = (r, after, meets_still f g grow r meets, passed f g p grow r (there_is f r is.cell is.there) all, told f g p grow r v o is)
others_keep f g p (At.Link n) grow (r, after, meets, all, is) = (r, after, meets_still f g grow r meets, passed f g p grow r (there_is f r is.cell is.there) all, linkable f g p grow r is)

pub readers_keep : ReadersKeep
readers_keep f g r grow h = (meets_still f g grow r h.0, stands f g grow r h.1)

-- ---- one row that is set
grows_self : (z : Option ℕ) (c : Cell) → GrowsBy z c c
grows_self None c = λ full. (refl, refl, refl)
grows_self (Some k) c = refl

row_stays : (r : Option Row) → RowGrows r r
row_stays None = tt
row_stays (Some (Row.Cell c)) = grows_self c.next c
row_stays (Some (Row.Intent i)) = tt
row_stays (Some (Row.ReadLog v)) = tt
row_stays (Some (Row.Invoke i)) = tt
row_stays (Some Row.Lockset) = tt

-- all others stay
module _ (f g : Chain) (r : ℕ) (v : Option Row) (set : SetTo f r v g) where
  rows_by : RowGrows (f r) v → (n : ℕ) → RowGrows (f n) (g n)
  rows_by here n = same_or n r
      (λ at. subst (λ z. RowGrows (f z) (g z)) (sym at) (subst (RowGrows (f r)) (sym set.here) here))
      (λ off. subst (RowGrows (f n)) (sym (set.others n off)) (row_stays (f n)))

  -- a row that was not there is the one that was set
  made_here : (n : ℕ) (d : Row) → f n ≡ None → g n ≡ Some d → n ≡ r
  made_here n d none is = same_or n r (λ at. at) (λ off. absurd (none-some d (sym none ∙ sym (set.others n off) ∙ is)))

pub one_grows : OneRowGrows
one_grows f g r c d is set grows = record {
  rows = rows_by f g r (Some d) set (subst (λ z. RowGrows z (Some d)) (sym is) grows);
  fresh = λ n k e b none at there. absurd (none-some c (sym none ∙ ap f (made_here f g r (Some d) set n e none at) ∙ is));
}

pub making_grows : MakingGrows
making_grows f g l s free set = record {
  rows = rows_by f g (l.last + 1) (Some s) set (subst (λ z. RowGrows z (Some s)) (sym free) tt);
  fresh = λ n k d c none at there. subst (λ z. k < z) (sym (made_here f g (l.last + 1) (Some s) set n d none at)) (by_kind k c there (subst FitsAt there (l.fits k)));
}
  where
    by_kind : (k : ℕ) (c : Row) → f k ≡ Some c → FitsAt (Some c) → k < l.last + 1
    by_kind k (Row.Cell c) there fits = by_rest (l.rest k c there)
      where
        by_rest : (k ≡ l.last + 1) ⊎ (LeadsTo f 0 k × LeadsTo f k l.last) → k < l.last + 1
        by_rest (inl e) = absurd (none-some (Row.Cell c) (sym free ∙ ap f (sym e) ∙ there))
        by_rest (inr w) = let m = few f k w.1.0 l.last w.1.1 in omega (arith, m)
    by_kind k c there fits = absurd fits

pub first_grows : (f g : Chain) (s : Row) → ((n : ℕ) → f n ≡ None) → SetTo f 0 (Some s) g → RowsGrow f g
first_grows f g s none set = record {
  rows = rows_by f g 0 (Some s) set (subst (λ z. RowGrows z (Some s)) (sym (none 0)) tt);
  fresh = λ n k d c free at there. absurd (none-some c (sym (none k) ∙ there));
}

-- ---- all items
same_rows_grow : (f g : Chain) → ((n : ℕ) → g n ≡ f n) → RowsGrow f g
same_rows_grow f g same = record {
  rows = λ n. subst (RowGrows (f n)) (sym (same n)) (row_stays (f n));
  fresh = λ n k d c none at there. absurd (none-some d (sym none ∙ sym (same n) ∙ at));
}

pub same_grow : (m n : Rows) → n ≡ m → AllGrow m n
same_grow m n same head is = same_rows_grow (chain m head) (chain n head) (λ i. ap (λ z. map.get z (at_row head i)) same)

pub item_grows : OneItemGrows
item_grows m n head is alone grows k first = by_key (is_eq (key_cmp k head)) refl
  where
    by_key : (b : Bool) → is_eq (key_cmp k head) ≡ b → RowsGrow (chain m k) (chain n k)
    by_key true e = subst (λ z. RowsGrow (chain m z) (chain n z)) (sym (key_same k head e)) grows
    by_key false e = same_rows_grow (chain m k) (chain n k) (λ i. ap (λ (f : Chain). f i) (chain_other m n head k alone first e))

pub others_grow : OthersGrow
others_grow m n l off same head is = same_rows_grow (chain m head) (chain n head) (λ i. ap (λ (f : Chain). f i) (chain_off m n l head same is (off head is)))

-- a row of another kind is of no item
pub no_item : (l : RowKey) → row_of (kind_at l.kind 1) ≡ 0 → (head : RowKey) → IsHead head → is_row_of head l ≡ false
no_item l flat head is = by_test (is_row_of head l) refl
  where
    by_test : (b : Bool) → is_row_of head l ≡ b → is_row_of head l ≡ false
    by_test true e =
        let first = key_same (at_row l 0) head e in
        let one : row_of (at_row head 1).kind ≡ 0 = ap (λ (z : RowKey). row_of (at_row z 1).kind) (sym first) ∙ ap (λ (z : RowKey). row_of z.kind) (key_twice l 0 1) ∙ flat in
        absurd (let two = is.numbered 1 in omega (arith, one, two))
    by_test false e = e
