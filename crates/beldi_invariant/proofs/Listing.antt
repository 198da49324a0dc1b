-- The listing of the rows is that of the plain state.
use Rattle.beldi_invariant.proofs.Names.{Bool, Core, Deployment, Entry, Item, KeepsNoNull, Kind, List, None, Null, Option, Ordering, PlainState, Invariant, Row, RowKey, Rows, Some, T, Value, [], ap, arith, below_all, cond, entries_sorted, false, find, flat_map, get-entries, head_key, is_eq, is_lt, is_sorted, item_cmp, item_exact, item_text, item_total, key_cmp, key_same, line_at, listed, listed_under, listing_of, no_null, or_null, refl, row_line, run_of, same_entries, shown_under, subst, sym, tables_text, tied_itself, true, value_at, value_line, zero, ℕ, ◌&&◌, ◌++◌, ◌∙◌, ◌∷◌, ◌≡◌}
use Rattle.beldi_value.specs.declared.place.Place.{Place}
use Rattle.beldi_row.specs.declared.notes.Note.{Note}
use Rattle.beldi_chain.{proofs.OneRow.no_tail, proofs.OneRow.tail_is_head, specs.Chain.above, specs.Chain.chain, specs.Chain.most_rows, specs.Chain.next_of, specs.Chain.notes_from, specs.Chain.tail, specs.Content.held_in}
use Rattle.beldi_step.specs.Tables.{cell_line}
use Rattle.beldi_histories.proofs.RowMaps.{head_order}
use Rattle.beldi_invariant.proofs.Standing.{same_run}
use Rattle.beldi_invariant.proofs.Names.map

-- ---- the entries of rows, as entries of items
not_null : Value → Option Value
not_null Null = None
not_null v = Some v

abbrev valued : Item → Value → Option (Item × Value)
valued x Null = None
valued x v = Some (x, v)

-- an item with the value that is shown, by its last row, where that is not null
abbrev cell_entry : Rows → Item → Option Row → Option (Item × Value)
cell_entry m x (Some (Row.Cell c)) = valued x (listed_under m x c.owner c.value)
cell_entry m x r = None

-- .. whose first row it is
abbrev item_entry : Rows → ℕ → Kind → Row → Option (Item × Value)
item_entry m f (Kind.Data t k zero) (Row.Cell c) = let x : Item = record { func = f; table = t; key = k } in cell_entry m x (tail (chain m (head_key x)))
item_entry m f k r = None

abbrev cons_some : {X : Type 0} → Option X → List X → List X
cons_some None xs = xs
cons_some (Some x) xs = x ∷ xs

abbrev items_in : Rows → List (RowKey × Row) → List (Item × Value)
items_in m [] = []
items_in m (e ∷ es) = cons_some (item_entry m e.0.home e.0.kind e.1) (items_in m es)

abbrev item_line : Deployment → Item × Value → List ℕ
item_line d e = item_text d e.0.func e.0.table e.0.key e.1

value_lines : (d : Deployment) (x : Item) (v : Value) (zs : List (Item × Value)) → value_line d x.func x.table x.key v ++ flat_map (item_line d) zs ≡ flat_map (item_line d) (cons_some (valued x v) zs)
value_lines d x v zs = grind arith

cell_lines : (m : Rows) (d : Deployment) (x : Item) (r : Option Row) (zs : List (Item × Value)) → cell_line d m x.func x.table x.key r ++ flat_map (item_line d) zs ≡ flat_map (item_line d) (cons_some (cell_entry m x r) zs)
cell_lines m d x (Some (Row.Cell c)) zs = value_lines d x (listed_under m x c.owner c.value) zs
cell_lines m d x r zs = refl

entry_lines : (m : Rows) (d : Deployment) (f : ℕ) (k : Kind) (r : Row) (zs : List (Item × Value)) → line_at d m f k r ++ flat_map (item_line d) zs ≡ flat_map (item_line d) (cons_some (item_entry m f k r) zs)
entry_lines m d f (Kind.Data t k zero) (Row.Cell c) zs = let x : Item = record { func = f; table = t; key = k } in cell_lines m d x (tail (chain m (head_key x))) zs
entry_lines m d f k r zs = refl

lines : (m : Rows) (d : Deployment) (es : List (RowKey × Row)) → flat_map (row_line d m) es ≡ flat_map (item_line d) (items_in m es)
lines m d [] = refl
lines m d (e ∷ es) = ap (λ bs. row_line d m e ++ bs) (lines m d es) ∙ entry_lines m d e.0.home e.0.kind e.1 (items_in m es)

-- ---- they are in the order of items
both : (a b : Bool) → T a → T b → T (a && b)
both a b p q = grind arith

first : (a b : Bool) → T (a && b) → T a
first a b p = grind arith

second : (a b : Bool) → T (a && b) → T b
second a b p = grind arith

below_valued : (x y : Item) (v : Value) (zs : List (Item × Value)) → T (is_lt (item_cmp x y)) → T (below_all item_cmp x zs) → T (below_all item_cmp x (cons_some (valued y v) zs))
below_valued x y v zs h g = grind arith

below_cell : (m : Rows) (x y : Item) (r : Option Row) (zs : List (Item × Value)) → T (is_lt (item_cmp x y)) → T (below_all item_cmp x zs) → T (below_all item_cmp x (cons_some (cell_entry m y r) zs))
below_cell m x y (Some (Row.Cell c)) zs h g = below_valued x y (listed_under m y c.owner c.value) zs h g
below_cell m x y r zs h g = g

below_entry : (m : Rows) (x : Item) (f : ℕ) (k : Kind) (r : Row) (zs : List (Item × Value)) → T (is_lt (key_cmp (head_key x) (record { home = f; kind = k }))) → T (below_all item_cmp x zs) → T (below_all item_cmp x (cons_some (item_entry m f k r) zs))
below_entry m x f (Kind.Data t k zero) (Row.Cell c) zs h g = let y : Item = record { func = f; table = t; key = k } in
    below_cell m x y (tail (chain m (head_key y))) zs (subst (λ o. T (is_lt o)) (head_order x y) h) g
below_entry m x f k r zs h g = g

below_items : (m : Rows) (x : Item) (es : List (RowKey × Row)) → T (below_all key_cmp (head_key x) es) → T (below_all item_cmp x (items_in m es))
below_items m x [] h = tt
below_items m x (e ∷ es) h = below_entry m x e.0.home e.0.kind e.1 (items_in m es) (first (is_lt (key_cmp (head_key x) e.0)) (below_all key_cmp (head_key x) es) h) (below_items m x es (second (is_lt (key_cmp (head_key x) e.0)) (below_all key_cmp (head_key x) es) h))

sorted_valued : (y : Item) (v : Value) (zs : List (Item × Value)) → T (below_all item_cmp y zs) → T (is_sorted item_cmp zs) → T (is_sorted item_cmp (cons_some (valued y v) zs))
sorted_valued y v zs h g = grind arith

sorted_cell : (m : Rows) (y : Item) (r : Option Row) (zs : List (Item × Value)) → T (below_all item_cmp y zs) → T (is_sorted item_cmp zs) → T (is_sorted item_cmp (cons_some (cell_entry m y r) zs))
sorted_cell m y (Some (Row.Cell c)) zs h g = sorted_valued y (listed_under m y c.owner c.value) zs h g
sorted_cell m y r zs h g = g

sorted_entry : (m : Rows) (f : ℕ) (k : Kind) (r : Row) (es : List (RowKey × Row)) → T (below_all key_cmp (record { home = f; kind = k }) es) → T (is_sorted item_cmp (items_in m es)) → T (is_sorted item_cmp (cons_some (item_entry m f k r) (items_in m es)))
sorted_entry m f (Kind.Data t k zero) (Row.Cell c) es h g = let y : Item = record { func = f; table = t; key = k } in sorted_cell m y (tail (chain m (head_key y))) (items_in m es) (below_items m y es h) g
sorted_entry m f k r es h g = g

sorted_items : (m : Rows) (es : List (RowKey × Row)) → T (is_sorted key_cmp es) → T (is_sorted item_cmp (items_in m es))
sorted_items m [] h = tt
sorted_items m (e ∷ es) h = sorted_entry m e.0.home e.0.kind e.1 es (first (below_all key_cmp e.0 es) (is_sorted key_cmp es) h) (sorted_items m es (second (below_all key_cmp e.0 es) (is_sorted key_cmp es) h))

-- ---- and have each item that is not null
abbrev cell_shown : Rows → Item → Option Row → Option Value
cell_shown m x (Some (Row.Cell c)) = not_null (listed_under m x c.owner c.value)
cell_shown m x r = None

shown_in : Rows → Item → Option Row → Option Value
shown_in m x (Some (Row.Cell c)) = cell_shown m x (tail (chain m (head_key x)))
shown_in m x o = None

not_tied : (o : Ordering) → T (is_lt o) → is_eq o ≡ false
not_tied o h = grind arith

none_below : (x : Item) (zs : List (Item × Value)) → T (below_all item_cmp x zs) → find item_cmp x zs ≡ None
none_below x [] h = refl
none_below x (z ∷ zs) h =
    ap (λ b. cond b (Some z.1) (find item_cmp x zs)) (not_tied (item_cmp x z.0) (first (is_lt (item_cmp x z.0)) (below_all item_cmp x zs) h))
    ∙ none_below x zs (second (is_lt (item_cmp x z.0)) (below_all item_cmp x zs) h)

-- an entry of another key is passed over
skip_valued : (x y : Item) (v : Value) (zs : List (Item × Value)) → is_eq (item_cmp x y) ≡ false → find item_cmp x (cons_some (valued y v) zs) ≡ find item_cmp x zs
skip_valued x y v zs h = grind arith

skip_cell : (m : Rows) (x y : Item) (r : Option Row) (zs : List (Item × Value)) → is_eq (item_cmp x y) ≡ false → find item_cmp x (cons_some (cell_entry m y r) zs) ≡ find item_cmp x zs
skip_cell m x y (Some (Row.Cell c)) zs h = skip_valued x y (listed_under m y c.owner c.value) zs h
skip_cell m x y r zs h = refl

skip_entry : (m : Rows) (x : Item) (f : ℕ) (k : Kind) (r : Row) (zs : List (Item × Value)) → is_eq (key_cmp (head_key x) (record { home = f; kind = k })) ≡ false → find item_cmp x (cons_some (item_entry m f k r) zs) ≡ find item_cmp x zs
skip_entry m x f (Kind.Data t k zero) (Row.Cell c) zs h = let y : Item = record { func = f; table = t; key = k } in skip_cell m x y (tail (chain m (head_key y))) zs (ap is_eq (sym (head_order x y)) ∙ h)
skip_entry m x f k r zs h = refl

-- the entry of the item's own first row
own_valued : (x : Item) (v : Value) (zs : List (Item × Value)) → find item_cmp x zs ≡ None → find item_cmp x (cons_some (valued x v) zs) ≡ not_null v
unfolding not_null
own_valued x Null zs h = h
own_valued x v zs h = ap (λ o. cond (is_eq o) (Some v) (find item_cmp x zs)) (tied_itself item_total x)

own_cell : (m : Rows) (x : Item) (r : Option Row) (zs : List (Item × Value)) → find item_cmp x zs ≡ None → find item_cmp x (cons_some (cell_entry m x r) zs) ≡ cell_shown m x r
own_cell m x (Some (Row.Cell c)) zs h = own_valued x (listed_under m x c.owner c.value) zs h
own_cell m x r zs h = h

own_entry : (m : Rows) (x : Item) (r : Row) (zs : List (Item × Value)) → find item_cmp x zs ≡ None → find item_cmp x (cons_some (item_entry m x.func (Kind.Data x.table x.key 0) r) zs) ≡ shown_in m x (Some r)
unfolding shown_in not_null
own_entry m x (Row.Cell c) zs h = own_cell m x (tail (chain m (head_key x))) zs h
own_entry m x r zs h = h

found : (m : Rows) (x : Item) (es : List (RowKey × Row)) → T (is_sorted key_cmp es) → find item_cmp x (items_in m es) ≡ shown_in m x (find key_cmp (head_key x) es)
unfolding shown_in not_null
found m x [] h = refl
found m x (e ∷ es) h =
    let rest = found m x es (second (below_all key_cmp e.0 es) (is_sorted key_cmp es) h) in
    let below = first (below_all key_cmp e.0 es) (is_sorted key_cmp es) h in
    elim (is_eq (key_cmp (head_key x) e.0)) as (λ b. is_eq (key_cmp (head_key x) e.0) ≡ b → find item_cmp x (items_in m (e ∷ es)) ≡ shown_in m x (cond b (Some e.1) (find key_cmp (head_key x) es))) [
      | true ↦ λ t.
          let own : head_key x ≡ e.0 = key_same (head_key x) e.0 t in
          ap (λ (k : RowKey). find item_cmp x (cons_some (item_entry m k.home k.kind e.1) (items_in m es))) (sym own)
          ∙ own_entry m x e.1 (items_in m es) (none_below x (items_in m es) (below_items m x es (subst (λ k. T (below_all key_cmp k es)) (sym own) below)))
      | false ↦ λ t. skip_entry m x e.0.home e.0.kind e.1 (items_in m es) t ∙ rest
    ] refl

kept_value : (o : Option Value) → (o ≡ Some Null → ⊥) → o ≡ not_null (or_null o)
unfolding not_null
kept_value None h = refl
kept_value (Some Null) h = absurd (h refl)
kept_value (Some v) h = refl

-- what is listed of an item is what its last row shows
listed_by : (m : Rows) (x : Item) (r : Option Row) (es : List (Place × Note)) → not_null (listed_under m x (held_in r es).owner (held_in r es).value) ≡ cell_shown m x r
unfolding not_null
listed_by m x (Some (Row.Cell c)) es = refl
listed_by m x r es = refl

listed_in : (m : Rows) (x : Item) (o : Option Row) → map.get m (head_key x) ≡ o → cell_shown m x (tail (chain m (head_key x))) ≡ shown_in m x o
unfolding shown_in
listed_in m x (Some (Row.Cell c)) is = refl
listed_in m x None is = ap (cell_shown m x) (no_tail (chain m (head_key x)) is)
listed_in m x (Some (Row.Intent i)) is = ap (cell_shown m x) (tail_is_head (chain m (head_key x)) (ap (λ r. above 0 (next_of r)) is) ∙ is)
listed_in m x (Some (Row.ReadLog v)) is = ap (cell_shown m x) (tail_is_head (chain m (head_key x)) (ap (λ r. above 0 (next_of r)) is) ∙ is)
listed_in m x (Some (Row.Invoke i)) is = ap (cell_shown m x) (tail_is_head (chain m (head_key x)) (ap (λ r. above 0 (next_of r)) is) ∙ is)
listed_in m x (Some Row.Lockset) is = ap (cell_shown m x) (tail_is_head (chain m (head_key x)) (ap (λ r. above 0 (next_of r)) is) ∙ is)

listed_shows : (m : Rows) (x : Item) → not_null (listed m x) ≡ shown_in m x (map.get m (head_key x))
listed_shows m x = listed_by m x (tail (chain m (head_key x))) (notes_from most_rows (chain m (head_key x)) 0) ∙ listed_in m x (map.get m (head_key x)) refl

-- the items of the plain state are those of the rows
same_items : (m : Rows) (p : PlainState) → KeepsNoNull p → ((x : Item) → listed m x ≡ or_null (map.get p.items x)) → map.entries p.items ≡ items_in m (map.entries m)
same_items m p none is = same_entries item_cmp item_total item_exact (map.entries p.items) (items_in m (map.entries m)) (entries_sorted p.items) (sorted_items m (map.entries m) (entries_sorted m)) (λ x.
    sym (get-entries p.items x) ∙ kept_value (map.get p.items x) (none x) ∙ ap not_null (sym (is x)) ∙ listed_shows m x ∙ ap (shown_in m x) (get-entries m (head_key x)) ∙ sym (found m x (map.entries m) (entries_sorted m)))

-- so the listing is plain wherever the rows list the plain values
pub listing_by : (d : Deployment) (book : List Entry) (m : Rows) (p : PlainState) → run_of d book ≡ Some p → ((x : Item) → listed m x ≡ value_at p x) → tables_text d m ≡ listing_of d p
listing_by d book m p is values = lines m d (map.entries m) ∙ ap (flat_map (item_line d)) (sym (same_items m p (no_null d book p is) values))

pub listing_plain : (d : Deployment) (c : Core) (m : Rows) (p : PlainState) → Invariant d c m → run_of d c.book ≡ Some p → tables_text d m ≡ listing_of d p
listing_plain d c m p h is = listing_by d c.book m p is (λ x. h.values x ∙ ap (λ (q : PlainState). value_at q x) (same_run d c m p h is))
