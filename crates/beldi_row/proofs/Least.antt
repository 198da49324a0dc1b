-- The row after a key has the least greater key.
use Rattle.std.specs.Prelude.{T}
use Rattle.std.{specs.FinMap.find, specs.FinMap.get-entries, specs.FinMap.Entries.below_all, specs.FinMap.Entries.is_sorted, specs.Ordering.is_lt, specs.Ordering.is_eq, specs.declared.cmp.Ordering.Ordering, specs.declared.cmp.Ordering.TheVariants.Less, specs.declared.cmp.Ordering.TheVariants.Equal, specs.declared.cmp.Ordering.TheVariants.Greater, proofs.lemmas.Cmp.tied_itself}
use Rattle.std.specs.FinMap as map
use Rattle.std.proofs.Common.{◌≡◌, Bool, true, false, ◌&&◌, cond, List, [], ◌∷◌, Option, None, Some, refl, ap, sym, ◌∙◌, subst, if◌then◌else◌}
use Rattle.beldi_row.{specs.Key.RowKey, specs.Key.key_cmp, specs.KeyOrder.key_total, specs.declared.row.Row.Row, specs.Table.Rows, specs.Table.IsNext, specs.Table.NextRowIsLeast, specs.Table.first_above, specs.Table.next_row, proofs.Gets.key_same}

abbrev Entry : Type 0
Entry = RowKey × Row

-- `IsNext`, of entries in order
abbrev IsFirst : List Entry → RowKey → Option Entry → Type 0
IsFirst es k None = (q : RowKey) → key_cmp k q ≡ Less → find key_cmp q es ≡ None
IsFirst es k (Some e) = (key_cmp k e.0 ≡ Less) × (find key_cmp e.0 es ≡ Some e.1) × ((q : RowKey) → key_cmp k q ≡ Less → key_cmp q e.0 ≡ Less → find key_cmp q es ≡ None)

first : (a b : Bool) → T (a && b) → T a
first true b p = tt
first false b p = p

second : (a b : Bool) → T (a && b) → T b
second true b p = p
second false b p = absurd p

less : (o : Ordering) → T (is_lt o) → o ≡ Less
less Less h = refl
less Equal h = absurd h
less Greater h = absurd h

-- no entry has a key below those of all
none_below : (q k : RowKey) (es : List Entry) → key_cmp q k ≡ Less → T (below_all key_cmp k es) → find key_cmp q es ≡ None
none_below q k [] h below = refl
none_below q k (e ∷ es) h below =
    ap (λ o. cond (is_eq o) (Some e.1) (find key_cmp q es)) (key_total.trans q k e.0 h (less (key_cmp k e.0) (first _ _ below)))
    ∙ none_below q k es h (second _ _ below)

-- an entry that is not past the key is not at a key past it
passed : (k q : RowKey) (e : Entry) (es : List Entry) → is_lt (key_cmp k e.0) ≡ false → key_cmp k q ≡ Less → find key_cmp q (e ∷ es) ≡ find key_cmp q es
passed k q e es h past = elim (is_eq (key_cmp q e.0)) as (λ b. is_eq (key_cmp q e.0) ≡ b → cond b (Some e.1) (find key_cmp q es) ≡ find key_cmp q es) [
  | true ↦ λ t. let clash : true ≡ false = sym (ap is_lt past) ∙ ap (λ z. is_lt (key_cmp k z)) (key_same q e.0 t) ∙ h in cc
  | false ↦ λ t. refl
] refl

later : (k : RowKey) (e : Entry) (es : List Entry) (r : Option Entry) → is_lt (key_cmp k e.0) ≡ false → IsFirst es k r → IsFirst (e ∷ es) k r
later k e es None h first = λ q past. passed k q e es h past ∙ first q past
later k e es (Some x) h first = (first.0, passed k x.0 e es h first.0 ∙ first.1, λ q past below. passed k q e es h past ∙ first.2 q past below)

least : (k : RowKey) (es : List Entry) → T (is_sorted key_cmp es) → IsFirst es k (first_above k es)
least k [] s = λ q past. refl
least k (e ∷ es) s = elim (is_lt (key_cmp k e.0)) as (λ b. is_lt (key_cmp k e.0) ≡ b → IsFirst (e ∷ es) k (if b then Some e else first_above k es)) [
  | true ↦ λ t. (
    less (key_cmp k e.0) (subst T (sym t) tt),
    ap (λ o. cond (is_eq o) (Some e.1) (find key_cmp e.0 es)) (tied_itself key_total e.0),
    λ q past below. ap (λ o. cond (is_eq o) (Some e.1) (find key_cmp q es)) below ∙ none_below q e.0 es below (first _ _ s),
  )
  | false ↦ λ t. later k e es (first_above k es) t (least k es (second _ _ s))
] refl

in_map : (m : Rows) (k : RowKey) (r : Option Entry) → IsFirst (map.entries m) k r → IsNext m k r
in_map m k None h = λ q past. get-entries m q ∙ h q past
in_map m k (Some e) h = (h.0, get-entries m e.0 ∙ h.1, λ q past below. get-entries m q ∙ h.2 q past below)

pub next_row_least : NextRowIsLeast
next_row_least m k = in_map m k (next_row m k) (least k (map.entries m) (map.entries_sorted m))
