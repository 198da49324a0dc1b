-- The items table by table.
use Rattle.std.specs.Prelude.{ℕ, List, Option, Some, None, map, flat_map, option_and_then, refl}
use Rattle.std.specs.{FinMap.FinMap, FinMap.IsAntisymmetric, FinMap.nat_cmp-IsAntisymmetric, FinMap.slice_cmp-IsAntisymmetric, Coded.Coded, Coded.code_by, Coded.coded×, Coded.coded_ℕ, Ordering.nat_cmp, Ordering.ordering_then, Cmp.IsTotalOrder, Cmp.nat_cmp_total, Cmp.on_total, Cmp.then_total, Cmp.Lexicographic.slice_cmp, Cmp.Lexicographic.nat_list_cmp_total, declared.cmp.Ordering.Ordering}
use Rattle.std.specs.FinMap as finite
use Rattle.beldi_value.specs.{Id.then_both, declared.value.Value.Value}
use Rattle.beldi_plain.specs.Item.{Item, item_cmp}
use Rattle.beldi_executor.specs.declared.tables.TableId.{TableId}

-- keys by their bytes
abbrev pub key_cmp : List ℕ → List ℕ → Ordering
key_cmp = slice_cmp nat_cmp

pub key_total : IsTotalOrder key_cmp
key_total = nat_list_cmp_total

pub key_exact : IsAntisymmetric key_cmp
key_exact = slice_cmp-IsAntisymmetric nat_cmp-IsAntisymmetric

-- tables by function and number
abbrev pub table_cmp : TableId → TableId → Ordering
table_cmp a b = ordering_then (nat_cmp a.func b.func) (nat_cmp a.table b.table)

pub table_total : IsTotalOrder table_cmp
table_total = then_total (on_total (λ a. a.func) nat_cmp_total) (on_total (λ a. a.table) nat_cmp_total)

-- tables that compare alike are one
pub table_exact : IsAntisymmetric table_cmp
table_exact a b h =
    let e = then_both (nat_cmp a.func b.func) (nat_cmp a.table b.table) h in
    λ i. record { func = nat_cmp-IsAntisymmetric a.func b.func e.0 i; table = nat_cmp-IsAntisymmetric a.table b.table e.1 i }

abbrev pub coded_table : Coded TableId
coded_table = code_by (ℕ × ℕ) (coded× coded_ℕ coded_ℕ) (λ a. (a.func, a.table)) (λ p. record { func = p.0; table = p.1 }) (λ _. refl)

-- the values of one table that are not null, by key
abbrev pub Cells : Type 0
Cells = FinMap key_cmp Value

-- those of all tables
abbrev pub Tables : Type 0
Tables = FinMap table_cmp Cells

-- an item of a table
abbrev pub item_at : TableId → List ℕ → Item
item_at t k = record { func = t.func; table = t.table; key = k }

abbrev pub cells_at : TableId → List (List ℕ × Value) → List (Item × Value)
cells_at t cs = map (λ c. (item_at t c.0, c.1)) cs

abbrev pub items_in : List (TableId × Cells) → List (Item × Value)
items_in ts = flat_map (λ e. cells_at e.0 (finite.entries e.1)) ts

-- the items of all tables
abbrev pub items_of : Tables → FinMap item_cmp Value
items_of m = finite.from_sorted (items_in (finite.entries m))

abbrev pub or_none : Option Cells → Cells
or_none None = finite.empty
or_none (Some m) = m

-- one cell is set, also to null
abbrev pub put_cell : Tables → TableId → List ℕ → Value → Tables
put_cell m t k v = finite.insert m t (finite.insert (or_none (finite.get m t)) k v)

-- .. or is not there, where the table has these cells
abbrev pub unset_cell : Tables → TableId → List ℕ → Option Cells → Tables
unset_cell m t k None = m
unset_cell m t k (Some c) = finite.insert m t (finite.remove c k)

-- what the cells of a table, where there are any, have at a key
abbrev pub at_key : List ℕ → Option Cells → Option Value
at_key k o = option_and_then (λ m. finite.get m k) o
