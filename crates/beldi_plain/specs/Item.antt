-- Items: what a function owns under a key of one of its tables.
use Rattle.std.specs.Prelude.{ℕ, List, refl}
use Rattle.std.specs.{Ordering.nat_cmp, Ordering.ordering_then, Coded.Coded, Coded.code_by, Coded.coded×, Coded.coded_ℕ, Coded.coded_list, Cmp.IsTotalOrder, Cmp.nat_cmp_total, Cmp.on_total, Cmp.then_total, Cmp.Lexicographic.slice_cmp, Cmp.Lexicographic.nat_list_cmp_total, FinMap.IsAntisymmetric, FinMap.nat_cmp-IsAntisymmetric, FinMap.slice_cmp-IsAntisymmetric, declared.cmp.Ordering.Ordering}
use Rattle.beldi_value.specs.Id.{then_both}

pub record Item : Type 0 where
  pub func : ℕ
  pub table : ℕ
  pub key : List ℕ

-- an item as a triple
abbrev pub coded_item : Coded Item
coded_item = code_by (ℕ × (ℕ × List ℕ)) (coded× coded_ℕ (coded× coded_ℕ (coded_list coded_ℕ))) (λ a. (a.func, (a.table, a.key))) (λ p. record { func = p.0; table = p.1.0; key = p.1.1 }) (λ _. refl)

-- by function, table and the bytes of the key
abbrev pub item_cmp : Item → Item → Ordering
item_cmp a b = ordering_then (nat_cmp a.func b.func) (ordering_then (nat_cmp a.table b.table) (slice_cmp nat_cmp a.key b.key))

pub item_total : IsTotalOrder item_cmp
item_total = then_total (on_total (λ a. a.func) nat_cmp_total) (then_total (on_total (λ a. a.table) nat_cmp_total) (on_total (λ a. a.key) nat_list_cmp_total))

-- items that compare alike are one
pub item_exact : IsAntisymmetric item_cmp
item_exact a b h =
    let e = then_both (nat_cmp a.func b.func) (ordering_then (nat_cmp a.table b.table) (slice_cmp nat_cmp a.key b.key)) h in
    let f = then_both (nat_cmp a.table b.table) (slice_cmp nat_cmp a.key b.key) e.1 in
    λ i. record {
      func = nat_cmp-IsAntisymmetric a.func b.func e.0 i;
      table = nat_cmp-IsAntisymmetric a.table b.table f.0 i;
      key = slice_cmp-IsAntisymmetric nat_cmp-IsAntisymmetric a.key b.key f.1 i;
    }
