-- What is at a key after a row was set.
use Rattle.std.{specs.FinMap.get-insert, specs.FinMap.get-remove, specs.Cmp.Equal-is, specs.Ordering.is_eq, proofs.lemmas.Cmp.tied_itself}
use Rattle.std.specs.FinMap as map
use Rattle.std.proofs.Common.{◌≡◌, true, cond, Option, None, Some, ap}
use Rattle.beldi_row.specs.{Key.RowKey, Key.key_cmp, KeyOrder.key_total, KeyOrder.key_exact, declared.row.Row.Row, Table.Rows, Table.set_row}

pub got : (m : Rows) (k q : RowKey) (v : Option Row) → map.get (set_row m k v) q ≡ cond (is_eq (key_cmp q k)) v (map.get m q)
got m k q None = get-remove key_total m k q
got m k q (Some r) = get-insert key_total m k r q

pub key_self : (k : RowKey) → is_eq (key_cmp k k) ≡ true
key_self k = ap is_eq (tied_itself key_total k)

pub key_same : (k q : RowKey) → is_eq (key_cmp k q) ≡ true → k ≡ q
key_same k q h = key_exact k q ((Equal-is (key_cmp k q)).0 h)
