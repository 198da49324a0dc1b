-- A store that is not open yet has no rows.
use Rattle.std.specs.FinMap.{get-empty, get-remove, same_map}
use Rattle.std.specs.FinMap as map
use Rattle.std.specs.Prelude.{IfSome, option_map}
use Rattle.std.specs.Ordering.{is_eq}
use Rattle.std.proofs.Common.{◌≡◌, Bool, true, false, cond, Option, Some, None, ap, sym, refl, ◌∙◌}
use Rattle.beldi_row.{specs.Key.RowKey, specs.Key.key_cmp, specs.KeyOrder.key_total, specs.KeyOrder.key_exact, specs.Table.Rows, specs.Table.next_row, specs.declared.row.Row.Row, proofs.Least.next_row_least}
use Rattle.beldi_sqltable.specs.Store.{Stepped}
use Rattle.beldi_sqlrows.{specs.LateFailure.late_rows, proofs.StoredRows.one_next}

pub none_read : {S : Type 0} (rows : S → Option Rows) (o : Option S) (k : RowKey) → o ≡ None → IfSome (late_rows rows o) (λ m. None ≡ map.get m k)
none_read rows None k is = sym (get-empty key_cmp k)
none_read rows (Some s) k is = cc

pub none_after : {S : Type 0} (rows : S → Option Rows) (o : Option S) (k : RowKey) → o ≡ None → Stepped k (late_rows rows o) None
none_after rows None k is = one_next map.empty k None (next_row map.empty k) (λ q past. get-empty key_cmp q) (next_row_least map.empty k)
none_after rows (Some s) k is = cc

no_row_less : (b : Bool) (x : Option Row) → x ≡ None → x ≡ cond b None x
no_row_less true x is = is
no_row_less false x is = refl

rows_still : (m : Rows) (k : RowKey) → ((q : RowKey) → map.get m q ≡ None) → m ≡ map.remove m k
rows_still m k none = same_map key_total key_exact m (map.remove m k) (λ q. no_row_less (is_eq (key_cmp q k)) (map.get m q) (none q) ∙ sym (get-remove key_total m k q))

pub none_removed : {S : Type 0} (rows : S → Option Rows) (o : Option S) (k : RowKey) → o ≡ None → late_rows rows o ≡ option_map (λ m. map.remove m k) (late_rows rows o)
none_removed rows None k is = ap Some (rows_still map.empty k (get-empty key_cmp))
none_removed rows (Some s) k is = cc
