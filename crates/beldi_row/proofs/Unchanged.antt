-- Rows that an act leaves as they are.
use Rattle.std.specs.FinMap as map
use Rattle.std.proofs.Common.{◌≡◌, ℕ, Option, None, Some, refl, ap, sym, ◌∙◌}
use Rattle.beldi_row.{specs.KeyOrder.key_total, specs.KeyOrder.key_exact, specs.Key.RowKey, specs.declared.row.Row.Row, specs.declared.act.Act.Act, specs.declared.act.Act.TheVariants.Look, specs.Act.act, specs.Table.Rows, specs.Table.set_row, specs.Table.after_act, proofs.TableRows.same_set, proofs.TableRows.none_removed}

-- a row set to what it is
pub unchanged : (m : Rows) (k : RowKey) (v : Option Row) → v ≡ map.get m k → set_row m k v ≡ m
unchanged m k None h = none_removed key_total key_exact m k (sym h)
unchanged m k (Some r) h = same_set key_total key_exact m k r (sym h)

-- an act that leaves the row that it finds
pub left : (a : Act) (now : ℕ) (k : RowKey) (m : Rows) (v : Option Row) → map.get m k ≡ v → (act a now v).0 ≡ v → after_act a now k m ≡ m
left a now k m v here same = unchanged m k (act a now (map.get m k)).0 (ap (λ o. (act a now o).0) here ∙ same ∙ sym here)

look_row : (now : ℕ) (v : Option Row) → (act Look now v).0 ≡ v
look_row now None = refl
look_row now (Some r) = refl

pub looked : (now : ℕ) (k : RowKey) (m : Rows) → after_act Look now k m ≡ m
looked now k m = left Look now k m (map.get m k) refl (look_row now (map.get m k))
