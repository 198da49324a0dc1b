-- The listing of tables, as the rows have it.
use Rattle.std.specs.Prelude.{ℕ, zero, Bool, false, List, [], Option, Some, flat_map, if◌then◌else◌}
use Rattle.std.specs.FinMap as map
use Rattle.beldi_value.specs.declared.{place.Owner.Owner, place.Owner.TheVariants.Tx, place.TxId.TxId, value.Value.Value}
use Rattle.beldi_tree.specs.declared.deployment.Deployment.{Deployment}
use Rattle.beldi_book.specs.BookText.{item_text}
use Rattle.beldi_row.specs.{Key.RowKey, Key.head_key, declared.key.Kind.Kind, declared.key.Kind.TheVariants.Data, declared.row.Row.Row, declared.row.Row.TheVariants.Cell, declared.row.Row.TheVariants.ReadLog, Table.Rows}
use Rattle.beldi_chain.specs.Chain.{chain, tail}
use Rattle.beldi_daal.specs.Cell.{shadow_key}
use Rattle.beldi_readlog.specs.ReadLog.{log_key}

-- the row of a transaction's decision, at the step that began it
abbrev pub decision_key : TxId → RowKey
decision_key t = log_key t.func (record { intent = t.intent; step = t.begin })

-- it is a commit
abbrev pub is_committed : Option Row → Bool
is_committed (Some (ReadLog (Value.Bool b))) = b
is_committed r = false

-- the value of a cell, else this one
abbrev pub value_in : Option Row → Value → Value
value_in (Some (Cell c)) v = c.value
value_in r v = v

-- the value of an item that a transaction owns, by the keys of its decision and of the first row of its shadow, and the item's own
-- value: where it is committed and has a shadow, that of the shadow's last row
abbrev pub owned_value : Rows → RowKey → RowKey → Value → Value
owned_value m decision shadow v = if is_committed (map.get m decision) then value_in (tail (chain m shadow)) v else v

-- the value that is shown of an item, by its owner and its own value
abbrev pub shown_under : Rows → ℕ → ℕ → List ℕ → Option Owner → Value → Value
shown_under m f t k (Some (Tx x)) v = owned_value m (decision_key x) (shadow_key f x t k) v
shown_under m f t k o v = v

-- an item that is null has no line
abbrev pub value_line : Deployment → ℕ → ℕ → List ℕ → Value → List ℕ
value_line d f t k Value.Null = []
value_line d f t k v = item_text d f t k v

-- the line of an item, by its last row
abbrev pub cell_line : Deployment → Rows → ℕ → ℕ → List ℕ → Option Row → List ℕ
cell_line d m f t k (Some (Cell c)) = value_line d f t k (shown_under m f t k c.owner c.value)
cell_line d m f t k r = []

-- an item has its line at its first row
abbrev pub line_at : Deployment → Rows → ℕ → Kind → Row → List ℕ
line_at d m f (Data t k zero) (Cell c) = cell_line d m f t k (tail (chain m (head_key f t k)))
line_at d m f k r = []

abbrev pub row_line : Deployment → Rows → RowKey × Row → List ℕ
row_line d m e = line_at d m e.0.home e.0.kind e.1

-- a line for each item that is not null, in the order of functions, tables and the bytes of keys
abbrev pub tables_text : Deployment → Rows → List ℕ
tables_text d m = flat_map (row_line d m) (map.entries m)
