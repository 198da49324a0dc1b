-- An operation that an instance outside transactions did on an item.
use Rattle.std.specs.Prelude.{◌≡◌, None}
use Rattle.beldi_value.specs.declared.place.{Place.Place, Owner.Owner}
use Rattle.beldi_plain.specs.{Item.Item, Operation.Operation, Operation.write, Operation.lock, Operation.free}
use Rattle.beldi_plain.specs.Operation as operation
use Rattle.beldi_row.specs.{Log.note_at, Table.Rows}
use Rattle.beldi_chain.specs.Chain.{ChangedAlone}
use Rattle.beldi_daal.specs.{Logged.barred, Logged.done_to, declared.cell.CellOp.CellOp}
use Rattle.beldi_histories.specs.Contents.{head_key, content_of, IsLinkedItem}

-- what it does to the item's cell
abbrev pub cell_of : Operation → CellOp
cell_of (write v) = CellOp.Write v
cell_of (operation.cond r u v) = CellOp.Cond r u v
cell_of lock = CellOp.Lock
cell_of free = CellOp.Free None

-- it was done on an item, for a place
pub record DoneRows (m n : Rows) (x : Item) (p : Place) (op : CellOp) : Type 0 where
  pub same : ChangedAlone (head_key x) m n
  pub linked : IsLinkedItem n x
  pub none : note_at (content_of m x).notes p ≡ None
  pub free : barred op (Owner.Intent p.intent) (content_of m x).owner ≡ None
  pub here : content_of n x ≡ done_to p (Owner.Intent p.intent) op (content_of m x)
