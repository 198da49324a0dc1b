-- No walk along an item removes a row.
use Rattle.std.proofs.Common.{◌≡◌, false, refl}
use Rattle.beldi_value.specs.declared.place.{Owner.Owner, Place.Place}
use Rattle.beldi_row.specs.{Act.prunes, Key.RowKey}
use Rattle.beldi_query.specs.Query.{may_remove}
use Rattle.beldi_daal.specs.{Cell.op_act, Cell.write_asks, declared.cell.CellOp.CellOp, declared.cell.WriteAt.WriteAt}

op_spares : (p : Place) (w : Owner) (op : CellOp) → prunes (op_act p w op) ≡ false
op_spares p w (CellOp.Write v) = refl
op_spares p w (CellOp.Cond r o v) = refl
op_spares p w CellOp.Lock = refl
op_spares p w (CellOp.Free v) = refl

pub write_spares : (k : RowKey) (p : Place) (w : Owner) (op : CellOp) (at : WriteAt) → may_remove (write_asks k p w op at) ≡ false
write_spares k p w op (WriteAt.Try r) = op_spares p w op
write_spares k p w op WriteAt.Make = refl
write_spares k p w op (WriteAt.Append n t) = refl
write_spares k p w op (WriteAt.Link n) = refl
