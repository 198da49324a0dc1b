-- The walk of a write, as a machine that asks one thing a turn.
use Rattle.std.specs.Prelude.{ℕ}
use Rattle.beldi_value.specs.declared.place.{Place.Place, Owner.Owner}
use Rattle.beldi_row.specs.Key.{RowKey}
use Rattle.beldi_query.specs.{declared.query.Query.Query, Query.QueryReply}
use Rattle.beldi_daal.specs.{declared.cell.WriteAt.TheVariants.Try, declared.cell.WriteGoes.WriteGoes, declared.walk.WriteWalk.WriteWalk, declared.walk.Item.Item, declared.walk.Item.TheVariants.Plain, declared.walk.Item.TheVariants.Shadow, declared.cell.CellOp.CellOp, declared.walk.WriteOutput.WriteOutput, declared.walk.WriteOutput.TheVariants.Going, declared.walk.WriteOutput.TheVariants.Done, declared.walk.WriteOutput.TheVariants.NotOwner, declared.walk.WriteOutput.TheVariants.Held, declared.walk.WriteOutput.TheVariants.Worn, Cell.cell_key, Cell.shadow_key, Cell.done_note, Cell.write_asks, Cell.write_goes}

abbrev pub first_walk : ℕ → Item → Place → Owner → CellOp → WriteWalk
first_walk home item place who op = record { home = home; item = item; place = place; who = who; op = op; at = Try 0 }

-- the key of an item's first row, in the home of the function that has the item
abbrev pub first_key : ℕ → Item → RowKey
first_key home (Plain t k) = cell_key home t k
first_key home (Shadow x t k) = shadow_key home x t k

abbrev pub walk_key : WriteWalk → RowKey
walk_key w = first_key w.home w.item

abbrev pub walk_asks : WriteWalk → Query
walk_asks w = write_asks (walk_key w) w.place w.who w.op w.at

-- the walk stands where it stood, unless it goes on
abbrev pub walk_at : WriteWalk → WriteGoes → WriteWalk
walk_at w (WriteGoes.On at) = record w { at = at }
walk_at w WriteGoes.Stays = w
walk_at w (WriteGoes.Done n first) = w
walk_at w WriteGoes.NotOwner = w
walk_at w (WriteGoes.Held o) = w
walk_at w WriteGoes.Worn = w

abbrev pub walk_so : WriteGoes → WriteOutput
walk_so (WriteGoes.On at) = Going
walk_so WriteGoes.Stays = Going
walk_so (WriteGoes.Done n first) = Done n first
walk_so WriteGoes.NotOwner = NotOwner
walk_so (WriteGoes.Held o) = Held o
walk_so WriteGoes.Worn = Worn

-- the walk after it was told, and its answer
abbrev pub walk_next : WriteWalk → QueryReply → WriteWalk
walk_next w t = walk_at w (write_goes (done_note w.op) w.at t)

abbrev pub walk_output : WriteWalk → QueryReply → WriteOutput
walk_output w t = walk_so (write_goes (done_note w.op) w.at t)
