-- The walks over a shadow, as machines that ask one thing a turn: those of a read and of a write, which say less.
use Rattle.std.specs.Prelude.{ℕ, List, None}
use Rattle.beldi_value.specs.declared.place.{Place.Place, TxId.TxId, Owner.TheVariants.Tx}
use Rattle.beldi_query.specs.{declared.query.Query.Query, Query.QueryReply}
use Rattle.beldi_daal.specs.declared.{cell.CellOp.CellOp, walk.Item.TheVariants.Shadow, walk.WriteOutput.WriteOutput, read_walk.ReadOutput.ReadOutput}
use Rattle.beldi_daal.specs.ReadWalk as read
use Rattle.beldi_daal.specs.WriteWalk as write
use Rattle.beldi_shadow.specs.declared.shadow.{ShadowRead.ShadowRead, ShadowWrite.ShadowWrite, ShadowOutput.ShadowOutput, ShadowOutput.TheVariants.Going, ShadowOutput.TheVariants.Got, ShadowOutput.TheVariants.Noted, ShadowOutput.TheVariants.Worn}

-- ---- a read
abbrev pub first_read : ℕ → TxId → ℕ → List ℕ → ShadowRead
first_read home x t k = record { walk = read.first_read home (Shadow x t k) None }

abbrev pub read_asks : ShadowRead → Query
read_asks w = read.read_asks w.walk

abbrev pub read_next : ShadowRead → QueryReply → ShadowRead
read_next w t = record { walk = read.read_next w.walk t }

-- nobody owns a shadow
abbrev pub read_so : ReadOutput → ShadowOutput
read_so ReadOutput.Going = Going
read_so (ReadOutput.Got v) = Got v
read_so (ReadOutput.Held o) = Going

abbrev pub read_output : ShadowRead → QueryReply → ShadowOutput
read_output w t = read_so (read.read_output w.walk t)

-- ---- a write
abbrev pub first_write : ℕ → TxId → Place → ℕ → List ℕ → CellOp → ShadowWrite
first_write home x p t k op = record { walk = write.first_walk home (Shadow x t k) p (Tx x) op }

abbrev pub write_asks : ShadowWrite → Query
write_asks w = write.walk_asks w.walk

abbrev pub write_next : ShadowWrite → QueryReply → ShadowWrite
write_next w t = record { walk = write.walk_next w.walk t }

abbrev pub write_so : WriteOutput → ShadowOutput
write_so WriteOutput.Going = Going
write_so (WriteOutput.Done n first) = Noted n
write_so WriteOutput.NotOwner = Going
write_so (WriteOutput.Held o) = Going
write_so WriteOutput.Worn = Worn

abbrev pub write_output : ShadowWrite → QueryReply → ShadowOutput
write_output w t = write_so (write.walk_output w.walk t)
