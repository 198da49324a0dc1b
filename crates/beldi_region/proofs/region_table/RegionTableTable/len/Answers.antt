use Rattle.std.proofs.Common.{arith}
use Rattle.beldi_region.{specs.Ids.ids_of, proofs.Held.len_is}
use Rattle.beldi_region.proofs.region_table.RegionTableTable.len.Goals as goal

pub returns : goal.returns
returns c = let t = c.args.self.now in let long = len_is t.region (ids_of t.index) t.held.ordered in let real = c.len.ensures in omega (arith, long, real)
