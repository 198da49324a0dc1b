use Rattle.std.proofs.Common.{arith}
use Rattle.beldi_region.proofs.Spots.{before_none, first_spot}
use Rattle.beldi_region.proofs.order.Order.start.Goals as goal

pub returns : goal.returns
returns c = let first = before_none c.args.self.now.blocks.lists in record { spot = first_spot c.args.self.now.blocks.lists; place = omega (arith, first) }
