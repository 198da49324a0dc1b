use Rattle.beldi_region.specs.Blocks.{half_room}
use Rattle.beldi_region.proofs.Spots.{leads_on}
use Rattle.beldi_region.proofs.order.Order.next.Goals as goal

pub returns-clause-slot : goal.returns-clause-slot
returns-clause-slot c = rw c.next.ensures (leads_on half_room c.args.self.now.blocks.lists c.args.spot c.args.self.now.tight c.requires).slot

pub returns-clause-spot : goal.returns-clause-spot
returns-clause-spot c = rw c.next.ensures (leads_on half_room c.args.self.now.blocks.lists c.args.spot c.args.self.now.tight c.requires).spot

pub returns-clause-place : goal.returns-clause-place
returns-clause-place c = rw c.next.ensures (leads_on half_room c.args.self.now.blocks.lists c.args.spot c.args.self.now.tight c.requires).place
