use Rattle.std.proofs.Common.{arith}
use Rattle.beldi_region.proofs.RegionKept.{room_made, inserts, spare_left}
use Rattle.beldi_region.proofs.order.Order.insert.Goals as goal

pub make_room-spot-requires-clause-spare : goal.make_room-spot-requires-clause-spare
make_room-spot-requires-clause-spare c =
    let o = c.args.self.now in
    let wide = o.wide in
    let room = c.requires.room in
    spare_left o.blocks.lists o.blocks.spares o.tight (omega (arith, wide, room))

pub insert-requires-clause-spot : goal.insert-requires-clause-spot
insert-requires-clause-spot c =
    let o = c.args.self.now in
    let wide = o.wide in
    let room = c.requires.room in
    let told = c.make_room-spot.ensures in
    (room_made o.blocks c.make_room-spot.new.self c.args.spot c.make_room-spot.result o.tight c.requires.fits (spare_left o.blocks.lists o.blocks.spares o.tight (omega (arith, wide, room))) told.fits told.blocks told.spot).here

pub insert-requires-clause-room : goal.insert-requires-clause-room
insert-requires-clause-room c =
    let o = c.args.self.now in
    let wide = o.wide in
    let room = c.requires.room in
    let told = c.make_room-spot.ensures in
    (room_made o.blocks c.make_room-spot.new.self c.args.spot c.make_room-spot.result o.tight c.requires.fits (spare_left o.blocks.lists o.blocks.spares o.tight (omega (arith, wide, room))) told.fits told.blocks told.spot).room

pub invariant_of-self : goal.invariant_of-self
invariant_of-self c =
    let o = c.args.self.now in
    let wide = o.wide in
    let room = c.requires.room in
    let told = c.make_room-spot.ensures in
    let roomy = room_made o.blocks c.make_room-spot.new.self c.args.spot c.make_room-spot.result o.tight c.requires.fits (spare_left o.blocks.lists o.blocks.spares o.tight (omega (arith, wide, room))) told.fits told.blocks told.spot in
    let put = inserts o.blocks c.make_room-spot.new.self c.insert.new.self c.args.spot c.make_room-spot.result c.args.id c.requires.fits roomy c.insert.ensures in
    let more = put.more in
    let all = put.count in
    let count = o.count in
    record { tight = put.tight; count = omega (arith, more, count); wide = omega (arith, wide, all) }

pub returns-clause-ids : goal.returns-clause-ids
returns-clause-ids c =
    let o = c.args.self.now in
    let wide = o.wide in
    let room = c.requires.room in
    let told = c.make_room-spot.ensures in
    let roomy = room_made o.blocks c.make_room-spot.new.self c.args.spot c.make_room-spot.result o.tight c.requires.fits (spare_left o.blocks.lists o.blocks.spares o.tight (omega (arith, wide, room))) told.fits told.blocks told.spot in
    (inserts o.blocks c.make_room-spot.new.self c.insert.new.self c.args.spot c.make_room-spot.result c.args.id c.requires.fits roomy c.insert.ensures).same
