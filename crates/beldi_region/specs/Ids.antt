-- The slots of an order, and places in it.
use Rattle.std.specs.Prelude.{ℕ, List, Result, Ok, Err}
use Rattle.beldi_region.specs.{Blocks.flat, Blocks.place_in, declared.region.SlotId.SlotId, declared.blocks.Spot.Spot, declared.order.Order.Order}

-- the slots, in order
abbrev pub ids_of : Order → List SlotId
ids_of o = flat o.blocks.lists

-- how many slots stand before a place
abbrev pub place_of : Order → Spot → ℕ
place_of o p = place_in o.blocks.lists p

-- .. before the place that a search came to
abbrev pub placed : Order → Result Spot Spot → Result ℕ ℕ
placed o (Ok p) = Ok (place_of o p)
placed o (Err p) = Err (place_of o p)

abbrev pub found : Order → Result SlotId Spot → Result SlotId ℕ
found o (Ok id) = Ok id
found o (Err p) = Err (place_of o p)
