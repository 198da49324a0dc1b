use Rattle.std.proofs.Common.{◌≡◌, false, subst, sym, ap, ◌∙◌, arith}
use Rattle.beldi_row.specs.Table.{is_open}
use Rattle.beldi_region.specs.{SlotOrder.IsHeld, SlotOrder.rows_in, SlotOrder.pairs, Ids.ids_of, Ids.place_of, declared.order.Entry.Entry}
use Rattle.beldi_region.proofs.{Held.held_put, Held.map_put, Held.pairs_put, Listed.within, Listed.listed_put, Listed.listed_closed}
use Rattle.beldi_region.proofs.region_table.RegionTable.put.Goals as goal

pub follow-requires-clause-within : goal.follow-requires-clause-within
follow-requires-clause-within c =
    let t = c.args.self.now in
    let e : Entry = record { key = c.args.key; row = c.args.row } in
    let put = c.in-Ok.ensures.ok in
    let wide = t.wide in
    let room = put.frame.room in
    within c.put.new.self _ _ (held_put t.region c.put.new.self (ids_of t.index) c.in-Ok.id e (place_of t.index c.args.spot) t.held put c.requires.gap) (omega (arith, wide, room))

pub follow-requires-clause-listed : goal.follow-requires-clause-listed
follow-requires-clause-listed c =
    let t = c.args.self.now in
    listed_put t.region c.put.new.self (ids_of t.index) (ids_of t.opened) c.in-Ok.id (record { key = c.args.key; row = c.args.row }) (place_of t.index c.args.spot) t.held c.in-Ok.ensures.ok c.requires.gap t.listed

pub follow-requires-clause-stays : goal.follow-requires-clause-stays
follow-requires-clause-stays c =
    λ closed.
    let t = c.args.self.now in
    let e : Entry = record { key = c.args.key; row = c.args.row } in
    let shut : is_open e.key.kind e.row ≡ false = ap (λ k. is_open k e.row) (sym c.kind.ensures) ∙ sym c.is_open-opens.ensures ∙ closed in
    listed_closed c.put.new.self (ids_of t.opened) c.in-Ok.id e c.in-Ok.ensures.ok.found
    (listed_put t.region c.put.new.self (ids_of t.index) (ids_of t.opened) c.in-Ok.id e (place_of t.index c.args.spot) t.held c.in-Ok.ensures.ok c.requires.gap t.listed) shut

pub invariant_of-self-clause-held : goal.invariant_of-self-clause-held
invariant_of-self-clause-held c =
    let t = c.args.self.now in
    subst (IsHeld c.put.new.self) (sym c.insert.ensures.ids)
    (held_put t.region c.put.new.self (ids_of t.index) c.in-Ok.id (record { key = c.args.key; row = c.args.row }) (place_of t.index c.args.spot) t.held c.in-Ok.ensures.ok c.requires.gap)

pub returns-in-Ok-clause-rows : goal.returns-in-Ok-clause-rows
returns-in-Ok-clause-rows c =
    let t = c.args.self.now in
    ap (rows_in c.put.new.self) c.insert.ensures.ids
    ∙ map_put t.region c.put.new.self (ids_of t.index) c.in-Ok.id (record { key = c.args.key; row = c.args.row }) (place_of t.index c.args.spot) t.held c.in-Ok.ensures.ok c.requires.gap

pub returns-in-Ok-clause-pairs : goal.returns-in-Ok-clause-pairs
returns-in-Ok-clause-pairs c =
    let t = c.args.self.now in
    ap (pairs c.put.new.self) c.insert.ensures.ids
    ∙ pairs_put t.region c.put.new.self (ids_of t.index) c.in-Ok.id (record { key = c.args.key; row = c.args.row }) (place_of t.index c.args.spot) t.held c.in-Ok.ensures.ok c.requires.gap
