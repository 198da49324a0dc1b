use Rattle.std.proofs.Common.{◌≡◌, false, ap, sym, subst, ◌∙◌}
use Rattle.beldi_row.specs.Table.{is_open}
use Rattle.beldi_region.specs.{SlotOrder.IsListed, Ids.ids_of, Ids.place_of}
use Rattle.beldi_region.proofs.{Held.nowhere, Listed.room_for, Listed.listed_more, Listed.listed_less, Listed.listed_there}
use Rattle.beldi_region.proofs.opened.list.Goals as goal

pub insert-requires-clause-room : goal.insert-requires-clause-room
insert-requires-clause-room c = room_for c.args.region.now (ids_of c.args.opened.now) c.args.id c.in-Ok.entry.now c.in-Ok.ensures.found c.requires.listed (place_of c.args.opened.now c.in-Err-place_of.spot) c.in-Err-place_of.ensures.places c.requires.within

pub returns-then-not-wanted-clause-listed : goal.returns-then-not-wanted-clause-listed
returns-then-not-wanted-clause-listed c =
    let r = c.args.region.now in
    let x = c.in-Ok.entry.now in
    let closed : is_open x.key.kind x.row ≡ false = ap (λ k. is_open k x.row) (sym c.kind.ensures) ∙ sym c.is_open-wanted.ensures ∙ c.if-not-wanted.true in
    let there = c.in-Ok-place_of.ensures.places in
    subst (IsListed r) (sym c.remove.ensures.ids)
    (listed_less r (ids_of c.args.opened.now) c.args.id x c.in-Ok.ensures.found c.requires.listed c.requires.within (place_of c.args.opened.now c.in-Ok-place_of.spot) there.0 (there.1 nowhere) closed)

pub returns-else-not-wanted-clause-listed : goal.returns-else-not-wanted-clause-listed
returns-else-not-wanted-clause-listed c =
    let there = c.in-Ok-place_of.ensures.places in
    listed_there c.args.region.now (ids_of c.args.opened.now) c.args.id c.in-Ok.entry.now c.in-Ok.ensures.found c.requires.listed c.requires.within (place_of c.args.opened.now c.in-Ok-place_of.spot) there.0 (there.1 nowhere)

pub returns-then-wanted-clause-listed : goal.returns-then-wanted-clause-listed
returns-then-wanted-clause-listed c =
    let r = c.args.region.now in
    subst (IsListed r) (sym c.insert.ensures.ids)
    (listed_more r (ids_of c.args.opened.now) c.args.id c.in-Ok.entry.now c.in-Ok.ensures.found c.requires.listed (place_of c.args.opened.now c.in-Err-place_of.spot) c.in-Err-place_of.ensures.places c.requires.within)
