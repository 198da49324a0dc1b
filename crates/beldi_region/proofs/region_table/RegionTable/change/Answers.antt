use Rattle.std.proofs.Common.{is_some, refl, sym, ap, ◌∙◌, arith}
use Rattle.beldi_table.proofs.Indexes.{stays_open}
use Rattle.beldi_region.specs.{Region.find, Region.with_value, Ids.ids_of, declared.order.Entry.Entry}
use Rattle.beldi_region.proofs.{Held.by_side, Held.held_changed, Held.changed_on, Listed.within, Listed.listed_changed, Listed.listed_unchanged}
use Rattle.beldi_region.proofs.region_table.RegionTable.change.Goals as goal

pub follow-requires-clause-within : goal.follow-requires-clause-within
follow-requires-clause-within c =
    let t = c.args.self.now in
    let y : Entry = record { key = c.value_mut-entry.result.now.key; row = c.apply-change.new.row } in
    let changed = c.value_mut-entry.ensures.changes y in
    let wide = t.wide in
    let room = changed.frame.room in
    within (with_value t.region c.args.id y) _ _ (held_changed t.region (with_value t.region c.args.id y) (ids_of t.index) c.args.id c.value_mut-entry.result.now y t.held c.value_mut-entry.ensures.value changed refl) (omega (arith, wide, room))

pub follow-requires-clause-listed : goal.follow-requires-clause-listed
follow-requires-clause-listed c =
    let t = c.args.self.now in
    let y : Entry = record { key = c.value_mut-entry.result.now.key; row = c.apply-change.new.row } in
    listed_changed t.region (with_value t.region c.args.id y) (ids_of t.index) (ids_of t.opened) c.args.id c.value_mut-entry.result.now y t.held c.value_mut-entry.ensures.value (c.value_mut-entry.ensures.changes y) refl t.listed

pub follow-requires-clause-stays : goal.follow-requires-clause-stays
follow-requires-clause-stays c =
    λ same.
    let t = c.args.self.now in
    let x = c.value_mut-entry.result.now in
    let y : Entry = record { key = x.key; row = c.apply-change.new.row } in
    listed_unchanged t.region (with_value t.region c.args.id y) (ids_of t.index) (ids_of t.opened) c.args.id x y t.held c.value_mut-entry.ensures.value (c.value_mut-entry.ensures.changes y) refl t.listed
    (stays_open c.args.act c.args.now x.key.kind x.row y.row c.apply-change.result c.apply-change.ensures (sym c.switches-switched.ensures ∙ same))

pub invariant_of-self-clause-held : goal.invariant_of-self-clause-held
invariant_of-self-clause-held c =
    let t = c.args.self.now in
    let y : Entry = record { key = c.value_mut-entry.result.now.key; row = c.apply-change.new.row } in
    held_changed t.region (with_value t.region c.args.id y) (ids_of t.index) c.args.id c.value_mut-entry.result.now y t.held c.value_mut-entry.ensures.value (c.value_mut-entry.ensures.changes y) refl

pub returns-clause-rows : goal.returns-clause-rows
returns-clause-rows c =
    let t = c.args.self.now in
    let y : Entry = record { key = c.value_mut-entry.result.now.key; row = c.apply-change.new.row } in
    changed_on c.args.act c.args.now c.args.key.now t.room t.region (with_value t.region c.args.id y) (ids_of t.index) c.args.id c.value_mut-entry.result.now y c.apply-change.result
    t.held c.requires.keeps c.requires.found c.value_mut-entry.ensures.value (c.value_mut-entry.ensures.changes y) refl c.apply-change.ensures

pub value_mut-entry-requires : goal.value_mut-entry-requires
value_mut-entry-requires c = ap is_some (by_side c.args.key.now (find c.args.self.now.region c.args.id) c.requires.found).1
