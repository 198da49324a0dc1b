use Rattle.std.proofs.Common.{◌≡◌, IfSome, subst, sym, ap, ◌∙◌, arith}
use Rattle.std.specs.FinMap as fin
use Rattle.beldi_region.specs.{SlotOrder.IsWithout, SlotOrder.rows_in, Region.find, Region.Released, Ids.ids_of}
use Rattle.beldi_region.proofs.{Held.by_side, Gone.held_gone, Gone.listed_gone, Gone.map_gone}
use Rattle.beldi_region.proofs.region_table.RegionTable.forget.Goals as goal

pub invariant_of-self-clause-held : goal.invariant_of-self-clause-held
invariant_of-self-clause-held c =
    let t = c.args.self.now in
    let x = by_side c.args.key.now (find t.region c.args.id) c.requires in
    let out = subst (λ o. IfSome o (λ e. Released t.region c.vacate.new.region c.args.id e)) x.1 c.vacate.ensures in
    held_gone t.region c.vacate.new.region (ids_of t.index) (ids_of c.forget-2.new.self) c.args.id x.0 out (subst (λ k. IsWithout t.region k (ids_of t.index) (ids_of c.forget-2.new.self)) x.2 c.forget-2.ensures.less) t.held

pub invariant_of-self-clause-listed : goal.invariant_of-self-clause-listed
invariant_of-self-clause-listed c =
    let t = c.args.self.now in
    let x = by_side c.args.key.now (find t.region c.args.id) c.requires in
    let out = subst (λ o. IfSome o (λ e. Released t.region c.vacate.new.region c.args.id e)) x.1 c.vacate.ensures in
    listed_gone t.region c.vacate.new.region (ids_of t.opened) (ids_of c.forget.new.self) c.args.id x.0 out (subst (λ k. IsWithout t.region k (ids_of t.opened) (ids_of c.forget.new.self)) x.2 c.forget.ensures.less) (ids_of t.index) t.held t.listed

pub invariant_of-self-clause-wide : goal.invariant_of-self-clause-wide
invariant_of-self-clause-wide c =
    let t = c.args.self.now in
    let x = by_side c.args.key.now (find t.region c.args.id) c.requires in
    let out = subst (λ o. IfSome o (λ e. Released t.region c.vacate.new.region c.args.id e)) x.1 c.vacate.ensures in
    let was = t.wide in
    let room = out.frame.room in
    let more = c.forget.ensures.room in
    omega (arith, was, room, more)

pub invariant_of-self-clause-fits : goal.invariant_of-self-clause-fits
invariant_of-self-clause-fits c =
    let t = c.args.self.now in
    let x = by_side c.args.key.now (find t.region c.args.id) c.requires in
    let out = subst (λ o. IfSome o (λ e. Released t.region c.vacate.new.region c.args.id e)) x.1 c.vacate.ensures in
    let was = t.fits in
    let room = out.frame.room in
    omega (arith, was, room)

pub invariant_of-self-clause-reserved : goal.invariant_of-self-clause-reserved
invariant_of-self-clause-reserved c =
    let t = c.args.self.now in
    let x = by_side c.args.key.now (find t.region c.args.id) c.requires in
    let out = subst (λ o. IfSome o (λ e. Released t.region c.vacate.new.region c.args.id e)) x.1 c.vacate.ensures in
    let was = t.reserved in
    let room = out.frame.room in
    let more = c.forget-2.ensures.room in
    omega (arith, was, room, more)

pub returns-clause-rows : goal.returns-clause-rows
returns-clause-rows c =
    let t = c.args.self.now in
    let x = by_side c.args.key.now (find t.region c.args.id) c.requires in
    let out = subst (λ o. IfSome o (λ e. Released t.region c.vacate.new.region c.args.id e)) x.1 c.vacate.ensures in
    map_gone t.region c.vacate.new.region (ids_of t.index) (ids_of c.forget-2.new.self) c.args.id x.0 out (subst (λ k. IsWithout t.region k (ids_of t.index) (ids_of c.forget-2.new.self)) x.2 c.forget-2.ensures.less)
    ∙ ap (fin.remove (rows_in t.region (ids_of t.index))) (sym x.2)
