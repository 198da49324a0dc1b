use Rattle.std.proofs.Common.{refl, sym, ap, is_some}
use Rattle.beldi_region.proofs.Free.{slot_found, takes_from, sound_taken}
use Rattle.beldi_region.proofs.region.Region.take.Goals as goal

pub empty-requires-clause-lasts : goal.empty-requires-clause-lasts
empty-requires-clause-lasts g c =
    let has = slot_found c.self.inside.slots c.self.inside.room c.args.id c.index_mut.result.now c.index_mut.ensures.value (rw (← c.self.view_is) at (sym c.if-not-has.ensures)) in
    c.self.invariant.lasting c.args.id.slot c.index_mut.result.now c.index_mut.ensures.value (ap is_some has.2)

pub invariant_of-self : goal.invariant_of-self
invariant_of-self g c =
    rw c.empty.ensures.emptied (sound_taken _ _ _ _ _ c.index_mut.result.now _ c.self.invariant c.index_mut.ensures.value (ap is_some c.empty.ensures.value) refl refl c.empty.ensures.listed)

pub returns-clause-ok : goal.returns-clause-ok
returns-clause-ok g c =
    let has = slot_found c.self.inside.slots c.self.inside.room c.args.id c.index_mut.result.now c.index_mut.ensures.value (rw (← c.self.view_is) at (sym c.if-not-has.ensures)) in
    rw (← c.self.view_is, c.empty.ensures.emptied) (takes_from c.self.inside.slots c.self.inside.room c.args.id _ c.index_mut.result.now c.empty.result c.index_mut.ensures.value has.1 c.empty.ensures.value)
