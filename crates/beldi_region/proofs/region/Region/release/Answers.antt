use Rattle.std.proofs.Common.{refl, sym, ap, is_some, ◌∙◌, if◌then◌else◌, Some}
use Rattle.beldi_region.proofs.Free.{slot_found, releases_from, sound_taken}
use Rattle.beldi_region.proofs.region.Region.release.Goals as goal

pub invariant_of-self : goal.invariant_of-self
invariant_of-self g c =
    let s = c.index_mut.result.now in
    let taken = ap is_some c.vacate.ensures.value in
    let last = c.self.invariant.lasting c.args.id.slot s c.index_mut.ensures.value taken in
    rw c.vacate.ensures.emptied (sound_taken _ _ _ _ _ s _ c.self.invariant c.index_mut.ensures.value taken refl refl (c.vacate.ensures.listed ∙ sym (ap (λ b. if b then Some c.args.id.slot else c.self.inside.free) last)))

pub returns-clause-ok : goal.returns-clause-ok
returns-clause-ok g c =
    let s = c.index_mut.result.now in
    let has = slot_found c.self.inside.slots c.self.inside.room c.args.id s c.index_mut.ensures.value (rw (← c.self.view_is) at (sym c.if-not-has.ensures)) in
    let last = c.self.invariant.lasting c.args.id.slot s c.index_mut.ensures.value (ap is_some c.vacate.ensures.value) in
    rw (← c.self.view_is, c.vacate.ensures.emptied) (releases_from c.self.inside.slots c.self.inside.room c.args.id _ s c.vacate.result c.index_mut.ensures.value has.1 c.vacate.ensures.value last)
