use Rattle.std.proofs.Common.{None, refl, ap, is_some, ◌<◌, arith}
use Rattle.beldi_region.specs.Region.{spaces}
use Rattle.beldi_region.proofs.Counts.{viewed_count}
use Rattle.beldi_region.proofs.Free.{none_free, puts_again, puts_first, sound_again, sound_beside}
use Rattle.beldi_region.proofs.region.Region.put.Goals as goal

pub invariant_of-self : goal.invariant_of-self
invariant_of-self g c = sound_again _ _ _ c.index_mut-place.result.now _ (rw c.in-Some.is at c.self.invariant) c.index_mut-place.ensures.value refl (ap is_some c.replace.ensures.after)

pub returns-in-Some-clause-ok : goal.returns-in-Some-clause-ok
returns-in-Some-clause-ok g c = rw (← c.self.view_is) (puts_again c.self.inside.slots c.self.inside.room c.in-Some.slot c.index_mut-place.result.now _ c.args.value (rw c.in-Some.is at c.self.invariant) c.index_mut-place.ensures.value refl c.replace.ensures.after)

pub invariant_of-self-then-len-self : goal.invariant_of-self-then-len-self
invariant_of-self-then-len-self g c = sound_beside c.self.inside.slots _ _ c.insert_reserved-slot.result _ None _ c.self.invariant c.insert_reserved-slot.ensures.was_vacant (rw c.first.ensures at c.insert_reserved-slot.ensures.updates) c.insert_reserved-slot.ensures.capacity (λ _. refl) refl refl

pub returns-then-len-self-clause-ok : goal.returns-then-len-self-clause-ok
returns-then-len-self-clause-ok g c =
    rw (← c.self.view_is) (puts_first c.self.inside.slots _ c.self.inside.room c.insert_reserved-slot.result _ c.args.value c.insert_reserved-slot.ensures.was_vacant c.insert_reserved-slot.ensures.updates c.first.ensures (omega arith))

pub returns-then-len-self-clause-exact : goal.returns-then-len-self-clause-exact
returns-then-len-self-clause-exact g c = (λ _. rw (← c.self.view_is) (omega (arith, viewed_count c.self.inside.slots.slots)), λ _. refl)

pub returns-clause-exact : goal.returns-clause-exact
returns-clause-exact g c =
    let none = none_free _ _ (rw c.in_default.is at c.self.invariant.free) in
    let some = λ (h : 0 < spaces c.args.self.now). rw (← c.self.view_is) at h in
    (λ e. absurd (cc), λ h. absurd (omega (arith, none, viewed_count c.self.inside.slots.slots, some h)))
