use Rattle.std.proofs.Common.{refl, sym, ◌∙◌}
use Rattle.beldi_region.proofs.Free.{lent, slot_found, sound_lent}
use Rattle.beldi_region.proofs.Viewed.{changes}
use Rattle.beldi_region.proofs.region.Region.value_mut.Goals as goal

pub invariant_of-self-lent : goal.invariant_of-self-lent
invariant_of-self-lent g c w = sound_lent _ _ _ _ c.index_mut.result.now c.value_mut.result.now w c.self.invariant c.index_mut.ensures.value c.value_mut.ensures.value

pub returns : goal.returns
returns g c =
    let has = slot_found c.self.inside.slots c.self.inside.room c.args.id c.index_mut.result.now c.index_mut.ensures.value (rw (← c.self.view_is) at c.requires) in
    ((refl {a = c.value_mut.result.ghost_name}, λ w. rw (← c.self.view_is) (lent c.self.inside.slots c.self.inside.room c.args.id c.index_mut.result.now w has.1)), record { writes_back = tt; value = rw (← c.self.view_is) (has.3 ∙ sym has.2 ∙ c.value_mut.ensures.value); changes = λ v. changes c.args.self.now c.args.id v c.requires })
