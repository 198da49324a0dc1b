use Rattle.beldi_executor.proofs.{Names.ap, Names.id_exact, Names.id_total, Names.unset_made, Names.◌∙◌, Made.rest_short}
use Rattle.beldi_executor.proofs.Names.map
use Rattle.beldi_executor.proofs.instances.Instances.forget.Goals as goal

pub invariant_of-self : goal.invariant_of-self
invariant_of-self c =
    rest_short (map.from_entries c.self.inside.entries.entries) (map.from_entries c.remove.new.self.entries) c.args.id.now c.self.invariant
    (unset_made id_total id_exact c.self.inside.entries.entries c.remove.new.self.entries c.args.id.now c.remove.ensures.updates.0)

pub returns : goal.returns
returns c = unset_made id_total id_exact c.self.inside.entries.entries c.remove.new.self.entries c.args.id.now c.remove.ensures.updates.0 ∙ ap (λ m. map.remove m c.args.id.now) c.self.view_is
