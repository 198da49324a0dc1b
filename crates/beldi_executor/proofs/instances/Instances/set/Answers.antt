use Rattle.beldi_executor.proofs.{Names.ap, Names.id_exact, Names.id_total, Names.set_made, Names.◌∙◌, Made.set_short}
use Rattle.beldi_executor.proofs.Names.map
use Rattle.beldi_executor.proofs.instances.Instances.set.Goals as goal

pub invariant_of-self-2 : goal.invariant_of-self-2
invariant_of-self-2 c =
    set_short (map.from_entries c.self.inside.entries.entries) (map.from_entries c.insert.new.self.entries) c.args.id c.args.instance c.self.invariant c.requires
    (set_made id_total id_exact c.self.inside.entries.entries c.insert.new.self.entries c.args.id c.args.instance c.in-Ok.ensures.updates.0)

pub returns-clause-ok : goal.returns-clause-ok
returns-clause-ok c = set_made id_total id_exact c.self.inside.entries.entries c.insert.new.self.entries c.args.id c.args.instance c.in-Ok.ensures.updates.0 ∙ ap (λ m. map.insert m c.args.id c.args.instance) c.self.view_is
