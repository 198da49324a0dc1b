use Rattle.beldi_executor.proofs.Names.{ap, get_made, id_exact, id_total, sym, unset_made, ◌∙◌}
use Rattle.beldi_executor.proofs.Names.map
use Rattle.beldi_executor.proofs.machines.Machines.take.Goals as goal

pub returns-clause-machine : goal.returns-clause-machine
returns-clause-machine c = c.remove.ensures.value ∙ sym (get_made id_total c.self.inside.entries.entries c.args.id.now) ∙ ap (λ m. map.get m c.args.id.now) c.self.view_is

pub returns-clause-rest : goal.returns-clause-rest
returns-clause-rest c = unset_made id_total id_exact c.self.inside.entries.entries c.remove.new.self.entries c.args.id.now c.remove.ensures.updates.0 ∙ ap (λ m. map.remove m c.args.id.now) c.self.view_is
