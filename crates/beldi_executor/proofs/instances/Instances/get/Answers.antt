use Rattle.beldi_executor.proofs.Names.{ap, get_made, id_total, sym, ◌∙◌}
use Rattle.beldi_executor.proofs.Names.map
use Rattle.beldi_executor.proofs.instances.Instances.get.Goals as goal

pub returns : goal.returns
returns c = c.get.ensures.value ∙ sym (get_made id_total c.self.inside.entries.entries c.args.id.now) ∙ ap (λ m. map.get m c.args.id.now) c.self.view_is
