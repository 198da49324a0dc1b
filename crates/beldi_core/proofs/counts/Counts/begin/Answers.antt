use Rattle.beldi_core.proofs.Names.{ap, id_exact, id_total, set_made, ◌∙◌}
use Rattle.beldi_core.proofs.Names.map
use Rattle.beldi_core.proofs.counts.Counts.begin.Goals as goal

pub returns-clause-ok : goal.returns-clause-ok
returns-clause-ok c = set_made id_total id_exact c.self.inside.entries.entries c.insert.new.self.entries c.args.id 1 c.in_ok-insert.ensures.updates.0 ∙ ap (λ m. map.insert m c.args.id 1) c.self.view_is
