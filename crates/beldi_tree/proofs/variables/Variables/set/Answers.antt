use Rattle.beldi_tree.proofs.Lookups.{set_at}
use Rattle.beldi_tree.proofs.Names.{ap, rules, ◌∙◌}
use Rattle.beldi_tree.proofs.Names.map
use Rattle.beldi_tree.proofs.variables.Variables.set.Goals as goal

pub returns-in-Some-clause-ok : goal.returns-in-Some-clause-ok
returns-in-Some-clause-ok c =
    set_at c.self.inside.few.items c.self.inside.many c.args.name.now c.args.value c.in-Some.place c.index_mut.result.now (search rules) c.index_mut.ensures.value
    ∙ ap (λ m. map.insert m c.args.name.now c.args.value) c.self.view_is
