use Rattle.beldi_tree.proofs.Lookups.{get_after, get_first}
use Rattle.beldi_tree.proofs.Names.{ap, rules, ◌∙◌}
use Rattle.beldi_tree.proofs.Names.map
use Rattle.beldi_tree.proofs.variables.Variables.get.Goals as goal

pub returns-in-Some : goal.returns-in-Some
returns-in-Some c = get_first c.self.inside.few.items c.self.inside.many c.args.name.now c.in-Some.place c.index.result.now (search rules) c.index.ensures ∙ ap (λ m. map.get m c.args.name.now) c.self.view_is

pub returns-in-None : goal.returns-in-None
returns-in-None c = c.get.ensures ∙ get_after c.self.inside.few.items c.self.inside.many c.args.name.now (search rules) ∙ ap (λ m. map.get m c.args.name.now) c.self.view_is
