use Rattle.beldi_tree.proofs.Names.{ap, get_made, nat_list_cmp_total, sym, ◌∙◌}
use Rattle.beldi_tree.proofs.Names.map
use Rattle.beldi_tree.proofs.many.Many.get.Goals as goal

pub returns : goal.returns
returns c = c.get.ensures.value ∙ sym (get_made nat_list_cmp_total c.self.inside.entries.entries c.args.name.now) ∙ ap (λ m. map.get m c.args.name.now) c.self.view_is
