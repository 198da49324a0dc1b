use Rattle.beldi_tree.proofs.Names.{ap, nat_cmp-IsAntisymmetric, nat_list_cmp_total, set_made, slice_cmp-IsAntisymmetric, ◌∙◌}
use Rattle.beldi_tree.proofs.Names.map
use Rattle.beldi_tree.proofs.many.Many.add.Goals as goal

pub returns-clause-ok : goal.returns-clause-ok
returns-clause-ok c =
    set_made nat_list_cmp_total (slice_cmp-IsAntisymmetric nat_cmp-IsAntisymmetric) c.self.inside.entries.entries c.insert.new.self.entries c.args.name c.args.value c.in-Ok.ensures.updates.0
    ∙ ap (λ m. map.insert m c.args.name c.args.value) c.self.view_is
