use Rattle.beldi_tree.proofs.Names.{ap, nat_cmp-IsAntisymmetric, nat_list_cmp_total, rules, set_made, slice_cmp-IsAntisymmetric, ◌∙◌}
use Rattle.beldi_tree.proofs.Names.map
use Rattle.beldi_tree.proofs.many.Many.set.Goals as goal

pub returns-in-Some-clause-ok : goal.returns-in-Some-clause-ok
returns-in-Some-clause-ok c =
    let new = c.get_mut.follows.lender c.args.value in
    let h = c.get_mut.follows.holds c.args.value in
    set_made nat_list_cmp_total (slice_cmp-IsAntisymmetric nat_cmp-IsAntisymmetric) c.self.inside.entries.entries new.entries c.args.name.now c.args.value (h.3 (search rules)).0 ∙ ap (λ m. map.insert m c.args.name.now c.args.value) c.self.view_is
