use Rattle.beldi_tree.specs.Bindings.{with_all}
use Rattle.beldi_tree.proofs.Lookups.{pushed_behind, set_after}
use Rattle.beldi_tree.proofs.Names.{[], ap, rules, ◌++◌, ◌∙◌, ◌∷◌, ◌≡◌}
use Rattle.beldi_tree.proofs.Names.map
use Rattle.beldi_tree.proofs.variables.add.Goals as goal

pub returns-then-len-eq-MOST_FEW-clause-ok : goal.returns-then-len-eq-MOST_FEW-clause-ok
returns-then-len-eq-MOST_FEW-clause-ok c h =
    let set : c.set.new.self ≡ map.insert c.args.many.now c.args.name.now c.args.value = search rules in
    ap (with_all c.args.few.now.items) set ∙ set_after c.args.few.now.items c.args.many.now c.args.name.now c.args.value h

pub returns-2-clause-ok : goal.returns-2-clause-ok
returns-2-clause-ok c h =
    let pushed : c.push.new.self.items ≡ c.args.few.now.items ++ (c.args.name.now, c.args.value) ∷ [] = search rules in
    ap (λ es. with_all es c.args.many.now) pushed ∙ pushed_behind c.args.few.now.items c.args.many.now c.args.name.now c.args.value
    ∙ set_after c.args.few.now.items c.args.many.now c.args.name.now c.args.value h
