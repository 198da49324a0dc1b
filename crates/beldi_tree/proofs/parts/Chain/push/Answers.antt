use Rattle.beldi_tree.proofs.{Names.ap, Names.applied, Names.chained, Names.term_of, Names.◌∙◌, Evaluated.chained_more}
use Rattle.beldi_tree.proofs.parts.Chain.push.Goals as goal

pub returns-clause-ok : goal.returns-clause-ok
returns-clause-ok c =
    let t = applied (term_of c.self.inside.first.value) c.self.inside.next.value in
    ap (chained t) c.in_ok-push.ensures.items ∙ chained_more t c.self.inside.more.items c.args.step ∙ ap (λ u. applied u c.args.step) c.self.view_is
