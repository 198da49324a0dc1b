use Rattle.beldi_executor.proofs.{Names.Popped, Names.reverse, Names.subst, Drafts.popped_so}
use Rattle.beldi_executor.proofs.draft.Waiting.pop.Goals as goal

pub returns : goal.returns
returns c =
    subst (λ ws. Popped ws (reverse c.pop.new.self.items) c.pop.result) c.self.view_is
    (popped_so c.self.inside.actors.items c.pop.new.self.items _ _ c.pop.result c.pop.ensures.items c.pop.ensures.cases c.pop.ensures.rest)
