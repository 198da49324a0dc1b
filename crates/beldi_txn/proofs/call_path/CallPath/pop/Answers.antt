use Rattle.beldi_txn.proofs.Names.{ap, arith, front_of, last_of, rules, split_last, ◌∙◌}
use Rattle.beldi_txn.proofs.Levels.{popped}
use Rattle.beldi_txn.proofs.call_path.CallPath.pop.Goals as goal

pub returns-clause-left : goal.returns-clause-left
returns-clause-left c = (popped _ _ c.pop.result c.pop.ensures.items (λ h. c.pop.ensures.variant.1 (search (rules, arith)))).0 ∙ ap (λ cs. front_of (split_last cs)) c.self.view_is

pub returns-clause-last : goal.returns-clause-last
returns-clause-last c = (popped _ _ c.pop.result c.pop.ensures.items (λ h. c.pop.ensures.variant.1 (search (rules, arith)))).1 ∙ ap (λ cs. last_of (split_last cs)) c.self.view_is
