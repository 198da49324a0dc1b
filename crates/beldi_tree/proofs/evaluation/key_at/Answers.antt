use Rattle.std.proofs.Common.{ap, subst, sym, ◌∙◌}
use Rattle.beldi_tree.specs.Evaluate.{Evaluates, key_at}
use Rattle.beldi_tree.proofs.TextKeys.{text_key}
use Rattle.beldi_tree.proofs.evaluation.key_at.Goals as goal

pub returns-in-Text : goal.returns-in-Text
returns-in-Text c = subst (λ r. Evaluates r c.text_key.result) (sym (ap (key_at c.args.variables.now) c.in-Text.is ∙ text_key c.in-Text.text)) c.text_key.ensures
