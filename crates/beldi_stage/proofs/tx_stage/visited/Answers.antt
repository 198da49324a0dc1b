use Rattle.std.proofs.Common.{Ok, ap, sym, ◌∙◌}
use Rattle.beldi_step.specs.Run.{end_left}
use Rattle.beldi_stage.proofs.Ended.{goes_on}
use Rattle.beldi_stage.proofs.tx_stage.visited.Goals as goal

pub returns-in_default : goal.returns-in_default
returns-in_default c = record {
  output = λ v is. c.go_on.ensures v (c.replace.ensures.value ∙ is) ∙ sym (goes_on c.args.commit v c.args.goes c.in_default.not-Worn c.in_default.not-Done);
  left = λ v is. c.replace.ensures.after ∙ sym (ap (λ x. end_left v (Ok x)) (c.go_on.ensures v (c.replace.ensures.value ∙ is)));
}
