use Rattle.std.proofs.Common.{rules, ap, ◌∙◌, ◌∷◌}
use Rattle.beldi_script.{specs.LineCut.lines_of, proofs.ScriptLines.cut_some, proofs.ScriptLines.cut_none, proofs.ScriptLines.rest_shorter}
use Rattle.beldi_script.proofs.cut.cut_line.Goals as goal

pub returns-in-Some-clause-lines : goal.returns-in-Some-clause-lines
returns-in-Some-clause-lines c =
    cut_some c.args.bytes.now c.in-Some.rest.now (search rules) ∙ ap (λ l. l ∷ lines_of c.in-Some.rest.now) (search rules)

pub returns-in-Some-clause-shorter : goal.returns-in-Some-clause-shorter
returns-in-Some-clause-shorter c = rest_shorter 10 c.args.bytes.now c.in-Some.rest.now (search rules)

pub returns-in-None-clause-lines : goal.returns-in-None-clause-lines
returns-in-None-clause-lines c = cut_none c.args.bytes.now (search rules) c.requires
