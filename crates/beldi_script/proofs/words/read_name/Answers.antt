use Rattle.std.proofs.Common.{rules, Some, ap, ◌∙◌}
use Rattle.beldi_script.proofs.Names.{is_name, no_name}
use Rattle.beldi_script.proofs.words.read_name.Goals as goal

pub returns-in-Ok : goal.returns-in-Ok
returns-in-Ok c = ap Some c.in-Ok.ensures.cases.0 ∙ is_name c.args.word.now (search rules) (search rules) c.in-Ok.ensures.cases.1

pub returns-in-Err : goal.returns-in-Err
returns-in-Err c = no_name c.args.word.now (search rules) (search rules) (search rules)
