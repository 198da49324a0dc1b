use Rattle.std.proofs.Common.{rules, arith}
use Rattle.beldi_script.proofs.ScriptLines.{returned, not_returned}
use Rattle.beldi_script.proofs.cut.without_return.Goals as goal

pub returns-in-13 : goal.returns-in-13
returns-in-13 c = returned c.args.line.now (omega arith) (search rules)

pub returns-in_default-2 : goal.returns-in_default-2
returns-in_default-2 c = not_returned c.args.line.now (search rules)
