use Rattle.std.proofs.Common.{Ok, ap, ◌∙◌}
use Rattle.beldi_value.specs.Injective.{value_back}
use Rattle.beldi_script.specs.ScriptLine.{value_or}
use Rattle.beldi_script.proofs.reading.read_args.Goals as goal

pub returns-in-Ok : goal.returns-in-Ok
returns-in-Ok c = ap value_or c.in-Ok.ensures.read ∙ ap Ok (value_back c.in-Ok.args)
