use Rattle.clap.specs.Simple.{app_of}
use Rattle.std.proofs.Common.{◌∙◌, map, rules}
use Rattle.beldi_command.proofs.{Answered.read, Answered.refused}
use Rattle.beldi_command.proofs.reading.parse.Goals as goal

pub returns-in-Ok : goal.returns-in-Ok
returns-in-Ok c = c.command_met-command.ensures ∙ read (app_of c.in_ok-parser.field-0) (map (λ t. t.now) c.args.texts.now) c.in-Ok.matches
    (search rules) c.requires c.in-Ok.ensures.matches c.in-Ok.ensures.kinds

pub returns-in_default : goal.returns-in_default
returns-in_default c = refused (app_of c.in_ok-parser.field-0) (map (λ t. t.now) c.args.texts.now) c.in-Err.error
    (search rules) c.requires c.in-Err.ensures.kinds (search rules)
