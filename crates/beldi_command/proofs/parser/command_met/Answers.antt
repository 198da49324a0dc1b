use Rattle.std.specs.Box.{box_value}
use Rattle.std.proofs.Common.{◌≡◌, ◌∙◌, List, Option, Some, None, Box, codes, option_map, option_and_then, refl, ap₂}
use Rattle.clap.{specs.Walk.first_of, specs.Walk.Row, specs.Walk.Text, specs.Simple.subcommand_rows, specs.Words.found_of, specs.declared.parser.matches.ArgMatches.TheViews.out-ArgMatches, specs.declared.parser.matches.ArgMatches.TheViews.out-SubCommand, specs.declared.parser.matches.SubCommand.SubCommand, proofs.WalkLemmas.first_value-rows}
use Rattle.beldi_command.specs.Parser.{command_met, serve_given}
use Rattle.beldi_command.proofs.parser.command_met.Goals as goal

module _ {Z : Type 0} where
  met_is : (o : Option (Box SubCommand Z)) (name : Text) (rows : List Row) → Some name ≡ option_map (λ b. (out-SubCommand (box_value b)).name.now) o
      → Some rows ≡ option_map (λ p. p.1) (subcommand_rows o) → subcommand_rows o ≡ Some (name, rows)
  met_is None name rows is_name is_rows = absurd (cc)
  met_is (Some b) name rows is_name is_rows = cc

  serve_met : (o : Option (Box SubCommand Z)) (name : Text) (rows : List Row) → subcommand_rows o ≡ Some (name, rows) → name ≡ codes "serve"
      → serve_given (first_of (codes "port") rows) (first_of (codes "requests") rows) ≡ option_and_then command_met (subcommand_rows o)
  serve_met o name rows met is_serve = rw (met, is_serve) refl

pub returns-in-Some-serve-default : goal.returns-in-Some-serve-default
returns-in-Some-serve-default c =
    let arm = c.in-Some-serve-default in
    let m = (out-ArgMatches c.args.matches.now).subcommand in
    c.serve_given.ensures ∙ ap₂ serve_given (first_value-rows (found_of arm.options.now) _) (first_value-rows (found_of arm.options.now) _)
    ∙ serve_met m arm.field-0-0.now _ (met_is m arm.field-0-0.now _ arm.ensures.name arm.ensures.rows) arm.is-serve
