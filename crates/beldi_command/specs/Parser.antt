-- What `clap` is given: a command that has three subcommands, of which one takes two options, and wants one of them; what is read
-- off its matches; and the word `--`, to which `clap` gives a meaning of its own.
use Rattle.std.specs.Prelude.{ℕ, Bool, true, List, Option, Some, None, codes, if◌then◌else◌}
use Rattle.std.specs.{List.list_any, Str.bytes_eq}
use Rattle.clap.specs.Simple.{App, Shape, new_app, new_rule, new_shape, with_rule, with_subcommand}
use Rattle.clap.specs.Walk.{Row, Rule, first_of}
use Rattle.beldi_command.specs.{declared.command.Command.Command, declared.command.Command.TheVariants.Run, declared.command.Command.TheVariants.Check, CommandLine.serve_of}

-- no program's name among the words, no help, no version, and a subcommand is wanted
abbrev pub settings : Shape → Shape
settings s = record s {
  no_binary_name = true;
  disable_help_flag = true;
  disable_version_flag = true;
  disable_help_subcommand = true;
  subcommand_required = true;
}

abbrev pub beldi : App
beldi = record (new_app (codes "beldi")) { top = settings (new_shape (codes "beldi")) }

-- an option that is wanted, with one value
abbrev pub wanted : List ℕ → Rule
wanted name = record (new_rule name) {
  long = Some name;
  required = true;
}

abbrev pub serve : App
serve = with_rule (with_rule (new_app (codes "serve")) (wanted (codes "port"))) (wanted (codes "requests"))

abbrev pub with_serve : App
with_serve = with_subcommand beldi serve.top

-- with the two that take no words
abbrev pub with_plain : App → App
with_plain a = with_subcommand (with_subcommand a (new_shape (codes "run"))) (new_shape (codes "check"))

abbrev pub commands : App
commands = with_plain with_serve

-- to serve, by the values that were found
abbrev pub serve_given : Option (List ℕ) → Option (List ℕ) → Option Command
serve_given (Some port) (Some requests) = serve_of port requests
serve_given port requests = None

-- the command by the name and the matches of the subcommand that was met
abbrev pub command_met : List ℕ × List Row → Option Command
command_met met =
    if bytes_eq met.0 (codes "run") then Some Run
    else if bytes_eq met.0 (codes "check") then Some Check
    else if bytes_eq met.0 (codes "serve") then serve_given (first_of (codes "port") met.1) (first_of (codes "requests") met.1)
    else None

-- one of the words is `--`
abbrev pub has_divider : List (List ℕ) → Bool
has_divider words = list_any (λ w. bytes_eq w (codes "--")) words
