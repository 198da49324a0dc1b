-- What the two endings of a parse say of the words.
use Rattle.clap.{specs.Walk.Text, specs.Simple.App, specs.Simple.HasMatchesOf, specs.Simple.is_simple, specs.Simple.subcommand_rows_of, specs.Kinds.HasKind, specs.Kinds.IsAmong, specs.Faults.fault_of, specs.Faults.is_simple_and_free, specs.Values.kind_of, specs.declared.error.Error.Error, specs.declared.error.kind.ErrorKind.TheVariants.OutOfMemory, specs.declared.parser.matches.ArgMatches.ArgMatches, proofs.OnLiterals.clap_on_literals}
use Rattle.std.proofs.Common.{◌≡◌, inl, inr, true, false, List, [], None, option_and_then, refl, ap, sym, subst, ◌∙◌}
use Rattle.beldi_command.{specs.CommandLine.named_of, specs.Parser.command_met, specs.Parser.commands, specs.Parser.has_divider, proofs.Asked.IsAsked, proofs.Asked.is_asked, proofs.Asked.met}

-- `clap` says of such a command which matches it gives, and how it fails
is_told : is_simple commands ≡ true
unfolding clap_on_literals
is_told = refl

is_told_whole : is_simple_and_free commands ≡ true
unfolding clap_on_literals
is_told_whole = refl

taken : (words : List Text) → fault_of commands words ≡ [] → IsAsked words → met words ≡ named_of words
taken words none (inl r) = absurd (r.0 none)
taken words none (inr r) = r.1

pub read : (app : App) (words : List Text) (m : ArgMatches) → app ≡ commands → has_divider words ≡ false → HasMatchesOf app words m → (is_simple_and_free app ≡ true → fault_of app words ≡ [])
    → option_and_then command_met (subcommand_rows_of m) ≡ named_of words
read app words m is_app clear matches kinds =
    let rows : HasMatchesOf commands words m = subst (λ a. HasMatchesOf a words m) is_app matches in
    let none : is_simple_and_free commands ≡ true → fault_of commands words ≡ [] = subst (λ a. is_simple_and_free a ≡ true → fault_of a words ≡ []) is_app kinds in
    ap (option_and_then command_met) (rows is_told).1 ∙ taken words (none is_told_whole) (is_asked words clear)

untaken : (words : List Text) (e : Error) → HasKind (fault_of commands words) e → (kind_of e ≡ OutOfMemory → ⊥) → IsAsked words → None ≡ named_of words
untaken words e (inl memory) other r = absurd (other memory)
untaken words e (inr among) other (inl r) = sym r.1
untaken words e (inr among) other (inr r) = absurd (subst (IsAmong (kind_of e)) r.0 among)

pub refused : (app : App) (words : List Text) (e : Error) → app ≡ commands → has_divider words ≡ false → (is_simple_and_free app ≡ true → HasKind (fault_of app words) e)
    → (kind_of e ≡ OutOfMemory → ⊥) → None ≡ named_of words
refused app words e is_app clear kinds other =
    let has : is_simple_and_free commands ≡ true → HasKind (fault_of commands words) e = subst (λ a. is_simple_and_free a ≡ true → HasKind (fault_of a words) e) is_app kinds in
    untaken words e (has is_told_whole) other (is_asked words clear)
