-- What clap makes of the words is the command that they ask for, where none of them is `--`.
use Rattle.clap.specs.Simple.{App, Shape, built, built_leaf, inherited, names_of, new_shape, subcommand_of}
use Rattle.clap.{specs.Walk.Text, specs.Walk.Walk, specs.Walk.arg_by_long, specs.Walk.idle, specs.Walk.nothing_held, specs.Walk.subcommand_met, specs.Walk.walk_from, specs.Walk.walked, specs.Walk.finished, specs.Walk.settled, specs.Simple.entered as entered_at}
use Rattle.clap.specs.Faults.{check_fault, defaults_fault, entered_fault, fault_of, level_fault, settle_fault, walk_fault}
use Rattle.clap.{specs.Lexer.long_of, specs.Kinds.Kinds, specs.Kinds.or_else, proofs.FaultLemmas.stopped_fault, proofs.OnLiterals.clap_on_literals}
use Rattle.std.proofs.Common.{◌≡◌, ◌⊎◌, inl, inr, Bool, true, false, List, [], ◌∷◌, Option, Some, None, fold, option_and_then, bytes_eq, codes, refl, sym, ap, subst, subst₂, is_some, ◌∙◌}
use Rattle.std.proofs.lemmas.{Bool.or_parts, Slice.Eq.bytes_eq-Decides}
use Rattle.beldi_command.{specs.declared.command.Command.Command, specs.CommandLine.named_of, specs.Parser.command_met, specs.Parser.commands, specs.Parser.has_divider}
use Rattle.beldi_command.proofs.{Entered.entered, Refused.Fails, Refused.by_first, Refused.by_next, Refused.strayed, Serving.ends, Serving.found, Serving.serve_is_read, Serving.shape, Serving.start}

-- the command that the subcommand that was met is
abbrev pub met : List Text → Option Command
met words = option_and_then command_met (subcommand_of commands words)

-- the words are refused and ask for no command, or the one that they ask for is met
abbrev pub IsAsked : List Text → Type 0
IsAsked words = (Fails (fault_of commands words) × (named_of words ≡ None)) ⊎ ((fault_of commands words ≡ []) × (met words ≡ named_of words))

abbrev app : App
app = built commands

-- a subcommand, as it is built here
abbrev leaf : Text → Shape
leaf name = built_leaf (inherited app.top (new_shape name))

abbrev stopped_at : Text → List Text → Walk
stopped_at name words = record (walk_from nothing_held) { stopped = Some (name, words) }

-- where the words after a command's name go
walk_after : (name : Text) (rest : List Text) → walked [] (names_of app) (walk_from nothing_held) name ≡ stopped_at name [] → fold (walked [] (names_of app)) (walk_from nothing_held) (name ∷ rest) ≡ stopped_at name rest
walk_after name rest is = ap (λ (w : Walk). fold (walked [] (names_of app)) w rest) is ∙ entered (names_of app) (walk_from nothing_held) (name, []) rest

no_long : (o : Option (Text × Option Text)) → option_and_then (λ p. arg_by_long [] p.0) o ≡ None
no_long None = refl
no_long (Some p) = refl

-- a command that takes no words
module _ (name : Text) (met_by_name : walked [] (names_of app) (walk_from nothing_held) name ≡ stopped_at name [])
    (fails_within : (words : List Text) → entered_fault app (Some (name, words)) ≡ level_fault (leaf name) [] nothing_held words false [])
    (alone : IsAsked (name ∷ [])) (no_more : (v : Text) (rest : List Text) → named_of (name ∷ v ∷ rest) ≡ None) where
  after : (rest : List Text) → has_divider rest ≡ false → IsAsked (name ∷ rest)
  unfolding walk_fault
  after [] clear = alone
  after (v ∷ rest) clear =
      let stop : (fold (walked [] (names_of app)) (walk_from nothing_held) (name ∷ v ∷ rest)).stopped ≡ Some (name, v ∷ rest) = ap (λ (w : Walk). w.stopped) (walk_after name (v ∷ rest) met_by_name) in
      let here : Fails (level_fault (leaf name) [] nothing_held (v ∷ rest) false []) = by_first _ _ (by_first _ _ (strayed (leaf name) (λ x. refl) refl [] [] None v (or_parts _ _ clear).0 refl (no_long (long_of v)))) in
      let within = subst Fails (sym (fails_within (v ∷ rest))) here in
      inl (by_next _ _ (by_first _ _ (subst (λ o. Fails (entered_fault app o)) (sym stop) within)), no_more v rest)

after_run : (rest : List Text) → has_divider rest ≡ false → IsAsked (codes "run" ∷ rest)
unfolding clap_on_literals
after_run = after (codes "run") refl (λ words. refl) (inr (refl, refl)) (λ v rest. refl)

after_check : (rest : List Text) → has_divider rest ≡ false → IsAsked (codes "check" ∷ rest)
unfolding clap_on_literals
after_check = after (codes "check") refl (λ words. refl) (inr (refl, refl)) (λ v rest. refl)

-- the command that serves
module _ (rest : List Text) where
  walk_is : fold (walked [] (names_of app)) (walk_from nothing_held) (codes "serve" ∷ rest) ≡ stopped_at (codes "serve") rest
  unfolding clap_on_literals
  walk_is = walk_after (codes "serve") rest refl

  abbrev after_walk : Walk → Kinds
  after_walk w = or_else (entered_fault app w.stopped) (or_else (settle_fault app.top.rules app.top.args_override_self w.held)
      (or_else (defaults_fault (settled app.top.rules w.held).rows app.top.rules) (check_fault app.top (finished app.top.rules w.held) (is_some (entered_at app w.stopped)))))

  serve_fault : fault_of commands (codes "serve" ∷ rest) ≡ or_else (ends start rest) []
  unfolding clap_on_literals
  serve_fault = subst₂ (λ (k : Kinds) (w : Walk). or_else k (after_walk w) ≡ or_else (ends start rest) []) (sym (stopped_fault app.top (names_of app) (walk_from nothing_held) (codes "serve", []) rest)) (sym walk_is) refl

  serve_met : met (codes "serve" ∷ rest) ≡ found (finished shape.rules (fold (walked shape.rules []) start rest).held)
  unfolding clap_on_literals
  serve_met = ap (λ (w : Walk). option_and_then command_met (entered_at app w.stopped)) walk_is

  nothing_after : (k : Kinds) → or_else k [] ≡ k
  nothing_after [] = refl
  nothing_after (x ∷ xs) = refl

  after_serve : has_divider rest ≡ false → IsAsked (codes "serve" ∷ rest)
  unfolding walk_fault
  after_serve clear =
      let fault = serve_fault ∙ nothing_after (ends start rest) in
      elim (serve_is_read rest clear) [
        | inl p ↦ inl (subst Fails (sym fault) p.0, p.1)
        | inr p ↦ inr (fault ∙ p.0, serve_met ∙ p.1)
      ]

-- a first word that is no command's name
is_not : (a b : Text) → bytes_eq a b ≡ false → bytes_eq b a ≡ false
is_not a b h = elim (bytes_eq b a) as (λ t. bytes_eq b a ≡ t → t ≡ false) [
  | true ↦ λ e. let same : bytes_eq a b ≡ true = (bytes_eq-Decides a b).1 (sym ((bytes_eq-Decides b a).0 e)) in absurd (cc)
  | false ↦ λ e. refl
] refl

module _ (w : Text) (not_run : bytes_eq (codes "run") w ≡ false) (not_check : bytes_eq (codes "check") w ≡ false) (not_serve : bytes_eq (codes "serve") w ≡ false) where
  none_asked : (rest : List Text) → named_of (w ∷ rest) ≡ None
  none_asked rest = rw (is_not (codes "run") w not_run, is_not (codes "check") w not_check, is_not (codes "serve") w not_serve) refl

  none_met : subcommand_met (names_of app) idle w ≡ None
  none_met = rw (not_run, not_check, not_serve) refl

  unnamed : (rest : List Text) → bytes_eq w (codes "--") ≡ false → IsAsked (w ∷ rest)
  unfolding walk_fault
  unnamed rest word = inl (by_first _ _ (by_first _ _ (strayed app.top (λ x. refl) refl (names_of app) [] None w word none_met (no_long (long_of w)))), none_asked rest)

by_name : (w : Text) (rest : List Text) (is_run is_check is_serve : Bool) → bytes_eq (codes "run") w ≡ is_run → bytes_eq (codes "check") w ≡ is_check → bytes_eq (codes "serve") w ≡ is_serve
    → bytes_eq w (codes "--") ≡ false → has_divider rest ≡ false → IsAsked (w ∷ rest)
by_name w rest true is_check is_serve r c s word clear = subst (λ v. IsAsked (v ∷ rest)) ((bytes_eq-Decides (codes "run") w).0 r) (after_run rest clear)
by_name w rest false true is_serve r c s word clear = subst (λ v. IsAsked (v ∷ rest)) ((bytes_eq-Decides (codes "check") w).0 c) (after_check rest clear)
by_name w rest false false true r c s word clear = subst (λ v. IsAsked (v ∷ rest)) ((bytes_eq-Decides (codes "serve") w).0 s) (after_serve rest clear)
by_name w rest false false false r c s word clear = unnamed w r c s rest word

pub is_asked : (words : List Text) → has_divider words ≡ false → IsAsked words
unfolding clap_on_literals
is_asked [] clear = inl ((λ e. cc), refl)
is_asked (w ∷ rest) clear = let parts = or_parts (bytes_eq w (codes "--")) (has_divider rest) clear in by_name w rest _ _ _ refl refl refl parts.0 parts.1
