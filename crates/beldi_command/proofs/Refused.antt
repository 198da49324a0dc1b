-- What makes a parse fail: a word that the command has no place for, and an option whose values are wrong by now.
use Rattle.std.specs.Option.{option_map_or}
use Rattle.clap.specs.Walk.{Held, Names, Row, Rule, Step, Text, Waiting, Walk, idle, option, plain, after_flag, after_step, arg_by_index, arg_by_long, arg_by_short, bundle_step, bundle_met, long_or_other, plain_word, short_or_plain, subcommand_met, takes_values, walked}
use Rattle.clap.specs.Faults.{bundle_fault, bundle_step_fault, flag_word_fault, flags_fault, long_fault, option_fault, react_fault, settle_fault, step_fault, stray_fault, turn_fault}
use Rattle.clap.specs.{Lexer.long_of, Lexer.short_of, Simple.Shape, Kinds.Kinds, Kinds.or_else, declared.error.kind.ErrorKind.ErrorKind}
use Rattle.clap.specs.declared.error.kind.ErrorKind.TheVariants as kind
use Rattle.std.proofs.Common.{◌≡◌, ◌⊎◌, inl, inr, ℕ, zero, suc, Bool, true, false, List, [], ◌∷◌, Option, Some, None, is_some, option_and_then, bytes_eq, chars, length, slice_get, refl, sym, ap, subst, ◌∙◌, if◌then◌else◌}

-- some kind of error comes
abbrev pub Fails : Kinds → Type 0
Fails kinds = kinds ≡ [] → ⊥

pub one_kind : (k : ErrorKind) (ks : Kinds) → Fails (k ∷ ks)
one_kind k ks e = cc

pub by_first : (a b : Kinds) → Fails a → Fails (or_else a b)
by_first [] b h = λ e. h refl
by_first (k ∷ ks) b h = h

pub by_next : (a b : Kinds) → Fails b → Fails (or_else a b)
by_next [] b h = h
by_next (k ∷ ks) b h = one_kind k ks

-- where the words stand that a command has read
abbrev pub held : List Row → Option (Text × List Text) → Held
held rows pending = record { rows = rows; pending = pending; skip = 0 }

abbrev pub at : List Row → Option (Text × List Text) → Waiting → Walk
at rows pending waiting = record { held = held rows pending; waiting = waiting; position = 1; is_trailing = false; stopped = None }

no_place : (s : Shape) → Fails (stray_fault s)
no_place s = elim s.is_leaf as (λ b. Fails (if b then kind.UnknownArgument ∷ [] else kind.UnknownArgument ∷ kind.InvalidSubcommand ∷ [])) [ true ↦ one_kind _ _ | false ↦ one_kind _ _ ]

-- an option comes while the one before it is wrong
module _ (c : List Rule) (again : Bool) (h : Held) (wrong : Fails (settle_fault c again h)) where
  with_value : (a : Rule) (v : Option Text) → Fails (option_fault c again a v h)
  with_value a None = wrong
  with_value a (Some t) = by_first _ _ wrong

  as_flag : (a : Rule) (has_value : Bool) → Fails (if has_value then kind.TooManyValues ∷ [] else react_fault c again a [] h)
  as_flag a true = one_kind _ _
  as_flag a false = by_first _ _ wrong

  by_rule : (a : Rule) (v : Option Text) (takes : Bool) → Fails (if takes then option_fault c again a v h else (if is_some v then kind.TooManyValues ∷ [] else react_fault c again a [] h))
  by_rule a v true = with_value a v
  by_rule a v false = as_flag a (is_some v)

  pub long_fails : (o : Option Rule) (v : Option Text) → Fails (long_fault c again o v h)
  long_fails None v = one_kind _ _
  long_fails (Some a) v = by_rule a v (takes_values a)

-- a command that has no short option
module _ (c : List Rule) (again : Bool) (no_short : (x : ℕ) → arg_by_short c x ≡ None) where
  first_flag : (flags : Text) (k : ℕ) (h : Held) (o : Option ℕ) → Fails (bundle_step_fault c again o flags 0 h (flags_fault c again k))
      ⊎ ((bundle_step_fault c again o flags 0 h (flags_fault c again k) ≡ []) × (bundle_step c o flags 0 plain h (bundle_met c k) ≡ (h, plain)))
  first_flag flags k h None = inr (refl, refl)
  first_flag flags k h (Some x) = inl (rw (no_short x) (one_kind _ _))

  flags_plain : (flags : Text) (n : ℕ) (h : Held) → Fails (flags_fault c again n flags 0 h) ⊎ ((flags_fault c again n flags 0 h ≡ []) × (bundle_met c n flags 0 plain h ≡ (h, plain)))
  unfolding flags_fault bundle_met
  flags_plain flags zero h = inr (refl, refl)
  flags_plain flags (suc k) h = first_flag flags k h (slice_get (chars flags) 0)

  -- a word that is no long option is refused, or is a word like any other
  pub word_plain : (rows : List Row) (pending : Option (Text × List Text)) (waiting : Waiting) (word : Text) (o : Option Text)
      → Fails (option_map_or (λ flags. bundle_fault c again flags (held rows pending)) o [])
      ⊎ ((option_map_or (λ flags. bundle_fault c again flags (held rows pending)) o [] ≡ [])
      × (short_or_plain c waiting word o (held rows pending) ≡ plain_word c waiting word (held rows pending)))
  word_plain rows pending waiting word None = inr (refl, refl)
  word_plain rows pending waiting word (Some flags) = elim (flags_plain flags (length flags) (held rows pending)) [
    | inl f ↦ inl f
    | inr e ↦ inr (e.0, ap (λ (m : Held × _). after_flag c waiting word m.0 m.1) e.1)
  ]

-- a word that names no subcommand and is not `--`
module _ (s : Shape) (no_short : (x : ℕ) → arg_by_short s.rules x ≡ None) (no_value : arg_by_index s.rules 1 ≡ None) (names : Names)
    (rows : List Row) (pending : Option (Text × List Text)) (word : Text) (is_word : bytes_eq word (45 ∷ 45 ∷ []) ≡ false) where
  abbrev now : Held
  now = held rows pending

  abbrev step : Waiting → Option (Text × Option Text) → Held × Step
  step waiting o = long_or_other s.rules waiting word o now

  abbrev refusal : Waiting → Option (Text × Option Text) → Kinds
  refusal waiting o = or_else (flag_word_fault s.rules s.args_override_self o word now) (step_fault s 1 (step waiting o).0 (step waiting o).1)

  abbrev next_walk : Waiting → Held × Step → Walk
  next_walk waiting met = after_step s.rules word (at rows pending waiting) met.0 met.1

  turn_is : (waiting : Waiting) → subcommand_met names waiting word ≡ None → turn_fault s names (at rows pending waiting) word ≡ refusal waiting (long_of word)
  turn_is waiting none = rw (none, is_word) refl

  walked_is : (waiting : Waiting) → subcommand_met names waiting word ≡ None → walked s.rules names (at rows pending waiting) word ≡ next_walk waiting (step waiting (long_of word))
  unfolding walked
  walked_is waiting none = rw (none, is_word) refl

  placeless : Fails (step_fault s 1 (plain_word s.rules idle word now).0 (plain_word s.rules idle word now).1)
  placeless = rw no_value (no_place s)

  unknown_long : (p : Text × Option Text) → arg_by_long s.rules p.0 ≡ None → Fails (long_fault s.rules s.args_override_self (arg_by_long s.rules p.0) p.1 now)
  unknown_long p unknown = rw unknown (one_kind _ _)

  -- it is no option of the command
  refused_by : (o : Option (Text × Option Text)) → option_and_then (λ p. arg_by_long s.rules p.0) o ≡ None → Fails (refusal idle o)
  refused_by None unknown = elim (word_plain s.rules s.args_override_self no_short rows pending idle word (short_of word)) [
    | inl f ↦ by_first _ _ f
    | inr e ↦ by_next _ _ (subst (λ (m : Held × Step). Fails (step_fault s 1 m.0 m.1)) (sym e.1) placeless)
  ]
  refused_by (Some p) unknown = by_first _ _ (unknown_long p unknown)

  pub strayed : subcommand_met names idle word ≡ None → option_and_then (λ p. arg_by_long s.rules p.0) (long_of word) ≡ None → Fails (turn_fault s names (at rows pending idle) word)
  strayed none unknown = subst Fails (sym (turn_is idle none)) (refused_by (long_of word) unknown)

  -- or an option before it is wrong
  late_by : Fails (settle_fault s.rules s.args_override_self now) → (o : Option (Text × Option Text)) → Fails (refusal idle o)
  late_by wrong None = refused_by None refl
  late_by wrong (Some p) = by_first _ _ (long_fails s.rules s.args_override_self now wrong (arg_by_long s.rules p.0) p.1)

  pub too_late : subcommand_met names idle word ≡ None → Fails (settle_fault s.rules s.args_override_self now) → Fails (turn_fault s names (at rows pending idle) word)
  too_late none wrong = subst Fails (sym (turn_is idle none)) (late_by wrong (long_of word))

  -- an option waits for its value: the word is refused, or is the value
  module _ (id : Text) (wrong : Fails (settle_fault s.rules s.args_override_self now)) where
    abbrev value_walk : Walk
    value_walk = next_walk (option id) (plain_word s.rules (option id) word now)

    abbrev TakesBy : Option (Text × Option Text) → Type 0
    TakesBy o = Fails (refusal (option id) o) ⊎ ((refusal (option id) o ≡ []) × (next_walk (option id) (step (option id) o) ≡ value_walk))

    takes_by : (o : Option (Text × Option Text)) → TakesBy o
    takes_by None = elim (word_plain s.rules s.args_override_self no_short rows pending (option id) word (short_of word)) [
      | inl f ↦ inl (by_first _ _ f)
      | inr e ↦ inr (rw (e.0, e.1) refl, rw e.1 refl)
    ]
    takes_by (Some p) = inl (by_first _ _ (long_fails s.rules s.args_override_self now wrong (arg_by_long s.rules p.0) p.1))

    pub value_taken : Fails (turn_fault s names (at rows pending (option id)) word)
        ⊎ ((turn_fault s names (at rows pending (option id)) word ≡ []) × (walked s.rules names (at rows pending (option id)) word ≡ value_walk))
    value_taken = elim (takes_by (long_of word)) [
      | inl f ↦ inl (subst Fails (sym (turn_is (option id) refl)) f)
      | inr e ↦ inr (turn_is (option id) refl ∙ e.0, walked_is (option id) refl ∙ e.1)
    ]
