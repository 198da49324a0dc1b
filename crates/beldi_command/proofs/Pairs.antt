-- The values of the two options: they ask for nothing where one is no number, and so where one of the words is `--`.
use Rattle.clap.specs.Walk.{Text}
use Rattle.std.proofs.Common.{◌≡◌, ◌⊎◌, inl, inr, ◌||◌, ℕ, Bool, true, false, not, List, [], ◌∷◌, ◌++◌, Option, Some, None, option_and_then, bytes_eq, codes, refl, sym, subst, if◌then◌else◌}
use Rattle.std.proofs.lemmas.{Slice.Eq.bytes_eq-Decides}
use Rattle.beldi_value.specs.Number.{numeral_at}
use Rattle.beldi_command.{specs.declared.command.Command.Command, specs.CommandLine.last_value, specs.CommandLine.named_of, specs.CommandLine.named_with, specs.CommandLine.option_alone, specs.CommandLine.serve_by, specs.CommandLine.serve_of, specs.CommandLine.serve_with, specs.Parser.has_divider}
use Rattle.beldi_command.proofs.Options.{IsOther, dashed, word_is}

pub no_number : (most : ℕ) (t : Text) → numeral_at most (45 ∷ t) ≡ None
no_number most [] = refl
no_number most (x ∷ xs) = refl

-- the command of an option's value and then of the other's
abbrev pub pair : Bool → Text → Text → Option Command
pair true v u = serve_of v u
pair false v u = serve_of u v

no_second : (port : Option ℕ) → serve_by port None ≡ None
no_second None = refl
no_second (Some port) = refl

no_first : (o : Bool) (v u : Text) → ((most : ℕ) → numeral_at most v ≡ None) → pair o v u ≡ None
no_first true v u none = rw (none 65535) refl
no_first false v u none = rw (none 1000000) (no_second (numeral_at 65535 u))

no_other : (o : Bool) (v u : Text) → ((most : ℕ) → numeral_at most u ≡ None) → pair o v u ≡ None
no_other true v u none = rw (none 1000000) (no_second (numeral_at 65535 v))
no_other false v u none = rw (none 65535) refl

pub none_first : (o : Bool) (v : Text) (u : Option Text) → ((most : ℕ) → numeral_at most v ≡ None) → option_and_then (pair o v) u ≡ None
none_first o v None none = refl
none_first o v (Some u) none = no_first o v u none

pub none_other : (o : Bool) (v u : Text) (rest : List Text) → ((most : ℕ) → numeral_at most u ≡ None) → option_and_then (pair o v) (last_value (u, rest)) ≡ None
none_other o v u [] none = no_other o v u none
none_other o v u (x ∷ rest) none = refl

pub none_alone : (o : Bool) (v w : Text) (rest : List Text) → IsOther w → option_and_then (pair o v) (option_alone (dashed (not o)) (w ∷ rest)) ≡ None
none_alone true v w rest other = rw (other.1 rest) refl
none_alone false v w rest other = rw (other.0 rest) refl

-- one of the words is `--`
either : (a b : Bool) → (a || b) ≡ true → (a ≡ true) ⊎ (b ≡ true)
either true b e = inl refl
either false b e = inr e

divider : (v : Text) → bytes_eq v (codes "--") ≡ true → (most : ℕ) → numeral_at most v ≡ None
divider v is most = subst (λ (w : Text). numeral_at most w ≡ None) (sym ((bytes_eq-Decides v (codes "--")).0 is)) refl

last_divided : (o : Bool) (v y : Text) (rest : List Text) → has_divider (y ∷ rest) ≡ true → option_and_then (pair o v) (last_value (y, rest)) ≡ None
last_divided o v y [] has = elim (either (bytes_eq y (codes "--")) false has) [ inl is ↦ none_other o v y [] (divider y is) | inr e ↦ absurd (cc) ]
last_divided o v y (z ∷ rest) has = refl

other_by_word : (x o : Bool) (v : Text) (rest : List Text) → has_divider (dashed x ∷ rest) ≡ true → option_and_then (pair o v) (option_alone (dashed (not o)) (dashed x ∷ rest)) ≡ None
other_by_word true true v rest has = refl
other_by_word false false v rest has = refl
other_by_word true false v [] has = refl
other_by_word false true v [] has = refl
other_by_word true false v (y ∷ rest) has = last_divided false v y rest has
other_by_word false true v (y ∷ rest) has = last_divided true v y rest has

other_by_value : (x o : Bool) (v t : Text) (rest : List Text) → has_divider ((dashed x ++ 61 ∷ t) ∷ rest) ≡ true → option_and_then (pair o v) (option_alone (dashed (not o)) ((dashed x ++ 61 ∷ t) ∷ rest)) ≡ None
other_by_value true true v t rest has = refl
other_by_value false false v t rest has = refl
other_by_value true false v t [] has = absurd (cc)
other_by_value false true v t [] has = absurd (cc)
other_by_value true false v t (z ∷ rest) has = refl
other_by_value false true v t (z ∷ rest) has = refl

other_divided : (o : Bool) (v : Text) (words : List Text) → has_divider words ≡ true → option_and_then (pair o v) (option_alone (dashed (not o)) words) ≡ None
other_divided o v [] has = absurd (cc)
other_divided o v (w ∷ rest) has = elim (word_is w) [
  | inl p ↦ subst (λ (x : Text). has_divider (x ∷ rest) ≡ true → option_and_then (pair o v) (option_alone (dashed (not o)) (x ∷ rest)) ≡ None) (sym p.1) (other_by_word p.0 o v rest) has
  | inr (inl p) ↦ subst (λ (x : Text). has_divider (x ∷ rest) ≡ true → option_and_then (pair o v) (option_alone (dashed (not o)) (x ∷ rest)) ≡ None) (sym p.2) (other_by_value p.0 o v p.1 rest) has
  | inr (inr other) ↦ none_alone o v w rest other
]

first_divided : (o : Bool) (v : Text) (rest : List Text) → has_divider (v ∷ rest) ≡ true → option_and_then (pair o v) (option_alone (dashed (not o)) rest) ≡ None
first_divided o v rest has = elim (either (bytes_eq v (codes "--")) (has_divider rest) has) [
  | inl is ↦ none_first o v (option_alone (dashed (not o)) rest) (divider v is)
  | inr below ↦ other_divided o v rest below
]

by_word : (o : Bool) (rest : List Text) → has_divider (dashed o ∷ rest) ≡ true → serve_with (dashed o ∷ rest) ≡ None
by_word true [] has = refl
by_word false [] has = refl
by_word true (v ∷ rest) has = first_divided true v rest has
by_word false (v ∷ rest) has = first_divided false v rest has

by_value : (o : Bool) (v : Text) (rest : List Text) → has_divider ((dashed o ++ 61 ∷ v) ∷ rest) ≡ true → serve_with ((dashed o ++ 61 ∷ v) ∷ rest) ≡ None
by_value true v rest has = other_divided true v rest has
by_value false v rest has = other_divided false v rest has

serve_divided : (words : List Text) → has_divider words ≡ true → serve_with words ≡ None
serve_divided [] has = refl
serve_divided (w ∷ rest) has = elim (word_is w) [
  | inl p ↦ subst (λ (x : Text). has_divider (x ∷ rest) ≡ true → serve_with (x ∷ rest) ≡ None) (sym p.1) (by_word p.0 rest) has
  | inr (inl p) ↦ subst (λ (x : Text). has_divider (x ∷ rest) ≡ true → serve_with (x ∷ rest) ≡ None) (sym p.2) (by_value p.0 p.1 rest) has
  | inr (inr other) ↦ rw (other.0 rest, other.1 rest) refl
]

named_divided : (name : Text) (rest : List Text) → has_divider rest ≡ true → named_with name rest ≡ None
named_divided name [] has = absurd (cc)
named_divided name (w ∷ rest) has = by_name (bytes_eq name (codes "run")) (bytes_eq name (codes "check")) (bytes_eq name (codes "serve")) where
  by_name : (run check serve : Bool) → (if run then None else if check then None else if serve then serve_with (w ∷ rest) else None) ≡ None
  by_name true check serve = refl
  by_name false true serve = refl
  by_name false false true = serve_divided (w ∷ rest) has
  by_name false false false = refl

pub divided : (words : List Text) → has_divider words ≡ true → named_of words ≡ None
divided [] has = refl
divided (name ∷ rest) has = elim (either (bytes_eq name (codes "--")) (has_divider rest) has) [
  | inl is ↦ subst (λ (w : Text). named_of (w ∷ rest) ≡ None) (sym ((bytes_eq-Decides name (codes "--")).0 is)) refl
  | inr below ↦ named_divided name rest below
]
