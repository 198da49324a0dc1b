-- What `clap` makes of the words after `serve` is what they ask for: it goes from word to word with what it holds of the options.
use Rattle.clap.specs.Walk.{Held, Row, Rule, Text, Waiting, Walk, after_step, arg_by_short, plain_word, values_or_missing, finished, first_of, has_row, idle, option, settled, used, walked}
use Rattle.clap.specs.Faults.{check_fault, defaults_fault, set_fault, settle_fault, turn_fault, walk_fault}
use Rattle.clap.specs.{Simple.Shape, Simple.built, Simple.built_leaf, Simple.inherited, Kinds.Kinds, Kinds.or_else}
use Rattle.clap.specs.declared.error.kind.ErrorKind.{ErrorKind}
use Rattle.clap.proofs.OnLiterals.{clap_on_literals}
use Rattle.std.specs.List.{fold}
use Rattle.std.proofs.Common.{◌≡◌, ◌⊎◌, inl, inr, ◌==◌, ℕ, Bool, true, false, not, nat_lt, length, List, [], ◌∷◌, ◌++◌, Option, Some, None, option_and_then, bytes_eq, codes, refl, sym, subst, subst₂, ◌∙◌, if◌then◌else◌}
use Rattle.std.proofs.lemmas.Bool.{eqb-true, or_parts}
use Rattle.beldi_value.specs.Number.{numeral_at}
use Rattle.beldi_command.{specs.declared.command.Command.Command, specs.CommandLine.last_value, specs.CommandLine.option_alone, specs.CommandLine.serve_with}
use Rattle.beldi_command.{specs.Parser.commands, specs.Parser.has_divider, specs.Parser.serve, specs.Parser.serve_given}
use Rattle.beldi_command.proofs.{Pairs.no_number, Pairs.none_alone, Pairs.none_first, Pairs.none_other, Pairs.pair, Options.IsOther, Options.dashed, Options.named, Options.rule, Options.word_is, Refused.Fails, Refused.at, Refused.by_first, Refused.held, Refused.one_kind, Refused.strayed, Refused.too_late, Refused.value_taken}

-- the subcommand as it is built
abbrev pub shape : Shape
shape = built_leaf (inherited (built commands).top serve.top)

abbrev rules : List Rule
rules = shape.rules

no_short : (x : ℕ) → arg_by_short rules x ≡ None
no_short x = refl

-- what comes of the words from a place on: the kinds of error, or else the command
abbrev closing : Held → Kinds
closing h = or_else (settle_fault rules false h) (or_else (defaults_fault (settled rules h).rows rules) (check_fault shape (finished rules h) false))

abbrev pub ends : Walk → List Text → Kinds
ends w words = or_else (walk_fault shape [] w words) (closing (fold (walked rules []) w words).held)

abbrev pub found : List Row → Option Command
found rows = serve_given (first_of (codes "port") rows) (first_of (codes "requests") rows)

abbrev pub IsRead : Walk → List Text → Option Command → Type 0
IsRead w words c = (Fails (ends w words) × (c ≡ None)) ⊎ ((ends w words ≡ []) × (found (finished rules (fold (walked rules []) w words).held) ≡ c))

fails : (w : Walk) (x : Text) (rest : List Text) (c : Option Command) → Fails (turn_fault shape [] w x) → c ≡ None → IsRead w (x ∷ rest) c
unfolding walk_fault
fails w x rest c f none = inl (by_first _ _ (by_first _ _ f), none)

goes : (w next : Walk) (x : Text) (rest : List Text) (c : Option Command) → turn_fault shape [] w x ≡ [] → walked rules [] w x ≡ next → IsRead next rest c → IsRead w (x ∷ rest) c
unfolding walk_fault
goes w next x rest c turn is read =
    subst₂ (λ (t : Kinds) (n : Walk). (Fails (or_else (or_else t (walk_fault shape [] n rest)) (closing (fold (walked rules []) n rest).held)) × (c ≡ None))
    ⊎ ((or_else (or_else t (walk_fault shape [] n rest)) (closing (fold (walked rules []) n rest).held) ≡ []) × (found (finished rules (fold (walked rules []) n rest).held) ≡ c)))
    (sym turn) (sym is) read

still_fails : (w next : Walk) (x : Text) (rest : List Text) → turn_fault shape [] w x ≡ [] → walked rules [] w x ≡ next → Fails (ends next rest) → Fails (ends w (x ∷ rest))
unfolding walk_fault
still_fails w next x rest turn is f =
    subst₂ (λ (t : Kinds) (n : Walk). Fails (or_else (or_else t (walk_fault shape [] n rest)) (closing (fold (walked rules []) n rest).held))) (sym turn) (sym is) f

-- an option whose value is wrong by now: none, more than one, or one though it has one
by_count : (none one : Bool) (a b : ErrorKind) (ks : Kinds) → Fails ks → Fails (or_else (if none then a ∷ [] else (if one then [] else b ∷ [])) ks)
by_count true one a b ks f = one_kind _ _
by_count false true a b ks f = f
by_count false false a b ks f = one_kind _ _

repeated : (o : Bool) (rows : List Row) → has_row (named o) rows ≡ true → (values : List Text) → Fails (set_fault false (rule o) values rows)
repeated true rows given values = rw given (one_kind _ _)
repeated false rows given values = rw given (one_kind _ _)

wrong : (o : Bool) (rows : List Row) → has_row (named o) rows ≡ true → (vs : List Text) → Fails (settle_fault rules false (held rows (Some (named o, vs))))
wrong true rows given vs = by_count (length vs == 0) (1 == length vs) _ _ _ (repeated true rows given (values_or_missing (rule true) vs))
wrong false rows given vs = by_count (length vs == 0) (1 == length vs) _ _ _ (repeated false rows given (values_or_missing (rule false) vs))

unvalued : (o : Bool) (rows : List Row) → Fails (settle_fault rules false (held rows (Some (named o, []))))
unvalued true rows e = cc
unvalued false rows e = cc

-- then no words that follow mend it
unvalued_end : (o : Bool) (rows : List Row) → Fails (ends (at rows (Some (named o, [])) (option (named o))) [])
unfolding walk_fault
unvalued_end o rows = by_first _ _ (unvalued o rows)

abbrev waits_for : Bool → Bool → Waiting
waits_for o waits = if waits then option (named o) else idle

one_more : (o : Bool) (rows : List Row) (vs : List Text) (word : Text)
    → after_step rules word (at rows (Some (named o, vs)) (option (named o))) (plain_word rules (option (named o)) word (held rows (Some (named o, vs)))).0 (plain_word rules (option (named o)) word (held rows (Some (named o, vs)))).1
    ≡ at rows (Some (named o, vs ++ word ∷ [])) (waits_for o (nat_lt (length (vs ++ word ∷ [])) 1))
one_more true rows vs word = refl
one_more false rows vs word = refl

doomed : (o : Bool) (rows : List Row) (vs : List Text) (waits : Bool) (words : List Text) → has_row (named o) rows ≡ true → has_divider words ≡ false
    → Fails (ends (at rows (Some (named o, vs)) (waits_for o waits)) words)
unfolding walk_fault
doomed o rows vs waits [] given clear = by_first _ _ (wrong o rows given vs)
doomed o rows vs false (word ∷ rest) given clear =
    by_first _ _ (by_first _ _ (too_late shape no_short refl [] rows (Some (named o, vs)) word (or_parts _ _ clear).0 refl (wrong o rows given vs)))
doomed o rows vs true (word ∷ rest) given clear = elim (value_taken shape no_short refl [] rows (Some (named o, vs)) word (or_parts _ _ clear).0 (named o) (wrong o rows given vs)) [
  | inl f ↦ by_first _ _ (by_first _ _ f)
  | inr e ↦ still_fails _ _ word rest e.0 (e.1 ∙ one_more o rows vs word) (doomed o rows (vs ++ word ∷ []) (nat_lt (length (vs ++ word ∷ [])) 1) rest given (or_parts _ _ clear).1)
]

-- a word is the value that an option waits for, or is refused, and is no number
abbrev waiting_at : Bool → List Row → Walk
waiting_at o rows = at rows (Some (named o, [])) (option (named o))

abbrev IsValue : Bool → List Row → Text → Type 0
IsValue o rows word = (Fails (turn_fault shape [] (waiting_at o rows) word) × ((most : ℕ) → numeral_at most word ≡ None))
    ⊎ ((turn_fault shape [] (waiting_at o rows) word ≡ []) × (walked rules [] (waiting_at o rows) word ≡ at rows (Some (named o, word ∷ [])) idle))

plain_value : (o : Bool) (rows : List Row) (x : ℕ) (xs : Text) → (x == 45) ≡ false → IsValue o rows (x ∷ xs)
unfolding walked
plain_value true rows x xs other = inr (rw (other, other) refl, rw (other, other) refl)
plain_value false rows x xs other = inr (rw (other, other) refl, rw (other, other) refl)

empty_value : (o : Bool) (rows : List Row) → IsValue o rows []
unfolding walked
empty_value true rows = inr (refl, refl)
empty_value false rows = inr (refl, refl)

single : (o : Bool) (rows : List Row) (word : Text)
    → after_step rules word (waiting_at o rows) (plain_word rules (option (named o)) word (held rows (Some (named o, [])))).0 (plain_word rules (option (named o)) word (held rows (Some (named o, [])))).1
    ≡ at rows (Some (named o, word ∷ [])) idle
single true rows word = refl
single false rows word = refl

dashed_value : (o : Bool) (rows : List Row) (xs : Text) → bytes_eq (45 ∷ xs) (45 ∷ 45 ∷ []) ≡ false → IsValue o rows (45 ∷ xs)
dashed_value o rows xs is_word = elim (value_taken shape no_short refl [] rows (Some (named o, [])) (45 ∷ xs) is_word (named o) (unvalued o rows)) [
  | inl f ↦ inl (f, λ most. no_number most xs)
  | inr e ↦ inr (e.0, e.1 ∙ single o rows (45 ∷ xs))
]

value_is : (o : Bool) (rows : List Row) (word : Text) → bytes_eq word (45 ∷ 45 ∷ []) ≡ false → IsValue o rows word
value_is o rows [] is_word = empty_value o rows
value_is o rows (x ∷ xs) is_word = by_test (x == 45) refl where
  by_test : (b : Bool) → (x == 45) ≡ b → IsValue o rows (x ∷ xs)
  by_test true is =
      let same : 45 ≡ x = sym (eqb-true x 45 is) in
      subst (λ (y : ℕ). bytes_eq (y ∷ xs) (45 ∷ 45 ∷ []) ≡ false → IsValue o rows (y ∷ xs)) same (dashed_value o rows xs) is_word
  by_test false is = plain_value o rows x xs is

-- what is held with one option, and with both; the last one's value was the next word, or stood behind `=`
abbrev one_row : Bool → Text → List Row
one_row o v = used (rule o) (v ∷ []) []

abbrev with_one : Bool → Text → Bool → Walk
with_one o v apart = if apart then at [] (Some (named o, v ∷ [])) idle else at (one_row o v) None idle

abbrev with_both : Bool → Text → Text → Bool → Walk
with_both o v u apart = if apart then at (one_row o v) (Some (named (not o), u ∷ [])) idle else at (used (rule (not o)) (u ∷ []) (one_row o v)) None idle

-- both options: nothing may follow
both_end : (o : Bool) (v u : Text) (apart : Bool) → IsRead (with_both o v u apart) [] (pair o v u)
unfolding clap_on_literals
both_end true v u true = inr (refl, refl)
both_end true v u false = inr (refl, refl)
both_end false v u true = inr (refl, refl)
both_end false v u false = inr (refl, refl)

abbrev both_rows : Bool → Text → Text → List Row
both_rows o v u = used (rule (not o)) (u ∷ []) (one_row o v)

joined_again : (x o : Bool) (v u t : Text) (apart : Bool) → Fails (turn_fault shape [] (with_both o v u apart) (dashed x ++ 61 ∷ t))
joined_again true true v u t true e = cc
joined_again true true v u t false e = cc
joined_again true false v u t true e = cc
joined_again true false v u t false e = cc
joined_again false true v u t true e = cc
joined_again false true v u t false e = cc
joined_again false false v u t true e = cc
joined_again false false v u t false e = cc

alone_again : (x o : Bool) (v u : Text) (apart : Bool) → (turn_fault shape [] (with_both o v u apart) (dashed x) ≡ []) × (walked rules [] (with_both o v u apart) (dashed x) ≡ waiting_at x (both_rows o v u))
unfolding walked
alone_again true true v u true = (refl, refl)
alone_again true true v u false = (refl, refl)
alone_again true false v u true = (refl, refl)
alone_again true false v u false = (refl, refl)
alone_again false true v u true = (refl, refl)
alone_again false true v u false = (refl, refl)
alone_again false false v u true = (refl, refl)
alone_again false false v u false = (refl, refl)

has_both : (x o : Bool) (v u : Text) → has_row (named x) (both_rows o v u) ≡ true
has_both true true v u = refl
has_both true false v u = refl
has_both false true v u = refl
has_both false false v u = refl

stray_both : (o : Bool) (v u : Text) (apart : Bool) (w : Text) → bytes_eq w (45 ∷ 45 ∷ []) ≡ false → IsOther w → Fails (turn_fault shape [] (with_both o v u apart) w)
stray_both o v u true w is_word other = strayed shape no_short refl [] _ _ w is_word refl other.2
stray_both o v u false w is_word other = strayed shape no_short refl [] _ _ w is_word refl other.2

both_after : (o : Bool) (v u : Text) (apart : Bool) (words : List Text) → has_divider words ≡ false → IsRead (with_both o v u apart) words (option_and_then (pair o v) (last_value (u, words)))
both_after o v u apart [] clear = both_end o v u apart
both_after o v u apart (w ∷ rest) clear =
    let parts = or_parts (bytes_eq w (codes "--")) (has_divider rest) clear in
    elim (word_is w) [
      | inl p ↦ subst (λ (x : Text). IsRead (with_both o v u apart) (x ∷ rest) None) (sym p.1)
          (inl (still_fails _ _ (dashed p.0) rest (alone_again p.0 o v u apart).0 (alone_again p.0 o v u apart).1 (doomed p.0 (both_rows o v u) [] true rest (has_both p.0 o v u) parts.1), refl))
      | inr (inl p) ↦ subst (λ (x : Text). IsRead (with_both o v u apart) (x ∷ rest) None) (sym p.2) (fails _ _ rest None (joined_again p.0 o v u p.1 apart) refl)
      | inr (inr other) ↦ fails _ w rest None (stray_both o v u apart w parts.0 other) refl
    ]

-- one option: the other must follow
other_value : (o : Bool) (v y : Text) (rest : List Text) → has_divider (y ∷ rest) ≡ false → IsRead (waiting_at (not o) (one_row o v)) (y ∷ rest) (option_and_then (pair o v) (last_value (y, rest)))
other_value o v y rest clear =
    let parts = or_parts (bytes_eq y (codes "--")) (has_divider rest) clear in
    elim (value_is (not o) (one_row o v) y parts.0) [
      | inl f ↦ fails _ y rest _ f.0 (none_other o v y rest f.1)
      | inr e ↦ goes _ (with_both o v y true) y rest _ e.0 e.1 (both_after o v y true rest parts.1)
    ]

other_alone : (o : Bool) (v : Text) (rest : List Text) → has_divider rest ≡ false → IsRead (waiting_at (not o) (one_row o v)) rest (option_and_then (pair o v) (option_alone (dashed (not o)) (dashed (not o) ∷ rest)))
other_alone true v [] clear = inl (unvalued_end false (one_row true v), refl)
other_alone false v [] clear = inl (unvalued_end true (one_row false v), refl)
other_alone true v (y ∷ rest) clear = other_value true v y rest clear
other_alone false v (y ∷ rest) clear = other_value false v y rest clear

alone_next : (x o : Bool) (v : Text) (apart : Bool) → (turn_fault shape [] (with_one o v apart) (dashed x) ≡ []) × (walked rules [] (with_one o v apart) (dashed x) ≡ waiting_at x (one_row o v))
unfolding walked
alone_next true true v true = (refl, refl)
alone_next true true v false = (refl, refl)
alone_next true false v true = (refl, refl)
alone_next true false v false = (refl, refl)
alone_next false true v true = (refl, refl)
alone_next false true v false = (refl, refl)
alone_next false false v true = (refl, refl)
alone_next false false v false = (refl, refl)

one_alone : (x o : Bool) (v : Text) (apart : Bool) (rest : List Text) → has_divider rest ≡ false → IsRead (with_one o v apart) (dashed x ∷ rest) (option_and_then (pair o v) (option_alone (dashed (not o)) (dashed x ∷ rest)))
one_alone true true v apart rest clear = inl (still_fails _ _ (dashed true) rest (alone_next true true v apart).0 (alone_next true true v apart).1 (doomed true (one_row true v) [] true rest refl clear), refl)
one_alone true false v apart rest clear = goes _ _ (dashed true) rest _ (alone_next true false v apart).0 (alone_next true false v apart).1 (other_alone false v rest clear)
one_alone false true v apart rest clear = goes _ _ (dashed false) rest _ (alone_next false true v apart).0 (alone_next false true v apart).1 (other_alone true v rest clear)
one_alone false false v apart rest clear = inl (still_fails _ _ (dashed false) rest (alone_next false false v apart).0 (alone_next false false v apart).1 (doomed false (one_row false v) [] true rest refl clear), refl)

joined_next : (o : Bool) (v t : Text) (apart : Bool) → (turn_fault shape [] (with_one o v apart) (dashed (not o) ++ 61 ∷ t) ≡ []) × (walked rules [] (with_one o v apart) (dashed (not o) ++ 61 ∷ t) ≡ with_both o v t false)
unfolding walked
joined_next true v t true = (refl, refl)
joined_next true v t false = (refl, refl)
joined_next false v t true = (refl, refl)
joined_next false v t false = (refl, refl)

joined_twice : (o : Bool) (v t : Text) (apart : Bool) → Fails (turn_fault shape [] (with_one o v apart) (dashed o ++ 61 ∷ t))
joined_twice true v t true e = cc
joined_twice true v t false e = cc
joined_twice false v t true e = cc
joined_twice false v t false e = cc

one_joined : (x o : Bool) (v t : Text) (apart : Bool) (rest : List Text) → has_divider rest ≡ false
    → IsRead (with_one o v apart) ((dashed x ++ 61 ∷ t) ∷ rest) (option_and_then (pair o v) (option_alone (dashed (not o)) ((dashed x ++ 61 ∷ t) ∷ rest)))
one_joined true true v t apart rest clear = fails _ _ rest _ (joined_twice true v t apart) refl
one_joined true false v t apart rest clear = goes _ _ _ rest _ (joined_next false v t apart).0 (joined_next false v t apart).1 (both_after false v t false rest clear)
one_joined false true v t apart rest clear = goes _ _ _ rest _ (joined_next true v t apart).0 (joined_next true v t apart).1 (both_after true v t false rest clear)
one_joined false false v t apart rest clear = fails _ _ rest _ (joined_twice false v t apart) refl

stray_one : (o : Bool) (v : Text) (apart : Bool) (w : Text) → bytes_eq w (45 ∷ 45 ∷ []) ≡ false → IsOther w → Fails (turn_fault shape [] (with_one o v apart) w)
stray_one o v true w is_word other = strayed shape no_short refl [] _ _ w is_word refl other.2
stray_one o v false w is_word other = strayed shape no_short refl [] _ _ w is_word refl other.2

one_end : (o : Bool) (v : Text) (apart : Bool) → Fails (ends (with_one o v apart) [])
unfolding clap_on_literals
one_end true v true e = cc
one_end true v false e = cc
one_end false v true e = cc
one_end false v false e = cc

one_after : (o : Bool) (v : Text) (apart : Bool) (words : List Text) → has_divider words ≡ false → IsRead (with_one o v apart) words (option_and_then (pair o v) (option_alone (dashed (not o)) words))
one_after o v apart [] clear = inl (one_end o v apart, refl)
one_after o v apart (w ∷ rest) clear =
    let parts = or_parts (bytes_eq w (codes "--")) (has_divider rest) clear in
    elim (word_is w) [
      | inl p ↦ subst (λ (x : Text). IsRead (with_one o v apart) (x ∷ rest) (option_and_then (pair o v) (option_alone (dashed (not o)) (x ∷ rest)))) (sym p.1) (one_alone p.0 o v apart rest parts.1)
      | inr (inl p) ↦ subst (λ (x : Text). IsRead (with_one o v apart) (x ∷ rest) (option_and_then (pair o v) (option_alone (dashed (not o)) (x ∷ rest)))) (sym p.2) (one_joined p.0 o v p.1 apart rest parts.1)
      | inr (inr other) ↦ fails _ w rest _ (stray_one o v apart w parts.0 other) (none_alone o v w rest other)
    ]

-- no option yet
abbrev pub start : Walk
start = at [] None idle

first_value : (o : Bool) (y : Text) (rest : List Text) → has_divider (y ∷ rest) ≡ false → IsRead (waiting_at o []) (y ∷ rest) (option_and_then (pair o y) (option_alone (dashed (not o)) rest))
first_value o y rest clear =
    let parts = or_parts (bytes_eq y (codes "--")) (has_divider rest) clear in
    elim (value_is o [] y parts.0) [
      | inl f ↦ fails _ y rest _ f.0 (none_first o y (option_alone (dashed (not o)) rest) f.1)
      | inr e ↦ goes _ (with_one o y true) y rest _ e.0 e.1 (one_after o y true rest parts.1)
    ]

first_alone : (o : Bool) (rest : List Text) → has_divider rest ≡ false → IsRead (waiting_at o []) rest (serve_with (dashed o ∷ rest))
first_alone true [] clear = inl (unvalued_end true [], refl)
first_alone false [] clear = inl (unvalued_end false [], refl)
first_alone true (y ∷ rest) clear = first_value true y rest clear
first_alone false (y ∷ rest) clear = first_value false y rest clear

alone_first : (o : Bool) → (turn_fault shape [] start (dashed o) ≡ []) × (walked rules [] start (dashed o) ≡ waiting_at o [])
unfolding walked
alone_first true = (refl, refl)
alone_first false = (refl, refl)

joined_first : (o : Bool) (t : Text) → (turn_fault shape [] start (dashed o ++ 61 ∷ t) ≡ []) × (walked rules [] start (dashed o ++ 61 ∷ t) ≡ with_one o t false)
unfolding walked
joined_first true t = (refl, refl)
joined_first false t = (refl, refl)

first_joined : (o : Bool) (t : Text) (rest : List Text) → has_divider rest ≡ false → IsRead (with_one o t false) rest (serve_with ((dashed o ++ 61 ∷ t) ∷ rest))
first_joined true t rest clear = one_after true t false rest clear
first_joined false t rest clear = one_after false t false rest clear

start_end : Fails (ends start [])
unfolding clap_on_literals
start_end e = cc

pub serve_is_read : (words : List Text) → has_divider words ≡ false → IsRead start words (serve_with words)
serve_is_read [] clear = inl (start_end, refl)
serve_is_read (w ∷ rest) clear =
    let parts = or_parts (bytes_eq w (codes "--")) (has_divider rest) clear in
    elim (word_is w) [
      | inl p ↦ subst (λ (x : Text). IsRead start (x ∷ rest) (serve_with (x ∷ rest))) (sym p.1) (goes _ _ (dashed p.0) rest _ (alone_first p.0).0 (alone_first p.0).1 (first_alone p.0 rest parts.1))
      | inr (inl p) ↦ subst (λ (x : Text). IsRead start (x ∷ rest) (serve_with (x ∷ rest))) (sym p.2) (goes _ _ _ rest _ (joined_first p.0 p.1).0 (joined_first p.0 p.1).1 (first_joined p.0 p.1 rest parts.1))
      | inr (inr other) ↦ fails _ w rest _ (strayed shape no_short refl [] [] None w parts.0 refl other.2) (rw (other.0 rest, other.1 rest) refl)
    ]
