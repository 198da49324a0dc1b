-- The parts of a script's line: numbers, names, and the lines that have no other words than numbers. One space stands between two words.
use Rattle.std.specs.Prelude.{ℕ, ◌-◌, ◌^◌, ◌==◌, Bool, false, not, ◌||◌, ◌&&◌, List, [], ◌∷◌, Option, Some, None, option_map, option_and_then, codes, if◌then◌else◌}
use Rattle.std.specs.{List.list_all, Str.is_utf8}
use Rattle.beldi_value.specs.{ByteCut.before, ByteCut.after, Number.numeral_at}
use Rattle.beldi_tree.specs.Bindings.{is_name}
use Rattle.beldi_script.specs.declared.line.Line.TheVariants.{Ticket, Turn, Lost, Crash, Ic, Gc, Sweep, Settle, Tick, Halt, Reply, Rows, Tables, Book}
use Rattle.beldi_script.specs.declared.line.Line.{Line}

-- `?`
infixl 10 ◌>>=◌
abbrev pub ◌>>=◌ : {A B : Type 0} → Option A → (A → Option B) → Option B
o >>= f = option_and_then f o

-- a space or a tab
abbrev pub is_space : ℕ → Bool
is_space b = b == 32 || b == 9

-- `#` is first
abbrev pub is_comment : List ℕ → Bool
is_comment [] = false
is_comment (b ∷ bs) = b == 35

-- spaces and tabs alone, or a comment
abbrev pub is_blank : List ℕ → Bool
is_blank line = is_comment line || list_all is_space line

abbrev pub has_no_space : List ℕ → Bool
has_no_space word = list_all (λ c. not (c == 32)) word

-- a byte at least, no space among them, and UTF-8
abbrev pub is_word : List ℕ → Bool
is_word [] = false
is_word (b ∷ bs) = has_no_space (b ∷ bs) && is_utf8 (b ∷ bs)

-- a function's name may be any word
abbrev pub name_at : List ℕ → Option (List ℕ)
name_at word = if is_word word then Some word else None

-- a number of 32 bits: a ticket or a run
abbrev pub small_at : List ℕ → Option ℕ
small_at word = numeral_at (2 ^ 32 - 1) word

-- a collector, by its number
abbrev pub collector_at : List ℕ → Option ℕ
collector_at word = numeral_at 7 word

-- a number from 1 to `most`
abbrev pub count_at : ℕ → List ℕ → Option ℕ
count_at most word = do
  n ← numeral_at most word
  if n == 0 then None else Some n

-- how often: once where no number is given
abbrev pub times_at : Option (List ℕ) → Option ℕ
times_at None = Some 1
times_at (Some word) = count_at 1000 word

abbrev pub budget_at : List ℕ → Option ℕ
budget_at word = count_at 4000000000 word

-- `R` or `R N`: a run, and how often
abbrev pub turn_at : List ℕ → Option Line
turn_at words = do
  run ← small_at (before 32 words)
  times ← times_at (after 32 words)
  Some (Turn run times)

-- `K` or `K N`: a collector, and how often
abbrev pub gc_at : List ℕ → Option Line
gc_at words = do
  k ← collector_at (before 32 words)
  times ← times_at (after 32 words)
  Some (Gc k times)

-- `K B`: a collector and a budget
abbrev pub sweep_at : List ℕ → Option Line
sweep_at words = do
  last ← after 32 words
  k ← collector_at (before 32 words)
  budget ← budget_at last
  Some (Sweep k budget)

-- a line of one word
abbrev pub alone : List ℕ → Option Line
alone word =
    if is_name word (codes "ticket") then Some Ticket else
    if is_name word (codes "ic") then Some (Ic 1) else
    if is_name word (codes "halt") then Some Halt else
    if is_name word (codes "rows") then Some Rows else
    if is_name word (codes "tables") then Some Tables else
    if is_name word (codes "book") then Some Book else
    None

-- a line of a word and one number
abbrev pub numbered : List ℕ → List ℕ → Option Line
numbered word number =
    if is_name word (codes "lost") then option_map Lost (small_at number) else
    if is_name word (codes "crash") then option_map Crash (small_at number) else
    if is_name word (codes "ic") then option_map Ic (count_at 1000 number) else
    if is_name word (codes "settle") then option_map Settle (budget_at number) else
    if is_name word (codes "tick") then option_map Tick (numeral_at 4294967297 number) else
    if is_name word (codes "reply") then option_map Reply (small_at number) else
    None

-- a line of a word and numbers
abbrev pub counted : List ℕ → List ℕ → Option Line
counted word words =
    if is_name word (codes "turn") then turn_at words else
    if is_name word (codes "gc") then gc_at words else
    if is_name word (codes "sweep") then sweep_at words else
    numbered word words
