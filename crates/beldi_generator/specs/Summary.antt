-- What is told of a session of generated work, by the lines of its text.
use Rattle.std.specs.Prelude.{ℕ, ◌+◌, ◌==◌, ℤ, pos, Bool, false, ◌||◌, List, [], ◌∷◌, ◌++◌, Option, Some, None, if◌then◌else◌, codes}
use Rattle.std.specs.Int.{w64, int_wrapping_add}
use Rattle.std.specs.{Bool.◌==◌, Fmt.decimal, Fmt.signed_decimal, List.starts_with, Str.bytes_eq}
use Rattle.beldi_value.specs.Number.{int_at}
use Rattle.beldi_script.specs.LineCut.{lines_of}

-- the lines after the first one that is this
abbrev pub past : List ℕ → List (List ℕ) → List (List ℕ)
past head [] = []
past head (l ∷ ls) = if bytes_eq l head then ls else past head ls

abbrev pub begins : List ℕ → List ℕ → Bool
begins front line = starts_with ◌==◌ line front

-- how many lines begin so, past n
abbrev pub counted : ℕ → List ℕ → List (List ℕ) → ℕ
counted n front [] = n
counted n front (l ∷ ls) = counted (if begins front l then n + 1 else n) front ls

-- ---- how the settling ended
abbrev pub tells_settling : List ℕ → Bool
tells_settling line = begins (codes "settled ") line || (begins (codes "unsettled ") line || (begins (codes "stuck ") line || begins (codes "spent ") line))

-- the first line that tells it
abbrev pub settling_in : List (List ℕ) → List ℕ
settling_in [] = []
settling_in (l ∷ ls) = if tells_settling l then l else settling_in ls

-- ---- the listed items: a line of one begins with the function, its table and its key
abbrev pub item_front : List ℕ
item_front = codes "bank "

-- what follows the last space of these bytes: this word where there is none
abbrev pub last_of : List ℕ → List ℕ → List ℕ
last_of word [] = word
last_of word (b ∷ bs) = last_of (if b == 32 then bs else word) bs

-- .. of a line: all of it where there is none
abbrev pub last_word : List ℕ → List ℕ
last_word line = last_of line line

abbrev pub or_nothing : Option ℤ → ℤ
or_nothing None = pos 0
or_nothing (Some z) = z

-- the whole number that an item has, which ends its line; another value counts for nothing
abbrev pub value_in : List ℕ → ℤ
value_in line = or_nothing (int_at (last_word line))

-- how many lines at the front list an item, past n
abbrev pub listed : ℕ → List (List ℕ) → ℕ
listed n [] = n
listed n (l ∷ ls) = if begins item_front l then listed (n + 1) ls else n

-- the sum of those, past z, in 64 bits: it is right where it fits in them, whatever wraps on the way
abbrev pub summed : ℤ → List (List ℕ) → ℤ
summed z [] = z
summed z (l ∷ ls) = if begins item_front l then summed (int_wrapping_add w64 z (value_in l)) ls else z

-- the table failed as it was to be listed
abbrev pub is_unread : List (List ℕ) → Bool
is_unread [] = false
is_unread (l ∷ ls) = bytes_eq l (codes "dropped")

-- ---- the text
abbrev pub totals_text : List (List ℕ) → List ℕ
totals_text ls =
    if is_unread ls then codes "dropped\n"
    else codes "keys " ++ (decimal (listed 0 ls) ++ (codes "\nsum " ++ (signed_decimal (summed (pos 0) ls) ++ codes "\n")))

-- a number after its word, as a line
abbrev pub numbered : List ℕ → ℕ → List ℕ
numbered word n = word ++ (decimal n ++ codes "\n")

-- the entries of transactions that committed, and of those that did not
abbrev pub entries_text : ℕ → List (List ℕ) → List ℕ
entries_text requests book = numbered (codes "requests ") requests ++ (numbered (codes "committed ") (counted 0 (codes "tx ") book) ++ numbered (codes "aborted ") (counted 0 (codes "try ") book))

abbrev pub summary_of : ℕ → List (List ℕ) → List ℕ
summary_of requests lines = entries_text requests (past (codes "== book") lines) ++ (settling_in lines ++ (codes "\n" ++ totals_text (past (codes "== tables") lines)))

abbrev pub summary_text : ℕ → List ℕ → List ℕ
summary_text requests text = summary_of requests (lines_of text)
