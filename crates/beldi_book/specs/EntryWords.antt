-- The parts that a line is read by: ids, numbers, places and holders, and the entries that have no other parts.
use Rattle.std.specs.Prelude.{ℕ, ◌-◌, ◌^◌, List, Option, Some, None, option_map, option_and_then, codes, if◌then◌else◌}
use Rattle.beldi_value.specs.{ByteCut.before, ByteCut.after, IdAt.id_at, Number.numeral_at, declared.id.IntentId.IntentId, declared.place.Place.Place}
use Rattle.beldi_tree.specs.Bindings.{is_name}
use Rattle.beldi_book.specs.declared.entry.Entry.{Entry, TheVariants.Read, TheVariants.Step, TheVariants.CommittedTx, TheVariants.AbortedTx}

-- `?`
infixl 10 ◌>>=◌
abbrev pub ◌>>=◌ : {A B : Type 0} → Option A → (A → Option B) → Option B
o >>= f = option_and_then f o

-- a number of 32 bits
abbrev pub small_at : List ℕ → Option ℕ
small_at word = numeral_at (2 ^ 32 - 1) word

-- `ID:STEP`
abbrev pub place_at : List ℕ → Option Place
place_at word = do
  last ← after 58 word
  intent ← id_at (before 58 word)
  step ← small_at last
  Some (record { intent = intent; step = step })

-- `-`, or an id
abbrev pub holder_at : List ℕ → Option (Option IntentId)
holder_at word = if is_name word (codes "-") then Some None else option_map (λ id. Some id) (id_at word)

-- `ID SEEN`
abbrev pub read_at : List ℕ → Option Entry
read_at words = do
  last ← after 32 words
  id ← id_at (before 32 words)
  version ← numeral_at (2 ^ 64 - 1) last
  Some (Read id version)

-- `ID PLACE HOLDER`
abbrev pub abort_at : List ℕ → Option Entry
abort_at words = do
  more ← after 32 words
  last ← after 32 more
  id ← id_at (before 32 words)
  place ← place_at (before 32 more)
  holder ← holder_at last
  Some (AbortedTx id place holder)

-- by the first word and what follows it: an entry that is no start
abbrev pub other_at : List ℕ → List ℕ → Option Entry
other_at word words =
    if is_name word (codes "read") then read_at words else
    if is_name word (codes "try") then abort_at words else
    if is_name word (codes "step") then option_map Step (id_at words) else
    if is_name word (codes "tx") then option_map CommittedTx (id_at words) else
    None
