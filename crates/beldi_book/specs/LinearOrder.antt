-- The order in which the entries of a book took effect. A read may be kept late: it belongs where it was made.
use Rattle.std.specs.Prelude.{ℕ, zero, suc, ◌≤◌, List, [], ◌∷◌, ◌++◌, length, Option, Some, None}
use Rattle.beldi_book.specs.declared.entry.Entry.{Entry, TheVariants.Start, TheVariants.Read, TheVariants.Step, TheVariants.CommittedTx, TheVariants.AbortedTx}

-- how many changes had been made where a read belongs; none of an entry that is a change
abbrev pub version_of : Entry → Option ℕ
version_of (Start t f a) = None
version_of (Read id version) = Some version
version_of (Step id) = None
version_of (CommittedTx id) = None
version_of (AbortedTx id p h) = None

abbrev pub if_change : Option ℕ → Entry → List Entry → List Entry
if_change None e es = e ∷ es
if_change (Some s) e es = es

-- the changes of a book: its entries but for the reads
abbrev pub changes_of : List Entry → List Entry
changes_of [] = []
changes_of (e ∷ es) = if_change (version_of e) e (changes_of es)

-- how many changes there are
abbrev pub count_changes : List Entry → ℕ
count_changes es = length (changes_of es)

-- the entries before the change that comes after the first s changes: these, and the reads at their places
abbrev pub until_change : Option ℕ → Entry → List Entry → List Entry
until_change None e es = []
until_change (Some s) e es = e ∷ es

abbrev pub by_change : {X : Type 0} → Option ℕ → X → X → X
by_change None x y = x
by_change (Some s) x y = y

abbrev pub prefix : ℕ → List Entry → List Entry
prefix s [] = []
prefix zero (e ∷ es) = until_change (version_of e) e (prefix zero es)
prefix (suc s) (e ∷ es) = e ∷ by_change (version_of e) (prefix s es) (prefix (suc s) es)

-- what follows
abbrev pub suffix : ℕ → List Entry → List Entry
suffix s [] = []
suffix zero (e ∷ es) = by_change (version_of e) (e ∷ es) (suffix zero es)
suffix (suc s) (e ∷ es) = by_change (version_of e) (suffix s es) (suffix (suc s) es)

-- a read, put after the first changes that it had seen, and behind the reads that are there
abbrev pub put_by : Option ℕ → Entry → List Entry → List Entry
put_by None e es = es
put_by (Some s) e es = prefix s es ++ e ∷ suffix s es

abbrev pub put_read : Entry → List Entry → List Entry
put_read e es = put_by (version_of e) e es

-- the reads among the entries, put so in their order
abbrev pub put_reads : List Entry → List Entry → List Entry
put_reads es [] = es
put_reads es (r ∷ rs) = put_reads (put_read r es) rs

-- the changes stand in book order. Each read stands after the first changes that it had seen, or after all where there are
-- fewer, and before the next one; reads of one place keep book order.
abbrev pub linear : List Entry → List Entry
linear es = put_reads (changes_of es) es

abbrev pub VersionBy : Option ℕ → ℕ → (ℕ → Type 0) → Type 0
VersionBy None n P = P (suc n)
VersionBy (Some s) n P = (s ≤ n) × P n

-- each read had seen no more changes than the book has before it, where n came before all of these entries
abbrev pub VersionsBounded : ℕ → List Entry → Type 0
VersionsBounded n [] = Unit {0}
VersionsBounded n (e ∷ es) = VersionBy (version_of e) n (λ k. VersionsBounded k es)
