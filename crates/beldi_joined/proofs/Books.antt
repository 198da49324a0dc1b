-- Books of sessions one after another.
use Rattle.std.specs.Prelude.{ℕ, ◌≡◌, ◌+◌, List, [], ◌∷◌, ◌++◌, length, refl}
use Rattle.std.proofs.Common.{ap, sym, ◌∙◌, append-nil, append_assoc, add_assoc, zero-add}
use Rattle.std.proofs.lemmas.List.{map-append, length-append}
use Rattle.beldi_book.specs.{declared.entry.Entry.Entry, declared.entry.Entry.TheVariants.Start, declared.entry.Entry.TheVariants.Read, declared.entry.Entry.TheVariants.Step, declared.entry.Entry.TheVariants.CommittedTx, declared.entry.Entry.TheVariants.AbortedTx, LinearOrder.changes_of, LinearOrder.count_changes}
use Rattle.beldi_book.proofs.Orders.{changes_more}
use Rattle.beldi_plain.specs.Replies.{starts_of}
use Rattle.beldi_joined.specs.Joined.{joined, raised, raised_entry}

-- ---- raised entries
-- the changes are as they were
pub changes_raised : (n : ℕ) (es : List Entry) → changes_of (raised n es) ≡ changes_of es
changes_raised n [] = refl
changes_raised n (Start t f a ∷ es) = ap (λ z. Start t f a ∷ z) (changes_raised n es)
changes_raised n (Read id version ∷ es) = changes_raised n es
changes_raised n (Step id ∷ es) = ap (λ z. Step id ∷ z) (changes_raised n es)
changes_raised n (CommittedTx id ∷ es) = ap (λ z. CommittedTx id ∷ z) (changes_raised n es)
changes_raised n (AbortedTx id p holder ∷ es) = ap (λ z. AbortedTx id p holder ∷ z) (changes_raised n es)

pub count_raised : (n : ℕ) (es : List Entry) → count_changes (raised n es) ≡ count_changes es
count_raised n es = ap length (changes_raised n es)

pub raised_more : (n : ℕ) (es fs : List Entry) → raised n (es ++ fs) ≡ raised n es ++ raised n fs
raised_more n es fs = map-append (raised_entry n) es fs

entry_same : (e : Entry) → raised_entry 0 e ≡ e
entry_same (Start t f a) = refl
entry_same (Read id version) = ap (λ s. Read id s) (zero-add version)
entry_same (Step id) = refl
entry_same (CommittedTx id) = refl
entry_same (AbortedTx id p holder) = refl

pub raised_none : (es : List Entry) → raised 0 es ≡ es
raised_none [] = refl
raised_none (e ∷ es) = λ i. entry_same e i ∷ raised_none es i

entry_twice : (m n : ℕ) (e : Entry) → raised_entry m (raised_entry n e) ≡ raised_entry (m + n) e
entry_twice m n (Start t f a) = refl
entry_twice m n (Read id version) = ap (λ s. Read id s) (sym (add_assoc m n version))
entry_twice m n (Step id) = refl
entry_twice m n (CommittedTx id) = refl
entry_twice m n (AbortedTx id p holder) = refl

pub raised_twice : (m n : ℕ) (es : List Entry) → raised m (raised n es) ≡ raised (m + n) es
raised_twice m n [] = refl
raised_twice m n (e ∷ es) = λ i. entry_twice m n e i ∷ raised_twice m n es i

-- ---- books
pub count_more : (es fs : List Entry) → count_changes (es ++ fs) ≡ count_changes es + count_changes fs
count_more es fs = ap length (changes_more es fs) ∙ length-append (changes_of es) (changes_of fs)

pub count_joined : (base book : List Entry) → count_changes (joined base book) ≡ count_changes base + count_changes book
count_joined base book = let n = count_changes base in count_more base (raised n book) ∙ ap (λ k. n + k) (count_raised n book)

-- a book that grows
pub joined_more : (base book more : List Entry) → joined base (book ++ more) ≡ joined base book ++ raised (count_changes base) more
joined_more base book more = let n = count_changes base in ap (λ z. base ++ z) (raised_more n book more) ∙ sym (append_assoc base (raised n book) (raised n more))

-- a session that left no book, and one that is the first
pub joined_nothing : (base : List Entry) → joined base [] ≡ base
joined_nothing base = append-nil base

pub nothing_joined : (book : List Entry) → joined [] book ≡ book
nothing_joined book = raised_none book

-- three sessions
pub joined_twice : (a b c : List Entry) → joined (joined a b) c ≡ joined a (joined b c)
joined_twice a b c =
    let m = count_changes a in
    let n = count_changes b in
    append_assoc a (raised m b) (raised (count_changes (joined a b)) c)
    ∙ ap (λ k. a ++ (raised m b ++ raised k c)) (count_joined a b)
    ∙ ap (λ z. a ++ (raised m b ++ z)) (sym (raised_twice m n c))
    ∙ ap (λ z. a ++ z) (sym (raised_more m b (raised n c)))

-- ---- the roots that a book starts
pub starts_raised : (n : ℕ) (es : List Entry) → starts_of (raised n es) ≡ starts_of es
starts_raised n [] = refl
starts_raised n (Start t f a ∷ es) = ap (λ z. (t, (f, a)) ∷ z) (starts_raised n es)
starts_raised n (Read id version ∷ es) = starts_raised n es
starts_raised n (Step id ∷ es) = starts_raised n es
starts_raised n (CommittedTx id ∷ es) = starts_raised n es
starts_raised n (AbortedTx id p holder ∷ es) = starts_raised n es

pub starts_more : (es fs : List Entry) → starts_of (es ++ fs) ≡ starts_of es ++ starts_of fs
starts_more [] fs = refl
starts_more (Start t f a ∷ es) fs = ap (λ z. (t, (f, a)) ∷ z) (starts_more es fs)
starts_more (Read id version ∷ es) fs = starts_more es fs
starts_more (Step id ∷ es) fs = starts_more es fs
starts_more (CommittedTx id ∷ es) fs = starts_more es fs
starts_more (AbortedTx id p holder ∷ es) fs = starts_more es fs

pub starts_joined : (base book : List Entry) → starts_of (joined base book) ≡ starts_of base ++ starts_of book
starts_joined base book = let n = count_changes base in starts_more base (raised n book) ∙ ap (λ z. starts_of base ++ z) (starts_raised n book)
