-- The linear order of a book, by the changes and by the reads behind each number of them.
use Rattle.beldi_plain_laws.proofs.Names.{Bool, Entry, IntentId, LinearIsInOrder, List, Read, Start, Step, AbortedTx, CommittedTx, [], ap, append-nil, append_assoc, arith, suffix, belongs, changes_of, changes_twice, cond, count_changes, false, filter, prefix, length, linear_changes, min, nat_tests, put_keeps, put_read, put_reads, reads_after, refl, version_of, suc, sym, true, zero, ℕ, ◌++◌, ◌==◌, ◌∙◌, ◌∷◌, ◌≡◌}

none_zero : (s : ℕ) → true ≡ (min s 0 == 0)
none_zero s = grind (arith, nat_tests)

none_more : (s n : ℕ) → false ≡ (min s 0 == suc n)
none_more s n = grind (arith, nat_tests)

first_zero : (c : ℕ) → true ≡ (min 0 c == 0)
first_zero c = grind (arith, nat_tests)

first_more : (c n : ℕ) → false ≡ (min 0 c == suc n)
first_more c n = grind (arith, nat_tests)

both_zero : (s c : ℕ) → false ≡ (min (suc s) (suc c) == 0)
both_zero s c = grind (arith, nat_tests)

both_more : (s c n : ℕ) → (min s c == n) ≡ (min (suc s) (suc c) == suc n)
both_more s c n = grind (arith, nat_tests)

-- ---- one read
module _ (id : IntentId) (version : ℕ) where
  abbrev here : Bool → List Entry
  here true = Read id version ∷ []
  here false = []

  before_all : (s n : ℕ) → reads_after n (Read id version ∷ []) ≡ here (min s 0 == n)
  before_all s zero = ap here (none_zero s)
  before_all s (suc n) = ap here (none_more s n)

  not_here : (n : ℕ) (es : List Entry) (b : Bool) → false ≡ b → reads_after n es ≡ reads_after n es ++ here b
  not_here n es b is = sym (append-nil (reads_after n es)) ∙ ap (λ x. reads_after n es ++ here x) is

  put_at : (s n : ℕ) (es : List Entry) → reads_after n (prefix s es ++ Read id version ∷ suffix s es) ≡ reads_after n es ++ here (min s (count_changes es) == n)
  put_at s n [] = before_all s n
  put_at zero zero (Start t f a ∷ es) = ap here (first_zero (suc (count_changes es)))
  put_at zero zero (Step i ∷ es) = ap here (first_zero (suc (count_changes es)))
  put_at zero zero (CommittedTx i ∷ es) = ap here (first_zero (suc (count_changes es)))
  put_at zero zero (AbortedTx i p h ∷ es) = ap here (first_zero (suc (count_changes es)))
  put_at zero zero (Read i s ∷ es) = ap (λ xs. Read i s ∷ xs) (put_at zero zero es)
  put_at zero (suc n) (Start t f a ∷ es) = not_here n es (min 0 (suc (count_changes es)) == suc n) (first_more (suc (count_changes es)) n)
  put_at zero (suc n) (Step i ∷ es) = not_here n es (min 0 (suc (count_changes es)) == suc n) (first_more (suc (count_changes es)) n)
  put_at zero (suc n) (CommittedTx i ∷ es) = not_here n es (min 0 (suc (count_changes es)) == suc n) (first_more (suc (count_changes es)) n)
  put_at zero (suc n) (AbortedTx i p h ∷ es) = not_here n es (min 0 (suc (count_changes es)) == suc n) (first_more (suc (count_changes es)) n)
  put_at zero (suc n) (Read i s ∷ es) = put_at zero (suc n) es
  put_at (suc k) zero (Start t f a ∷ es) = ap here (both_zero k (count_changes es))
  put_at (suc k) zero (Step i ∷ es) = ap here (both_zero k (count_changes es))
  put_at (suc k) zero (CommittedTx i ∷ es) = ap here (both_zero k (count_changes es))
  put_at (suc k) zero (AbortedTx i p h ∷ es) = ap here (both_zero k (count_changes es))
  put_at (suc k) zero (Read i s ∷ es) = ap (λ xs. Read i s ∷ xs) (put_at (suc k) zero es)
  put_at (suc k) (suc n) (Start t f a ∷ es) = put_at k n es ∙ ap (λ b. reads_after n es ++ here b) (both_more k (count_changes es) n)
  put_at (suc k) (suc n) (Step i ∷ es) = put_at k n es ∙ ap (λ b. reads_after n es ++ here b) (both_more k (count_changes es) n)
  put_at (suc k) (suc n) (CommittedTx i ∷ es) = put_at k n es ∙ ap (λ b. reads_after n es ++ here b) (both_more k (count_changes es) n)
  put_at (suc k) (suc n) (AbortedTx i p h ∷ es) = put_at k n es ∙ ap (λ b. reads_after n es ++ here b) (both_more k (count_changes es) n)
  put_at (suc k) (suc n) (Read i s ∷ es) = put_at (suc k) (suc n) es

  joined : (b : Bool) (xs : List Entry) → here b ++ xs ≡ cond b (Read id version ∷ xs) xs
  joined true xs = refl
  joined false xs = refl

-- ---- all reads
abbrev belonging : ℕ → ℕ → List Entry → List Entry
belonging n c es = filter (λ e. belongs n c (version_of e)) es

puts_at : (n : ℕ) (es rs : List Entry) → reads_after n (put_reads es rs) ≡ reads_after n es ++ belonging n (count_changes es) rs
puts_at n es [] = sym (append-nil (reads_after n es))
puts_at n es (Start t f a ∷ rs) = puts_at n es rs
puts_at n es (Step id ∷ rs) = puts_at n es rs
puts_at n es (CommittedTx id ∷ rs) = puts_at n es rs
puts_at n es (AbortedTx id p h ∷ rs) = puts_at n es rs
puts_at n es (Read id s ∷ rs) =
    let more = put_read (Read id s) es in
    let rest = belonging n (count_changes es) rs in
    puts_at n more rs ∙ ap (λ cs. reads_after n more ++ belonging n (length cs) rs) (put_keeps (Read id s) es) ∙ ap (λ xs. xs ++ rest) (put_at id s s n es)
    ∙ append_assoc (reads_after n es) (here id s (min s (count_changes es) == n)) rest ∙ ap (λ xs. reads_after n es ++ xs) (joined id s (min s (count_changes es) == n) rest)

no_reads : (n : ℕ) (es : List Entry) → reads_after n (changes_of es) ≡ []
no_reads n [] = refl
no_reads zero (Start t f a ∷ es) = refl
no_reads zero (Step id ∷ es) = refl
no_reads zero (CommittedTx id ∷ es) = refl
no_reads zero (AbortedTx id p h ∷ es) = refl
no_reads (suc n) (Start t f a ∷ es) = no_reads n es
no_reads (suc n) (Step id ∷ es) = no_reads n es
no_reads (suc n) (CommittedTx id ∷ es) = no_reads n es
no_reads (suc n) (AbortedTx id p h ∷ es) = no_reads n es
no_reads n (Read id s ∷ es) = no_reads n es

pub in_order : LinearIsInOrder
in_order book = record {
  changes = linear_changes book;
  reads = λ n. puts_at n (changes_of book) book ∙ ap (λ xs. xs ++ belonging n (count_changes (changes_of book)) book) (no_reads n book) ∙ ap (λ cs. belonging n (length cs) book) (changes_twice book);
}
