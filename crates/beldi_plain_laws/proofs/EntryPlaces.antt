-- Where the entries of a book stand in its linear order, when an entry is added to it.
use Rattle.beldi_plain_laws.proofs.Names.{Entry, List, None, Option, VersionsBounded, VersionBy, Some, [], ap, append_assoc, ap₂, arith, suffix, by_change, changes_more, changes_of, changes_twice, count_changes, prefix, front_back, if_change, length, linear, put_by, put_read, put_reads, puts_keep, refl, version_of, subst, suc, sym, until_change, zero, ℕ, ◌++◌, ◌+◌, ◌<◌, ◌∙◌, ◌∷◌, ◌≡◌, ◌≤◌}

-- the number of changes, with an entry before
abbrev count_by : Option ℕ → ℕ → ℕ
count_by None n = suc n
count_by (Some s) n = n

counted : (o : Option ℕ) (e : Entry) (es : List Entry) → length (if_change o e es) ≡ count_by o (length es)
counted None e es = refl
counted (Some s) e es = refl

changes_with : (e : Entry) (es : List Entry) → count_changes (e ∷ es) ≡ count_by (version_of e) (count_changes es)
changes_with e es = counted (version_of e) e (changes_of es)

-- ---- a front that has all changes is all
at_zero : (o : Option ℕ) (n : ℕ) → count_by o n ≤ 0 → n ≤ 0
at_zero None n h = omega arith
at_zero (Some s) n h = h

all_here : (o : Option ℕ) (e : Entry) (es f : List Entry) (n : ℕ) → count_by o n ≤ 0 → f ≡ es → until_change o e f ≡ e ∷ es
all_here None e es f n few h = absurd (omega (arith, few))
all_here (Some s) e es f n few h = ap (λ xs. e ∷ xs) h

all_later : (o : Option ℕ) (e : Entry) (es f g : List Entry) (n s : ℕ) → count_by o n ≤ suc s → (n ≤ s → f ≡ es) → (n ≤ suc s → g ≡ es) → e ∷ by_change o f g ≡ e ∷ es
all_later None e es f g n s few h i = ap (λ xs. e ∷ xs) (h (omega (arith, few)))
all_later (Some k) e es f g n s few h i = ap (λ xs. e ∷ xs) (i few)

pub front_all : (s : ℕ) (es : List Entry) → count_changes es ≤ s → prefix s es ≡ es
front_all s [] few = refl
front_all zero (e ∷ es) few =
    let c = subst (λ n. n ≤ 0) (changes_with e es) few in
    all_here (version_of e) e es (prefix zero es) (count_changes es) c (front_all zero es (at_zero (version_of e) (count_changes es) c))
front_all (suc s) (e ∷ es) few = all_later (version_of e) e es (prefix s es) (prefix (suc s) es) (count_changes es) s (subst (λ n. n ≤ suc s) (changes_with e es) few) (front_all s es) (front_all (suc s) es)

-- ---- a change at the end stands behind every front that is there
later_same : (o : Option ℕ) (e : Entry) (f f' g g' : List Entry) (n s : ℕ) → suc s ≤ count_by o n → (s ≤ n → f' ≡ f) → (suc s ≤ n → g' ≡ g) → e ∷ by_change o f' g' ≡ e ∷ by_change o f g
later_same None e f f' g g' n s few h i = ap (λ xs. e ∷ xs) (h (omega (arith, few)))
later_same (Some k) e f f' g g' n s few h i = ap (λ xs. e ∷ xs) (i few)

back_here : (o : Option ℕ) (c e : Entry) (es b b' : List Entry) → b' ≡ b ++ c ∷ [] → by_change o (e ∷ es ++ c ∷ []) b' ≡ by_change o (e ∷ es) b ++ c ∷ []
back_here None c e es b b' h = refl
back_here (Some k) c e es b b' h = h

back_later : (o : Option ℕ) (c : Entry) (b b' d d' : List Entry) (n s : ℕ) → suc s ≤ count_by o n → (s ≤ n → b' ≡ b ++ c ∷ []) → (suc s ≤ n → d' ≡ d ++ c ∷ []) → by_change o b' d' ≡ by_change o b d ++ c ∷ []
back_later None c b b' d d' n s few h i = h (omega (arith, few))
back_later (Some k) c b b' d d' n s few h i = i few

module _ (c : Entry) (is_change : version_of c ≡ None) where
  pub front_more : (s : ℕ) (es : List Entry) → s ≤ count_changes es → prefix s (es ++ c ∷ []) ≡ prefix s es
  front_more zero [] few = ap (λ o. until_change o c []) is_change
  front_more (suc s) [] few = absurd (omega (arith, few))
  front_more zero (e ∷ es) few = ap (until_change (version_of e) e) (front_more zero es (omega arith))
  front_more (suc s) (e ∷ es) few = later_same (version_of e) e (prefix s es) (prefix s (es ++ c ∷ [])) (prefix (suc s) es) (prefix (suc s) (es ++ c ∷ [])) (count_changes es) s (subst (λ n. suc s ≤ n) (changes_with e es) few) (front_more s es) (front_more (suc s) es)

  back_more : (s : ℕ) (es : List Entry) → s ≤ count_changes es → suffix s (es ++ c ∷ []) ≡ suffix s es ++ c ∷ []
  back_more zero [] few = ap (λ o. by_change o (c ∷ []) []) is_change
  back_more (suc s) [] few = absurd (omega (arith, few))
  back_more zero (e ∷ es) few = back_here (version_of e) c e es (suffix zero es) (suffix zero (es ++ c ∷ [])) (back_more zero es (omega arith))
  back_more (suc s) (e ∷ es) few = back_later (version_of e) c (suffix s es) (suffix s (es ++ c ∷ [])) (suffix (suc s) es) (suffix (suc s) (es ++ c ∷ [])) (count_changes es) s (subst (λ n. suc s ≤ n) (changes_with e es) few) (back_more s es) (back_more (suc s) es)

-- ---- the linear order of a book with an entry more
-- each read had seen at most so many changes
abbrev pub VersionAt : Option ℕ → ℕ → Type 0
VersionAt None n = Unit {0}
VersionAt (Some s) n = s ≤ n

abbrev AllVersion : ℕ → List Entry → Type 0
AllVersion n [] = Unit {0}
AllVersion n (e ∷ es) = VersionAt (version_of e) n × AllVersion n es

bounded_here : (o : Option ℕ) (n k : ℕ) (P : ℕ → Type 0) → n + count_by o k ≤ n + count_by o k → VersionBy o n P → VersionAt o (n + count_by o k)
bounded_here None n k P t h = tt
bounded_here (Some s) n k P t h = let few = h.0 in omega arith

bounded_later : (o : Option ℕ) (n k : ℕ) (es : List Entry) → ((m : ℕ) → VersionsBounded m es → AllVersion (m + k) es) → VersionBy o n (λ m. VersionsBounded m es) → AllVersion (n + count_by o k) es
bounded_later None n k es rest h = subst (λ m. AllVersion m es) (omega arith) (rest (suc n) h)
bounded_later (Some s) n k es rest h = rest n h.1

all_version : (n : ℕ) (es : List Entry) → VersionsBounded n es → AllVersion (n + count_changes es) es
all_version n [] h = tt
all_version n (e ∷ es) h = subst (λ k. AllVersion (n + k) (e ∷ es)) (sym (changes_with e es)) (
  bounded_here (version_of e) n (count_changes es) (λ m. VersionsBounded m es) (omega arith) h,
  bounded_later (version_of e) n (count_changes es) es (λ m. all_version m es) h,
)

put_more_by : (o : Option ℕ) (c r : Entry) → version_of c ≡ None → (xs : List Entry) → VersionAt o (count_changes xs) → put_by o r (xs ++ c ∷ []) ≡ put_by o r xs ++ c ∷ []
put_more_by None c r change xs h = refl
put_more_by (Some s) c r change xs h = ap₂ (λ f b. f ++ r ∷ b) (front_more c change s xs h) (back_more c change s xs h) ∙ sym (append_assoc (prefix s xs) (r ∷ suffix s xs) (c ∷ []))

puts_more : (c : Entry) → version_of c ≡ None → (xs rs : List Entry) → AllVersion (count_changes xs) rs → put_reads (xs ++ c ∷ []) rs ≡ put_reads xs rs ++ c ∷ []
puts_more c change xs [] h = refl
puts_more c change xs (r ∷ rs) h =
    ap (λ ys. put_reads ys rs) (put_more_by (version_of r) c r change xs h.0)
    ∙ puts_more c change (put_read r xs) rs (subst (λ n. AllVersion n rs) (ap length (sym (puts_keep xs (r ∷ [])))) h.1)

puts_last : (xs rs : List Entry) (r : Entry) → put_reads xs (rs ++ r ∷ []) ≡ put_read r (put_reads xs rs)
puts_last xs [] r = refl
puts_last xs (s ∷ rs) r = puts_last (put_read s xs) rs r

-- a change is the last
pub linear_change : (es : List Entry) (c : Entry) → VersionsBounded 0 es → version_of c ≡ None → linear (es ++ c ∷ []) ≡ linear es ++ c ∷ []
linear_change es c h change =
    puts_last (changes_of (es ++ c ∷ [])) es c
    ∙ ap (λ o. put_by o c (put_reads (changes_of (es ++ c ∷ [])) es)) change
    ∙ ap (λ xs. put_reads xs es) (changes_more es (c ∷ []) ∙ ap (λ o. changes_of es ++ if_change o c []) change)
    ∙ puts_more c change (changes_of es) es (subst (λ n. AllVersion n es) (from_zero (count_changes es) ∙ ap length (sym (changes_twice es))) (all_version 0 es h))
  where
    from_zero : (n : ℕ) → 0 + n ≡ n
    from_zero n = omega arith

-- a read stands behind the reads that are at its place
pub linear_read : (es : List Entry) (r : Entry) (s : ℕ) → version_of r ≡ Some s → linear (es ++ r ∷ []) ≡ prefix s (linear es) ++ r ∷ suffix s (linear es)
linear_read es r s read =
    puts_last (changes_of (es ++ r ∷ [])) es r
    ∙ ap (λ o. put_by o r (put_reads (changes_of (es ++ r ∷ [])) es)) read
    ∙ ap (λ xs. prefix s (put_reads xs es) ++ r ∷ suffix s (put_reads xs es)) (changes_more es (r ∷ []) ∙ ap (λ o. changes_of es ++ if_change o r []) read ∙ no_more (changes_of es))
  where
    no_more : (xs : List Entry) → xs ++ [] ≡ xs
    no_more [] = refl
    no_more (x ∷ xs) = ap (λ ys. x ∷ ys) (no_more xs)

-- ---- the fronts of a book that has a read more
module _ (e : Entry) (k : ℕ) (read : version_of e ≡ Some k) where
  front_read : (t : ℕ) (es : List Entry) → prefix t (e ∷ es) ≡ e ∷ prefix t es
  front_read zero es = ap (λ o. until_change o e (prefix zero es)) read
  front_read (suc t) es = ap (λ o. e ∷ by_change o (prefix t es) (prefix (suc t) es)) read

  back_read : (t : ℕ) (es : List Entry) → suffix t (e ∷ es) ≡ suffix t es
  back_read zero es = ap (λ o. by_change o (e ∷ es) (suffix zero es)) read
  back_read (suc t) es = ap (λ o. by_change o (suffix t es) (suffix (suc t) es)) read

module _ (e : Entry) (change : version_of e ≡ None) where
  front_none : (es : List Entry) → prefix zero (e ∷ es) ≡ []
  front_none es = ap (λ o. until_change o e (prefix zero es)) change

  back_none : (es : List Entry) → suffix zero (e ∷ es) ≡ e ∷ es
  back_none es = ap (λ o. by_change o (e ∷ es) (suffix zero es)) change

  front_change : (t : ℕ) (es : List Entry) → prefix (suc t) (e ∷ es) ≡ e ∷ prefix t es
  front_change t es = ap (λ o. e ∷ by_change o (prefix t es) (prefix (suc t) es)) change

  back_change : (t : ℕ) (es : List Entry) → suffix (suc t) (e ∷ es) ≡ suffix t es
  back_change t es = ap (λ o. by_change o (suffix t es) (suffix (suc t) es)) change

-- a longer front, with a read put into it
pub record Between (r : Entry) (s t : ℕ) (es : List Entry) : Type 0 where
  pub between : List Entry
  pub longer : prefix t es ≡ prefix s es ++ between
  pub rest : suffix s es ≡ between ++ suffix t es
  pub with_read : prefix t (prefix s es ++ r ∷ suffix s es) ≡ prefix s es ++ r ∷ between

module _ (r : Entry) (k : ℕ) (read : version_of r ≡ Some k) where
  between_read : (e : Entry) (j s t : ℕ) (es : List Entry) → version_of e ≡ Some j → Between r s t es → Between r s t (e ∷ es)
  between_read e j s t es is h = record {
    between = h.between;
    longer = front_read e j is t es ∙ ap (λ xs. e ∷ xs) h.longer ∙ ap (λ xs. xs ++ h.between) (sym (front_read e j is s es));
    rest = back_read e j is s es ∙ h.rest ∙ ap (λ xs. h.between ++ xs) (sym (back_read e j is t es));
    with_read =
        ap₂ (λ f b. prefix t (f ++ r ∷ b)) (front_read e j is s es) (back_read e j is s es)
        ∙ front_read e j is t (prefix s es ++ r ∷ suffix s es) ∙ ap (λ xs. e ∷ xs) h.with_read
        ∙ ap (λ xs. xs ++ r ∷ h.between) (sym (front_read e j is s es));
  }

  between_first : (e : Entry) (t : ℕ) (es : List Entry) → version_of e ≡ None → Between r zero t (e ∷ es)
  between_first e t es is = record {
    between = prefix t (e ∷ es);
    longer = ap (λ xs. xs ++ prefix t (e ∷ es)) (sym (front_none e is es));
    rest = back_none e is es ∙ sym (front_back t (e ∷ es));
    with_read = ap₂ (λ f b. prefix t (f ++ r ∷ b)) (front_none e is es) (back_none e is es) ∙ front_read r k read t (e ∷ es) ∙ ap (λ xs. xs ++ r ∷ prefix t (e ∷ es)) (sym (front_none e is es));
  }

  between_change : (e : Entry) (s t : ℕ) (es : List Entry) → version_of e ≡ None → Between r s t es → Between r (suc s) (suc t) (e ∷ es)
  between_change e s t es is h = record {
    between = h.between;
    longer = front_change e is t es ∙ ap (λ xs. e ∷ xs) h.longer ∙ ap (λ xs. xs ++ h.between) (sym (front_change e is s es));
    rest = back_change e is s es ∙ h.rest ∙ ap (λ xs. h.between ++ xs) (sym (back_change e is t es));
    with_read =
        ap₂ (λ f b. prefix (suc t) (f ++ r ∷ b)) (front_change e is s es) (back_change e is s es)
        ∙ front_change e is t (prefix s es ++ r ∷ suffix s es) ∙ ap (λ xs. e ∷ xs) h.with_read
        ∙ ap (λ xs. xs ++ r ∷ h.between) (sym (front_change e is s es));
  }

  between_none : (s t : ℕ) → Between r s t []
  between_none s t = record { between = []; longer = refl; rest = refl; with_read = front_read r k read t [] }

  between_zero : (o : Option ℕ) (e : Entry) (t : ℕ) (es : List Entry) → version_of e ≡ o → Between r zero t es → Between r zero t (e ∷ es)
  between_zero None e t es is h = between_first e t es is
  between_zero (Some j) e t es is h = between_read e j zero t es is h

  between_suc : (o : Option ℕ) (e : Entry) (s t : ℕ) (es : List Entry) → version_of e ≡ o → Between r s t es → Between r (suc s) (suc t) es → Between r (suc s) (suc t) (e ∷ es)
  between_suc None e s t es is h i = between_change e s t es is h
  between_suc (Some j) e s t es is h i = between_read e j (suc s) (suc t) es is i

  pub put_between : (s t : ℕ) (es : List Entry) → s ≤ t → Between r s t es
  put_between s t [] le = between_none s t
  put_between zero t (e ∷ es) le = between_zero (version_of e) e t es refl (put_between zero t es le)
  put_between (suc s) zero (e ∷ es) le = absurd (omega arith)
  put_between (suc s) (suc t) (e ∷ es) le = between_suc (version_of e) e s t es refl (put_between s t es (omega arith)) (put_between (suc s) (suc t) es le)

-- what is put behind a front leaves the shorter ones as they are
before_by : (o : Option ℕ) (e : Entry) (s t : ℕ) (es xs : List Entry) → version_of e ≡ o → suc s ≤ count_by o (count_changes es)
    → (s ≤ count_changes es → prefix t (prefix s es ++ xs) ≡ prefix t es) → (suc s ≤ count_changes es → prefix (suc t) (prefix (suc s) es ++ xs) ≡ prefix (suc t) es)
    → prefix (suc t) (prefix (suc s) (e ∷ es) ++ xs) ≡ prefix (suc t) (e ∷ es)
before_by None e s t es xs is few h i = ap (λ f. prefix (suc t) (f ++ xs)) (front_change e is s es) ∙ front_change e is t (prefix s es ++ xs) ∙ ap (λ ys. e ∷ ys) (h (omega (arith, few))) ∙ sym (front_change e is t es)
before_by (Some j) e s t es xs is few h i = ap (λ f. prefix (suc t) (f ++ xs)) (front_read e j is (suc s) es) ∙ front_read e j is (suc t) (prefix (suc s) es ++ xs) ∙ ap (λ ys. e ∷ ys) (i few) ∙ sym (front_read e j is (suc t) es)

before_zero : (o : Option ℕ) (e : Entry) (s : ℕ) (es xs : List Entry) → version_of e ≡ o → suc s ≤ count_by o (count_changes es)
    → (suc s ≤ count_changes es → prefix zero (prefix (suc s) es ++ xs) ≡ prefix zero es) → prefix zero (prefix (suc s) (e ∷ es) ++ xs) ≡ prefix zero (e ∷ es)
before_zero None e s es xs is few i = ap (λ f. prefix zero (f ++ xs)) (front_change e is s es) ∙ front_none e is (prefix s es ++ xs) ∙ sym (front_none e is es)
before_zero (Some j) e s es xs is few i = ap (λ f. prefix zero (f ++ xs)) (front_read e j is (suc s) es) ∙ front_read e j is zero (prefix (suc s) es ++ xs) ∙ ap (λ ys. e ∷ ys) (i few) ∙ sym (front_read e j is zero es)

pub put_after : (t s : ℕ) (es xs : List Entry) → t < s → s ≤ count_changes es → prefix t (prefix s es ++ xs) ≡ prefix t es
put_after t zero es xs lt few = absurd (omega arith)
put_after t (suc s) [] xs lt few = absurd (omega (arith, few))
put_after zero (suc s) (e ∷ es) xs lt few = before_zero (version_of e) e s es xs refl (subst (λ n. suc s ≤ n) (changes_with e es) few) (put_after zero (suc s) es xs lt)
put_after (suc t) (suc s) (e ∷ es) xs lt few = before_by (version_of e) e s t es xs refl (subst (λ n. suc s ≤ n) (changes_with e es) few) (put_after t s es xs (omega arith)) (put_after (suc t) (suc s) es xs lt)

-- ---- the bound on what reads had seen
bounded_end : (o : Option ℕ) (n : ℕ) → VersionAt o n → VersionBy o n (λ k. Unit {0})
bounded_end None n h = tt
bounded_end (Some s) n h = (h, tt)

bounded_on : (o : Option ℕ) (n k : ℕ) (P Q : ℕ → Type 0) → ((m : ℕ) → m + k ≡ n + count_by o k → P m → Q m) → VersionBy o n P → VersionBy o n Q
bounded_on None n k P Q rest h = rest (suc n) (omega arith) h
bounded_on (Some s) n k P Q rest h = (h.0, rest n refl h.1)

pub bounded_more : (es : List Entry) (e : Entry) (n : ℕ) → VersionsBounded n es → VersionAt (version_of e) (n + count_changes es) → VersionsBounded n (es ++ e ∷ [])
bounded_more [] e n h last = bounded_end (version_of e) n (subst (VersionAt (version_of e)) (omega arith) last)
bounded_more (f ∷ es) e n h last =
    bounded_on (version_of f) n (count_changes es) (λ k. VersionsBounded k es) (λ k. VersionsBounded k (es ++ e ∷ []))
    (λ m is b. bounded_more es e m b (subst (VersionAt (version_of e)) (ap (λ k. n + k) (changes_with f es) ∙ sym is) last)) h
