-- Reads that are put by their places make the linear order.
use Rattle.beldi_book.proofs.Names.{Entry, List, MatchOption, None, Option, Some, [], ap, append-nil, append_assoc, ap₂, arith, suffix, by_change, changes_of, empty_places, prefix, get_or, if_change, length, linear, option_to_list, put_all_in, put_by, put_by_version, put_reads, put_to, refl, version_of, slice_set, suc, sym, until_change, woven, zero, ℕ, ◌++◌, ◌+◌, ◌<◌, ◌∙◌, ◌∷◌, ◌≡◌, ◌≤◌}
use Rattle.beldi_book.proofs.Orders.{changes_more}

-- these are changes, and there is a place before each and one after all, with reads alone
abbrev Fits : List Entry → List (List Entry) → Type 0
Fits cs [] = ⊥
Fits [] (p ∷ []) = changes_of p ≡ []
Fits [] (p ∷ q ∷ ps) = ⊥
Fits (c ∷ cs) (p ∷ ps) = (changes_of p ≡ []) × (version_of c ≡ None) × Fits cs ps

-- ---- one read
-- reads come before the cut, whatever it is
front_past_by : (s : ℕ) (e : Entry) (p es : List Entry) (o : Option ℕ) → version_of e ≡ o → if_change o e (changes_of p) ≡ [] → (changes_of p ≡ [] → prefix s (p ++ es) ≡ p ++ prefix s es) → prefix s (e ∷ (p ++ es)) ≡ e ∷ (p ++ prefix s es)
front_past_by s e p es None is h rest = cc
front_past_by zero e p es (Some t) is h rest = ap (λ o. until_change o e (prefix zero (p ++ es))) is ∙ ap (λ r. e ∷ r) (rest h)
front_past_by (suc s) e p es (Some t) is h rest = ap (λ o. e ∷ by_change o (prefix s (p ++ es)) (prefix (suc s) (p ++ es))) is ∙ ap (λ r. e ∷ r) (rest h)

front_past : (s : ℕ) (p es : List Entry) → changes_of p ≡ [] → prefix s (p ++ es) ≡ p ++ prefix s es
front_past s [] es h = refl
front_past s (e ∷ p) es h = front_past_by s e p es (version_of e) refl h (front_past s p es)

back_past_by : (s : ℕ) (e : Entry) (p es : List Entry) (o : Option ℕ) → version_of e ≡ o → if_change o e (changes_of p) ≡ [] → (changes_of p ≡ [] → suffix s (p ++ es) ≡ suffix s es) → suffix s (e ∷ (p ++ es)) ≡ suffix s es
back_past_by s e p es None is h rest = cc
back_past_by zero e p es (Some t) is h rest = ap (λ o. by_change o (e ∷ (p ++ es)) (suffix zero (p ++ es))) is ∙ rest h
back_past_by (suc s) e p es (Some t) is h rest = ap (λ o. by_change o (suffix s (p ++ es)) (suffix (suc s) (p ++ es))) is ∙ rest h

back_past : (s : ℕ) (p es : List Entry) → changes_of p ≡ [] → suffix s (p ++ es) ≡ suffix s es
back_past s [] es h = refl
back_past s (e ∷ p) es h = back_past_by s e p es (version_of e) refl h (back_past s p es)

-- a read between the front and the back of what is behind a place
past : (s : ℕ) (e : Entry) (p es : List Entry) → changes_of p ≡ [] → prefix s (p ++ es) ++ e ∷ suffix s (p ++ es) ≡ p ++ (prefix s es ++ e ∷ suffix s es)
past s e p es h = ap₂ (λ f b. f ++ e ∷ b) (front_past s p es h) (back_past s p es h) ∙ append_assoc p (prefix s es) (e ∷ suffix s es)

at_change : (e c : Entry) (es : List Entry) (o : Option ℕ) → o ≡ None → until_change o c (prefix zero es) ++ e ∷ by_change o (c ∷ es) (suffix zero es) ≡ e ∷ c ∷ es
at_change e c es None h = refl
at_change e c es (Some s) h = cc

past_change : (s : ℕ) (e c : Entry) (es : List Entry) (o : Option ℕ) → o ≡ None → c ∷ by_change o (prefix s es) (prefix (suc s) es) ++ e ∷ by_change o (suffix s es) (suffix (suc s) es) ≡ c ∷ (prefix s es ++ e ∷ suffix s es)
past_change s e c es None h = refl
past_change s e c es (Some t) h = cc

put_woven : (s : ℕ) (e : Entry) (cs : List Entry) (ps : List (List Entry)) → Fits cs ps → prefix s (woven cs ps) ++ e ∷ suffix s (woven cs ps) ≡ woven cs (put_to s e ps)
put_woven s e cs [] f = absurd f
put_woven s e [] (p ∷ []) f = past s e p [] f ∙ sym (append_assoc p (e ∷ []) [])
put_woven s e [] (p ∷ q ∷ ps) f = absurd f
put_woven s e (c ∷ cs) (p ∷ []) f = absurd (f.2)
put_woven zero e (c ∷ cs) (p ∷ q ∷ ps) f = past zero e p (c ∷ woven cs (q ∷ ps)) f.0 ∙ ap (λ r. p ++ r) (at_change e c (woven cs (q ∷ ps)) (version_of c) f.1) ∙ sym (append_assoc p (e ∷ []) (c ∷ woven cs (q ∷ ps)))
put_woven (suc s) e (c ∷ cs) (p ∷ q ∷ ps) f =
    past (suc s) e p (c ∷ woven cs (q ∷ ps)) f.0
    ∙ ap (λ r. p ++ r) (past_change s e c (woven cs (q ∷ ps)) (version_of c) f.1 ∙ ap (λ r. c ∷ r) (put_woven s e cs (q ∷ ps) f.2))

-- ---- all reads
one_read : (e : Entry) (p : List Entry) (s : ℕ) → changes_of p ≡ [] → version_of e ≡ Some s → changes_of (p ++ e ∷ []) ≡ []
one_read e p s h is = changes_more p (e ∷ []) ∙ ap₂ (λ xs o. xs ++ if_change o e []) h is

fits_put : (s t : ℕ) (e : Entry) (cs : List Entry) (ps : List (List Entry)) → version_of e ≡ Some t → Fits cs ps → Fits cs (put_to s e ps)
fits_put s t e cs [] is f = absurd f
fits_put s t e [] (p ∷ []) is f = one_read e p t f is
fits_put s t e [] (p ∷ q ∷ ps) is f = absurd f
fits_put s t e (c ∷ cs) (p ∷ []) is f = absurd (f.2)
fits_put zero t e (c ∷ cs) (p ∷ q ∷ ps) is f = (one_read e p t f.0 is, f.1, f.2)
fits_put (suc s) t e (c ∷ cs) (p ∷ q ∷ ps) is f = (f.0, f.1, fits_put s t e cs (q ∷ ps) is f.2)

puts_by : (cs : List Entry) (ps : List (List Entry)) (e : Entry) (es : List Entry) (o : Option ℕ) → version_of e ≡ o → Fits cs ps → ((qs : List (List Entry)) → Fits cs qs → put_reads (woven cs qs) es ≡ woven cs (put_all_in qs es))
    → put_reads (put_by o e (woven cs ps)) es ≡ woven cs (put_all_in (put_by_version o e ps) es)
puts_by cs ps e es None is f rest = rest ps f
puts_by cs ps e es (Some s) is f rest = ap (λ r. put_reads r es) (put_woven s e cs ps f) ∙ rest (put_to s e ps) (fits_put s s e cs ps is f)

puts_woven : (cs : List Entry) (es : List Entry) (ps : List (List Entry)) → Fits cs ps → put_reads (woven cs ps) es ≡ woven cs (put_all_in ps es)
puts_woven cs [] ps f = refl
puts_woven cs (e ∷ es) ps f = puts_by cs ps e es (version_of e) refl f (puts_woven cs es)

fits_by : (e : Entry) (cs : List Entry) (o : Option ℕ) → version_of e ≡ o → Fits cs (empty_places cs) → Fits (if_change o e cs) (empty_places (if_change o e cs))
fits_by e cs None is f = (refl, is, f)
fits_by e cs (Some s) is f = f

fits_empty : (es : List Entry) → Fits (changes_of es) (empty_places (changes_of es))
fits_empty [] = refl
fits_empty (e ∷ es) = fits_by e (changes_of es) (version_of e) refl (fits_empty es)

woven_empty : (cs : List Entry) → woven cs (empty_places cs) ≡ cs
woven_empty [] = refl
woven_empty (c ∷ cs) = ap (λ r. c ∷ r) (woven_empty cs)

-- the linear order, place by place
pub by_places : (es : List Entry) → woven (changes_of es) (put_all_in (empty_places (changes_of es)) es) ≡ linear es
by_places es = sym (puts_woven (changes_of es) es (empty_places (changes_of es)) (fits_empty es)) ∙ ap (λ r. put_reads r es) (woven_empty (changes_of es))

-- ---- a place that is changed by its number
pub put_inside : (s : ℕ) (e : Entry) (ps : List (List Entry)) (d p : List Entry) → s + 1 < length ps → p ≡ get_or ps s d ++ e ∷ [] → slice_set ps s p ≡ put_to s e ps
put_inside s e [] d p h is = absurd (omega arith)
put_inside s e (q ∷ []) d p h is = absurd (omega arith)
put_inside zero e (q ∷ r ∷ ps) d p h is = ap (λ x. x ∷ r ∷ ps) is
put_inside (suc s) e (q ∷ r ∷ ps) d p h is = ap (λ x. q ∷ x) (put_inside s e (r ∷ ps) d p (omega arith) is)

pub put_last : (n s : ℕ) (e : Entry) (ps : List (List Entry)) (d p : List Entry) → n + 1 ≡ length ps → n ≤ s → p ≡ get_or ps n d ++ e ∷ [] → slice_set ps n p ≡ put_to s e ps
put_last n s e [] d p h less is = absurd (omega arith)
put_last zero s e (q ∷ []) d p h less is = ap (λ x. x ∷ []) is
put_last (suc n) s e (q ∷ []) d p h less is = absurd (omega arith)
put_last zero s e (q ∷ r ∷ ps) d p h less is = absurd (omega arith)
put_last (suc n) zero e (q ∷ r ∷ ps) d p h less is = absurd (omega arith)
put_last (suc n) (suc s) e (q ∷ r ∷ ps) d p h less is = ap (λ x. q ∷ x) (put_last n s e (r ∷ ps) d p (omega arith) (omega arith) is)

-- ---- what was put, and what is left woven, make all
none_left : {A : Type 0} (xs : List A) (n : ℕ) → n ≡ length xs → n ≡ 0 → xs ≡ []
none_left [] n h z = refl
none_left (x ∷ xs) n h z = absurd (omega arith)

pub at_end : (done cs : List Entry) (ps : List (List Entry)) (n : ℕ) (all : List Entry) → done ++ woven cs ps ≡ all → n ≡ length ps → n ≡ 0 → done ≡ all
at_end done cs ps n all h long z = sym (append-nil done) ∙ ap (λ qs. done ++ woven cs qs) (sym (none_left ps n long z)) ∙ h

pub one_less : {A : Type 0} (n m : ℕ) (x : A) (xs ys : List A) → n ≡ length xs → xs ≡ x ∷ ys → m + 1 ≡ n → m ≡ length ys
one_less n m x xs ys long is less = let e = ap length is in omega arith

pub one_place : (done p more cs ds : List Entry) (o : Option Entry) (n m : ℕ) (ps qs : List (List Entry)) (all : List Entry) → done ++ woven cs ps ≡ all → ps ≡ p ∷ qs → n ≡ length cs → cs ≡ option_to_list o ++ ds → MatchOption o ((n ≡ 0) × (m ≡ 0)) (λ c. (cs ≡ c ∷ ds) × (m + 1 ≡ n)) → more ≡ (done ++ p) ++ option_to_list o
    → (more ++ woven ds qs ≡ all) × (m ≡ length ds)
one_place done p more cs ds None n m ps qs all h is long same steps put =
    let none = none_left cs n long steps.0 in (
      ap₂ (λ xs ys. xs ++ woven ys qs) (put ∙ append-nil (done ++ p)) (sym same ∙ none) ∙ append_assoc done p (woven [] qs) ∙ sym (ap₂ (λ xs r. done ++ woven xs r) none is) ∙ h,
      steps.1 ∙ sym steps.0 ∙ long ∙ ap length same,
    )
one_place done p more cs ds (Some c) n m ps qs all h is long same steps put = (
  ap (λ xs. xs ++ woven ds qs) put ∙ append_assoc (done ++ p) (c ∷ []) (woven ds qs) ∙ append_assoc done p (c ∷ woven ds qs) ∙ sym (ap₂ (λ xs r. done ++ woven xs r) same is) ∙ h,
  one_less n m c cs ds long same steps.1,
)
