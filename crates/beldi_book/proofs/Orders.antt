-- The changes of a book, and the places of its reads.
use Rattle.beldi_book.proofs.Names.{Bool, Entry, List, None, Option, Some, [], ap, arith, suffix, bool_byte, by_change, changes_of, count_changes, false, prefix, if_change, is_none, length, length-append, linear, put_by, put_read, put_reads, refl, version_of, suc, sym, true, until_change, zero, ℕ, ◌++◌, ◌+◌, ◌∙◌, ◌∷◌, ◌≡◌, ◌≤◌}

few_by : (o : Option ℕ) (e : Entry) (es : List Entry) (n : ℕ) → length es ≤ n → length (if_change o e es) ≤ n + 1
few_by None e es n h = omega arith
few_by (Some s) e es n h = omega arith

-- there are at most as many changes as entries
pub few : (es : List Entry) → count_changes es ≤ length es
few [] = omega arith
few (e ∷ es) = let h = few_by (version_of e) e (changes_of es) (length es) (few es) in omega arith

if_change_more : (o : Option ℕ) (e : Entry) (xs ys : List Entry) → if_change o e (xs ++ ys) ≡ if_change o e xs ++ ys
if_change_more None e xs ys = refl
if_change_more (Some s) e xs ys = refl

pub changes_more : (es fs : List Entry) → changes_of (es ++ fs) ≡ changes_of es ++ changes_of fs
changes_more [] fs = refl
changes_more (e ∷ es) fs = ap (if_change (version_of e) e) (changes_more es fs) ∙ if_change_more (version_of e) e (changes_of es) (changes_of fs)

counted_by : (o : Option ℕ) (e : Entry) (b : Bool) → b ≡ is_none o → length (if_change o e []) ≡ bool_byte b
counted_by None e b h = ap bool_byte (sym h)
counted_by (Some s) e b h = ap bool_byte (sym h)

-- an entry more at the end
pub counted : (es : List Entry) (e : Entry) (b : Bool) → b ≡ is_none (version_of e) → count_changes (es ++ e ∷ []) ≡ count_changes es + bool_byte b
counted es e b h = ap length (changes_more es (e ∷ [])) ∙ length-append (changes_of es) (changes_of (e ∷ [])) ∙ ap (λ n. count_changes es + n) (counted_by (version_of e) e b h)

here : (o : Option ℕ) (e : Entry) (es : List Entry) (f b : List Entry) → f ++ b ≡ es → until_change o e f ++ by_change o (e ∷ es) b ≡ e ∷ es
here None e es f b h = refl
here (Some s) e es f b h = ap (λ xs. e ∷ xs) h

later : (o : Option ℕ) (e : Entry) (es : List Entry) (f b g c : List Entry) → f ++ b ≡ es → g ++ c ≡ es → e ∷ by_change o f g ++ by_change o b c ≡ e ∷ es
later None e es f b g c h i = ap (λ xs. e ∷ xs) h
later (Some s) e es f b g c h i = ap (λ xs. e ∷ xs) i

-- the front and the back are all
pub front_back : (s : ℕ) (es : List Entry) → prefix s es ++ suffix s es ≡ es
front_back s [] = refl
front_back zero (e ∷ es) = here (version_of e) e es (prefix zero es) (suffix zero es) (front_back zero es)
front_back (suc s) (e ∷ es) = later (version_of e) e es (prefix s es) (suffix s es) (prefix (suc s) es) (suffix (suc s) es) (front_back s es) (front_back (suc s) es)

put_keeps_by : (o : Option ℕ) (e : Entry) (es : List Entry) → version_of e ≡ o → changes_of (put_by o e es) ≡ changes_of es
put_keeps_by None e es h = refl
put_keeps_by (Some s) e es h =
    changes_more (prefix s es) (e ∷ suffix s es)
    ∙ ap (λ o. changes_of (prefix s es) ++ if_change o e (changes_of (suffix s es))) h
    ∙ sym (changes_more (prefix s es) (suffix s es)) ∙ ap changes_of (front_back s es)

-- a read that is put leaves the changes as they are
pub put_keeps : (e : Entry) (es : List Entry) → changes_of (put_read e es) ≡ changes_of es
put_keeps e es = put_keeps_by (version_of e) e es refl

pub puts_keep : (es rs : List Entry) → changes_of (put_reads es rs) ≡ changes_of es
puts_keep es [] = refl
puts_keep es (r ∷ rs) = puts_keep (put_read r es) rs ∙ put_keeps r es

twice_by : (o : Option ℕ) (e : Entry) (es : List Entry) → version_of e ≡ o → changes_of es ≡ es → changes_of (if_change o e es) ≡ if_change o e es
twice_by None e es h i = ap (λ o. if_change o e (changes_of es)) h ∙ ap (λ xs. e ∷ xs) i
twice_by (Some s) e es h i = i

pub changes_twice : (es : List Entry) → changes_of (changes_of es) ≡ changes_of es
changes_twice [] = refl
changes_twice (e ∷ es) = twice_by (version_of e) e (changes_of es) refl (changes_twice es)

-- the linear order has the changes of the book
pub linear_changes : (es : List Entry) → changes_of (linear es) ≡ changes_of es
linear_changes es = puts_keep (changes_of es) es ∙ changes_twice es

pub at_most_one : (b : Bool) (k : ℕ) → k ≡ bool_byte b → k ≤ 1
at_most_one true k h = omega arith
at_most_one false k h = omega arith
