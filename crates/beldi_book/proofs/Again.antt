-- A book that was written is read again, and the first bad line of a text is one.
use Rattle.beldi_book.proofs.Names.{AllByRecursion, AreNamed, BadEntry, BookIsReadAgain, Deployment, Entry, Err, Func, HasBadLine, IntentId, IsHolder, IsLineOf, IsProper, IsTextOf, IsValue, IsWithin, IsWord, List, None, NothingElseIsRead, Ok, Option, OutOfMemory, Read, Some, Start, Step, AbortedTx, CommittedTx, Value, [], after, all_ascii_digits, and_parts, ap, append-nil, append_assoc, ap₂, arith, before, book_text, codes, datum_of, decimal, digit_first, digits_decimal, entry_text, false, func_at, func_text, holder_text, id_text, is_ascii_digit, is_name, length, length-append, min, name_or, numeral_at, numeral_of, own, place_text, read_again, read_of, refl, same_Some, same_values, subst, suc, sym, text_of, true, ℕ, ◌++◌, ◌-◌, ◌<◌, ◌^◌, ◌∙◌, ◌∷◌, ◌≡◌, ◌≤◌}
use Rattle.beldi_book.proofs.{Cuts.parts, Cuts.none_after, Cuts.number_clear, Cuts.id_clear, LineFeeds.text_flat, Others.other_read, Starts.starts_so, Starts.append_same}

-- ---- functions by their texts
digits_first : (ds : List ℕ) → all_ascii_digits ds ≡ true → digit_first ds ≡ true
digits_first [] h = refl
digits_first (d ∷ ds) h = (and_parts (is_ascii_digit d) (all_ascii_digits ds) h).0

no_numeral : (name : List ℕ) (n : ℕ) → IsWord name → n < 2 ^ 16 → name ≡ decimal n → ⊥
no_numeral name n w small is = let g = sym w.first ∙ ap digit_first is ∙ digits_first (decimal n) (digits_decimal own n (omega arith)) in cc

same_number : (m n : ℕ) → m < 2 ^ 16 → n < 2 ^ 16 → decimal m ≡ decimal n → m ≡ n
same_number m n f g is = same_Some m n (sym (numeral_of (2 ^ 16) m (omega arith) (omega arith)) ∙ ap (numeral_at (2 ^ 16)) is ∙ numeral_of (2 ^ 16) n (omega arith) (omega arith))

same_func : (code : Deployment) (m n : ℕ) (o p : Option Func) → AreNamed code → m < 2 ^ 16 → n < 2 ^ 16 → func_at code m ≡ o → func_at code n ≡ p → name_or m o ≡ name_or n p → m ≡ n
same_func code m n None None names a b f g is = same_number m n a b is
same_func code m n None (Some y) names a b f g is = absurd (no_numeral y.name m (names.words n y g) a (sym is))
same_func code m n (Some x) None names a b f g is = absurd (no_numeral x.name n (names.words m x f) b is)
same_func code m n (Some x) (Some y) names a b f g is = names.differ m n x y f g is

func_clear_by : (code : Deployment) (m n : ℕ) (o : Option Func) → is_ascii_digit m ≡ false → ((f : Func) → o ≡ Some f → after m f.name ≡ None) → n < 2 ^ 16 → after m (name_or n o) ≡ None
func_clear_by code m n None a word small = number_clear m n a (omega arith)
func_clear_by code m n (Some f) a word small = word f refl

func_one : (code : Deployment) (n : ℕ) → AreNamed code → n < 2 ^ 16 → after 32 (func_text code n) ≡ None
func_one code n names small = func_clear_by code 32 n (func_at code n) refl (λ f is. (names.words n f is).one) small

func_flat : (code : Deployment) (n : ℕ) → AreNamed code → n < 2 ^ 16 → after 10 (func_text code n) ≡ None
func_flat code n names small = func_clear_by code 10 n (func_at code n) refl (λ f is. (names.words n f is).flat) small

-- ---- an entry within its limits is proper, and its text is one line
proper : (e : Entry) → IsWithin e → IsProper e
proper (Start t f a) h = (h.0, h.1, record { within = h.3; again = read_again (datum_of a) h.2 h.3 })
proper (Read id s) h = h
proper (Step id) h = h
proper (CommittedTx id) h = h
proper (AbortedTx id p k) h = h

holder_flat : (h : Option IntentId) → IsHolder h → after 10 (holder_text h) ≡ None
holder_flat None f = refl
holder_flat (Some id) f = id_clear 10 id (refl, refl) f

spaced : (v w : List ℕ) → after 10 v ≡ None → after 10 w ≡ None → after 10 (v ++ 32 ∷ w) ≡ None
spaced v w g h = none_after 10 v (32 ∷ w) g h

entry_flat : (code : Deployment) (e : Entry) → AreNamed code → IsWithin e → after 10 (entry_text code e) ≡ None
entry_flat code (Start t f a) names h = spaced (decimal t) (func_text code f ++ 32 ∷ text_of (datum_of a)) (number_clear 10 t refl (omega (arith, h.0))) (spaced (func_text code f) (text_of (datum_of a)) (func_flat code f names h.1) (text_flat (datum_of a) h.2))
entry_flat code (Read id s) names h = spaced (id_text id) (decimal s) (id_clear 10 id (refl, refl) h.0) (number_clear 10 s refl h.1)
entry_flat code (Step id) names h = id_clear 10 id (refl, refl) h
entry_flat code (CommittedTx id) names h = id_clear 10 id (refl, refl) h
entry_flat code (AbortedTx id p k) names h =
    spaced (id_text id) (place_text p ++ 32 ∷ holder_text k) (id_clear 10 id (refl, refl) h.0)
    (spaced (place_text p) (holder_text k) (none_after 10 (id_text p.intent) (58 ∷ decimal p.step) (id_clear 10 p.intent (refl, refl) h.1) (number_clear 10 p.step refl (omega (arith, h.2)))) (holder_flat k h.3))

abbrev IsOne : Deployment → Entry → Type 0
IsOne code e = IsProper e × (after 10 (entry_text code e) ≡ None)

all_one : (code : Deployment) (es : List Entry) → AreNamed code → AllByRecursion IsWithin es → AllByRecursion (IsOne code) es
all_one code [] names h = tt
all_one code (e ∷ es) names h = ((proper e h.0, entry_flat code e names h.0), all_one code es names h.1)

-- ---- entries of one text are one
same_value : (a b : Value) → IsValue (datum_of a) → IsValue (datum_of b) → text_of (datum_of a) ≡ text_of (datum_of b) → a ≡ b
same_value a b f g is = let e = sym f.again ∙ ap read_of is ∙ g.again in same_values a b (cc (e))

same_start : (code : Deployment) (t u f g : ℕ) (a b : Value) → AreNamed code → IsProper (Start t f a) → IsProper (Start u g b) → entry_text code (Start t f a) ≡ entry_text code (Start u g b) → Start t f a ≡ Start u g b
same_start code t u f g a b names h k is =
    let tail = append_same (codes "start ") _ _ is in
    let p = parts 32 (decimal t) (func_text code f ++ 32 ∷ text_of (datum_of a)) (number_clear 32 t refl (omega (arith, h.0))) in
    let q = parts 32 (decimal u) (func_text code g ++ 32 ∷ text_of (datum_of b)) (number_clear 32 u refl (omega (arith, k.0))) in
    let ticket = sym p.front ∙ ap (before 32) tail ∙ q.front in
    let call = same_Some _ _ (sym p.back ∙ ap (after 32) tail ∙ q.back) in
    let r = parts 32 (func_text code f) (text_of (datum_of a)) (func_one code f names h.1) in
    let s = parts 32 (func_text code g) (text_of (datum_of b)) (func_one code g names k.1) in
    let func = sym r.front ∙ ap (before 32) call ∙ s.front in
    let args = same_Some _ _ (sym r.back ∙ ap (after 32) call ∙ s.back) in
    let same_ticket : t ≡ u = same_Some t u (sym (numeral_of (2 ^ 32) t (omega (arith, h.0)) (omega (arith, h.0))) ∙ ap (numeral_at (2 ^ 32)) ticket ∙ numeral_of (2 ^ 32) u (omega (arith, k.0)) (omega (arith, k.0))) in
    λ i. Start (same_ticket i) (same_func code f g (func_at code f) (func_at code g) names h.1 k.1 refl refl func i) (same_value a b h.2 k.2 args i)

words_after : (code : Deployment) (e : Entry) → (w : List ℕ) × (after 32 (entry_text code e) ≡ Some w)
words_after code (Start t f a) = (decimal t ++ 32 ∷ (func_text code f ++ 32 ∷ text_of (datum_of a)), refl)
words_after code (Read id s) = (id_text id ++ 32 ∷ decimal s, refl)
words_after code (Step id) = (id_text id, refl)
words_after code (CommittedTx id) = (id_text id, refl)
words_after code (AbortedTx id p k) = (id_text id ++ 32 ∷ (place_text p ++ 32 ∷ holder_text k), refl)

abbrev word_of : Deployment → Entry → List ℕ
word_of code e = before 32 (entry_text code e)

same_entry : (code : Deployment) (e f : Entry) → AreNamed code → IsProper e → IsProper f → entry_text code e ≡ entry_text code f → e ≡ f
same_entry code e f names h k is =
    let word : word_of code e ≡ word_of code f = ap (before 32) is in
    let w = words_after code e in
    elim (is_name (word_of code e) (codes "start")) as (λ b. is_name (word_of code e) (codes "start") ≡ b → e ≡ f) [
      | true ↦ λ s.
          let x = starts_so code e s in
          let y = starts_so code f (ap (λ v. is_name v (codes "start")) (sym word) ∙ s) in
          x.3 ∙ same_start code x.0 y.0 x.1 y.1 x.2 y.2 names (subst IsProper x.3 h) (subst IsProper y.3 k) (ap (entry_text code) (sym x.3) ∙ is ∙ ap (entry_text code) y.3) ∙ sym y.3
      | false ↦ λ s. same_Some e f (sym (other_read code e (word_of code e) w.0 h refl w.1 s) ∙ other_read code f (word_of code e) w.0 k word (ap (after 32) (sym is) ∙ w.1) s)
    ] refl

-- ---- one line after another
opened : (code : Deployment) (e : Entry) (es : List Entry) (tail : List ℕ) → book_text code (e ∷ es) ++ tail ≡ entry_text code e ++ 10 ∷ (book_text code es ++ tail)
opened code e es tail = append_assoc (entry_text code e ++ 10 ∷ []) (book_text code es) tail ∙ append_assoc (entry_text code e) (10 ∷ []) (book_text code es ++ tail)

same_heads : (v w t u : List ℕ) → after 10 v ≡ None → after 10 w ≡ None → v ++ 10 ∷ t ≡ w ++ 10 ∷ u → (v ≡ w) × (t ≡ u)
same_heads v w t u g h is =
    let p = parts 10 v t g in
    let q = parts 10 w u h in
    (sym p.front ∙ ap (before 10) is ∙ q.front, same_Some t u (sym p.back ∙ ap (after 10) is ∙ q.back))

same_lines : (code : Deployment) (d e : Entry) (ds es : List Entry) (t u : List ℕ) → IsOne code d → IsOne code e → book_text code (d ∷ ds) ++ t ≡ book_text code (e ∷ es) ++ u → (entry_text code d ≡ entry_text code e) × (book_text code ds ++ t ≡ book_text code es ++ u)
same_lines code d e ds es t u g h is = same_heads (entry_text code d) (entry_text code e) (book_text code ds ++ t) (book_text code es ++ u) g.1 h.1 (sym (opened code d ds t) ∙ is ∙ opened code e es u)

same_book : (code : Deployment) (ds es : List Entry) → AreNamed code → AllByRecursion (IsOne code) ds → AllByRecursion (IsOne code) es → book_text code ds ++ [] ≡ book_text code es ++ [] → ds ≡ es
same_book code [] [] names g h is = refl
same_book code [] (e ∷ es) names g h is = absurd (let n = ap length (is ∙ opened code e es []) in let m = length-append (entry_text code e) (10 ∷ (book_text code es ++ [])) in omega arith)
same_book code (d ∷ ds) [] names g h is = absurd (let n = ap length (sym is ∙ opened code d ds []) in let m = length-append (entry_text code d) (10 ∷ (book_text code ds ++ [])) in omega arith)
same_book code (d ∷ ds) (e ∷ es) names g h is =
    let s = same_lines code d e ds es [] [] g.0 h.0 is in
    ap₂ (λ x xs. x ∷ xs) (same_entry code d e names g.0.0 h.0.0 s.0) (same_book code ds es names g.1 h.1 s.1)

-- this begins with no line of an entry
abbrev IsBad : Deployment → List ℕ → Type 0
IsBad code rest = (e : Entry) (more : List ℕ) → after 10 rest ≡ Some more → IsLineOf code (before 10 rest) e → ⊥

-- no lines of entries go further than the bad line
no_further : (code : Deployment) (es done : List Entry) (rest tail : List ℕ) → AllByRecursion (IsOne code) es → AllByRecursion (IsOne code) done → IsBad code rest → book_text code done ++ rest ≡ book_text code es ++ tail → length es ≤ length done
no_further code [] done rest tail h g bad is = omega arith
no_further code (e ∷ es) [] rest tail h g bad is = absurd (
    let more = book_text code es ++ tail in
    let p = parts 10 (entry_text code e) more h.0.1 in
    let whole : rest ≡ entry_text code e ++ 10 ∷ more = is ∙ opened code e es tail in
    bad e more (ap (after 10) whole ∙ p.back) (record { text = ap (before 10) whole ∙ p.front; proper = h.0.0 }))
no_further code (e ∷ es) (d ∷ done) rest tail h g bad is = let n = no_further code es done rest tail h.1 g.1 bad (same_lines code d e done es rest tail g.0 h.0 is).1 in omega arith

-- nor do all lines of a book end before it
not_beyond : (code : Deployment) (es done : List Entry) (rest : List ℕ) → AllByRecursion (IsOne code) es → AllByRecursion (IsOne code) done → 0 < length rest → book_text code done ++ rest ≡ book_text code es ++ [] → length es ≤ length done → ⊥
not_beyond code [] [] rest h g some is less = let n = ap length is in omega arith
not_beyond code [] (d ∷ done) rest h g some is less = let n = ap length (sym is ∙ opened code d done rest) in let m = length-append (entry_text code d) (10 ∷ (book_text code done ++ rest)) in omega arith
not_beyond code (e ∷ es) [] rest h g some is less = omega arith
not_beyond code (e ∷ es) (d ∷ done) rest h g some is less = not_beyond code es done rest h.1 g.1 some (same_lines code d e done es rest [] g.0 h.0 is).1 (omega arith)

-- ---- the laws
pub bad_line_one : (code : Deployment) (text : List ℕ) (m n : ℕ) → HasBadLine code text m → HasBadLine code text n → m ≡ n
bad_line_one code text m n a b =
    let is : book_text code a.done ++ a.rest ≡ book_text code b.done ++ b.rest = ap (λ f. f ++ a.rest) (sym a.good.all) ∙ sym a.all ∙ b.all ∙ ap (λ f. f ++ b.rest) b.good.all in
    let less = no_further code b.done a.done a.rest b.rest b.good.lines a.good.lines a.bad is in
    let more = no_further code a.done b.done b.rest a.rest a.good.lines b.good.lines b.bad (sym is) in
    let same : length a.done ≡ length b.done = omega arith in
    a.number ∙ ap (λ k. min (suc k) (2 ^ 32 - 1)) same ∙ sym b.number

pub bad_line_none : (code : Deployment) (text : List ℕ) (n : ℕ) (es : List Entry) → HasBadLine code text n → IsTextOf code text es → ⊥
bad_line_none code text n es a h =
    let is : book_text code a.done ++ a.rest ≡ book_text code es ++ [] = ap (λ f. f ++ a.rest) (sym a.good.all) ∙ sym a.all ∙ h.all ∙ sym (append-nil (book_text code es)) in
    not_beyond code es a.done a.rest h.lines a.good.lines a.some is (no_further code es a.done a.rest [] h.lines a.good.lines a.bad is)

pub read_as : BookIsReadAgain
read_as code es (Ok b) names h r = same_book code b.entries es names r.lines (all_one code es names h) (ap (λ t. t ++ []) (sym r.all))
read_as code es (Err OutOfMemory) names h r = tt
read_as code es (Err (BadEntry line)) names h r = bad_line_none code (book_text code es) line es r (record { all = refl; lines = all_one code es names h })

pub no_other : NothingElseIsRead
no_other code text (Ok b) r none = none b.entries r
no_other code text (Err e) r none = tt
