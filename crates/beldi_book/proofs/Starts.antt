-- The lines that start a root: a function is named, or numbered where the deployment lacks it.
use Rattle.std.specs.Prelude.{IfOk}
use Rattle.beldi_book.proofs.Names.{Bor, Deployment, Entry, Err, Follows, Func, IsArgs, IsCall, IsCallOf, IsCalled, IsEntryOf, IsLineOf, IsNumbered, IsStart, List, Names, None, Ok, Option, Read, Result, Some, Start, Step, AbortedTx, CommittedTx, Value, [], after, ap, ap₂, arith, before, codes, datum_of, decimal, drop, entry_text, false, func_at, func_text, is_name, is_some, length, name_or, numeral_at, numeral_back, numeral_of, numeral_within, option_copied, other_at, refl, same_Some, same_text, small_at, subst, sym, take, text_of, true, ℕ, ◌++◌, ◌-◌, ◌<◌, ◌^◌, ◌∙◌, ◌∷◌, ◌≡◌, ◌≤◌}
use Rattle.beldi_book.proofs.{Cuts.parts, Cuts.joined, Cuts.number_clear, Cuts.stripped, Cuts.not_stripped, Others.small_read, Others.small_back, Others.other_read, Others.other_back}

-- ---- a name, and arguments
pub names : (name words rest json : List ℕ) → is_name (take (length name) words) name ≡ true → rest ≡ drop (length name) words → is_name (take 1 rest) (32 ∷ []) ≡ true → json ≡ drop 1 rest → words ≡ name ++ 32 ∷ json
names name words rest json h is g more = stripped name words h ∙ ap (λ r. name ++ r) (sym is ∙ stripped (32 ∷ []) rest g) ∙ ap (λ r. name ++ 32 ∷ r) (sym more)

pub no_name : (name words : List ℕ) → is_name (take (length name) words) name ≡ false → Names name words None
no_name name words h rest is = not_stripped name words (32 ∷ rest) h is

pub append_same : (xs ys zs : List ℕ) → xs ++ ys ≡ xs ++ zs → ys ≡ zs
append_same [] ys zs h = h
append_same (x ∷ xs) ys zs h = append_same xs ys zs (ap (drop 1) h)

pub no_space : (name words rest : List ℕ) → is_name (take (length name) words) name ≡ true → rest ≡ drop (length name) words → is_name (take 1 rest) (32 ∷ []) ≡ false → Names name words None
no_space name words rest h is g more e = not_stripped (32 ∷ []) rest more g (is ∙ append_same name (drop (length name) words) (32 ∷ more) (sym (stripped name words h) ∙ e))

pub follows : (name words json : List ℕ) (o : Option Value) → words ≡ name ++ 32 ∷ json → IsArgs json o → Follows name words o
follows name words json None h f = λ a c. f a (ap (drop 1) (append_same name (32 ∷ json) (32 ∷ text_of (datum_of a)) (sym h ∙ c.text))) c.value
follows name words json (Some a) h f = record { text = h ∙ ap (λ t. name ++ 32 ∷ t) f.0; value = f.1 }

-- ---- functions by their names, and by their numbers
pub lacking_text : (code : Deployment) (n : ℕ) → func_at code n ≡ None → func_text code n ≡ decimal n
lacking_text code n h = ap (name_or n) h

-- none of the first functions is called
abbrev pub NoneCalled : Deployment → List ℕ → ℕ → Type 0
NoneCalled code words k = (n : ℕ) (g : Func) (a : Value) → n ≤ k → func_at code n ≡ Some g → IsCalled words g.name a → ⊥

pub no_number_rest : (code : Deployment) (words : List ℕ) → after 32 words ≡ None → IsNumbered code words None
no_number_rest code words h n a small lacks c =
    let p = parts 32 (decimal n) (text_of (datum_of a)) (number_clear 32 n refl (omega arith)) in
    let g = sym h ∙ ap (after 32) c.text ∙ p.back in cc

number_there : (words : List ℕ) (n : ℕ) (a : Value) → n < 2 ^ 16 → IsCalled words (decimal n) a → (numeral_at (2 ^ 16 - 1) (before 32 words) ≡ Some n) × (after 32 words ≡ Some (text_of (datum_of a)))
number_there words n a small c =
    let p = parts 32 (decimal n) (text_of (datum_of a)) (number_clear 32 n refl (omega arith)) in
    (ap (λ w. numeral_at (2 ^ 16 - 1) (before 32 w)) c.text ∙ ap (numeral_at (2 ^ 16 - 1)) p.front ∙ numeral_of (2 ^ 16 - 1) n (omega arith) (omega arith), ap (after 32) c.text ∙ p.back)

pub no_number : (code : Deployment) (words : List ℕ) → numeral_at (2 ^ 16 - 1) (before 32 words) ≡ None → IsNumbered code words None
no_number code words h n a small lacks c = let g = sym h ∙ (number_there words n a small c).0 in cc

pub is_there : (code : Deployment) (words : List ℕ) (m : ℕ) → numeral_at (2 ^ 16 - 1) (before 32 words) ≡ Some m → (func_at code m ≡ None → ⊥) → IsNumbered code words None
is_there code words m h at n a small lacks c =
    let same : m ≡ n = same_Some m n (sym h ∙ (number_there words n a small c).0) in
    at (ap (func_at code) same ∙ lacks)

abbrev pub by_value : ℕ → Option Value → Option (ℕ × Value)
by_value m None = None
by_value m (Some a) = Some (m, a)

pub numbered : (code : Deployment) (words json : List ℕ) (m : ℕ) (o : Option Value) → after 32 words ≡ Some json → numeral_at (2 ^ 16 - 1) (before 32 words) ≡ Some m → func_at code m ≡ None → IsArgs json o → IsNumbered code words (by_value m o)
numbered code words json m None more h lacks f = λ n a small absent c. f a (same_Some json (text_of (datum_of a)) (sym more ∙ (number_there words n a small c).1)) c.value
numbered code words json m (Some a) more h lacks f = (
  let most = numeral_within (2 ^ 16 - 1) m (before 32 words) h in omega arith,
  record {
    text = joined 32 words json more ∙ ap₂ (λ x y. x ++ 32 ∷ y) (sym (numeral_back (2 ^ 16 - 1) m (before 32 words) (omega arith) h) ∙ sym (lacking_text code m lacks)) f.0;
    value = f.1;
  },
)

-- ---- what follows the word `start`
record StartParts (code : Deployment) (words : List ℕ) (t f : ℕ) (a : Value) : Type 0 where
  call : List ℕ
  back : after 32 words ≡ Some call
  ticket : small_at (before 32 words) ≡ Some t
  called : IsCallOf code call (f, a)

start_parts : (code : Deployment) (words : List ℕ) (t f : ℕ) (a : Value) → IsLineOf code (codes "start " ++ words) (Start t f a) → StartParts code words t f a
start_parts code words t f a h =
    let call = func_text code f ++ 32 ∷ text_of (datum_of a) in
    let p = parts 32 (decimal t) call (number_clear 32 t refl (omega (arith, h.proper.0))) in
    let is : words ≡ decimal t ++ 32 ∷ call = append_same (codes "start ") words (decimal t ++ 32 ∷ call) h.text in
    record {
      call = call;
      back = ap (after 32) is ∙ p.back;
      ticket = ap (λ w. small_at (before 32 w)) is ∙ ap small_at p.front ∙ small_read t h.proper.0;
      called = (h.proper.1, record { text = refl; value = h.proper.2 });
    }

pub no_start_rest : (code : Deployment) (words : List ℕ) → after 32 words ≡ None → IsStart code words None
no_start_rest code words h t f a l = let g = sym h ∙ (start_parts code words t f a l).back in cc

pub no_ticket : (code : Deployment) (words : List ℕ) → small_at (before 32 words) ≡ None → IsStart code words None
no_ticket code words h t f a l = let g = sym h ∙ (start_parts code words t f a l).ticket in cc

pub no_call_there : (code : Deployment) (words rest : List ℕ) → after 32 words ≡ Some rest → IsCall code rest None → IsStart code words None
no_call_there code words rest h none t f a l =
    let p = start_parts code words t f a l in
    none (f, a) (subst (λ r. IsCallOf code r (f, a)) (same_Some p.call rest (sym p.back ∙ h)) p.called)

pub is_start : (code : Deployment) (words rest : List ℕ) (t : ℕ) (c : ℕ × Value) → after 32 words ≡ Some rest → small_at (before 32 words) ≡ Some t → IsCallOf code rest c → IsStart code words (Some (Start t c.0 c.1))
is_start code words rest t c h ticket called =
    let n = small_back t (before 32 words) ticket in
    record {
      text = ap (λ w. codes "start " ++ w) (joined 32 words rest h ∙ ap₂ (λ x y. x ++ 32 ∷ y) (sym n.0) called.1.text);
      proper = (n.1, called.0, called.1.value);
    }

-- ---- any line
some_rest : (code : Deployment) (e : Entry) → after 32 (entry_text code e) ≡ None → ⊥
some_rest code (Start t f a) h = cc
some_rest code (Read id s) h = cc
some_rest code (Step id) h = cc
some_rest code (CommittedTx id) h = cc
some_rest code (AbortedTx id p k) h = cc

pub one_word : (code : Deployment) (line : List ℕ) → after 32 line ≡ None → IsEntryOf code line None
one_word code line h e l = some_rest code e (ap (after 32) (sym l.text) ∙ h)

pub starts_so : (code : Deployment) (e : Entry) → is_name (before 32 (entry_text code e)) (codes "start") ≡ true → (t : ℕ) × (f : ℕ) × (a : Value) × (e ≡ Start t f a)
starts_so code (Start t f a) h = (t, f, a, refl)
starts_so code (Read id s) h = cc
starts_so code (Step id) h = cc
starts_so code (CommittedTx id) h = cc
starts_so code (AbortedTx id p k) h = cc

pub start_line : (code : Deployment) (line words : List ℕ) (o : Option Entry) → is_name (before 32 line) (codes "start") ≡ true → after 32 line ≡ Some words → IsStart code words o → IsEntryOf code line o
start_line code line words o h more f = by_entry o f
  where
    whole : line ≡ codes "start " ++ words
    whole = joined 32 line words more ∙ ap (λ w. w ++ 32 ∷ words) (same_text (before 32 line) (codes "start") (sym h))

    by_entry : (o : Option Entry) → IsStart code words o → IsEntryOf code line o
    by_entry None f = λ e l.
        let s = starts_so code e (ap (λ w. is_name (before 32 w) (codes "start")) (sym l.text) ∙ h) in
        f s.0 s.1 s.2 (subst (λ w. IsLineOf code w (Start s.0 s.1 s.2)) whole (subst (λ (x : Entry). IsLineOf code line x) s.3 l))
    by_entry (Some e) f = subst (λ w. IsLineOf code w e) (sym whole) f

pub other_line : (code : Deployment) (line words : List ℕ) (o : Option Entry) → is_name (before 32 line) (codes "start") ≡ false → after 32 line ≡ Some words → o ≡ other_at (before 32 line) words → IsEntryOf code line o
other_line code line words None h more is = λ e l.
    let g = is ∙ other_read code e (before 32 line) words l.proper (ap (before 32) l.text) (ap (after 32) (sym l.text) ∙ more) h in cc
other_line code line words (Some e) h more is = subst (λ w. IsLineOf code w e) (sym (joined 32 line words more)) (other_back code (before 32 line) words e (sym is))

-- ---- what the code tells
pub ok_also : {A E : Type 0} (r : Result A E) (P Q : A → Type 0) → ((a : A) → P a → Q a) → IfOk r P → IfOk r Q
ok_also (Ok a) P Q f h = f a h
ok_also (Err e) P Q f h = tt

pub not_none : {A : Type 0} (r : Option (Bor A)) (o : Option A) → option_copied r ≡ o → is_some r ≡ true → o ≡ None → ⊥
not_none None o h is none = cc
not_none (Some b) o h is none = let g = h ∙ none in cc

pub is_none : {A : Type 0} (r : Option (Bor A)) (o : Option A) → option_copied r ≡ o → is_some r ≡ false → o ≡ None
is_none None o h is = sym h
is_none (Some b) o h is = cc
