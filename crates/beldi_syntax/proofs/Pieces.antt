-- Pieces one after another.
use Rattle.std.specs.Prelude.{◌||◌, Result, Ok, Err}
use Rattle.beldi_syntax.proofs.Names.{AllocError, Bool, Comment, Digit, IfOk, IsUtf8, IsUtf8-from_is_utf8, Lexeme, List, None, Option, Some, SomeIff, Token, Word, [], ap, append_assoc, arith, closes, drop, ends, escapes, false, if◌then◌else◌, is_ascii_alphabetic, is_ascii_digit, is_bad, is_blank, is_of, is_pair, is_script, is_single, is_utf8, is_utf8-from_IsUtf8, length, length-drop, length-prefix_len, lexemes, line_after, line_past, piece_len, prefix_len-le-length, put, refl, sign_len, suc, sym, take, take_while, text_len, to_script, token_of, true, utf8_fault, utf8_of, utf8_valid_len, zero, ℕ, ◌++◌, ◌+◌, ◌-◌, ◌<◌, ◌==◌, ◌∙◌, ◌∷◌, ◌≡◌, ◌≤◌}

skipped : (k line : ℕ) (bs : List ℕ) → lexemes k line bs ≡ lexemes 0 line (drop k bs)
skipped zero line bs = refl
skipped (suc k) line [] = refl
skipped (suc k) line (b ∷ bs) = skipped k line bs

either_fits : (t : Bool) (m n k : ℕ) → m ≤ k → n ≤ k → (if t then m else n) ≤ k
either_fits true m n k h e = h
either_fits false m n k h e = e

text_fits : (escaped : Bool) (n : ℕ) (bs : List ℕ) → text_len escaped n bs ≤ n + length bs
text_fits escaped n [] = omega arith
text_fits escaped n (b ∷ bs) = let more = text_fits (escapes escaped b) (n + 1) bs in either_fits (closes escaped b) (n + 1) (text_len (escapes escaped b) (n + 1) bs) (n + length (b ∷ bs)) (omega arith) (omega (arith, more))

sign_fits : (bs : List ℕ) → sign_len bs ≤ length bs
sign_fits [] = omega arith
sign_fits (b ∷ []) = either_fits (is_single b) 1 0 1 (omega arith) (omega arith)
sign_fits (b ∷ c ∷ bs) = either_fits (is_pair b c) 2 (if is_single b then 1 else 0) (length (b ∷ c ∷ bs)) (omega arith) (either_fits (is_single b) 1 0 (length (b ∷ c ∷ bs)) (omega arith) (omega arith))

front_fits : (p : ℕ → Bool) (bs : List ℕ) → length (take_while p bs) ≤ length bs
front_fits p bs = omega (arith, length-prefix_len p bs, prefix_len-le-length p bs)

pub piece_fits : (bs : List ℕ) → piece_len bs ≤ length bs
piece_fits [] = omega arith
piece_fits (b ∷ bs) =
    either_fits (is_blank b) 1 _ (length (b ∷ bs)) (omega arith)
    (either_fits (b == 35) _ _ (length (b ∷ bs)) (front_fits (is_of Comment) (b ∷ bs))
    (either_fits (is_ascii_alphabetic b) _ _ (length (b ∷ bs)) (front_fits (is_of Word) (b ∷ bs))
    (either_fits (is_ascii_digit b) _ _ (length (b ∷ bs)) (front_fits (is_of Digit) (b ∷ bs))
    (either_fits (b == 34) _ _ (length (b ∷ bs)) (omega (arith, text_fits false 1 bs)) (sign_fits (b ∷ bs))))))

-- a piece that does not end the tokens has bytes
some_bytes : (n : ℕ) (bs : List ℕ) → ends (token_of (take n bs)) ≡ false → 0 < n
some_bytes zero bs h = cc
some_bytes (suc n) bs h = omega arith

after_piece : (n line : ℕ) (b : ℕ) (bs : List ℕ) → 0 < n → lexemes (n - 1) line bs ≡ lexemes 0 line (drop n (b ∷ bs))
after_piece n line b bs h = skipped (n - 1) line bs ∙ ap (λ k. lexemes 0 line (drop k (b ∷ bs))) (let e : suc (n - 1) ≡ n = omega arith in e)

one_piece : (line : ℕ) (bs : List ℕ) → 0 < length bs → ends (token_of (take (piece_len bs) bs)) ≡ false
    → lexemes 0 line bs ≡ put (token_of (take (piece_len bs) bs)) line ++ lexemes 0 (line_after bs line) (drop (piece_len bs) bs)
one_piece line [] h e = absurd (omega arith)
one_piece line (b ∷ bs) h e =
    ap (λ t. put (token_of (take (piece_len (b ∷ bs)) (b ∷ bs))) line ++ (if t then [] else lexemes (piece_len (b ∷ bs) - 1) (line_after (b ∷ bs) line) bs)) e
    ∙ ap (λ s. put (token_of (take (piece_len (b ∷ bs)) (b ∷ bs))) line ++ s) (after_piece (piece_len (b ∷ bs)) (line_after (b ∷ bs) line) b bs (some_bytes (piece_len (b ∷ bs)) (b ∷ bs) e))

-- a piece that does not end the tokens, and what follows it
pub goes_past : (done new : List Lexeme) (line next n : ℕ) (bs piece rest : List ℕ) (whole : List Lexeme)
    → 0 < length bs → n ≡ piece_len bs → piece ≡ take n bs → rest ≡ drop n bs → next ≡ line_after bs line → new ≡ done ++ put (token_of piece) line → ends (token_of piece) ≡ false
    → done ++ lexemes 0 line bs ≡ whole → new ++ lexemes 0 next rest ≡ whole
goes_past done new line next n bs piece rest whole h k p r l m e f =
    let cut : piece ≡ take (piece_len bs) bs = p ∙ ap (λ i. take i bs) k in
    let left : rest ≡ drop (piece_len bs) bs = r ∙ ap (λ i. drop i bs) k in
    ap (λ ts. ts ++ lexemes 0 next rest) (m ∙ ap (λ q. done ++ put (token_of q) line) cut)
    ∙ append_assoc done (put (token_of (take (piece_len bs) bs)) line) (lexemes 0 next rest)
    ∙ ap (λ v. done ++ (put (token_of (take (piece_len bs) bs)) line ++ v)) (ap (λ i. lexemes 0 i rest) l ∙ ap (λ q. lexemes 0 (line_after bs line) q) left)
    ∙ ap (λ v. done ++ v) (sym (one_piece line bs h (ap (λ q. ends (token_of q)) (sym cut) ∙ e)))
    ∙ f

last_piece : (line : ℕ) (bs : List ℕ) → 0 < length bs → ends (token_of (take (piece_len bs) bs)) ≡ true → lexemes 0 line bs ≡ put (token_of (take (piece_len bs) bs)) line ++ []
last_piece line [] h e = absurd (omega arith)
last_piece line (b ∷ bs) h e = ap (λ t. put (token_of (take (piece_len (b ∷ bs)) (b ∷ bs))) line ++ (if t then [] else lexemes (piece_len (b ∷ bs) - 1) (line_after (b ∷ bs) line) bs)) e

append_nil : (ts : List Lexeme) → ts ++ [] ≡ ts
append_nil [] = refl
append_nil (t ∷ ts) = ap (λ us. t ∷ us) (append_nil ts)

-- a piece that ends the tokens
pub stops_at : (done new : List Lexeme) (line n : ℕ) (bs piece : List ℕ) (whole : List Lexeme)
    → 0 < length bs → n ≡ piece_len bs → piece ≡ take n bs → new ≡ done ++ put (token_of piece) line → ends (token_of piece) ≡ true
    → done ++ lexemes 0 line bs ≡ whole → new ≡ whole
stops_at done new line n bs piece whole h k p m e f =
    let cut : piece ≡ take (piece_len bs) bs = p ∙ ap (λ i. take i bs) k in
    m ∙ ap (λ q. done ++ put (token_of q) line) cut
    ∙ ap (λ v. done ++ v) (sym (append_nil (put (token_of (take (piece_len bs) bs)) line)) ∙ sym (last_piece line bs h (ap (λ q. ends (token_of q)) (sym cut) ∙ e)))
    ∙ f

-- such a piece takes bytes
pub gets_shorter : (n : ℕ) (bs piece rest : List ℕ) → n ≡ piece_len bs → piece ≡ take n bs → rest ≡ drop n bs → ends (token_of piece) ≡ false → length rest + n ≡ length bs × (0 < n)
gets_shorter n bs piece rest k p r e =
    let some : 0 < n = some_bytes n bs (ap (λ q. ends (token_of q)) (sym p) ∙ e) in
    let fits : piece_len bs ≤ length bs = piece_fits bs in
    (omega (arith, ap length r, length-drop n bs), some)

pub next_line : (bs : List ℕ) (line : ℕ) → line_after bs line ≤ line + 1
next_line [] line = omega arith
next_line (b ∷ []) line = omega arith
next_line (b ∷ c ∷ bs) line = either_fits (b == 10) (line + 1) line (line + 1) (omega arith) (omega arith)

-- ---- up to the script

pub neither : (t : Option Token) → is_bad t ≡ false → is_script t ≡ false → ends t ≡ false
neither t h k = ap (λ b. b || is_script t) h ∙ k

script_skipped : (k : ℕ) (bs : List ℕ) → k ≤ length bs → to_script k bs ≡ to_script 0 (drop k bs) + k
script_skipped zero bs h = omega arith
script_skipped (suc k) [] h = absurd (omega arith)
script_skipped (suc k) (b ∷ bs) h = let more : to_script k bs ≡ to_script 0 (drop k bs) + k = script_skipped k bs (omega arith) in omega (arith, more)

to_script_of : (b : ℕ) (bs : List ℕ) (bad script : Bool) → is_bad (token_of (take (piece_len (b ∷ bs)) (b ∷ bs))) ≡ bad → is_script (token_of (take (piece_len (b ∷ bs)) (b ∷ bs))) ≡ script
    → to_script 0 (b ∷ bs) ≡ (if bad then length (b ∷ bs) else if script then piece_len (b ∷ bs) else to_script (piece_len (b ∷ bs) - 1) bs + 1)
to_script_of b bs bad script h k =
    ap (λ t. if t then length (b ∷ bs) else if is_script (token_of (take (piece_len (b ∷ bs)) (b ∷ bs))) then piece_len (b ∷ bs) else to_script (piece_len (b ∷ bs) - 1) bs + 1) h
    ∙ ap (λ t. if bad then length (b ∷ bs) else if t then piece_len (b ∷ bs) else to_script (piece_len (b ∷ bs) - 1) bs + 1) k

past_of : (n b : ℕ) (bs rest : List ℕ) (bad script : Bool) → n ≡ piece_len (b ∷ bs) → rest ≡ drop n (b ∷ bs) → (bad ≡ false → script ≡ false → 0 < n)
    → (if bad then length (b ∷ bs) else if script then piece_len (b ∷ bs) else to_script (piece_len (b ∷ bs) - 1) bs + 1) ≡ (if bad then length (b ∷ bs) else if script then n else to_script 0 rest + n)
past_of n b bs rest true script k r h = refl
past_of n b bs rest false true k r h = sym k
past_of n b bs rest false false k r h =
    let some : 0 < n = h refl refl in
    let fits : piece_len (b ∷ bs) ≤ length (b ∷ bs) = piece_fits (b ∷ bs) in
    let skip : to_script (n - 1) bs ≡ to_script 0 (drop (n - 1) bs) + (n - 1) = script_skipped (n - 1) bs (omega arith) in
    let left : to_script 0 (drop (n - 1) bs) ≡ to_script 0 rest = ap (λ i. to_script 0 (drop i (b ∷ bs))) (let e : suc (n - 1) ≡ n = omega arith in e) ∙ ap (to_script 0) (sym r) in
    ap (λ i. to_script (i - 1) bs + 1) (sym k) ∙ omega (arith, skip, left)

-- what a piece says of the way to the script
pub script_past : (n : ℕ) (bs piece rest : List ℕ) (bad script : Bool) → 0 < length bs → n ≡ piece_len bs → piece ≡ take n bs → rest ≡ drop n bs → is_bad (token_of piece) ≡ bad → is_script (token_of piece) ≡ script
    → to_script 0 bs ≡ (if bad then length bs else if script then n else to_script 0 rest + n)
script_past n [] piece rest bad script h k p r e f = absurd (omega arith)
script_past n (b ∷ bs) piece rest bad script h k p r e f =
    let cut : piece ≡ take (piece_len (b ∷ bs)) (b ∷ bs) = p ∙ ap (λ i. take i (b ∷ bs)) k in
    to_script_of b bs bad script (ap (λ q. is_bad (token_of q)) (sym cut) ∙ e) (ap (λ q. is_script (token_of q)) (sym cut) ∙ f)
    ∙ past_of n b bs rest bad script k r (λ g d. some_bytes n (b ∷ bs) (ap (λ q. ends (token_of q)) (sym p) ∙ neither (token_of piece) (e ∙ g) (f ∙ d)))

pub script_fits : (k : ℕ) (bs : List ℕ) → to_script k bs ≤ length bs
script_fits k [] = omega arith
script_fits (suc k) (b ∷ bs) = let more : to_script k bs ≤ length bs = script_fits k bs in omega (arith, more)
script_fits zero (b ∷ bs) =
    let more : to_script (piece_len (b ∷ bs) - 1) bs ≤ length bs = script_fits (piece_len (b ∷ bs) - 1) bs in
    either_fits (is_bad (token_of (take (piece_len (b ∷ bs)) (b ∷ bs)))) (length (b ∷ bs)) _ (length (b ∷ bs)) (omega arith)
    (either_fits (is_script (token_of (take (piece_len (b ∷ bs)) (b ∷ bs)))) (piece_len (b ∷ bs)) (to_script (piece_len (b ∷ bs) - 1) bs + 1) (length (b ∷ bs)) (piece_fits (b ∷ bs)) (omega (arith, more)))

-- ---- UTF-8

pub no_fault : (bs : List ℕ) → IsUtf8 bs → None ≡ utf8_fault bs
no_fault bs h = sym (ap (λ b. if b then None else Some (line_past (take (utf8_valid_len bs) bs))) (is_utf8-from_IsUtf8 bs h))

no_utf8 : (bs : List ℕ) → (IsUtf8 bs → ⊥) → is_utf8 bs ≡ false
no_utf8 bs h = elim (is_utf8 bs) as (λ b. is_utf8 bs ≡ b → b ≡ false) [
  | true ↦ λ e. absurd (h (IsUtf8-from_is_utf8 bs e))
  | false ↦ λ e. refl
] refl

pub a_fault : (bs valid : List ℕ) (n line : ℕ) → (IsUtf8 bs → ⊥) → n ≡ utf8_valid_len bs → valid ≡ take n bs → line ≡ line_past valid → Some line ≡ utf8_fault bs
a_fault bs valid n line h k p e =
    ap Some (e ∙ ap line_past (p ∙ ap (λ i. take i bs) k))
    ∙ sym (ap (λ b. if b then None else Some (line_past (take (utf8_valid_len bs) bs))) (no_utf8 bs h))

utf8_told : (bs : List ℕ) (o : Option (List ℕ)) → SomeIff o (IsUtf8 bs) bs → o ≡ utf8_of bs
utf8_told bs None h = elim (is_utf8 bs) as (λ b. is_utf8 bs ≡ b → None ≡ (if b then Some bs else None)) [
  | true ↦ λ e. absurd (h (IsUtf8-from_is_utf8 bs e))
  | false ↦ λ e. refl
] refl
utf8_told bs (Some w) h = ap Some h.1 ∙ sym (ap (λ b. if b then Some bs else None) (is_utf8-from_IsUtf8 bs h.0))

pub utf8_is_told : (bs : List ℕ) (r : Result (Option (List ℕ)) AllocError) → IfOk r (λ t. SomeIff t (IsUtf8 bs) bs) → IfOk r (λ t. t ≡ utf8_of bs)
utf8_is_told bs (Ok o) h = utf8_told bs o h
utf8_is_told bs (Err e) h = tt
