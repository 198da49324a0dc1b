-- Tokens of bytes below 128, where nothing asks whether they are UTF-8.
use Rattle.std.proofs.Common.{arith, ◌≡◌, ℕ, zero, suc, ◌+◌, ◌-◌, ◌==◌, ◌||◌, ◌<◌, ◌++◌, Bool, true, false, List, [], ◌∷◌, length, take, Option, None, Some, refl, ap, ap₂}
use Rattle.std.specs.Prelude.{if◌then◌else◌, nat_lt}
use Rattle.std.specs.{List.list_all, List.slice_index, Str.is_utf8, Char.is_ascii_digit}
use Rattle.std.proofs.lemmas.Bool.{and_parts, ltb-true}
use Rattle.std.proofs.lemmas.Str.{IsUtf8-from_ascii, is_utf8-from_IsUtf8}
use Rattle.beldi_syntax.specs.{Deployments.deployment, Phrase.is_sign}
use Rattle.beldi_syntax.specs.Lexer.{begun, ends, is_bad, is_blank, is_script, lexemes, line_after, piece_len, put, sign_or_word, text_token_of, to_script, token_of, utf8_of}

-- what a function is of
abbrev Domain : {A B : Type 0} → (A → B) → Type 0
Domain {A = A} f = A

-- a token, and a list of tokens with their lines: types that the reader of deployments does not hand out
abbrev Token : Type 0
Token = Domain (is_sign [])

abbrev Tokens : Type 0
Tokens = Domain deployment

-- ASCII, as a test
abbrev pub low : List ℕ → Bool
low w = list_all (λ b. nat_lt b 128) w

low_ascii : (w : List ℕ) → low w ≡ true → (i : ℕ) → slice_index w i < 128
low_ascii [] h i = omega arith
low_ascii (b ∷ bs) h zero = let e = (and_parts (nat_lt b 128) (low bs) h).0 in omega (arith, ltb-true b 128 e)
low_ascii (b ∷ bs) h (suc i) = low_ascii bs (and_parts (nat_lt b 128) (low bs) h).1 i

pub low_utf8 : (w : List ℕ) → low w ≡ true → is_utf8 w ≡ true
low_utf8 w h = is_utf8-from_IsUtf8 w (IsUtf8-from_ascii w (low_ascii w h))

-- the bytes, where they are UTF-8: at once where they are ASCII
abbrev told : List ℕ → Option (List ℕ)
told w = if low w then Some w else utf8_of w

told_is : (w : List ℕ) → utf8_of w ≡ told w
told_is w = by_test (low w) refl
  where
    by_test : (b : Bool) → low w ≡ b → utf8_of w ≡ (if b then Some w else utf8_of w)
    by_test true e = ap (λ b. if b then Some w else None) (low_utf8 w e)
    by_test false e = refl

-- the token that the bytes are, the one that a piece is, all of them, and how many bytes there are up to `script`: by that test
abbrev begins_so : ℕ → List ℕ → Token
begins_so b w = if b == 34 then text_token_of w else if is_ascii_digit b then begun 48 w else sign_or_word b (told w)

begun_is : (b : ℕ) (w : List ℕ) → begun b w ≡ begins_so b w
begun_is b w = ap (λ u. if b == 34 then text_token_of w else if is_ascii_digit b then begun 48 w else sign_or_word b u) (told_is w)

abbrev token_so : List ℕ → Option Token
token_so [] = token_of []
token_so (b ∷ bs) = if is_blank b || b == 35 then None else Some (begins_so b (b ∷ bs))

token_is : (w : List ℕ) → token_of w ≡ token_so w
token_is [] = refl
token_is (b ∷ bs) = ap (λ t. if is_blank b || b == 35 then None else Some t) (begun_is b (b ∷ bs))

abbrev pub tokens : ℕ → ℕ → List ℕ → Tokens
tokens skip line [] = lexemes skip line []
tokens (suc k) line (b ∷ bs) = tokens k line bs
tokens zero line (b ∷ bs) =
    put (token_so (take (piece_len (b ∷ bs)) (b ∷ bs))) line
    ++ (if ends (token_so (take (piece_len (b ∷ bs)) (b ∷ bs))) then [] else tokens (piece_len (b ∷ bs) - 1) (line_after (b ∷ bs) line) bs)

pub tokens_are : (skip line : ℕ) (bs : List ℕ) → lexemes skip line bs ≡ tokens skip line bs
tokens_are skip line [] = refl
tokens_are (suc k) line (b ∷ bs) = tokens_are k line bs
tokens_are zero line (b ∷ bs) =
    ap₂ (λ t more. put t line ++ (if ends t then [] else more)) (token_is (take (piece_len (b ∷ bs)) (b ∷ bs))) (tokens_are (piece_len (b ∷ bs) - 1) (line_after (b ∷ bs) line) bs)

abbrev pub bytes_to_script : ℕ → List ℕ → ℕ
bytes_to_script skip [] = 0
bytes_to_script (suc k) (b ∷ bs) = bytes_to_script k bs + 1
bytes_to_script zero (b ∷ bs) =
    if is_bad (token_so (take (piece_len (b ∷ bs)) (b ∷ bs))) then length (b ∷ bs) else
    if is_script (token_so (take (piece_len (b ∷ bs)) (b ∷ bs))) then piece_len (b ∷ bs) else
    bytes_to_script (piece_len (b ∷ bs) - 1) bs + 1

pub bytes_are : (skip : ℕ) (bs : List ℕ) → to_script skip bs ≡ bytes_to_script skip bs
bytes_are skip [] = refl
bytes_are (suc k) (b ∷ bs) = ap (λ n. n + 1) (bytes_are k bs)
bytes_are zero (b ∷ bs) =
    ap₂ (λ t more. if is_bad t then length (b ∷ bs) else if is_script t then piece_len (b ∷ bs) else more + 1) (token_is (take (piece_len (b ∷ bs)) (b ∷ bs))) (bytes_are (piece_len (b ∷ bs) - 1) bs)
