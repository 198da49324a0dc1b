-- Tokens on bytes: names, numbers, texts and signs, the longest sign first. Blanks and comments stand between them.
use Rattle.std.specs.Prelude.{ℕ, zero, suc, ◌+◌, ◌-◌, ◌^◌, ◌==◌, nat_le, Bool, true, false, not, ◌&&◌, ◌||◌, List, [], ◌∷◌, ◌++◌, length, take, Option, Some, None, codes, if◌then◌else◌}
use Rattle.std.specs.{List.list_any, List.take_while, Str.is_utf8, Char.is_ascii_alphabetic, Char.is_ascii_alphanumeric, Char.is_ascii_digit}
use Rattle.serde_json.specs.Data as json
use Rattle.beldi_value.specs.{Number.number_at, ValueReading.json_at}
use Rattle.beldi_syntax.specs.{declared.token.Token.Token, declared.token.Token.TheVariants.Sign, declared.token.Token.TheVariants.Name, declared.token.Token.TheVariants.Number, declared.token.Token.TheVariants.Text, declared.token.Token.TheVariants.End, declared.token.Token.TheVariants.Bad, declared.token.Lexeme.Lexeme, declared.lexer.Kind.Kind, declared.lexer.Kind.TheVariants.Word, declared.lexer.Kind.TheVariants.Digit, declared.lexer.Kind.TheVariants.Comment, Phrase.same, Phrase.is_sign}

-- a space, a tab, a carriage return or a newline
abbrev pub is_blank : ℕ → Bool
is_blank b = ((b == 32 || b == 9) || b == 13) || b == 10

-- a byte that a word, a number or a comment may go on with
abbrev pub is_of : Kind → ℕ → Bool
is_of Word b = is_ascii_alphanumeric b || b == 95
is_of Digit b = is_ascii_digit b
is_of Comment b = not (b == 10)

-- == != <= >= ++
abbrev pub is_pair : ℕ → ℕ → Bool
is_pair b c = if c == 61 then ((b == 61 || b == 33) || b == 60) || b == 62 else b == 43 && c == 43

abbrev pub is_single : ℕ → Bool
is_single b = list_any (λ s. s == b) (codes ";,.:(){}[]=<>+-*/%")

-- the longest sign
abbrev pub sign_len : List ℕ → ℕ
sign_len [] = 0
sign_len (b ∷ []) = if is_single b then 1 else 0
sign_len (b ∷ c ∷ bs) = if is_pair b c then 2 else if is_single b then 1 else 0

-- a quote that no backslash takes
abbrev pub closes : Bool → ℕ → Bool
closes escaped b = not escaped && b == 34

-- a backslash that takes the next byte
abbrev pub escapes : Bool → ℕ → Bool
escapes escaped b = not escaped && b == 92

-- the bytes of a text up to its closing quote, after n of them. 0: none closes it
abbrev pub text_len : Bool → ℕ → List ℕ → ℕ
text_len escaped n [] = 0
text_len escaped n (b ∷ bs) = if closes escaped b then n + 1 else text_len (escapes escaped b) (n + 1) bs

-- the bytes of the blank, the comment or the token at the front. 0: none begins there
abbrev pub piece_len : List ℕ → ℕ
piece_len [] = 0
piece_len (b ∷ bs) =
    if is_blank b then 1 else
    if b == 35 then length (take_while (is_of Comment) (b ∷ bs)) else
    if is_ascii_alphabetic b then length (take_while (is_of Word) (b ∷ bs)) else
    if is_ascii_digit b then length (take_while (is_of Digit) (b ∷ bs)) else
    if b == 34 then text_len false 1 bs else sign_len (b ∷ bs)

-- words that are no names
abbrev pub reserved : List (List ℕ)
reserved =
    codes "life" ∷ codes "room" ∷ codes "function" ∷ codes "script" ∷ codes "table" ∷ codes "set" ∷ codes "read"
    ∷ codes "write" ∷ codes "condwrite" ∷ codes "then" ∷ codes "call" ∷ codes "async" ∷ codes "lock" ∷ codes "unlock"
    ∷ codes "transaction" ∷ codes "aborted" ∷ codes "abort" ∷ codes "break" ∷ codes "if" ∷ codes "else"
    ∷ codes "repeat" ∷ codes "return" ∷ codes "or" ∷ codes "and" ∷ codes "not" ∷ codes "true" ∷ codes "false"
    ∷ codes "null" ∷ codes "len" ∷ codes "text" ∷ codes "push" ∷ codes "with" ∷ []

abbrev pub is_reserved : List ℕ → Bool
is_reserved w = list_any (λ r. same r w) reserved

-- a word of more than 32 bytes is no token
abbrev pub word_of : List ℕ → Token
word_of w = if nat_le (length w) 32 then (if is_reserved w then Sign w else Name w) else Bad

abbrev pub string_in : Option json.Data → Option (List ℕ)
string_in None = None
string_in (Some json.null) = None
string_in (Some (json.boolean b)) = None
string_in (Some (json.number n)) = None
string_in (Some (json.string s)) = Some s
string_in (Some (json.array xs)) = None
string_in (Some (json.object ms)) = None

-- what `serde_json` reads of a text
abbrev pub string_at : List ℕ → Option (List ℕ)
string_at w = string_in (json_at w)

abbrev pub text_or_bad : List ℕ → Option (List ℕ) → Token
text_or_bad w None = Bad
text_or_bad w (Some s) = Text (if nat_le (length w) 4096 then Some s else None)

-- a text that is no JSON is no token; one that is written in more than 4,096 bytes has no value
abbrev pub text_token_of : List ℕ → Token
text_token_of w = text_or_bad w (string_at w)

-- the bytes, where they are UTF-8
abbrev pub utf8_of : List ℕ → Option (List ℕ)
utf8_of w = if is_utf8 w then Some w else None

-- a word, where it begins with a letter, or a sign
abbrev pub sign_or_word : ℕ → Option (List ℕ) → Token
sign_or_word b None = Bad
sign_or_word b (Some w) = if is_ascii_alphabetic b then word_of w else Sign w

-- the token that the bytes are, by their first one
abbrev pub begun : ℕ → List ℕ → Token
begun b w =
    if b == 34 then text_token_of w else
    if is_ascii_digit b then Number (number_at (2 ^ 63 - 1) w) else
    sign_or_word b (utf8_of w)

-- the token that a piece is; none where it is a blank or a comment
abbrev pub token_of : List ℕ → Option Token
token_of [] = Some Bad
token_of (b ∷ bs) = if is_blank b || b == 35 then None else Some (begun b (b ∷ bs))

-- bytes that begin no token
abbrev pub is_bad : Option Token → Bool
is_bad None = false
is_bad (Some (Sign w)) = false
is_bad (Some (Name w)) = false
is_bad (Some (Number n)) = false
is_bad (Some (Text s)) = false
is_bad (Some End) = false
is_bad (Some Bad) = true

abbrev pub is_script : Option Token → Bool
is_script None = false
is_script (Some t) = is_sign (codes "script") t

-- whether a piece ends the tokens
abbrev pub ends : Option Token → Bool
ends t = is_bad t || is_script t

abbrev pub put : Option Token → ℕ → List Lexeme
put None line = []
put (Some t) line = record { token = t; line = line } ∷ []

-- the line of what follows the first byte, which stands in this line; a final newline opens no line
abbrev pub line_after : List ℕ → ℕ → ℕ
line_after [] line = line
line_after (b ∷ []) line = line
line_after (b ∷ c ∷ bs) line = if b == 10 then line + 1 else line

-- the tokens, each with its line; the first bytes, so many, belong to the piece before. The last token is `script`, the
-- end, or bytes that begin no token
abbrev pub lexemes : ℕ → ℕ → List ℕ → List Lexeme
lexemes skip line [] = record { token = End; line = line } ∷ []
lexemes (suc k) line (b ∷ bs) = lexemes k line bs
lexemes zero line (b ∷ bs) =
    put (token_of (take (piece_len (b ∷ bs)) (b ∷ bs))) line
    ++ (if ends (token_of (take (piece_len (b ∷ bs)) (b ∷ bs))) then [] else lexemes (piece_len (b ∷ bs) - 1) (line_after (b ∷ bs) line) bs)

-- how many bytes there are up to the end of the first token `script`; all where there is none, or where bytes that begin
-- no token come before it. The first bytes, so many, belong to the piece before
abbrev pub to_script : ℕ → List ℕ → ℕ
to_script skip [] = 0
to_script (suc k) (b ∷ bs) = to_script k bs + 1
to_script zero (b ∷ bs) =
    if is_bad (token_of (take (piece_len (b ∷ bs)) (b ∷ bs))) then length (b ∷ bs) else
    if is_script (token_of (take (piece_len (b ∷ bs)) (b ∷ bs))) then piece_len (b ∷ bs) else
    to_script (piece_len (b ∷ bs) - 1) bs + 1
