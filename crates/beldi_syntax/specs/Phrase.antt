-- Phrases: what is read off the front of the tokens.
use Rattle.std.specs.Prelude.{◌≡◌, ℕ, zero, suc, ◌-◌, ◌^◌, nat_le, Bool, true, false, not, ◌&&◌, List, [], ◌∷◌, Option, Some, None, Result, Ok, Err, if◌then◌else◌}
use Rattle.std.specs.Bool.{◌==◌}
use lib.Pointwise.{pointwise}
use Rattle.beldi_syntax.specs.declared.{refusal.SyntaxErr.SyntaxErr, refusal.SyntaxErr.TheVariants.OutOfMemory, refusal.SyntaxErr.TheVariants.Refused, refusal.What.What, refusal.What.TheVariants.Syntax, refusal.What.TheVariants.Number as OfNumber, refusal.What.TheVariants.TooLarge, token.Lexeme.Lexeme, token.Token.Token, token.Token.TheVariants.Sign, token.Token.TheVariants.Name, token.Token.TheVariants.Number, token.Token.TheVariants.Text, token.Token.TheVariants.End, token.Token.TheVariants.Bad}

-- what is read, and the tokens that follow it; or the line and the cause of a refusal
pub data Read (A : Type 0) : Type 0 where
  got : A → List Lexeme → Read A
  bad : ℕ → What → Read A

abbrev pub after : {A B : Type 0} → Read A → (A → List Lexeme → Read B) → Read B
after (got x s) f = f x s
after (bad line what) f = bad line what

-- one phrase after another
infixl 10 ◌>>=◌
abbrev pub ◌>>=◌ : {A B : Type 0} → (List Lexeme → Read A) → (A → List Lexeme → Read B) → List Lexeme → Read B
(p >>= f) s = after (p s) f

abbrev pub give : {A : Type 0} → A → List Lexeme → Read A
give x s = got x s

-- a phrase that goes on from what it read so far, where it has something to go on with
abbrev pub go_on : {A : Type 0} → (A → List Lexeme → Read A) → Option (Read A) → A → List Lexeme → Read A
go_on more None x s = got x s
go_on more (Some r) x s = after r more

-- as long as there is something to go on with, n times at most
abbrev pub repeated : {A : Type 0} → ℕ → (A → List Lexeme → Option (Read A)) → A → List Lexeme → Read A
repeated zero step x s = got x s
repeated (suc n) step x s = go_on (repeated n step) (step x s) x s

abbrev pub same : List ℕ → List ℕ → Bool
same a b = pointwise ◌==◌ a b

abbrev pub is_sign : List ℕ → Token → Bool
is_sign w (Sign v) = same v w
is_sign w (Name v) = false
is_sign w (Number n) = false
is_sign w (Text v) = false
is_sign w End = false
is_sign w Bad = false

-- whether the next token is this sign
abbrev pub next_is : List ℕ → List Lexeme → Bool
next_is w [] = false
next_is w (t ∷ ts) = is_sign w t.token

abbrev pub name_token : Token → Bool
name_token (Sign v) = false
name_token (Name v) = true
name_token (Number n) = false
name_token (Text v) = false
name_token End = false
name_token Bad = false

abbrev pub is_name : List Lexeme → Bool
is_name [] = false
is_name (t ∷ ts) = name_token t.token

abbrev pub text_token : Token → Bool
text_token (Sign v) = false
text_token (Name v) = false
text_token (Number n) = false
text_token (Text v) = true
text_token End = false
text_token Bad = false

abbrev pub is_text : List Lexeme → Bool
is_text [] = false
is_text (t ∷ ts) = text_token t.token

abbrev pub number_token : Token → Bool
number_token (Sign v) = false
number_token (Name v) = false
number_token (Number n) = true
number_token (Text v) = false
number_token End = false
number_token Bad = false

abbrev pub is_number : List Lexeme → Bool
is_number [] = false
is_number (t ∷ ts) = number_token t.token

abbrev pub past_token : Token → Bool
past_token (Sign v) = false
past_token (Name v) = false
past_token (Number None) = true
past_token (Number (Some n)) = not (nat_le n (2 ^ 63 - 1))
past_token (Text v) = false
past_token End = false
past_token Bad = false

-- a number that is too large for any place
abbrev pub is_past_numbers : List Lexeme → Bool
is_past_numbers [] = false
is_past_numbers (t ∷ ts) = past_token t.token

abbrev pub end_token : Token → Bool
end_token (Sign v) = false
end_token (Name v) = false
end_token (Number n) = false
end_token (Text v) = false
end_token End = true
end_token Bad = false

-- the end of the text
abbrev pub is_end : List Lexeme → Bool
is_end [] = false
is_end (t ∷ ts) = end_token t.token

abbrev pub line_of : List Lexeme → ℕ
line_of [] = 0
line_of (t ∷ ts) = t.line

abbrev pub after_first : List Lexeme → List Lexeme
after_first [] = []
after_first (t ∷ ts) = ts

-- how many of the first tokens are this sign
abbrev pub count_of : List ℕ → List Lexeme → ℕ
count_of w [] = zero
count_of w (t ∷ ts) = if is_sign w t.token then suc (count_of w ts) else zero

abbrev pub times : {A : Type 0} → ℕ → (A → A) → A → A
times zero f x = x
times (suc n) f x = f (times n f x)

-- the next token is refused
abbrev pub refuse : {A : Type 0} → What → List Lexeme → Read A
refuse what s = bad (line_of s) what

-- this sign
abbrev pub take : List ℕ → List Lexeme → Read (Unit {0})
take w s = if next_is w s then got tt (after_first s) else refuse Syntax s

abbrev pub name_of : Token → List Lexeme → List Lexeme → Read (List ℕ)
name_of (Sign v) s ts = refuse Syntax s
name_of (Name v) s ts = got v ts
name_of (Number n) s ts = refuse Syntax s
name_of (Text v) s ts = refuse Syntax s
name_of End s ts = refuse Syntax s
name_of Bad s ts = refuse Syntax s

-- a name
abbrev pub name : List Lexeme → Read (List ℕ)
name [] = bad 0 Syntax
name (t ∷ ts) = name_of t.token (t ∷ ts) ts

abbrev pub text_or : Option (List ℕ) → List Lexeme → List Lexeme → Read (List ℕ)
text_or None s ts = refuse TooLarge s
text_or (Some v) s ts = got v ts

abbrev pub text_of : Token → List Lexeme → List Lexeme → Read (List ℕ)
text_of (Sign v) s ts = refuse Syntax s
text_of (Name v) s ts = refuse Syntax s
text_of (Number n) s ts = refuse Syntax s
text_of (Text v) s ts = text_or v s ts
text_of End s ts = refuse Syntax s
text_of Bad s ts = refuse Syntax s

-- a text
abbrev pub text : List Lexeme → Read (List ℕ)
text [] = bad 0 Syntax
text (t ∷ ts) = text_of t.token (t ∷ ts) ts

abbrev pub number_or : ℕ → ℕ → Option ℕ → List Lexeme → List Lexeme → Read ℕ
number_or least most None s ts = refuse OfNumber s
number_or least most (Some n) s ts = if nat_le least n && nat_le n most then got n ts else refuse OfNumber s

abbrev pub number_of : ℕ → ℕ → Token → List Lexeme → List Lexeme → Read ℕ
number_of least most (Sign v) s ts = refuse Syntax s
number_of least most (Name v) s ts = refuse Syntax s
number_of least most (Number n) s ts = number_or least most n s ts
number_of least most (Text v) s ts = refuse Syntax s
number_of least most End s ts = refuse Syntax s
number_of least most Bad s ts = refuse Syntax s

-- a number within these limits
abbrev pub number : ℕ → ℕ → List Lexeme → Read ℕ
number least most [] = bad 0 Syntax
number least most (t ∷ ts) = number_of least most t.token (t ∷ ts) ts

-- the same, where what is read stands for a part
abbrev pub ReadsAs : {A B : Type 0} → (B → A) → Read A → Result B SyntaxErr → List Lexeme → Type 0
ReadsAs f r (Ok x) s = r ≡ got (f x) s
ReadsAs f r (Err OutOfMemory) s = Unit {0}
ReadsAs f r (Err (Refused line what)) s = r ≡ bad line what

-- read as this, and refused exactly where that is refused
abbrev pub Reads : {A : Type 0} → Read A → Result A SyntaxErr → List Lexeme → Type 0
Reads r (Ok x) s = r ≡ got x s
Reads r (Err OutOfMemory) s = Unit {0}
Reads r (Err (Refused line what)) s = r ≡ bad line what
