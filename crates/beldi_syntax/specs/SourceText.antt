-- What a text holds, by the grammar, and why one is refused.
use Rattle.std.specs.Prelude.{◌≡◌, ◌↔◌, ℕ, ◌+◌, ◌-◌, ◌^◌, ◌≤◌, ◌<◌, min, true, false, List, [], ◌∷◌, ◌++◌, length, take as front, drop, Ok, Err}
use Rattle.std.specs.{List.list_all, Str.is_utf8, Str.Lossy.utf8_valid_len}
use Rattle.beldi_tree.specs.declared.deployment.Deployment.{Deployment}
use Rattle.beldi_syntax.specs.{declared.reading.Parsed.Parsed, declared.refusal.What.What, declared.refusal.What.TheVariants.Utf8, declared.refusal.What.TheVariants.Syntax, declared.refusal.What.TheVariants.TooLarge, declared.refusal.SyntaxErr.TheVariants.Refused, Lexer.lexemes, Lexer.to_script, Deployments.is_space, Deployments.line_past, Deployments.parsed_at, Grammar.unbroken, Grammar.IsCode, Grammar.Wrong}

-- the deployment's own bytes, and those after them
abbrev pub own : List ℕ → List ℕ
own bytes = front (to_script 0 bytes) bytes

abbrev pub others : List ℕ → List ℕ
others bytes = drop (to_script 0 bytes) bytes

-- what stands after the word `script`: blanks up to the end of the text or of the line, and then the script. How many lines end
-- before it
pub data BlankRest : List ℕ → List ℕ → ℕ → Type 0 where
  no_script : (blanks : List ℕ) → list_all is_space blanks ≡ true → BlankRest blanks [] 0
  next_line : (blanks script : List ℕ) → list_all is_space blanks ≡ true → BlankRest (blanks ++ 10 ∷ script) script 1

-- these bytes are this deployment
pub record IsDeployment (text : List ℕ) (code : Deployment) : Type 0 where
  pub utf8 : is_utf8 text ≡ true
  pub small : length text ≤ 65536
  pub is : IsCode (unbroken (lexemes 0 1 text)) code

-- a text holds a deployment, and then a script
pub record Holds (bytes : List ℕ) (p : Parsed) : Type 0 where
  pub script : List ℕ
  pub lines : ℕ
  pub code : IsDeployment (own bytes) p.code
  pub blank : BlankRest (others bytes) script lines
  pub rest : p.rest ≡ length bytes - length script
  pub line : p.line ≡ min (line_past (own bytes) + lines) (2 ^ 32 - 1)

-- why a text is refused, and in which line: its deployment is no UTF-8, or too long, or has a wrong token, or the line of
-- `script` goes on
pub data Refuses (bytes : List ℕ) : ℕ → What → Type 0 where
  not_utf8 : is_utf8 (own bytes) ≡ false → Refuses bytes (line_past (front (utf8_valid_len (own bytes)) (own bytes))) Utf8
  too_long : is_utf8 (own bytes) ≡ true → 65536 < length (own bytes) → Refuses bytes (line_past (front 65536 (own bytes))) TooLarge
  wrong_token : (line : ℕ) (what : What) → is_utf8 (own bytes) ≡ true → length (own bytes) ≤ 65536 → Wrong (lexemes 0 1 (own bytes)) line what → Refuses bytes line what
  not_blank : (code : Deployment) → IsDeployment (own bytes) code → ((script : List ℕ) (lines : ℕ) → BlankRest (others bytes) script lines → ⊥) → Refuses bytes (line_past (own bytes)) Syntax

-- ---- the laws

-- what is read: what a text holds, and nothing else
abbrev pub ReadsGrammar : Type 0
ReadsGrammar = (bytes : List ℕ) (p : Parsed) → (parsed_at bytes ≡ Ok p) ↔ Holds bytes p

-- what is refused: the first cause is told, and its line
abbrev pub RefusesFirst : Type 0
RefusesFirst = (bytes : List ℕ) (line : ℕ) (what : What) → (parsed_at bytes ≡ Err (Refused line what)) ↔ Refuses bytes line what
