-- The grammar of deployments, and what a text is read as.
--   deployment = "life" INT ";" [ "room" INT ";" ] { function } [ "script" ]
--   function = "function" NAME "(" NAME ")" "{" { "table" NAME ";" } { stmt } "}"
use Rattle.std.specs.Prelude.{◌≡◌, ℕ, ◌+◌, ◌-◌, ◌^◌, ◌==◌, nat_le, min, Bool, ◌||◌, List, [], ◌∷◌, ◌++◌, length, take as front, drop, count_by, Option, Some, None, Result, Ok, Err, codes, if◌then◌else◌}
use Rattle.std.specs.{List.take_while, Str.is_utf8, Str.Lossy.utf8_valid_len}
use Rattle.beldi_tree.specs.{StatementCommand.Command, declared.deployment.Deployment.Deployment, declared.deployment.Func.Func, declared.deployment.TableHead.TableHead}
use Rattle.beldi_syntax.specs.Phrase.{Read, got, bad, ◌>>=◌, give, repeated, is_end, next_is, line_of, after_first, refuse, take, name, number}
use Rattle.beldi_syntax.specs.{declared.refusal.SyntaxErr.SyntaxErr, declared.refusal.SyntaxErr.TheVariants.OutOfMemory, declared.refusal.SyntaxErr.TheVariants.Refused, declared.refusal.What.What, declared.refusal.What.TheVariants.Utf8, declared.refusal.What.TheVariants.Syntax, declared.refusal.What.TheVariants.TooLarge, declared.token.Lexeme.Lexeme, declared.reading.Parsed.Parsed, Expressions.expr_at, Statements.block_at, Statements.stmts, Lexer.lexemes, Lexer.to_script}

-- a table after the word `table`, which stands in this line
abbrev pub table_of : ℕ → List Lexeme → Read TableHead
table_of line = do
  n ← name
  _ ← take (codes ";")
  give (record { name = n; line = line })

abbrev pub next_table : List TableHead → List Lexeme → Option (Read (List TableHead))
next_table ts s = if next_is (codes "table") s then Some ((table_of (line_of s) >>= λ t. give (ts ++ t ∷ [])) (after_first s)) else None

abbrev pub tables : List Lexeme → Read (List TableHead)
tables s = repeated (length s) next_table [] s

-- NAME "(" NAME ")"
abbrev pub head : List Lexeme → Read (List ℕ × List ℕ)
head = do
  n ← name
  _ ← take (codes "(")
  param ← name
  _ ← take (codes ")")
  give (n, param)

-- "{" { "table" NAME ";" } { stmt } "}"; a block or an expression in it opens at most 64 levels
abbrev pub body : List Lexeme → Read (List TableHead × List Command)
body = do
  _ ← take (codes "{")
  ts ← tables
  cs ← stmts (expr_at 64) (block_at 64)
  _ ← take (codes "}")
  give (ts, cs)

-- a function after the word `function`, which stands in this line
abbrev pub function_of : ℕ → List Lexeme → Read Func
function_of line = do
  h ← head
  b ← body
  give (record { name = h.0; param = h.1; tables = b.0; body = b.1; line = line })

abbrev pub next_function : List Func → List Lexeme → Option (Read (List Func))
next_function fs s = if next_is (codes "function") s then Some ((function_of (line_of s) >>= λ f. give (fs ++ f ∷ [])) (after_first s)) else None

abbrev pub functions : List Lexeme → Read (List Func)
functions s = repeated (length s) next_function [] s

-- "life" INT ";"
abbrev pub life : List Lexeme → Read ℕ
life = do
  _ ← take (codes "life")
  n ← number 1 (2 ^ 32)
  _ ← take (codes ";")
  give n

-- INT ";", which follows `room`
abbrev pub room_of : List Lexeme → Read ℕ
room_of = do
  n ← number 1 65536
  _ ← take (codes ";")
  give n

-- [ "room" INT ";" ]
abbrev pub room : List Lexeme → Read ℕ
room s = if next_is (codes "room") s then room_of (after_first s) else got 65536 s

-- [ "script" ] and nothing after it
abbrev pub the_end : List Lexeme → Read (Unit {0})
the_end s = if next_is (codes "script") s || is_end s then got tt (after_first s) else refuse Syntax s

abbrev pub deployment : List Lexeme → Read Deployment
deployment = do
  l ← life
  r ← room
  fs ← functions
  _ ← the_end
  give (record { life = l; room = r; funcs = fs })

-- ---- texts

-- the line of what follows these bytes, where a line past the last number of 32 bits is told as that
abbrev pub line_past : List ℕ → ℕ
line_past bs = min (count_by (λ b. b == 10) bs + 1) (2 ^ 32 - 1)

abbrev pub is_space : ℕ → Bool
is_space b = (b == 32 || b == 9) || b == 13

-- the script, and how many lines end before it; none where the line of `script` goes on
abbrev pub line_end : List ℕ → Option (List ℕ × ℕ)
line_end [] = Some ([], 0)
line_end (b ∷ bs) = if b == 10 then Some (bs, 1) else None

-- the same, with blanks before the end of the line
abbrev pub script_at : List ℕ → Option (List ℕ × ℕ)
script_at bs = line_end (drop (length (take_while is_space bs)) bs)

-- the line of the first bytes that are not UTF-8
abbrev pub utf8_fault : List ℕ → Option ℕ
utf8_fault bs = if is_utf8 bs then None else Some (line_past (front (utf8_valid_len bs) bs))

-- the line of the first byte past 65,536
abbrev pub size_fault : List ℕ → Option ℕ
size_fault bs = if nat_le (length bs) 65536 then None else Some (line_past (front 65536 bs))

abbrev pub unless : {A : Type 0} → Option ℕ → What → Result A SyntaxErr → Result A SyntaxErr
unless None what r = r
unless (Some line) what r = Err (Refused line what)

abbrev pub code_of : Read Deployment → Result Deployment SyntaxErr
code_of (got code s) = Ok code
code_of (bad line what) = Err (Refused line what)

-- the deployment that these bytes are; faults of UTF-8 and of size come first
abbrev pub code_at : List ℕ → Result Deployment SyntaxErr
code_at text = unless (utf8_fault text) Utf8 (unless (size_fault text) TooLarge (code_of (deployment (lexemes 0 1 text))))

abbrev pub parsed : List ℕ → List ℕ → Deployment → Option (List ℕ × ℕ) → Result Parsed SyntaxErr
parsed bytes text code None = Err (Refused (line_past text) Syntax)
parsed bytes text code (Some script) = Ok (record { code = code; rest = length bytes - length script.0; line = min (line_past text + script.1) (2 ^ 32 - 1) })

abbrev pub with_script : List ℕ → List ℕ → List ℕ → Result Deployment SyntaxErr → Result Parsed SyntaxErr
with_script bytes text after (Ok code) = parsed bytes text code (script_at after)
with_script bytes text after (Err why) = Err why

-- what a deployment's own bytes are read as, and what follows them
abbrev pub parts_at : List ℕ → List ℕ → List ℕ → Result Parsed SyntaxErr
parts_at bytes text after = with_script bytes text after (code_at text)

-- what a text is read as: the bytes up to the end of the first token `script` are the deployment's own
abbrev pub parsed_at : List ℕ → Result Parsed SyntaxErr
parsed_at bytes = parts_at bytes (front (to_script 0 bytes) bytes) (drop (to_script 0 bytes) bytes)

-- read as this, and refused exactly where that is refused
abbrev pub ReadsText : {A : Type 0} → Result A SyntaxErr → Result A SyntaxErr → Type 0
ReadsText r (Ok x) = r ≡ Ok x
ReadsText r (Err OutOfMemory) = Unit {0}
ReadsText r (Err (Refused line what)) = r ≡ Err (Refused line what)
