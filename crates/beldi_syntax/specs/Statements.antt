-- The grammar of statements.
--   block = "{" { stmt } "}"
--   stmt = "set" NAME "=" expr ";"            | "read" NAME "=" cell ";"
--        | "write" cell "=" expr ";"          | "condwrite" NAME "=" cell REL sum "then" expr ";"
--        | "call" NAME "=" NAME "(" expr ")" ";" | "async" NAME "(" expr ")" ";"
--        | "lock" cell ";" | "unlock" cell ";" | "transaction" block "aborted" block
--        | "abort" ";" | "break" ";" | "if" expr block [ "else" block ]
--        | "repeat" INT block | "return" expr ";"
--   cell = NAME "[" expr "]"
-- Each phrase is given what an expr and a block in it are, and a statement its line. What follows the first word of a
-- statement is a phrase of its own.
use Rattle.std.specs.Prelude.{ℕ, zero, suc, List, [], ◌∷◌, ◌++◌, length, Option, Some, None, codes, if◌then◌else◌}
use Rattle.beldi_value.specs.declared.rel.Rel.{Rel}
use Rattle.beldi_tree.specs.StatementCommand.{Command, set, read, write, condwrite, call, async, lock, unlock, transaction, abort, break, choose, repeat, return, commands_of}
use Rattle.beldi_tree.specs.Term.{Term}
use Rattle.beldi_syntax.specs.Phrase.{Read, got, ◌>>=◌, give, repeated, next_is, line_of, after_first, refuse, take, name, number}
use Rattle.beldi_syntax.specs.{declared.refusal.What.TheVariants.Syntax, declared.refusal.What.TheVariants.TooDeep, declared.token.Lexeme.Lexeme, Operators.relation_at, Expressions.part, Expressions.argument, Expressions.sum, Expressions.expr_at}

abbrev pub cell : (List Lexeme → Read Term) → List Lexeme → Read (List ℕ × Term)
cell expr = do
  table ← name
  key ← part expr (codes "[")
  _ ← take (codes "]")
  give (table, key)

abbrev pub relation_or : Option Rel → List Lexeme → Read Rel
relation_or None s = refuse Syntax s
relation_or (Some r) s = got r (after_first s)

-- REL
abbrev pub relation : List Lexeme → Read Rel
relation s = relation_or (relation_at s) s

abbrev pub set_of : (List Lexeme → Read Term) → ℕ → List Lexeme → Read Command
set_of expr line = do
  n ← name
  e ← part expr (codes "=")
  _ ← take (codes ";")
  give (set line n e)

abbrev pub read_of : (List Lexeme → Read Term) → ℕ → List Lexeme → Read Command
read_of expr line = do
  n ← name
  _ ← take (codes "=")
  c ← cell expr
  _ ← take (codes ";")
  give (read line n c.0 c.1)

abbrev pub write_of : (List Lexeme → Read Term) → ℕ → List Lexeme → Read Command
write_of expr line = do
  c ← cell expr
  e ← part expr (codes "=")
  _ ← take (codes ";")
  give (write line c.0 c.1 e)

-- REL sum "then" expr ";"
abbrev pub condition : (List Lexeme → Read Term) → List Lexeme → Read (Rel × (Term × Term))
condition expr = do
  r ← relation
  o ← sum expr
  e ← part expr (codes "then")
  _ ← take (codes ";")
  give (r, (o, e))

abbrev pub condwrite_of : (List Lexeme → Read Term) → ℕ → List Lexeme → Read Command
condwrite_of expr line = do
  n ← name
  _ ← take (codes "=")
  c ← cell expr
  w ← condition expr
  give (condwrite line n c.0 c.1 w.0 w.1.0 w.1.1)

abbrev pub call_of : (List Lexeme → Read Term) → ℕ → List Lexeme → Read Command
call_of expr line = do
  n ← name
  _ ← take (codes "=")
  f ← name
  e ← argument expr
  _ ← take (codes ";")
  give (call line n f e)

abbrev pub async_of : (List Lexeme → Read Term) → ℕ → List Lexeme → Read Command
async_of expr line = do
  f ← name
  e ← argument expr
  _ ← take (codes ";")
  give (async line f e)

abbrev pub lock_of : (List Lexeme → Read Term) → ℕ → List Lexeme → Read Command
lock_of expr line = do
  c ← cell expr
  _ ← take (codes ";")
  give (lock line c.0 c.1)

abbrev pub unlock_of : (List Lexeme → Read Term) → ℕ → List Lexeme → Read Command
unlock_of expr line = do
  c ← cell expr
  _ ← take (codes ";")
  give (unlock line c.0 c.1)

abbrev pub return_of : (List Lexeme → Read Term) → ℕ → List Lexeme → Read Command
return_of expr line = do
  e ← expr
  _ ← take (codes ";")
  give (return line e)

-- a statement whose first word stands alone
abbrev pub word_of : Command → List Lexeme → Read Command
word_of c = take (codes ";") >>= λ u. give c

-- [ "else" block ]
abbrev pub otherwise : (List Lexeme → Read (List Command)) → List Lexeme → Read (List Command)
otherwise block s = if next_is (codes "else") s then block (after_first s) else got [] s

abbrev pub if_of : (List Lexeme → Read Term) → (List Lexeme → Read (List Command)) → ℕ → List Lexeme → Read Command
if_of expr block line = do
  e ← expr
  b ← block
  c ← otherwise block
  give (choose line e (commands_of b) (commands_of c))

abbrev pub repeat_of : (List Lexeme → Read (List Command)) → ℕ → List Lexeme → Read Command
repeat_of block line = do
  n ← number 0 1000
  b ← block
  give (repeat line n (commands_of b))

abbrev pub transaction_of : (List Lexeme → Read (List Command)) → ℕ → List Lexeme → Read Command
transaction_of block line = do
  b ← block
  _ ← take (codes "aborted")
  c ← block
  give (transaction line (commands_of b) (commands_of c))

-- statements on items
abbrev pub on_item : (List Lexeme → Read Term) → ℕ → List Lexeme → Read Command
on_item expr line s =
    if next_is (codes "read") s then read_of expr line (after_first s) else
    if next_is (codes "write") s then write_of expr line (after_first s) else
    if next_is (codes "condwrite") s then condwrite_of expr line (after_first s) else
    if next_is (codes "lock") s then lock_of expr line (after_first s) else
    if next_is (codes "unlock") s then unlock_of expr line (after_first s) else
    refuse Syntax s

-- statements with no block in them
abbrev pub plain : (List Lexeme → Read Term) → ℕ → List Lexeme → Read Command
plain expr line s =
    if next_is (codes "set") s then set_of expr line (after_first s) else
    if next_is (codes "call") s then call_of expr line (after_first s) else
    if next_is (codes "async") s then async_of expr line (after_first s) else
    if next_is (codes "return") s then return_of expr line (after_first s) else
    if next_is (codes "abort") s then word_of (abort line) (after_first s) else
    if next_is (codes "break") s then word_of (break line) (after_first s) else
    on_item expr line s

abbrev pub stmt_of : (List Lexeme → Read Term) → (List Lexeme → Read (List Command)) → ℕ → List Lexeme → Read Command
stmt_of expr block line s =
    if next_is (codes "if") s then if_of expr block line (after_first s) else
    if next_is (codes "repeat") s then repeat_of block line (after_first s) else
    if next_is (codes "transaction") s then transaction_of block line (after_first s) else
    plain expr line s

abbrev pub stmt : (List Lexeme → Read Term) → (List Lexeme → Read (List Command)) → List Lexeme → Read Command
stmt expr block s = stmt_of expr block (line_of s) s

-- one more statement, up to `}`
abbrev pub next_stmt : (List Lexeme → Read Term) → (List Lexeme → Read (List Command)) → List Command → List Lexeme → Option (Read (List Command))
next_stmt expr block cs s = if next_is (codes "}") s then None else Some ((stmt expr block >>= λ c. give (cs ++ c ∷ [])) s)

abbrev pub stmts : (List Lexeme → Read Term) → (List Lexeme → Read (List Command)) → List Lexeme → Read (List Command)
stmts expr block s = repeated (length s) (next_stmt expr block) [] s

-- "{" { stmt } "}"
abbrev pub braced : (List Lexeme → Read (List Command)) → List Lexeme → Read (List Command)
braced inner = do
  _ ← take (codes "{")
  cs ← inner
  _ ← take (codes "}")
  give cs

-- a block is nested too deep here
abbrev pub no_block : List Lexeme → Read (List Command)
no_block s = if next_is (codes "{") s then refuse TooDeep s else refuse Syntax s

-- a block that opens at most so many levels
unfoldable pub block_at : ℕ → List Lexeme → Read (List Command)
block_at zero = no_block
block_at (suc d) = braced (stmts (expr_at d) (block_at d))
