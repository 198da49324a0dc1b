-- The grammar of expressions.
--   expr = conj { "or" conj }      conj = neg { "and" neg }     neg = "not" neg | rel
--   rel = sum [ REL sum ]          REL = "==" | "!=" | "<" | "<=" | ">" | ">="
--   sum = prod { ("+" | "-" | "++") prod }   prod = unary { ("*" | "/" | "%") unary }
--   unary = "-" unary | post       post = atom { "." NAME | "[" expr "]" }
--   atom = INT | TEXT | "true" | "false" | "null" | NAME | "(" expr ")"
--        | "[" [ expr { "," expr } ] "]" | "{" [ TEXT ":" expr { "," TEXT ":" expr } ] "}"
--        | "len" "(" expr ")" | "text" "(" expr ")" | "push" "(" expr "," expr ")"
--        | "with" "(" expr "," expr "," expr ")"
-- Each phrase is given what an expr in it is, which has one level of nesting less.
use Rattle.std.specs.Prelude.{ℕ, zero, suc, ◌^◌, ◌-◌, pos, Bool, true, false, ◌||◌, List, [], ◌∷◌, ◌++◌, length, Option, Some, None, codes, if◌then◌else◌}
use Rattle.std.specs.List.{list_any}
use Rattle.beldi_tree.specs.Term.{Term, int, text as text_term, boolean, null, name as name_term, not as not_term, negate, field, element, list, fields, len, text_of as json_of, push, with, items_of, members_of}
use Rattle.beldi_syntax.specs.Phrase.{Read, got, after, ◌>>=◌, give, repeated, is_sign, next_is, is_name, is_number, is_past_numbers, is_text, after_first, refuse, take, name, number, text}
use Rattle.beldi_syntax.specs.{declared.refusal.What.TheVariants.Syntax, declared.refusal.What.TheVariants.Number as OfNumber, declared.refusal.What.TheVariants.TooDeep, declared.token.Lexeme.Lexeme, declared.operators.Level.Level, declared.operators.Level.TheVariants.Disjunction, declared.operators.Level.TheVariants.Conjunction, declared.operators.Level.TheVariants.Relation, declared.operators.Level.TheVariants.Sum, declared.operators.Level.TheVariants.Product, declared.operators.Operator.Operator, Operators.operator_at, Operators.joined, Operators.turns}

-- `,` and one more of these
abbrev pub next_item : {A : Type 0} → (List Lexeme → Read A) → List A → List Lexeme → Option (Read (List A))
next_item p xs s = if next_is (codes ",") s then Some ((p >>= λ x. give (xs ++ x ∷ [])) (after_first s)) else None

-- any number of these, each after a `,`
abbrev pub more : {A : Type 0} → (List Lexeme → Read A) → List A → List Lexeme → Read (List A)
more p xs s = repeated (length s) (next_item p) xs s

-- any number of these, separated by `,`, up to this sign
abbrev pub listed : {A : Type 0} → List ℕ → (List Lexeme → Read A) → List Lexeme → Read (List A)
listed close p s = if next_is close s then got [] (after_first s) else (do
  x ← p
  xs ← more p (x ∷ [])
  _ ← take close
  give xs) s

-- TEXT ":" expr
abbrev pub member : (List Lexeme → Read Term) → List Lexeme → Read (List ℕ × Term)
member expr = do
  key ← text
  _ ← take (codes ":")
  value ← expr
  give (key, value)

-- "(" expr ")"
abbrev pub argument : (List Lexeme → Read Term) → List Lexeme → Read Term
argument expr = do
  _ ← take (codes "(")
  t ← expr
  _ ← take (codes ")")
  give t

-- this sign and expr
abbrev pub part : (List Lexeme → Read Term) → List ℕ → List Lexeme → Read Term
part expr sign = take sign >>= λ u. expr

-- "(" expr "," expr ")"
abbrev pub push_of : (List Lexeme → Read Term) → List Lexeme → Read Term
push_of expr = do
  t ← part expr (codes "(")
  u ← part expr (codes ",")
  _ ← take (codes ")")
  give (push t u)

-- "(" expr "," expr "," expr ")"
abbrev pub with_of : (List Lexeme → Read Term) → List Lexeme → Read Term
with_of expr = do
  t ← part expr (codes "(")
  u ← part expr (codes ",")
  v ← part expr (codes ",")
  _ ← take (codes ")")
  give (with t u v)

-- NAME, TEXT or INT
abbrev pub literal : List Lexeme → Read Term
literal s =
    if is_name s then (name >>= λ n. give (name_term n)) s else
    if is_text s then (text >>= λ t. give (text_term t)) s else
    (number 0 (2 ^ 63 - 1) >>= λ n. give (int (pos n))) s

-- a word or a sign with an expression after it
abbrev pub call : (List Lexeme → Read Term) → List Lexeme → Read Term
call expr s =
    if next_is (codes "len") s then (argument expr >>= λ t. give (len t)) (after_first s) else
    if next_is (codes "text") s then (argument expr >>= λ t. give (json_of t)) (after_first s) else
    if next_is (codes "push") s then push_of expr (after_first s) else
    if next_is (codes "with") s then with_of expr (after_first s) else
    literal s

abbrev pub bracketed : (List Lexeme → Read Term) → List Lexeme → Read Term
bracketed expr s =
    if next_is (codes "(") s then argument expr s else
    if next_is (codes "[") s then (listed (codes "]") expr >>= λ ts. give (list (items_of ts))) (after_first s) else
    if next_is (codes "{") s then (listed (codes "}") (member expr) >>= λ ms. give (fields (members_of ms))) (after_first s) else
    call expr s

abbrev pub atom : (List Lexeme → Read Term) → List Lexeme → Read Term
atom expr s =
    if next_is (codes "true") s then got (boolean true) (after_first s) else
    if next_is (codes "false") s then got (boolean false) (after_first s) else
    if next_is (codes "null") s then got null (after_first s) else
    bracketed expr s

-- what follows `.`
abbrev pub field_of : Term → List Lexeme → Read Term
field_of t = name >>= λ key. give (field t key)

-- "[" expr "]"
abbrev pub element_of : (List Lexeme → Read Term) → Term → List Lexeme → Read Term
element_of expr t = do
  i ← part expr (codes "[")
  _ ← take (codes "]")
  give (element t i)

-- "." NAME or "[" expr "]"
abbrev pub suffix : (List Lexeme → Read Term) → Term → List Lexeme → Read Term
suffix expr t s = if next_is (codes ".") s then field_of t (after_first s) else element_of expr t s

abbrev pub next_suffix : (List Lexeme → Read Term) → Term → List Lexeme → Option (Read Term)
next_suffix expr t s = if list_any (λ w. next_is w s) (codes "." ∷ codes "[" ∷ []) then Some (suffix expr t s) else None

abbrev pub post : (List Lexeme → Read Term) → List Lexeme → Read Term
post expr = atom expr >>= λ t s. repeated (length s) (next_suffix expr) t s

-- this sign, any number of times, before this
abbrev pub prefixed : List ℕ → (Term → Term) → (List Lexeme → Read Term) → List Lexeme → Read Term
prefixed sign wrap p [] = p []
prefixed sign wrap p (t ∷ ts) = if is_sign sign t.token then after (prefixed sign wrap p ts) (λ x. give (wrap x)) else p (t ∷ ts)

abbrev pub unary : (List Lexeme → Read Term) → List Lexeme → Read Term
unary expr = prefixed (codes "-") negate (post expr)

-- the right side of an operator, where there is one
abbrev pub join_of : (List Lexeme → Read Term) → Option Operator → Term → List Lexeme → Option (Read Term)
join_of side None t s = None
join_of side (Some o) t s = Some ((side >>= λ u. give (joined o t u)) (after_first s))

abbrev pub join : Level → (List Lexeme → Read Term) → Term → List Lexeme → Option (Read Term)
join level side t s = join_of side (operator_at level s) t s

-- sides with operators of a level between them
abbrev pub chain : Level → (List Lexeme → Read Term) → List Lexeme → Read Term
chain level side = side >>= λ t s. repeated (turns level (length s)) (join level side) t s

-- what stands beside the operators of a level
abbrev pub product : (List Lexeme → Read Term) → List Lexeme → Read Term
product expr = chain Product (unary expr)

abbrev pub sum : (List Lexeme → Read Term) → List Lexeme → Read Term
sum expr = chain Sum (product expr)

abbrev pub negation : (List Lexeme → Read Term) → List Lexeme → Read Term
negation expr = prefixed (codes "not") not_term (chain Relation (sum expr))

abbrev pub conjunction : (List Lexeme → Read Term) → List Lexeme → Read Term
conjunction expr = chain Conjunction (negation expr)

abbrev pub side : Level → (List Lexeme → Read Term) → List Lexeme → Read Term
side Disjunction expr = conjunction expr
side Conjunction expr = negation expr
side Relation expr = sum expr
side Sum expr = product expr
side Product expr = unary expr

-- what an expression may begin with, beside names, numbers and texts
abbrev pub openers : List (List ℕ)
openers =
    codes "not" ∷ codes "-" ∷ codes "(" ∷ codes "[" ∷ codes "{" ∷ codes "true" ∷ codes "false" ∷ codes "null"
    ∷ codes "len" ∷ codes "text" ∷ codes "push" ∷ codes "with" ∷ []

abbrev pub begins_expr : List Lexeme → Bool
begins_expr s = ((is_name s || is_number s) || is_text s) || list_any (λ w. next_is w s) openers

-- an expression is nested too deep here
abbrev pub no_expr : List Lexeme → Read Term
no_expr s = if is_past_numbers s then refuse OfNumber s else if begins_expr s then refuse TooDeep s else refuse Syntax s

-- an expression that opens at most so many levels
unfoldable pub expr_at : ℕ → List Lexeme → Read Term
expr_at zero = no_expr
expr_at (suc d) = chain Disjunction (side Disjunction (expr_at d))
