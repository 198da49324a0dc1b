-- The grammar as a relation: which tokens are a deployment, which one they are, and which limit each of them breaks.
use Rattle.std.specs.Prelude.{◌≡◌, ◌⊎◌, ℕ, ◌+◌, ◌-◌, ◌^◌, nat_le, pos, Bool, true, false, not, ◌&&◌, List, [], ◌∷◌, ◌++◌, map, Option, Some, None, codes, if◌then◌else◌}
use Rattle.beldi_value.specs.declared.rel.Rel.{Rel, TheVariants.Eq, TheVariants.Ne, TheVariants.Lt, TheVariants.Le, TheVariants.Gt, TheVariants.Ge}
use Rattle.beldi_tree.specs.Term.{Term, int, text, boolean, null, name, or, and, not as not_term, negate, compare, binary, field, element, list, fields, len, text_of, push, with, items_of, members_of}
use Rattle.beldi_tree.specs.StatementCommand.{Command, set, read, write, condwrite, call, async, lock, unlock, transaction, abort, break, choose, repeat, return, commands_of}
use Rattle.beldi_tree.specs.declared.deployment.{Op.TheVariants.Add, Op.TheVariants.Sub, Op.TheVariants.Join, Op.TheVariants.Mul, Op.TheVariants.Div, Op.TheVariants.Rem, Deployment.Deployment, Func.Func, TableHead.TableHead}
use Rattle.beldi_syntax.specs.declared.{refusal.What.What, refusal.What.TheVariants.Utf8, refusal.What.TheVariants.Syntax, refusal.What.TheVariants.Number as OfNumber, refusal.What.TheVariants.TooDeep, refusal.What.TheVariants.TooLarge, token.Lexeme.Lexeme, token.Token.Token, token.Token.TheVariants.Sign, token.Token.TheVariants.Name, token.Token.TheVariants.Number, token.Token.TheVariants.Text, token.Token.TheVariants.End}

-- what stands in a rule: a token, or a phrase. `more_` and what ends in `_tail` are repetitions and parts that may be
-- left out. An INT has its limits
pub data Symbol : Type 0 where
  word : List ℕ → Symbol
  NAME : Symbol
  INT : ℕ → ℕ → Symbol
  TEXT : Symbol
  END : Symbol
  deployment : Symbol
  room : Symbol
  more_functions : Symbol
  the_end : Symbol
  function : Symbol
  more_tables : Symbol
  block : Symbol
  more_stmts : Symbol
  stmt : Symbol
  else_tail : Symbol
  cell : Symbol
  REL : Symbol
  expr : Symbol
  or_tail : Symbol
  conj : Symbol
  and_tail : Symbol
  neg : Symbol
  rel : Symbol
  rel_tail : Symbol
  sum : Symbol
  sum_tail : Symbol
  prod : Symbol
  prod_tail : Symbol
  unary : Symbol
  post : Symbol
  post_tail : Symbol
  atom : Symbol
  exprs : Symbol
  more_exprs : Symbol
  members : Symbol
  member : Symbol
  more_members : Symbol

-- what a symbol stands for: a sign for its line, what follows the left side of an operator for what it makes of that side,
-- all others down to `atom` for an expression
abbrev pub Of : Symbol → Type 0
Of (word w) = ℕ
Of NAME = List ℕ
Of (INT least most) = ℕ
Of TEXT = List ℕ
Of END = ℕ
Of deployment = Deployment
Of room = ℕ
Of more_functions = List Func
Of the_end = ℕ
Of function = Func
Of more_tables = List TableHead
Of block = List Command
Of more_stmts = List Command
Of stmt = Command
Of else_tail = List Command
Of cell = List ℕ × Term
Of REL = Rel
Of or_tail = Term → Term
Of and_tail = Term → Term
Of rel_tail = Term → Term
Of sum_tail = Term → Term
Of prod_tail = Term → Term
Of post_tail = Term → Term
Of exprs = List Term
Of more_exprs = List Term
Of members = List (List ℕ × Term)
Of member = List ℕ × Term
Of more_members = List (List ℕ × Term)
Of a = Term

-- a symbol in so many open levels of blocks and expressions
pub data Place : Type 0 where
  place : ℕ → Symbol → Place

abbrev pub at : ℕ → List Symbol → List Place
at n bs = map (place n) bs

-- what is made of what these symbols stand for
abbrev pub Act : List Place → Type 0 → Type 0
Act [] A = A
Act (place n a ∷ cs) A = Of a → Act cs A

-- a rule for what stands for this: symbols, and what is made of them
pub data Rule (A : Type 0) : Type 0 where
  by : (bs : List Place) → Act bs A → Rule A

abbrev pub shape : {A : Type 0} → Rule A → List Place
shape (by bs f) = bs

-- a rule's symbols before others, in the place of the one symbol that they stand for
abbrev pub onto : (A B : Type 0) (bs cs : List Place) → Act bs B → (B → Act cs A) → Act (bs ++ cs) A
onto A B [] cs x k = k x
onto A B (place n b ∷ bs) cs f k = λ x. onto A B bs cs (f x) k

abbrev pub means : (A : Type 0) {B : Type 0} (r : Rule B) (cs : List Place) → (B → Act cs A) → Act (shape r ++ cs) A
means A {B = B} (by bs f) cs k = onto A B bs cs f k

-- this sign or reserved word
abbrev pub q : List ℕ → Symbol
q w = word w

-- the rules of each symbol that is no token, in so many open levels: an expression and a block open one more
abbrev pub rules : ℕ → (a : Symbol) → List (Rule (Of a))
rules n deployment =
    by (at n (q (codes "life") ∷ INT 1 (2 ^ 32) ∷ q (codes ";") ∷ room ∷ more_functions ∷ the_end ∷ [])) (λ _ l _ r fs _. record { life = l; room = r; funcs = fs })
    ∷ []
rules n room = by (at n (q (codes "room") ∷ INT 1 65536 ∷ q (codes ";") ∷ [])) (λ _ r _. r) ∷ by [] 65536 ∷ []
rules n more_functions = by (at n (function ∷ more_functions ∷ [])) (λ f fs. f ∷ fs) ∷ by [] [] ∷ []
rules n the_end = by (at n (q (codes "script") ∷ [])) (λ line. line) ∷ by (at n (END ∷ [])) (λ line. line) ∷ []
rules n function =
    by (at n (q (codes "function") ∷ NAME ∷ q (codes "(") ∷ NAME ∷ q (codes ")") ∷ q (codes "{") ∷ more_tables ∷ more_stmts ∷ q (codes "}") ∷ []))
    (λ line f _ x _ _ ts cs _. record { name = f; param = x; tables = ts; body = cs; line = line })
    ∷ []
rules n more_tables = by (at n (q (codes "table") ∷ NAME ∷ q (codes ";") ∷ more_tables ∷ [])) (λ line t _ ts. record { name = t; line = line } ∷ ts) ∷ by [] [] ∷ []
rules n block = by (at (n + 1) (q (codes "{") ∷ more_stmts ∷ q (codes "}") ∷ [])) (λ _ cs _. cs) ∷ []
rules n more_stmts = by (at n (stmt ∷ more_stmts ∷ [])) (λ c cs. c ∷ cs) ∷ by [] [] ∷ []
rules n stmt =
    by (at n (q (codes "set") ∷ NAME ∷ q (codes "=") ∷ expr ∷ q (codes ";") ∷ [])) (λ line x _ e _. set line x e)
    ∷ by (at n (q (codes "read") ∷ NAME ∷ q (codes "=") ∷ cell ∷ q (codes ";") ∷ [])) (λ line x _ c _. read line x c.0 c.1)
    ∷ by (at n (q (codes "write") ∷ cell ∷ q (codes "=") ∷ expr ∷ q (codes ";") ∷ [])) (λ line c _ e _. write line c.0 c.1 e)
    ∷ by (at n (q (codes "condwrite") ∷ NAME ∷ q (codes "=") ∷ cell ∷ REL ∷ sum ∷ q (codes "then") ∷ expr ∷ q (codes ";") ∷ []))
    (λ line x _ c r o _ e _. condwrite line x c.0 c.1 r o e)
    ∷ by (at n (q (codes "call") ∷ NAME ∷ q (codes "=") ∷ NAME ∷ q (codes "(") ∷ expr ∷ q (codes ")") ∷ q (codes ";") ∷ [])) (λ line x _ f _ e _ _. call line x f e)
    ∷ by (at n (q (codes "async") ∷ NAME ∷ q (codes "(") ∷ expr ∷ q (codes ")") ∷ q (codes ";") ∷ [])) (λ line f _ e _ _. async line f e)
    ∷ by (at n (q (codes "lock") ∷ cell ∷ q (codes ";") ∷ [])) (λ line c _. lock line c.0 c.1)
    ∷ by (at n (q (codes "unlock") ∷ cell ∷ q (codes ";") ∷ [])) (λ line c _. unlock line c.0 c.1)
    ∷ by (at n (q (codes "transaction") ∷ block ∷ q (codes "aborted") ∷ block ∷ [])) (λ line b _ c. transaction line (commands_of b) (commands_of c))
    ∷ by (at n (q (codes "abort") ∷ q (codes ";") ∷ [])) (λ line _. abort line)
    ∷ by (at n (q (codes "break") ∷ q (codes ";") ∷ [])) (λ line _. break line)
    ∷ by (at n (q (codes "if") ∷ expr ∷ block ∷ else_tail ∷ [])) (λ line e b c. choose line e (commands_of b) (commands_of c))
    ∷ by (at n (q (codes "repeat") ∷ INT 0 1000 ∷ block ∷ [])) (λ line m b. repeat line m (commands_of b))
    ∷ by (at n (q (codes "return") ∷ expr ∷ q (codes ";") ∷ [])) (λ line e _. return line e) ∷ []
rules n else_tail = by (at n (q (codes "else") ∷ block ∷ [])) (λ _ b. b) ∷ by [] [] ∷ []
rules n cell = by (at n (NAME ∷ q (codes "[") ∷ expr ∷ q (codes "]") ∷ [])) (λ t _ k _. (t, k)) ∷ []
rules n REL =
    by (at n (q (codes "==") ∷ [])) (λ _. Eq) ∷ by (at n (q (codes "!=") ∷ [])) (λ _. Ne) ∷ by (at n (q (codes "<") ∷ [])) (λ _. Lt)
    ∷ by (at n (q (codes "<=") ∷ [])) (λ _. Le) ∷ by (at n (q (codes ">") ∷ [])) (λ _. Gt) ∷ by (at n (q (codes ">=") ∷ [])) (λ _. Ge) ∷ []
rules n expr = by (at (n + 1) (conj ∷ or_tail ∷ [])) (λ t f. f t) ∷ []
rules n or_tail = by (at n (q (codes "or") ∷ conj ∷ or_tail ∷ [])) (λ _ u f t. f (or t u)) ∷ by [] (λ t. t) ∷ []
rules n conj = by (at n (neg ∷ and_tail ∷ [])) (λ t f. f t) ∷ []
rules n and_tail = by (at n (q (codes "and") ∷ neg ∷ and_tail ∷ [])) (λ _ u f t. f (and t u)) ∷ by [] (λ t. t) ∷ []
rules n neg = by (at n (q (codes "not") ∷ neg ∷ [])) (λ _ t. not_term t) ∷ by (at n (rel ∷ [])) (λ t. t) ∷ []
rules n rel = by (at n (sum ∷ rel_tail ∷ [])) (λ t f. f t) ∷ []
rules n rel_tail = by (at n (REL ∷ sum ∷ [])) (λ r u t. compare r t u) ∷ by [] (λ t. t) ∷ []
rules n sum = by (at n (prod ∷ sum_tail ∷ [])) (λ t f. f t) ∷ []
rules n sum_tail =
    by (at n (q (codes "+") ∷ prod ∷ sum_tail ∷ [])) (λ _ u f t. f (binary Add t u))
    ∷ by (at n (q (codes "-") ∷ prod ∷ sum_tail ∷ [])) (λ _ u f t. f (binary Sub t u))
    ∷ by (at n (q (codes "++") ∷ prod ∷ sum_tail ∷ [])) (λ _ u f t. f (binary Join t u)) ∷ by [] (λ t. t) ∷ []
rules n prod = by (at n (unary ∷ prod_tail ∷ [])) (λ t f. f t) ∷ []
rules n prod_tail =
    by (at n (q (codes "*") ∷ unary ∷ prod_tail ∷ [])) (λ _ u f t. f (binary Mul t u))
    ∷ by (at n (q (codes "/") ∷ unary ∷ prod_tail ∷ [])) (λ _ u f t. f (binary Div t u))
    ∷ by (at n (q (codes "%") ∷ unary ∷ prod_tail ∷ [])) (λ _ u f t. f (binary Rem t u)) ∷ by [] (λ t. t) ∷ []
rules n unary = by (at n (q (codes "-") ∷ unary ∷ [])) (λ _ t. negate t) ∷ by (at n (post ∷ [])) (λ t. t) ∷ []
rules n post = by (at n (atom ∷ post_tail ∷ [])) (λ t f. f t) ∷ []
rules n post_tail =
    by (at n (q (codes ".") ∷ NAME ∷ post_tail ∷ [])) (λ _ x f t. f (field t x))
    ∷ by (at n (q (codes "[") ∷ expr ∷ q (codes "]") ∷ post_tail ∷ [])) (λ _ i _ f t. f (element t i)) ∷ by [] (λ t. t) ∷ []
rules n atom =
    by (at n (INT 0 (2 ^ 63 - 1) ∷ [])) (λ m. int (pos m)) ∷ by (at n (TEXT ∷ [])) (λ s. text s)
    ∷ by (at n (q (codes "true") ∷ [])) (λ _. boolean true) ∷ by (at n (q (codes "false") ∷ [])) (λ _. boolean false) ∷ by (at n (q (codes "null") ∷ [])) (λ _. null)
    ∷ by (at n (NAME ∷ [])) (λ x. name x) ∷ by (at n (q (codes "(") ∷ expr ∷ q (codes ")") ∷ [])) (λ _ t _. t)
    ∷ by (at n (q (codes "[") ∷ exprs ∷ q (codes "]") ∷ [])) (λ _ ts _. list (items_of ts))
    ∷ by (at n (q (codes "{") ∷ members ∷ q (codes "}") ∷ [])) (λ _ ms _. fields (members_of ms))
    ∷ by (at n (q (codes "len") ∷ q (codes "(") ∷ expr ∷ q (codes ")") ∷ [])) (λ _ _ t _. len t)
    ∷ by (at n (q (codes "text") ∷ q (codes "(") ∷ expr ∷ q (codes ")") ∷ [])) (λ _ _ t _. text_of t)
    ∷ by (at n (q (codes "push") ∷ q (codes "(") ∷ expr ∷ q (codes ",") ∷ expr ∷ q (codes ")") ∷ [])) (λ _ _ t _ u _. push t u)
    ∷ by (at n (q (codes "with") ∷ q (codes "(") ∷ expr ∷ q (codes ",") ∷ expr ∷ q (codes ",") ∷ expr ∷ q (codes ")") ∷ [])) (λ _ _ t _ u _ v _. with t u v)
    ∷ []
rules n exprs = by (at n (expr ∷ more_exprs ∷ [])) (λ t ts. t ∷ ts) ∷ by [] [] ∷ []
rules n more_exprs = by (at n (q (codes ",") ∷ expr ∷ more_exprs ∷ [])) (λ _ t ts. t ∷ ts) ∷ by [] [] ∷ []
rules n members = by (at n (member ∷ more_members ∷ [])) (λ m ms. m ∷ ms) ∷ by [] [] ∷ []
rules n member = by (at n (TEXT ∷ q (codes ":") ∷ expr ∷ [])) (λ key _ t. (key, t)) ∷ []
rules n more_members = by (at n (q (codes ",") ∷ member ∷ more_members ∷ [])) (λ _ m ms. m ∷ ms) ∷ by [] [] ∷ []
rules n a = []

-- one of these
abbrev pub OneOf : {A : Type 0} → A → List A → Type 0
OneOf x [] = ⊥
OneOf x (y ∷ ys) = (x ≡ y) ⊎ OneOf x ys

-- which token a symbol is, and what it stands for; a number past all and a text that is too long stand for anything
abbrev pub IsToken : (a : Symbol) → Lexeme → Of a → Type 0
IsToken (word w) t x = (t.token ≡ Sign w) × (x ≡ t.line)
IsToken NAME t x = t.token ≡ Name x
IsToken (INT least most) t x = (t.token ≡ Number (Some x)) ⊎ (t.token ≡ Number None)
IsToken TEXT t x = (t.token ≡ Text (Some x)) ⊎ (t.token ≡ Text None)
IsToken END t x = (t.token ≡ End) × (x ≡ t.line)
IsToken a t x = ⊥

-- ---- limits

abbrev pub in_range : ℕ → ℕ → Option ℕ → Bool
in_range least most None = false
in_range least most (Some m) = nat_le least m && nat_le m most

-- a number that is not within the limits of its place
abbrev pub is_outside : Symbol → Token → Bool
is_outside (INT least most) (Number m) = not (in_range least most m)
is_outside a t = false

abbrev pub is_long : Token → Bool
is_long (Text None) = true
is_long t = false

-- the limit that a token breaks, which is this symbol in so many open levels; of several the first in this order
abbrev pub limit : ℕ → Symbol → Token → Option What
limit n a t = if is_outside a t then Some OfNumber else if not (nat_le n 64) then Some TooDeep else if is_long t then Some TooLarge else None

-- a token, and the limit that it breaks
pub record Marked : Type 0 where
  pub lexeme : Lexeme
  pub breaks : Option What

abbrev pub marked : Option What → Lexeme → Marked
marked m t = record { lexeme = t; breaks = m }

-- tokens that break no limit
abbrev pub unbroken : List Lexeme → List Marked
unbroken ts = map (marked None) ts

-- ---- derivations

-- these tokens are these symbols, one after another, and what is made of what the symbols stand for is this. A token is the
-- first symbol, and breaks the limit that it is marked with; or a rule's symbols stand in the place of the first one
pub data Yields (A : Type 0) : (cs : List Place) → Act cs A → List Marked → A → Type 0 where
  nothing : (y : A) → Yields A [] y [] y
  token : (n : ℕ) (a : Symbol) (cs : List Place) (k : Of a → Act cs A) (u : Marked) (x : Of a) (us : List Marked) (y : A)
      → IsToken a u.lexeme x → u.breaks ≡ limit n a u.lexeme.token → Yields A cs (k x) us y → Yields A (place n a ∷ cs) k (u ∷ us) y
  phrase : (n : ℕ) (a : Symbol) (r : Rule (Of a)) (cs : List Place) (k : Of a → Act cs A) (us : List Marked) (y : A)
      → OneOf r (rules n a) → Yields A (shape r ++ cs) (means A r cs k) us y → Yields A (place n a ∷ cs) k us y

-- these tokens, with these marks, are this deployment
abbrev pub IsCode : List Marked → Deployment → Type 0
IsCode us code = Yields Deployment (place 0 deployment ∷ []) (λ c. c) us code

-- ---- what is wrong

abbrev pub lexemes_in : List Marked → List Lexeme
lexemes_in us = map (λ u. u.lexeme) us

-- some deployment begins with these tokens, whatever limits they break
pub record Begins (ts : List Lexeme) : Type 0 where
  pub front : List Marked
  pub more : List Marked
  pub code : Deployment
  pub same : lexemes_in front ≡ ts
  pub is : IsCode (front ++ more) code

-- some deployment begins with these tokens, which break no limit, and a token that breaks this one
pub record Breaks (before : List Lexeme) (first : Lexeme) (what : What) : Type 0 where
  pub more : List Marked
  pub code : Deployment
  pub is : IsCode (unbroken before ++ marked (Some what) first ∷ more) code

-- why a deployment does not go on with a token
abbrev pub Cause : List Lexeme → Lexeme → What → Type 0
Cause before first Utf8 = ⊥
Cause before first Syntax = Begins (before ++ first ∷ []) → ⊥
Cause before first OfNumber = Breaks before first OfNumber
Cause before first TooDeep = Breaks before first TooDeep
Cause before first TooLarge = Breaks before first TooLarge

-- the first token with a cause, and its line
pub record Wrong (s : List Lexeme) (line : ℕ) (what : What) : Type 0 where
  pub before : List Lexeme
  pub first : Lexeme
  pub after : List Lexeme
  pub more : List Marked
  pub code : Deployment
  pub all : s ≡ before ++ first ∷ after
  pub here : line ≡ first.line
  pub begins : IsCode (unbroken before ++ more) code
  pub cause : Cause before first what
