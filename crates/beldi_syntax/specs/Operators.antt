-- Operators with two sides.
use Rattle.std.specs.Prelude.{ℕ, List, Option, Some, None, option_map, codes, if◌then◌else◌}
use Rattle.beldi_value.specs.declared.rel.Rel.{Rel, TheVariants.Eq, TheVariants.Ne, TheVariants.Lt, TheVariants.Le, TheVariants.Gt, TheVariants.Ge}
use Rattle.beldi_tree.specs.{declared.deployment.Op.Op, declared.deployment.Op.TheVariants.Add, declared.deployment.Op.TheVariants.Sub, declared.deployment.Op.TheVariants.Join, declared.deployment.Op.TheVariants.Mul, declared.deployment.Op.TheVariants.Div, declared.deployment.Op.TheVariants.Rem, Term.Term, Term.or, Term.and, Term.compare, Term.binary}
use Rattle.beldi_syntax.specs.{declared.token.Lexeme.Lexeme, declared.operators.Level.Level, declared.operators.Level.TheVariants.Disjunction, declared.operators.Level.TheVariants.Conjunction, declared.operators.Level.TheVariants.Relation, declared.operators.Level.TheVariants.Sum, declared.operators.Level.TheVariants.Product, declared.operators.Operator.Operator, declared.operators.Operator.TheVariants.Or, declared.operators.Operator.TheVariants.And, declared.operators.Operator.TheVariants.Compare, declared.operators.Operator.TheVariants.Binary, Phrase.next_is}

abbrev pub relation_at : List Lexeme → Option Rel
relation_at s =
    if next_is (codes "==") s then Some Eq else if next_is (codes "!=") s then Some Ne else
    if next_is (codes "<") s then Some Lt else if next_is (codes "<=") s then Some Le else
    if next_is (codes ">") s then Some Gt else if next_is (codes ">=") s then Some Ge else None

abbrev pub sum_at : List Lexeme → Option Op
sum_at s =
    if next_is (codes "+") s then Some Add else if next_is (codes "-") s then Some Sub else
    if next_is (codes "++") s then Some Join else None

abbrev pub product_at : List Lexeme → Option Op
product_at s =
    if next_is (codes "*") s then Some Mul else if next_is (codes "/") s then Some Div else
    if next_is (codes "%") s then Some Rem else None

-- the operator of this level that comes next
abbrev pub operator_at : Level → List Lexeme → Option Operator
operator_at Disjunction s = if next_is (codes "or") s then Some Or else None
operator_at Conjunction s = if next_is (codes "and") s then Some And else None
operator_at Relation s = option_map Compare (relation_at s)
operator_at Sum s = option_map Binary (sum_at s)
operator_at Product s = option_map Binary (product_at s)

-- how many operators of a level can follow one another, where so many tokens are left: of relations one, of others any
abbrev pub turns : Level → ℕ → ℕ
turns Disjunction n = n
turns Conjunction n = n
turns Relation n = 1
turns Sum n = n
turns Product n = n

abbrev pub joined : Operator → Term → Term → Term
joined Or t u = or t u
joined And t u = and t u
joined (Compare r) t u = compare r t u
joined (Binary o) t u = binary o t u
