-- The expression that an `Expr` stands for.
use Rattle.std.specs.Prelude.{ℕ, List, [], ◌∷◌, map}
use Rattle.beldi_tree.specs.Term.{Term, int, text, boolean, null, name, or, and, not, negate, compare, binary, field, element, list, fields, len, text_of, push, with, items_of, members_of}
use Rattle.beldi_tree.specs.declared.deployment.{Expr.Expr, Step.Step}

abbrev pub term_of : Expr → Term
term_of (Expr.Int z) = int z
term_of (Expr.Text s) = text s
term_of (Expr.Bool b) = boolean b
term_of Expr.Null = null
term_of (Expr.Name s) = name s
term_of (Expr.List ts) = list (items_of ts)
term_of (Expr.Record ms) = fields (members_of ms)
term_of (Expr.Chain t) = t

-- an expression with one step after it
abbrev pub applied : Term → Step → Term
applied t (Step.Or e) = or t (term_of e)
applied t (Step.And e) = and t (term_of e)
applied t Step.Not = not t
applied t Step.Negate = negate t
applied t (Step.Compare r e) = compare r t (term_of e)
applied t (Step.Binary o e) = binary o t (term_of e)
applied t (Step.Field s) = field t s
applied t (Step.Element e) = element t (term_of e)
applied t Step.Len = len t
applied t Step.TextOf = text_of t
applied t (Step.Push e) = push t (term_of e)
applied t (Step.With e f) = with t (term_of e) (term_of f)

-- an expression with these steps after it
abbrev pub chained : Term → List Step → Term
chained t [] = t
chained t (s ∷ ss) = chained (applied t s) ss

abbrev pub items_view : List Expr → List Term
items_view es = map term_of es

abbrev pub members_view : List (List ℕ × Expr) → List (List ℕ × Term)
members_view ms = map (λ m. (m.0, term_of m.1)) ms
