-- Each part of an expression is smaller than the expression, and each part of a statement than the statement.
use Rattle.std.specs.Prelude.{◌≡◌, ◌≤◌, ◌<◌, ℕ, suc, ◌+◌, max, List, [], ◌∷◌, length}
use denote.Param.Weighed.{most}
use Prim.Native.Nat
use Rattle.std.proofs.Common.{arith, ap, subst, get_or}
use Rattle.beldi_tree.specs.{declared.deployment.Expr.Expr, declared.deployment.Step.Step, declared.deployment.Stmt.Stmt, declared.deployment.Form.Form, declared.block.Block.TheDeep.deep-Stmt, declared.block.Block.TheDeep.deep-Form, declared.parts.Chain.TheDeep.deep-Expr, declared.parts.Chain.TheDeep.deep-Step, declared.parts.Chain.TheShapes.weighed-Members-items-at-2, Term.Term, Term.term_size, Term.terms_size, Term.members_size, Expr.term_of, Expr.applied, Expr.chained, Expr.items_view, Expr.members_view, StatementCommand.Command, StatementCommand.command_size, StatementCommand.block_size, Statement.command_of, Statement.command_at, Statement.statements_view}

pub deep_expr : (e : Expr) → deep-Expr e ≤ term_size (term_of e) + 1
deep_expr (Expr.Int z) = omega arith
deep_expr (Expr.Text s) = omega arith
deep_expr (Expr.Bool b) = omega arith
deep_expr Expr.Null = omega arith
deep_expr (Expr.Name s) = omega arith
deep_expr (Expr.List ts) = omega arith
deep_expr (Expr.Record ms) = omega arith
deep_expr (Expr.Chain t) = omega arith

pub step_falls : (t : Term) (s : Step) → term_size t + deep-Step s ≤ term_size (applied t s)
step_falls t (Step.Or e) = omega (arith, deep_expr e)
step_falls t (Step.And e) = omega (arith, deep_expr e)
step_falls t Step.Not = omega arith
step_falls t Step.Negate = omega arith
step_falls t (Step.Compare r e) = omega (arith, deep_expr e)
step_falls t (Step.Binary o e) = omega (arith, deep_expr e)
step_falls t (Step.Field s) = omega arith
step_falls t (Step.Element e) = omega (arith, deep_expr e)
step_falls t Step.Len = omega arith
step_falls t Step.TextOf = omega arith
step_falls t (Step.Push e) = omega (arith, deep_expr e)
step_falls t (Step.With e f) = omega (arith, deep_expr e, deep_expr f)

least_step : (t : Term) (s : Step) → term_size t + 2 ≤ term_size (applied t s)
least_step t (Step.Or e) = omega arith
least_step t (Step.And e) = omega arith
least_step t Step.Not = omega arith
least_step t Step.Negate = omega arith
least_step t (Step.Compare r e) = omega arith
least_step t (Step.Binary o e) = omega arith
least_step t (Step.Field s) = omega arith
least_step t (Step.Element e) = omega arith
least_step t Step.Len = omega arith
least_step t Step.TextOf = omega arith
least_step t (Step.Push e) = omega arith
least_step t (Step.With e f) = omega arith

pub first_falls : (t : Term) (ss : List Step) → term_size t ≤ term_size (chained t ss)
first_falls t [] = omega arith
first_falls t (s ∷ ss) = omega (arith, step_falls t s, first_falls (applied t s) ss)

pub most_steps : (t : Term) (ss : List Step) → most deep-Step ss ≤ term_size (chained t ss)
most_steps t [] = omega arith
most_steps t (s ∷ ss) = omega (arith, step_falls t s, first_falls (applied t s) ss, most_steps (applied t s) ss)

pub most_items : (es : List Expr) → most deep-Expr es ≤ terms_size (items_view es)
most_items [] = omega arith
most_items (e ∷ es) = omega (arith, deep_expr e, most_items es)

pub chain_falls : (e : Expr) (s : Step) (ss : List Step) → max (deep-Expr e) (max (deep-Step s) (max (most deep-Step ss) 0)) ≤ term_size (chained (applied (term_of e) s) ss)
chain_falls e s ss = omega (arith, deep_expr e, step_falls (term_of e) s, least_step (term_of e) s, first_falls (applied (term_of e) s) ss, most_steps (applied (term_of e) s) ss)

abbrev pub member_weight : List ℕ × Expr → ℕ
member_weight m = weighed-Members-items-at-2.weight Expr deep-Expr m

member_falls : (m : List ℕ × Expr) → member_weight m ≤ term_size (term_of m.1) + 1
member_falls m = omega (arith, deep_expr m.1)

pub most_members : (ms : List (List ℕ × Expr)) → max (most member_weight ms) 0 ≤ members_size (members_view ms)
most_members [] = omega arith
most_members (m ∷ ms) = omega (arith, member_falls m, most_members ms)

deep_form : (l : ℕ) (f : Form) → deep-Form f ≤ command_size (command_at l f)
deep_form l (Form.Set n e) = omega arith
deep_form l (Form.Read n t k) = omega arith
deep_form l (Form.Write t k e) = omega arith
deep_form l (Form.CondWrite n t k r o e) = omega arith
deep_form l (Form.Call n f e) = omega arith
deep_form l (Form.Async f e) = omega arith
deep_form l (Form.Lock t k) = omega arith
deep_form l (Form.Unlock t k) = omega arith
deep_form l (Form.Transaction b c) = omega arith
deep_form l Form.Abort = omega arith
deep_form l Form.Break = omega arith
deep_form l (Form.If e b c) = omega arith
deep_form l (Form.Repeat n b) = omega arith
deep_form l (Form.Return e) = omega arith

deep_stmt : (s : Stmt) → deep-Stmt s ≤ command_size (command_of s)
deep_stmt s = omega (arith, deep_form s.line s.form)

pub most_statements : (ss : List Stmt) → most deep-Stmt ss ≤ block_size (statements_view ss)
most_statements [] = omega arith
most_statements (s ∷ ss) = omega (arith, deep_stmt s, most_statements ss)

-- a statement is smaller than a block that it stands in
pub statement_falls : (ss : List Stmt) (i : ℕ) (s : Stmt) → i < length ss → s ≡ get_or ss i s → command_size (command_of s) < block_size (statements_view ss)
statement_falls [] i s h is = absurd (omega arith)
statement_falls (x ∷ ss) Nat.zero s h is = let same : command_size (command_of s) ≡ command_size (command_of x) = ap (λ y. command_size (command_of y)) is in omega arith
statement_falls (x ∷ ss) (suc i) s h is = omega (arith, statement_falls ss i s (omega arith) is)

-- the same where the block is seen as these commands
pub evaluated_falls : (ss : List Stmt) (cs : List Command) (i : ℕ) (s : Stmt) → statements_view ss ≡ cs → i < length ss → s ≡ get_or ss i s → command_size (command_of s) < block_size cs
evaluated_falls ss cs i s q h is = subst (λ ds. command_size (command_of s) < block_size ds) q (statement_falls ss i s h is)
