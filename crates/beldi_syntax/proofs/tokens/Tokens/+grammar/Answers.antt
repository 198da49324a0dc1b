use Rattle.std.proofs.Common.{rules}
use Rattle.beldi_tree.specs.Term.{not}
use Rattle.beldi_syntax.specs.Expressions.{expr_at, sum}
use Rattle.beldi_syntax.proofs.Names.{Err, Expr, List, ReadsAs, Relation, Term, after_first, ap, arith, chain, codes, member, more, negate, next_is, next_item, post, side, subst, sym, term_of, ℕ, ◌-◌, ◌∙◌, ◌≡◌, ◌≤◌}
use Rattle.beldi_syntax.proofs.Repeated.{chain_goes_on, goes, pushes, errs, suffix_goes_on, expr_one, expr_none, signs}
use Rattle.beldi_syntax.proofs.tokens.Tokens.+grammar.Goals as goal

pub expr-returns-in-Some : goal.expr-returns-in-Some
expr-returns-in-Some t c = subst (λ p. ReadsAs term_of (p c.args.self.now) c.chain.result c.chain.new.self) (sym (expr_one c.args.depth c.in-Some.depth (let f : (1 ≤ c.args.depth) × (c.in-Some.depth ≡ c.args.depth - 1) = c.in-Some.ensures in omega arith))) c.chain.ensures

pub expr-returns-in-None : goal.expr-returns-in-None
expr-returns-in-None t c = subst (λ p. ReadsAs term_of (p c.args.self.now) c.no_expr.result c.args.self.now) (sym (expr_none c.args.depth (let f : 1 ≤ c.args.depth → ⊥ = c.in-None.ensures in omega arith))) c.no_expr.ensures

pub chain-loop-turn-preserved : goal.chain-loop-turn-preserved
chain-loop-turn-preserved t c =
    chain_goes_on c.args.level (side c.args.level (expr_at c.args.depth)) c.turns-turn-end.result c.loop-turn._turn (term_of c.loop-turn.left) c.loop-turn.self c.pass.new.self c.in-Some.operator (term_of c.in-Ok.right) (term_of c.in-Ok-then.expr) c.side-in-loop-turn.new.self
    c.loop-turn-test.true (search rules) c.pass.ensures c.in-Ok.ensures (c.in-Ok-then.ensures ∙ c.step.ensures (term_of c.loop-turn.left))
    ∙ c.loop-turn.invariant

pub post-loop-turn-preserved : goal.post-loop-turn-preserved
post-loop-turn-preserved t c =
    suffix_goes_on (expr_at c.args.depth) c.len-turn-end.result c.loop-turn._turn (term_of c.loop-turn.expr) c.loop-turn.self (term_of c.in-Ok.expr) c.suffix.new.self
    c.loop-turn-test.true (search rules) c.in-Ok.ensures
    ∙ c.loop-turn.invariant

pub more_items-loop-turn-preserved : goal.more_items-loop-turn-preserved
more_items-loop-turn-preserved t c =
    pushes (next_item (expr_at c.args.depth)) c.len-turn-end.result c.loop-turn._turn c.loop-turn.all c.loop-turn.self (expr_at c.args.depth (after_first c.loop-turn.self)) (term_of c.in-Ok.item) c.push.new.self c.expr.new.self
    c.loop-turn-test.true (goes (next_is (codes ",") c.loop-turn.self) (expr_at c.args.depth (after_first c.loop-turn.self)) c.loop-turn.all (search rules)) (ap (expr_at c.args.depth) (sym c.pass.ensures) ∙ c.in-Ok.ensures) c.in-Ok-push.ensures.ok
    ∙ c.loop-turn.invariant

pub more_members-loop-turn-preserved : goal.more_members-loop-turn-preserved
more_members-loop-turn-preserved t c =
    pushes (next_item (member (expr_at c.args.depth))) c.len-turn-end.result c.loop-turn._turn c.loop-turn.all c.loop-turn.self (member (expr_at c.args.depth) (after_first c.loop-turn.self)) (c.in-Ok.key, term_of c.in-Ok.value) c.push.new.self c.member.new.self
    c.loop-turn-test.true (goes (next_is (codes ",") c.loop-turn.self) (member (expr_at c.args.depth) (after_first c.loop-turn.self)) c.loop-turn.all (search rules)) (ap (member (expr_at c.args.depth)) (sym c.pass.ensures) ∙ c.in-Ok.ensures) c.in-Ok-push.ensures.ok
    ∙ c.loop-turn.invariant

pub more_members-returns-in-Err : goal.more_members-returns-in-Err
more_members-returns-in-Err t c =
    errs {A = List ℕ × Term} {B = List ℕ × Expr} (λ m. (m.0, term_of m.1)) (next_item (member (expr_at c.args.depth))) c.len-turn-end.result c.loop-turn._turn c.loop-turn.all c.loop-turn.self (member (expr_at c.args.depth) (after_first c.loop-turn.self)) c.in-Err.why c.member.new.self (more (member (expr_at c.args.depth)) c.args.members c.args.self.now)
    c.loop-turn-test.true (goes (next_is (codes ",") c.loop-turn.self) (member (expr_at c.args.depth) (after_first c.loop-turn.self)) c.loop-turn.all (search rules)) c.loop-turn.invariant
    (subst (λ q. ReadsAs {A = List ℕ × Term} {B = List ℕ × Expr} (λ m. (m.0, term_of m.1)) (member (expr_at c.args.depth) q) (Err c.in-Err.why) c.member.new.self) c.pass.ensures c.in-Err.ensures)

pub negation-returns : goal.negation-returns
negation-returns t c = let e = signs (codes "not") not (chain Relation (sum (expr_at c.args.depth))) c.args.self.now c.pass_all-count.result c.pass_all-count.new.self c.pass_all-count.ensures.count c.pass_all-count.ensures.rest in rw e (search rules)

pub negation-returns-in_err-expr : goal.negation-returns-in_err-expr
negation-returns-in_err-expr t c = let e = signs (codes "not") not (chain Relation (sum (expr_at c.args.depth))) c.args.self.now c.pass_all-count.result c.pass_all-count.new.self c.pass_all-count.ensures.count c.pass_all-count.ensures.rest in rw e (search rules)

pub unary-returns : goal.unary-returns
unary-returns t c = let e = signs (codes "-") negate (post (expr_at c.args.depth)) c.args.self.now c.pass_all-count.result c.pass_all-count.new.self c.pass_all-count.ensures.count c.pass_all-count.ensures.rest in rw e (search rules)

pub unary-returns-in_err-expr : goal.unary-returns-in_err-expr
unary-returns-in_err-expr t c = let e = signs (codes "-") negate (post (expr_at c.args.depth)) c.args.self.now c.pass_all-count.result c.pass_all-count.new.self c.pass_all-count.ensures.count c.pass_all-count.ensures.rest in rw e (search rules)
