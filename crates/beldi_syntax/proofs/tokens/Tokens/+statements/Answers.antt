use Rattle.std.proofs.Common.{rules}
use Rattle.beldi_syntax.{specs.Expressions.expr_at, specs.Statements.stmt, specs.Statements.block_at, proofs.Repeated.ungoes, proofs.Repeated.pushes, proofs.Repeated.errs, proofs.Repeated.block_one, proofs.Repeated.block_none}
use Rattle.beldi_syntax.proofs.Names.{Command, Reads, Stmt, arith, codes, command_of, next_is, next_stmt, stmts, subst, sym, ◌-◌, ◌∙◌, ◌≡◌, ◌≤◌}
use Rattle.beldi_syntax.proofs.tokens.Tokens.+statements.Goals as goal

pub block-returns-in-Some : goal.block-returns-in-Some
block-returns-in-Some t c = subst (λ p. Reads (p c.args.self.now) c.braced.result c.braced.new.self) (sym (block_one c.args.depth c.in-Some.depth (let f : (1 ≤ c.args.depth) × (c.in-Some.depth ≡ c.args.depth - 1) = c.in-Some.ensures in omega arith))) c.braced.ensures

pub block-returns-in-None : goal.block-returns-in-None
block-returns-in-None t c = subst (λ p. Reads (p c.args.self.now) c.no_block.result c.args.self.now) (sym (block_none c.args.depth (let f : 1 ≤ c.args.depth → ⊥ = c.in-None.ensures in omega arith))) c.no_block.ensures

pub stmts-loop-turn-preserved : goal.stmts-loop-turn-preserved
stmts-loop-turn-preserved t c =
    pushes (next_stmt (expr_at c.args.depth) (block_at c.args.depth)) c.len-turn-end.result c.loop-turn._turn c.loop-turn.block c.loop-turn.self (stmt (expr_at c.args.depth) (block_at c.args.depth) c.loop-turn.self) (command_of c.in-Ok.stmt) c.push.new.self c.stmt.new.self
    c.loop-turn-test.true (ungoes (next_is (codes "}") c.loop-turn.self) (stmt (expr_at c.args.depth) (block_at c.args.depth) c.loop-turn.self) c.loop-turn.block (search rules)) c.in-Ok.ensures c.in-Ok-push.ensures.ok
    ∙ c.loop-turn.invariant

pub stmts-returns-in-Err : goal.stmts-returns-in-Err
stmts-returns-in-Err t c =
    errs {A = Command} {B = Stmt} command_of (next_stmt (expr_at c.args.depth) (block_at c.args.depth)) c.len-turn-end.result c.loop-turn._turn c.loop-turn.block c.loop-turn.self (stmt (expr_at c.args.depth) (block_at c.args.depth) c.loop-turn.self) c.in-Err.why c.stmt.new.self (stmts (expr_at c.args.depth) (block_at c.args.depth) c.args.self.now)
    c.loop-turn-test.true (ungoes (next_is (codes "}") c.loop-turn.self) (stmt (expr_at c.args.depth) (block_at c.args.depth) c.loop-turn.self) c.loop-turn.block (search rules)) c.loop-turn.invariant c.in-Err.ensures
