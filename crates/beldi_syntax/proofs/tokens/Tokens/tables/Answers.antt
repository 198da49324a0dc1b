use Rattle.std.proofs.Common.{rules}
use Rattle.beldi_syntax.proofs.Names.{after_first, ap, codes, line_of, next_is, next_table, sym, table_of, ◌-◌, ◌∙◌}
use Rattle.beldi_syntax.proofs.Repeated.{ends, goes, stays, pushes}
use Rattle.beldi_syntax.proofs.tokens.Tokens.tables.Goals as goal

pub loop-turn-preserved : goal.loop-turn-preserved
loop-turn-preserved c =
    pushes next_table c.len-turn-end.result c.loop-turn._turn c.loop-turn.tables c.loop-turn.self (table_of (line_of c.loop-turn.self) (after_first c.loop-turn.self)) c.in-Ok.table c.push.new.self c.table.new.self
    c.loop-turn-test.true (goes (next_is (codes "table") c.loop-turn.self) (table_of (line_of c.loop-turn.self) (after_first c.loop-turn.self)) c.loop-turn.tables (search rules))
    (ap (λ k. table_of k (after_first c.loop-turn.self)) (sym c.line-line.ensures) ∙ ap (table_of c.line-line.result) (sym c.pass.ensures) ∙ c.in-Ok.ensures) c.in-Ok-push.ensures.ok
    ∙ c.loop-turn.invariant

pub returns-then-not-next_is : goal.returns-then-not-next_is
returns-then-not-next_is c =
    sym c.loop-turn.invariant
    ∙ ends next_table (c.len-turn-end.result - c.loop-turn._turn) c.loop-turn.tables c.loop-turn.self (stays (next_is (codes "table") c.loop-turn.self) (table_of (line_of c.loop-turn.self) (after_first c.loop-turn.self)) c.loop-turn.tables (search rules))
