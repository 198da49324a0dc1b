use Rattle.std.proofs.Common.{rules}
use Rattle.beldi_syntax.proofs.Names.{after_first, ap, codes, function_of, line_of, next_function, next_is, sym, ◌-◌, ◌∙◌}
use Rattle.beldi_syntax.proofs.Repeated.{ends, goes, stays, pushes}
use Rattle.beldi_syntax.proofs.tokens.Tokens.functions.Goals as goal

pub loop-turn-preserved : goal.loop-turn-preserved
loop-turn-preserved c =
    pushes next_function c.len-turn-end.result c.loop-turn._turn c.loop-turn.funcs c.loop-turn.self (function_of (line_of c.loop-turn.self) (after_first c.loop-turn.self)) c.in-Ok.func c.push.new.self c.function.new.self
    c.loop-turn-test.true (goes (next_is (codes "function") c.loop-turn.self) (function_of (line_of c.loop-turn.self) (after_first c.loop-turn.self)) c.loop-turn.funcs (search rules))
    (ap (λ k. function_of k (after_first c.loop-turn.self)) (sym c.line-line.ensures) ∙ ap (function_of c.line-line.result) (sym c.pass.ensures) ∙ c.in-Ok.ensures) c.in-Ok-push.ensures.ok
    ∙ c.loop-turn.invariant

pub returns-then-not-next_is : goal.returns-then-not-next_is
returns-then-not-next_is c =
    sym c.loop-turn.invariant
    ∙ ends next_function (c.len-turn-end.result - c.loop-turn._turn) c.loop-turn.funcs c.loop-turn.self (stays (next_is (codes "function") c.loop-turn.self) (function_of (line_of c.loop-turn.self) (after_first c.loop-turn.self)) c.loop-turn.funcs (search rules))
