use Rattle.std.proofs.Common.{rules}
use Rattle.beldi_syntax.proofs.Names.{after_first, ap, arith, count_of, suc, sym, ◌∙◌, ◌≡◌}
use Rattle.beldi_syntax.proofs.Repeated.{one_counted, after_drop}
use Rattle.beldi_syntax.proofs.tokens.Tokens.pass_all.Goals as goal

pub loop-turn-preserved : goal.loop-turn-preserved
loop-turn-preserved c =
    let one : count_of c.args.sign.now c.loop-turn.self ≡ suc (count_of c.args.sign.now c.pass.new.self) = one_counted c.args.sign.now c.loop-turn.self (search rules) ∙ ap (λ q. suc (count_of c.args.sign.now q)) (sym c.pass.ensures) in
    record {
      turns = omega arith;
      same = omega arith;
      rest = c.pass.ensures ∙ ap after_first c.loop-turn.invariant.rest ∙ after_drop c.loop-turn.count c.args.self.now;
    }
