use Rattle.beldi_syntax.proofs.Names.{count_of, drop, ◌+◌, ◌≡◌}
use Rattle.beldi_syntax.proofs.tokens.Tokens.pass_all.Given as goal

abbrev pub invariant-loop-turn : goal.invariant-loop-turn
invariant-loop-turn l = record {
  turns : l.count ≡ l._turn;
  same : l.count + count_of l.sign l.self ≡ count_of l.sign l.fn.self;
  rest : l.self ≡ drop l.count l.fn.self;
}
