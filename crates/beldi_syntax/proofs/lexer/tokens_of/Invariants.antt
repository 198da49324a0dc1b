use Rattle.beldi_syntax.proofs.Names.{length, lexemes, ◌++◌, ◌+◌, ◌≡◌, ◌≤◌}
use Rattle.beldi_syntax.proofs.lexer.tokens_of.Given as goal

abbrev pub invariant-pieces : goal.invariant-pieces
invariant-pieces l = record {
  all : l.tokens ++ lexemes 0 l.line l.rest ≡ lexemes 0 1 l.bytes;
  few : l.line + length l.rest ≤ length l.bytes + 1;
}

abbrev pub decreases-pieces : goal.decreases-pieces
decreases-pieces l = length l.rest
