use Rattle.beldi_syntax.proofs.Names.{length, to_script, ◌+◌, ◌-◌, ◌≡◌, ◌≤◌}
use Rattle.beldi_syntax.proofs.lexer.front_of.Given as goal

abbrev pub invariant-pieces : goal.invariant-pieces
invariant-pieces l = record {
  all : to_script 0 l.rest + (length l.bytes - length l.rest) ≡ to_script 0 l.bytes;
  within : length l.rest ≤ length l.bytes;
}

abbrev pub decreases-pieces : goal.decreases-pieces
decreases-pieces l = length l.rest
