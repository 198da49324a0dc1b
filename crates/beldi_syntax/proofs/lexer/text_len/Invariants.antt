use Rattle.beldi_syntax.proofs.Names.{drop, false, text_len, ◌+◌, ◌≡◌}
use Rattle.beldi_syntax.proofs.lexer.text_len.Given as goal

abbrev pub invariant-loop-byte : goal.invariant-loop-byte
invariant-loop-byte l = record {
  counted : l.count ≡ l.byte-index + 1;
  rest : text_len l.escaped l.count (drop l.byte-index l.bytes) ≡ text_len false 1 l.bytes;
}
