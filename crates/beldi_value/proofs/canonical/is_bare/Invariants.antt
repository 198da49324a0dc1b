use Rattle.beldi_value.proofs.Names.{drop, escape, ◌≡◌}
use Rattle.beldi_value.proofs.canonical.is_bare.Given as goal

-- where what is left of the text stands for itself, so does the text
abbrev pub invariant-loop-byte : goal.invariant-loop-byte
invariant-loop-byte l = escape (drop l.byte-index l.byte-items) ≡ drop l.byte-index l.byte-items → escape l.byte-items ≡ l.byte-items
