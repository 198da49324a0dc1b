use Rattle.beldi_value.proofs.Names.{drop, escape, length, ◌+◌, ◌≡◌}
use Rattle.beldi_value.proofs.limits.quoted_left.Given as goal

-- the budget pays for the whole text with its quotes, and what is left of it for what is left of the text
abbrev pub invariant-loop-byte : goal.invariant-loop-byte
invariant-loop-byte l = l.left + length (escape l.byte-items) + 2 ≡ l.fn.budget + length (escape (drop l.byte-index l.byte-items))
