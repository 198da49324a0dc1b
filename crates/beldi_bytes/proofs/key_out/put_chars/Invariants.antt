use Rattle.std.proofs.Common.{◌≡◌, ℕ, List, ◌++◌, drop}
use Rattle.beldi_bytes.specs.KeyBytes.{text_bytes}
use Rattle.beldi_bytes.proofs.key_out.put_chars.Given as goal

abbrev pub invariant-loop-byte : goal.invariant-loop-byte
invariant-loop-byte l = (s : List ℕ) → l.out.items ++ text_bytes (drop l.byte-index l.byte-items) s ≡ l.initial.out.items ++ text_bytes l.byte-items s
