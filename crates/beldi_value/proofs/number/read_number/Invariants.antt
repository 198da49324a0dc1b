use Rattle.beldi_value.proofs.Names.{all_ascii_digits, drop, read_on, ◌≡◌, ◌≤◌}
use Rattle.beldi_value.proofs.number.read_number.Given as goal

-- the number so far and the digits that are left make what all make
abbrev pub invariant-loop-byte : goal.invariant-loop-byte
invariant-loop-byte l = record { number : read_on l.number (drop l.byte-index l.bytes) ≡ read_on 0 l.bytes; digits : all_ascii_digits (drop l.byte-index l.bytes) ≡ all_ascii_digits l.bytes; small : l.number ≤ l.most }
