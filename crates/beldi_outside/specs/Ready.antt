-- The link that reads from many connections.
use Rattle.std.specs.Prelude.{ℕ, ◌≤◌, List, length}
use Rattle.beldi_outside.specs.declared.peer.Moved.{Moved, TheVariants.Bytes}

-- no more was moved than there was room for
abbrev pub MovesWithin : List ℕ → Moved → Type 0
MovesWithin room (Bytes n) = n ≤ length room
MovesWithin room m = Unit {0}
