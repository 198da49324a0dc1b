-- The link in memory: which calls are refused or fail, and what the others do.
use Rattle.std.specs.Prelude.{◌≡◌, ℕ, min, true, false, List, [], ◌∷◌, length, Option, Some, None, Result, Ok, Err}
use Rattle.beldi_outside.specs.Connection.{Connection, Connections, fresh, closing, took, failed_once, wrote}
use Rattle.beldi_outside.specs.{declared.traits.Failed.Failed, Outside.counted, Memory.Plan, Memory.fails_now, Memory.passed, Memory.failed}

-- its connections, the bytes of those to come, how many bytes one call moves at most, the calls that fail, and how often it refused
pub record LinkState : Type 0 where
  pub seen : Connections
  pub coming : List (List ℕ)
  pub piece : ℕ
  pub plan : Plan
  pub refusals : ℕ

abbrev pub new_link : List (List ℕ) → List ℕ → ℕ → LinkState
new_link coming fail piece = record { seen = record { current = None; past = [] }; coming = coming; piece = piece; plan = record { fail = fail; call = 0; faults = 0 }; refusals = 0 }

-- one more call, which was refused
abbrev pub refused_once : LinkState → LinkState
refused_once s = record { seen = s.seen; coming = s.coming; piece = s.piece; plan = passed s.plan; refusals = counted s.refusals }

-- listening is refused just where the call is one that fails
abbrev pub Listened : LinkState → Result (Unit {0}) Failed → LinkState → Type 0
Listened s (Ok u) t = (fails_now s.plan ≡ false) × (t ≡ record { seen = s.seen; coming = s.coming; piece = s.piece; plan = passed s.plan; refusals = s.refusals })
Listened s (Err e) t = (fails_now s.plan ≡ true) × (t ≡ refused_once s)

-- the first connection to come is opened; else it is refused: the call is one that fails, none is to come, or memory is short
abbrev pub Accepted : LinkState → Result (Unit {0}) Failed → LinkState → Type 0
Accepted s (Ok u) t = (fails_now s.plan ≡ false) × ((left : List ℕ) × (rest : List (List ℕ)) × (s.coming ≡ left ∷ rest) × (t ≡ record { seen = record { current = Some (fresh left); past = closing s.seen.current s.seen.past }; coming = rest; piece = s.piece; plan = passed s.plan; refusals = s.refusals }))
Accepted s (Err e) t = t ≡ refused_once s

-- the same link with another open connection and one more call
abbrev pub with_open : LinkState → Option Connection → Plan → LinkState
with_open s o p = record { seen = record { current = o; past = s.seen.past }; coming = s.coming; piece = s.piece; plan = p; refusals = s.refusals }

abbrev pub fail_open : Option Connection → Option Connection
fail_open None = None
fail_open (Some c) = Some (failed_once c)

-- a read of at most `room` bytes gives all that it may; it fails just where its call is one that fails, or no connection is open
abbrev pub Took : ℕ → LinkState → Result ℕ Failed → LinkState → Type 0
Took room s (Ok n) t = (fails_now s.plan ≡ false) × ((c : Connection) × (s.seen.current ≡ Some c) × (n ≡ min (min room s.piece) (length c.left)) × (t ≡ with_open s (Some (took n c)) (passed s.plan)))
Took room s (Err e) t = t ≡ with_open s (fail_open s.seen.current) (failed s.plan)

-- a write takes all that it may; it fails also where memory is short
abbrev pub Wrote : List ℕ → LinkState → Result ℕ Failed → LinkState → Type 0
Wrote bytes s (Ok n) t = (fails_now s.plan ≡ false) × ((c : Connection) × (s.seen.current ≡ Some c) × (n ≡ min (length bytes) s.piece) × (t ≡ with_open s (Some (wrote bytes n c)) (passed s.plan)))
Wrote bytes s (Err e) t = t ≡ with_open s (fail_open s.seen.current) (failed s.plan)
