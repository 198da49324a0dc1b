-- What is taken from the open connection and written on it.
use Rattle.std.specs.Prelude.{◌≡◌, ℕ, ◌+◌, ◌≤◌, ◌⊎◌, true, List, [], ◌++◌, length, Option, Some, None, Result, Ok, Err}
use Rattle.beldi_outside.specs.{Outside.Observed, Outside.IsPrefixOf, Connection.Connection, Connection.Connections}
use Rattle.beldi_gateway.specs.{declared.gather.Stop.Stop, declared.scan.Scan.Scan, Scan.start, Scan.scan_on}

-- these bytes more were taken from a connection, and these written on it
pub record Went (took wrote : List ℕ) (c d : Connection) : Type 0 where
  pub taken : d.taken ≡ c.taken ++ took
  pub left : c.left ≡ took ++ d.left
  pub written : d.written ≡ c.written ++ wrote

-- with no connection open nothing comes and goes
abbrev pub WentOn : List ℕ → List ℕ → Option Connection → Option Connection → Type 0
WentOn took wrote None o = (o ≡ None) × (took ≡ []) × (wrote ≡ [])
WentOn took wrote (Some c) o = (d : Connection) × (o ≡ Some d) × Went took wrote c d

-- the closed connections stay
abbrev pub Moved : List ℕ → List ℕ → Connections → Connections → Type 0
Moved took wrote s t = WentOn took wrote s.current t.current × (t.past ≡ s.past)

abbrev pub Moves : List ℕ → List ℕ → Option Connections → Option Connections → Type 0
Moves took wrote a b = Observed a b (Moved took wrote)

-- the open connection has ended
abbrev pub HasEnded : Option Connection → Type 0
HasEnded None = ⊥
HasEnded (Some c) = c.left ≡ []

abbrev pub EndsAt : Option Connections → Option Connections → Type 0
EndsAt a b = Observed a b (λ s t. HasEnded t.current)

-- bytes were taken, and nothing else happened
abbrev pub Lost : Option Connections → Option Connections → Type 0
Lost a b = (took : List ℕ) × Moves took [] a b

-- what was put behind the bytes is what was taken
pub record Gathers (a b : Option Connections) (old new : List ℕ) : Type 0 where
  pub took : List ℕ
  pub into : new ≡ old ++ took
  pub moves : Moves took [] a b

-- a few bytes were taken, none only at the end
abbrev pub TakesSome : Option Connections → Option Connections → List ℕ → List ℕ → ℕ → Result ℕ Stop → Type 0
TakesSome a b old new most (Ok n) = Gathers a b old new × (length new ≡ length old + n) × (n ≤ most) × (n ≡ 0 → EndsAt a b)
TakesSome a b old new most (Err e) = Lost a b

-- the head is over, or as many bytes came as it may have, or the connection ended
abbrev pub HeadGathers : Option Connections → Option Connections → List ℕ → Result Scan Stop → Type 0
HeadGathers a b bytes (Ok s) = Moves bytes [] a b × (s ≡ scan_on start bytes) × (length bytes ≤ 16384) × (s.size ≤ length bytes) × ((s.over ≡ true) ⊎ ((length bytes ≡ 16384) ⊎ EndsAt a b))
HeadGathers a b bytes (Err e) = Lost a b

-- as many bytes came as were asked for, or the connection ended
abbrev pub Fills : Option Connections → Option Connections → List ℕ → List ℕ → ℕ → Result (Unit {0}) Stop → Type 0
Fills a b old new size (Ok u) = Gathers a b old new × ((size ≤ length new) ⊎ EndsAt a b)
Fills a b old new size (Err e) = Lost a b

-- all the bytes were written, or a front of them
abbrev pub Sends : Option Connections → Option Connections → List ℕ → Result (Unit {0}) Stop → Type 0
Sends a b bytes (Ok u) = Moves [] bytes a b
Sends a b bytes (Err e) = (wrote : List ℕ) × IsPrefixOf wrote bytes × Moves [] wrote a b
