-- The connections of a link: what each call does to the open one and to those that were closed.
use Rattle.std.specs.Prelude.{◌≡◌, ℕ, nat_eq, nat_lt, if◌then◌else◌, ◌&&◌, List, [], ◌∷◌, ◌++◌, length, take, drop, Option, Some, None, Result, Ok, Err, IsErr}
use Rattle.beldi_outside.specs.{declared.traits.Failed.Failed, Outside.counted, Outside.ReadOn}

-- the bytes taken from a connection, those left, those written on it, and how often a read or a write failed
pub record Connection : Type 0 where
  pub taken : List ℕ
  pub left : List ℕ
  pub written : List ℕ
  pub faults : ℕ

-- the open connection, if one is open, and the closed ones, the first one first
pub record Connections : Type 0 where
  pub current : Option Connection
  pub past : List Connection

-- a connection on which these bytes come
abbrev pub fresh : List ℕ → Connection
fresh left = record { taken = []; left = left; written = []; faults = 0 }

-- one connection more is closed
abbrev pub closing : Option Connection → List Connection → List Connection
closing None past = past
closing (Some c) past = past ++ c ∷ []

abbrev pub closed : Connections → Connections
closed s = record { current = None; past = closing s.current s.past }

-- the next connection is open, and the one before it is closed
abbrev pub AcceptOn : Result (Unit {0}) Failed → Connections → Connections → Type 0
AcceptOn (Ok u) s t = (left : List ℕ) × (t ≡ record { current = Some (fresh left); past = closing s.current s.past })
AcceptOn (Err e) s t = t ≡ s

abbrev pub took : ℕ → Connection → Connection
took n c = record { taken = c.taken ++ take n c.left; left = drop n c.left; written = c.written; faults = c.faults }

abbrev pub failed_once : Connection → Connection
failed_once c = record { taken = c.taken; left = c.left; written = c.written; faults = counted c.faults }

-- nothing taken of a piece that is not empty is a fault
abbrev pub wrote : List ℕ → ℕ → Connection → Connection
wrote bytes n c = record { taken = c.taken; left = c.left; written = c.written ++ take n bytes; faults = if nat_eq n 0 && nat_lt 0 (length bytes) then counted c.faults else c.faults }

-- a read takes the front of what is left, and nothing only at the end; with no connection open it fails
abbrev pub ReadOpen : List ℕ → Result ℕ Failed → Option Connection → Option Connection → Type 0
ReadOpen buf r None o = IsErr r × (o ≡ None)
ReadOpen buf (Ok n) (Some c) o = ReadOn buf (Ok n) c.left (drop n c.left) × (o ≡ Some (took n c))
ReadOpen buf (Err e) (Some c) o = o ≡ Some (failed_once c)

-- a write adds a front of the piece
abbrev pub WriteOpen : List ℕ → Result ℕ Failed → Option Connection → Option Connection → Type 0
WriteOpen bytes r None o = IsErr r × (o ≡ None)
WriteOpen bytes (Ok n) (Some c) o = o ≡ Some (wrote bytes n c)
WriteOpen bytes (Err e) (Some c) o = o ≡ Some (failed_once c)

-- a read and a write leave the closed connections
abbrev pub LinkRead : List ℕ → Result ℕ Failed → Connections → Connections → Type 0
LinkRead buf r s t = ReadOpen buf r s.current t.current × (t.past ≡ s.past)

abbrev pub LinkWrote : List ℕ → Result ℕ Failed → Connections → Connections → Type 0
LinkWrote bytes r s t = WriteOpen bytes r s.current t.current × (t.past ≡ s.past)
