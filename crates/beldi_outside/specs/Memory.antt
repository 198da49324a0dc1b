-- The objects in memory: which calls fail, and what the others do.
use Rattle.std.specs.Prelude.{◌≡◌, ℕ, ◌+◌, ◌-◌, ◌^◌, min, Bool, true, false, nat_eq, List, [], ◌∷◌, ◌++◌, length, take, drop, Result, Ok, Err}
use Rattle.std.specs.List.{list_any}
use Rattle.beldi_outside.specs.{declared.traits.Failed.Failed, declared.memory.ClosedLink.ClosedLink, Outside.counted}

-- the numbers of the calls that fail, the number of the next call, and how many failed
pub record Plan : Type 0 where
  pub fail : List ℕ
  pub call : ℕ
  pub faults : ℕ

abbrev pub fails_now : Plan → Bool
fails_now p = list_any (λ n. nat_eq n p.call) p.fail

-- one more call, which did not fail
abbrev pub passed : Plan → Plan
passed p = record { fail = p.fail; call = min (p.call + 1) (2 ^ 32 - 1); faults = p.faults }

-- one more call, which failed
abbrev pub failed : Plan → Plan
failed p = record { fail = p.fail; call = min (p.call + 1) (2 ^ 32 - 1); faults = counted p.faults }

-- what is left, and how many bytes one read gives at most
pub record SourceState : Type 0 where
  pub bytes : List ℕ
  pub piece : ℕ
  pub plan : Plan

abbrev pub new_source : List ℕ → List ℕ → ℕ → SourceState
new_source bytes fail piece = record { bytes = bytes; piece = piece; plan = record { fail = fail; call = 0; faults = 0 } }

-- a read of at most `room` bytes: it fails just where its call is one that fails, and else gives all that it may
abbrev pub SourceRead : ℕ → SourceState → Result ℕ Failed → SourceState → Type 0
SourceRead room s (Ok n) t = (fails_now s.plan ≡ false) × (n ≡ min (min room s.piece) (length s.bytes)) × (t ≡ record { bytes = drop n s.bytes; piece = s.piece; plan = passed s.plan })
SourceRead room s (Err e) t = (fails_now s.plan ≡ true) × (t ≡ record { bytes = s.bytes; piece = s.piece; plan = failed s.plan })

-- what it got, and how many bytes one write takes at most
pub record SinkState : Type 0 where
  pub bytes : List ℕ
  pub piece : ℕ
  pub plan : Plan

abbrev pub new_sink : List ℕ → ℕ → SinkState
new_sink fail piece = record { bytes = []; piece = piece; plan = record { fail = fail; call = 0; faults = 0 } }

-- a write takes all that it may; it fails where its call is one that fails, or memory is short
abbrev pub SinkWrote : List ℕ → SinkState → Result ℕ Failed → SinkState → Type 0
SinkWrote bytes s (Ok n) t = (fails_now s.plan ≡ false) × (n ≡ min (length bytes) s.piece) × (t ≡ record { bytes = s.bytes ++ take n bytes; piece = s.piece; plan = passed s.plan })
SinkWrote bytes s (Err e) t = t ≡ record { bytes = s.bytes; piece = s.piece; plan = failed s.plan }

-- the last moment that was told, and those to come
pub record ClockState : Type 0 where
  pub last : ℕ
  pub coming : List ℕ

-- the next moment, or the last one again
abbrev pub told_next : ClockState → ClockState
told_next c = tell c.last c.coming
  where
    tell : ℕ → List ℕ → ClockState
    tell last [] = record { last = last; coming = [] }
    tell last (m ∷ ms) = record { last = m; coming = ms }

-- a link that was asked to listen or accept, and refused
abbrev pub refused : ClosedLink → ClosedLink
refused l = record { refusals = counted l.refusals; faults = l.faults }

-- a link that was asked for bytes, and failed
abbrev pub faulted : ClosedLink → ClosedLink
faulted l = record { refusals = l.refusals; faults = counted l.faults }
