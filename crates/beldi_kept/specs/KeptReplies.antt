-- What is told over the table's rows is so in the run of the book, where rows of some intents are gone.
use Rattle.std.specs.Prelude.{◌≡◌, ◌&&◌, ℕ, false, Some, Result, Ok}
use Rattle.std.specs.declared.alloc.AllocError.{AllocError}
use Rattle.beldi_value.specs.declared.outcome.Outcome.{Outcome}
use Rattle.beldi_tree.specs.declared.deployment.Deployment.{Deployment}
use Rattle.beldi_plain.specs.{Plain.PlainState, Legal.IsLegal, Legal.run_of, Replies.HasNoReply, Replies.HasReply}
use Rattle.beldi_plain_laws.specs.Grown.{Grows}
use Rattle.beldi_row.specs.Table.{Rows}
use Rattle.beldi_step.specs.{declared.event.Event.Event, declared.event.EventReply.EventReply, HostStep.Core, HostStep.EventOn, EventContent.is_dropped, EventContent.is_lost, EventContent.reply_outcome}
use Rattle.beldi_kept.specs.KeptRows.{HasKept}

-- the book is legal
abbrev pub KeptAreLegal : Type 0
KeptAreLegal = (d : Deployment) (c : Core) (m : Rows) → HasKept d c m → IsLegal d c.book

-- an outcome that is told is that of the root in the run of the book ..
abbrev pub KeptReplies : Type 0
KeptReplies = (d : Deployment) (room old new : ℕ) (e : Event) (c b : Core) (m n : Rows) (x : EventReply) → HasKept d c m → EventOn d room old new e c m b n (Ok x) → (t : ℕ) (o : Outcome) → reply_outcome x ≡ Some (t, o) → HasReply d b.book t o

-- .. and one that a root gets by an event is told by it, unless the answer was lost
abbrev pub KeptFirstOutcomes : Type 0
KeptFirstOutcomes = (d : Deployment) (room old new : ℕ) (e : Event) (c b : Core) (m n : Rows) (x : EventReply) → HasKept d c m → EventOn d room old new e c m b n (Ok x) → (is_lost e && is_dropped x) ≡ false
    → (t : ℕ) (o : Outcome) → HasNoReply d c.book t → HasReply d b.book t o → reply_outcome x ≡ Some (t, o)

-- what was made goes on
abbrev pub KeptInstances : Type 0
KeptInstances = (d : Deployment) (room old new : ℕ) (e : Event) (c b : Core) (m n : Rows) (r : Result EventReply AllocError) (p q : PlainState) → HasKept d c m → EventOn d room old new e c m b n r
    → run_of d c.book ≡ Some p → run_of d b.book ≡ Some q → Grows p.made q.made

-- and outcomes stay
abbrev pub KeptOutcomes : Type 0
KeptOutcomes = (d : Deployment) (room old new : ℕ) (e : Event) (c b : Core) (m n : Rows) (r : Result EventReply AllocError) (t : ℕ) (o : Outcome) → HasKept d c m → EventOn d room old new e c m b n r → HasReply d c.book t o → HasReply d b.book t o
