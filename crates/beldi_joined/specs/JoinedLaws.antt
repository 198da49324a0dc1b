-- What holds of sessions one after another.
use Rattle.std.specs.Prelude.{◌≡◌, ◌≤◌, ℕ, List, Result}
use Rattle.std.specs.declared.alloc.AllocError.{AllocError}
use Rattle.beldi_tree.specs.declared.deployment.Deployment.{Deployment}
use Rattle.beldi_book.specs.{declared.entry.Entry.Entry, LinearOrder.count_changes}
use Rattle.beldi_row.specs.Table.{Rows}
use Rattle.beldi_step.specs.{declared.event.Event.Event, declared.event.Pruned.Pruned, declared.event.EventReply.EventReply, HostStep.Core, HostStep.EventOn, HostStep.last_moment, HostStep.newest_of, Prunes.PrunesOn}
use Rattle.beldi_invariant.specs.Invariant.{Invariant}
use Rattle.beldi_upkeep.specs.Upkeep.{Upkeep}
use Rattle.beldi_kept.specs.{KeptRows.HasKept, Safe.IsSafe}
use Rattle.beldi_schedule.specs.{Settle.first_at, Settle.go_on, Settles.Settles, Settles.State, declared.machine.Settled.Settled, declared.machine.Standing.TheVariants.Over}
use Rattle.beldi_bound.specs.Ends.{Promises, Sound}
use Rattle.beldi_host.specs.Survey.{opened_core}
use Rattle.beldi_joined.specs.Joined.{behind, raised_answer, reopened, with_joined}

-- where the invariant holds of a host and its rows, so it does of a host of the same book that is opened over them, at any moment
abbrev pub ReopenedHasInvariant : Type 0
ReopenedHasInvariant = (d : Deployment) (c : Core) (m : Rows) (now : ℕ) → Invariant d c m → Invariant d (reopened c.newest c.book now) m

-- .. with all that every event keeps beside
abbrev pub ReopenedIsUpkept : Type 0
ReopenedIsUpkept = (d : Deployment) (c : Core) (m : Rows) (now : ℕ) → Upkeep d c m → Upkeep d (reopened c.newest c.book now) m

-- so is one that is opened over them knowing nothing of that book, behind it
abbrev pub OpenedIsUpkept : Type 0
OpenedIsUpkept = (d : Deployment) (c : Core) (m : Rows) (now : ℕ) → Upkeep d c m → Upkeep d (behind c.book (opened_core m now)) m

-- .. also over rows of which some are gone: the same ones are gone then, and its log collectors are about to remove none
abbrev pub OpenedIsSafe : Type 0
OpenedIsSafe = (d : Deployment) (c : Core) (m : Rows) (now : ℕ) (h : HasKept d c m) → (g : IsSafe d (behind c.book (opened_core m now)) m) × (g.has.latest ≡ h.latest)

-- .. and stays so by every event, behind the same book
abbrev pub StaysUpkeptBehind : Type 0
StaysUpkeptBehind = (d : Deployment) (base : List Entry) (room old new : ℕ) (e : Event) (c b : Core) (m n : Rows) (r : Result EventReply AllocError) → Upkeep d (behind base c) m → EventOn d room old new e c m b n r → Upkeep d (behind base b) n

-- where they have the invariant, the newest ticket is the greatest that a key names
abbrev pub NewestIsInTheRows : Type 0
NewestIsInTheRows = (d : Deployment) (c : Core) (m : Rows) → Invariant d c m → newest_of m ≡ c.newest

-- what an event does, it does behind the book of earlier sessions as well
abbrev pub StepsOverLongerBook : Type 0
StepsOverLongerBook = (d : Deployment) (base : List Entry) (room old new : ℕ) (e : Event) (c b : Core) (m n : Rows) (r : Result EventReply AllocError) → EventOn d room old new e c m b n r
    → EventOn d room old new e (behind base c) m (behind base b) n (raised_answer (count_changes base) r)

-- .. and so does a turn of a log collector
abbrev pub PrunesOverLongerBook : Type 0
PrunesOverLongerBook = (d : Deployment) (base : List Entry) (old new k : ℕ) (c b : Core) (m n : Rows) (r : Result Pruned AllocError) → PrunesOn d old new k c m b n r → PrunesOn d old new k (behind base c) m (behind base b) n r

-- a settling after other sessions keeps its promises, by the book of them all
abbrev pub SettlesAsPromisedAfter : Type 0
SettlesAsPromisedAfter = (d : Deployment) (base : List Entry) (room budget : ℕ) (s t : State) (x : Settled) → Sound d (behind base s.core) s.rows → s.core.now ≤ last_moment → Settles d room budget (go_on budget first_at) s (Over x) t
    → Promises d budget (with_joined base s) (with_joined base t) x
