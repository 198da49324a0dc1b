-- No event adds a row where there is no room for one, or takes rows away.
use Rattle.std.specs.declared.alloc.AllocError.{AllocError}
use Rattle.std.proofs.Common.{ℕ, Result}
use Rattle.beldi_tree.specs.declared.deployment.Deployment.{Deployment}
use Rattle.beldi_row.specs.Table.{Rows}
use Rattle.beldi_step.specs.{HostStep.Core, HostStep.EventOn, declared.event.Event.Event, declared.event.EventReply.EventReply}
use Rattle.beldi_bound.proofs.BoundTurns.{FullStays}
use Rattle.beldi_bound.proofs.{Going.full_stays, Going.room_stays}

-- an event adds no row where there is no room for one
abbrev pub EventsStayFull : Type 0
EventsStayFull = (d : Deployment) (room old new : ℕ) (e : Event) (c b : Core) (m n : Rows) (r : Result EventReply AllocError) → EventOn d room old new e c m b n r → FullStays room m n

pub events_stay_full : EventsStayFull
events_stay_full d room old new e c b m n r s full = (full_stays d room old new e c b m n r s full, room_stays d room old new e c b m n r s full)
