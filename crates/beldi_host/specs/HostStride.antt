-- Turns of a run that walks along an item's rows forward, many at once.
use Rattle.std.specs.Prelude.{◌≡◌, ℕ, zero, suc, false, Option, Some, None, Ok}
use Rattle.beldi_tree.specs.declared.deployment.Deployment.{Deployment}
use Rattle.beldi_row.specs.Table.{Rows, PassesTold}
use Rattle.beldi_step.specs.HostStep.{Core, EventOn, put_run}
use Rattle.beldi_step.specs.declared.{event.Event.TheVariants.Turn, event.EventReply.EventReply, run.Run.Run, run.Walking.Walking}
use Rattle.beldi_core.specs.PlannedEvent.{WalkTold}

-- how a turn is answered that was made, and of which there is no more to tell
abbrev pub just_acted : EventReply
just_acted = EventReply.Acted None None false None

-- a turn of the run i that was answered so: the rows stay, and the run goes on
pub record Strode (d : Deployment) (room faults i : ℕ) (c z : Core) (m : Rows) : Type 0 where
  pub event : EventOn d room faults faults (Turn i) c m z m (Ok just_acted)
  pub run : Run
  pub runs : z.runs ≡ put_run c.runs i (Some run)

-- so many of them, one after another
abbrev pub Strides : Deployment → ℕ → ℕ → ℕ → ℕ → Core → Core → Rows → Type 0
Strides d room faults i zero c z m = z ≡ c
Strides d room faults i (suc n) c z m = (b : Core) × Strode d room faults i c b m × Strides d room faults i n b z m

-- the table tells that the walk of the run i goes on over so many rows, at most this many, and to the row of a number
pub record Passes (c : Core) (i most : ℕ) (x : ℕ × ℕ) (told : Option Rows) : Type 0 where
  pub walk : Walking
  pub walks : WalkTold c i (Some walk)
  pub passes : PassesTold walk.key walk.place most (Some x) told
