-- What follows where the table failed in an event.
use Rattle.std.specs.Prelude.{◌≡◌, Result, Ok, Err}
use Rattle.std.specs.declared.alloc.AllocError.{AllocError}
use Rattle.beldi_tree.specs.declared.deployment.Deployment.{Deployment}
use Rattle.beldi_row.specs.declared.table.TableErr.{TableErr}
use Rattle.beldi_step.specs.{declared.event.Event.Event, declared.event.Event.TheVariants.Turn, declared.event.Event.TheVariants.Lost, declared.event.EventReply.EventReply, declared.event.EventReply.TheVariants.Dropped, HostStep.Core, HostStep.Followed, HostStep.ended_run}

-- the run that would have made an act is over; all else is as before
abbrev pub without_actor : Event → Core → Core
without_actor (Turn i) c = ended_run c i
without_actor (Lost i) c = ended_run c i
without_actor e c = c

-- a query that the table failed is answered as dropped, whatever it asked: no turn is made, no entry, and no run is started
abbrev pub FailuresMakeNothing : Type 0
FailuresMakeNothing = (d : Deployment) (e : Event) (c b : Core) (r : Result EventReply AllocError) → Followed d e c (Err TableErr.Failed) b r → (r ≡ Ok Dropped) × (b ≡ without_actor e c)
