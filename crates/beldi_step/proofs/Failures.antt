-- What follows where the table failed.
use Rattle.std.specs.declared.alloc.AllocError.{AllocError}
use Rattle.std.proofs.Common.{◌≡◌, Result, ap}
use Rattle.beldi_step.specs.declared.event.{Event.Event, EventReply.EventReply}
use Rattle.beldi_step.specs.{Failures.FailuresMakeNothing, HostStep.Core}

module _ {b : Core} {r : Result EventReply AllocError} where
  -- the answer, and what is left
  parts : {c : Core} {x : Result EventReply AllocError} → ◌≡◌ {A = Core × Result EventReply AllocError} (b, r) (c, x) → (r ≡ x) × (b ≡ c)
  parts is = (ap (λ (y : Core × Result EventReply AllocError). y.1) is, ap (λ (y : Core × Result EventReply AllocError). y.0) is)

pub make_nothing : FailuresMakeNothing
make_nothing d Event.Ticket c b r is = parts is
make_nothing d (Event.Request t f a) c b r is = parts is
make_nothing d (Event.Turn i) c b r is = parts is
make_nothing d (Event.Lost i) c b r is = parts is
make_nothing d (Event.Crash i) c b r is = parts is
make_nothing d (Event.Restart id f) c b r is = parts is
make_nothing d (Event.Tick n) c b r is = parts is
make_nothing d Event.Ic c b r is = parts is
make_nothing d Event.Halt c b r is = parts is
