-- How the program serves: connections one after another over a host, and the listings after the last one.
use Rattle.std.specs.Prelude.{◌≡◌, ◌≤◌, ◌<◌, ◌⊎◌, ℕ, Bool, true, false, length, List, [], ◌∷◌, ◌++◌, Option, None, Result, Ok, Err}
use Rattle.std.specs.FinMap as map
use Rattle.beldi_tree.specs.declared.deployment.Deployment.{Deployment}
use Rattle.beldi_book.specs.declared.entry.Entry.{Entry}
use Rattle.beldi_row.specs.Table.{Rows}
use Rattle.beldi_step.specs.HostStep.{Core}
use Rattle.beldi_joined.specs.Joined.{joined}
use Rattle.beldi_outside.specs.{Connection.Connections, Outside.IsPrefixOf}
use Rattle.beldi_schedule.specs.Settles.{State}
use Rattle.beldi_session.specs.{HostResponse.Response, HostResponse.responses_text, Script.ListTables, Script.ListBook, Session.IsStep, Session.Leads, declared.session.Stop.Stop}
use Rattle.beldi_serve.specs.{ServedConnections.Exchange, ServedConnections.Same, ServedConnections.ServedAll, ServedConnections.World, ServedConnections.lines_from, ServedConnections.moment_of, ServedConnections.responses_of, declared.connections.ServeErr.ServeErr}
use Rattle.beldi_program.specs.{Hosted.LeadsTo, Hosted.Left, Hosted.opened_at, PlainRun.AreTo, PlainRun.Booked, PlainRun.IsPlainRun, PlainRun.alone, PlainRun.responses_in, declared.program.Ended.Ended}

-- ---- by the ending: the connections that were served, the host's responses after the last of them, and the text
module _ {C : Type 0} (d : Deployment) (requests : ℕ) (link' : Option Connections) (written : List ℕ) (Went : List Exchange → List Response → World C → Type 0) where
  -- so many were served, and the listings follow; the link gave no further one, or did not listen; or it stopped, and a front of the text was
  -- written
  abbrev pub ServedTo : Ended → Type 0
  ServedTo Ended.Done = (xs : List Exchange) × (ys : List Response) × (last : World C) × (length xs ≡ requests) × AreTo ys (ListTables ∷ ListBook ∷ []) [] × (written ≡ lines_from 1 xs ++ responses_text d ys) × Same last.link link' × Went xs ys last
  ServedTo Ended.LinkRefused = (xs : List Exchange) × (last : World C) × ((length xs < requests) ⊎ (xs ≡ [])) × (written ≡ lines_from 1 xs) × Same last.link link' × Went xs [] last
  ServedTo Ended.OutOfMemory = (xs : List Exchange) × (ys : List Response) × (last : World C) × IsPrefixOf written (lines_from 1 xs ++ responses_text d ys) × Went xs ys last
  ServedTo Ended.SinkFault = (xs : List Exchange) × (ys : List Response) × (last : World C) × IsPrefixOf written (lines_from 1 xs ++ responses_text d ys) × Went xs ys last
  ServedTo e = ⊥

module _ {C : Type 0} (tells : C → ℕ → C → Type 0) (d : Deployment) (room : ℕ) (link : Option Connections) (clock : C) (xs : List Exchange) (ys : List Response) (last : World C) where
  -- connections and then responses lead from a state of the host to another, from this link and this clock on
  pub record Course (s t : State) : Type 0 where
    pub listening : Option Connections
    pub listens : Same link listening
    pub served : ServedAll tells d room xs (record { state = s; link = listening; clock = clock }) last
    pub leads : Leads (IsStep d room) ys last.state t

-- a service over the rows m, with the rows n in the end, from this link and this clock on. The host was opened at the clock's first moment.
-- The numbers f and g are the table's count of failures before and after, and `opened` is the count once the host was open. Over no rows
-- it is a run without crashes, and over rows that sessions left it is one with these.
pub record Service {C : Type 0} (tells : C → ℕ → C → Type 0) (d : Deployment) (m n : Rows) (f g : ℕ) (link : Option Connections) (clock : C) (xs : List Exchange) (ys : List Response) (last : World C) : Type 0 where
  pub moment : ℕ
  pub opening : C
  pub told : tells clock moment opening
  pub opened : ℕ
  pub sooner : f ≤ opened
  pub core : Core
  pub course : Course tells d d.room link opening xs ys last (opened_at m (moment_of moment) opened) (record { core = core; rows = n; faults = g })
  pub booked : List Booked
  pub are : responses_in booked ≡ responses_of xs ++ ys
  pub steps : LeadsTo d None booked (opened_at m (moment_of moment) opened) (record { core = core; rows = n; faults = g })
  pub plain : m ≡ map.empty → IsPlainRun d alone None n booked
  pub joins : (base : List Entry) (gone : Option ℕ) → Left d base gone m → IsPlainRun d (joined base) gone n booked

-- ---- how it ends, by what a call answers
abbrev pub served_end : ServeErr → Ended
served_end ServeErr.OutOfMemory = Ended.OutOfMemory
served_end ServeErr.SinkFault = Ended.SinkFault
served_end ServeErr.LinkRefused = Ended.LinkRefused

abbrev pub listed_end : Result (Unit {0}) Stop → Ended
listed_end (Ok u) = Ended.Done
listed_end (Err Stop.OutOfMemory) = Ended.OutOfMemory
listed_end (Err Stop.SinkFault) = Ended.SinkFault

-- the ways of ending once the host was open
abbrev pub is_service_end : Ended → Bool
is_service_end Ended.Done = true
is_service_end Ended.LinkRefused = true
is_service_end Ended.OutOfMemory = true
is_service_end Ended.SinkFault = true
is_service_end e = false
