-- Connections that are served, one after another: what came on each link and went, how the host moved, and the line of each.
use Rattle.std.specs.Prelude.{◌≡◌, ◌≤◌, ◌<◌, ◌+◌, ◌-◌, min, nat_lt, ℕ, length, List, [], ◌∷◌, ◌++◌, flat_map, Option, Result, Ok, Err, codes, if◌then◌else◌}
use Rattle.std.specs.Fmt.{decimal}
use Rattle.std.specs.declared.alloc.AllocError.{AllocError}
use Rattle.beldi_tree.specs.declared.deployment.Deployment.{Deployment}
use Rattle.beldi_check.specs.Rules.{number_of}
use Rattle.beldi_row.specs.{declared.table.Table.Ghosts, Table.Rows, Table.TableState}
use Rattle.beldi_step.specs.{declared.event.Event.Event, HostStep.Core, HostStep.last_moment}
use Rattle.beldi_host.specs.{declared.host.Host.Host, HostCore.core_of}
use Rattle.beldi_outside.specs.{Connection.AcceptOn, Connection.Connections, Connection.closed, Outside.IsPrefixOf, Outside.Rose, Outside.Observed}
use Rattle.beldi_schedule.specs.Settles.{State}
use Rattle.beldi_session.specs.{HostResponse.Response, Script.Action, Script.Carry, Script.sweep_at, Session.IsStep, Session.Leads, Session.Steps, Session.Writes}
use Rattle.beldi_gateway.specs.{declared.serve.Served.Served as Ended, declared.serve.Served.TheVariants.Status, declared.serve.Served.TheVariants.Silent, declared.serve.Served.TheVariants.Fault, Serve.Serves}
use Rattle.beldi_serve.specs.{Desk.Consults, Desk.Passed, Desk.HostRelation, declared.connections.ServeErr.ServeErr, declared.connections.ServeErr.TheVariants.OutOfMemory, declared.connections.ServeErr.TheVariants.SinkFault, declared.connections.ServeErr.TheVariants.LinkRefused}

-- how the exchange of a connection ended, and the host's responses
pub record Exchange : Type 0 where
  pub ended : Ended
  pub responses : List Response

abbrev pub ended_so : Ended → Result Ended AllocError
ended_so x = Ok x

-- ---- the line of a connection
abbrev pub ended_text : Ended → List ℕ
ended_text (Status n) = decimal n
ended_text Silent = codes "none"
ended_text Fault = codes "fault"

abbrev pub line_of : ℕ → Ended → List ℕ
line_of n x = codes "conn " ++ (decimal n ++ (codes " " ++ (ended_text x ++ codes "\n")))

-- the lines of connections that are numbered from n on
abbrev pub lines_from : ℕ → List Exchange → List ℕ
lines_from n [] = []
lines_from n (x ∷ xs) = line_of n x.ended ++ lines_from (n + 1) xs

abbrev pub responses_of : List Exchange → List Response
responses_of xs = flat_map (λ (x : Exchange). x.responses) xs

-- ---- time passes up to a moment, which counts up to the last one
abbrev pub moment_of : ℕ → ℕ
moment_of m = min m last_moment

abbrev pub tick_to : ℕ → ℕ → List Action
tick_to now m = if nat_lt now (moment_of m) then Carry (Event.Tick (moment_of m - now)) ∷ [] else []

-- ---- the sweep of the first log collector that follows a connection
abbrev pub pruning : List Action
pruning = sweep_at 0 256 0 ∷ []

-- ---- the host, the link by what it tells, and the clock
pub record World (C : Type 0) : Type 0 where
  pub state : State
  pub link : Option Connections
  pub clock : C

-- nothing happened, and the link tells what it told
abbrev pub Same : {A : Type 0} → Option A → Option A → Type 0
Same a b = Observed a b (λ x y. y ≡ x)

abbrev pub Stays : {C : Type 0} → World C → World C → Type 0
Stays v w = (w.state ≡ v.state) × Same v.link w.link × (w.clock ≡ v.clock)

-- a clock is seen by what it may tell: itself before, the moment, and itself after
module _ {C : Type 0} (tells : C → ℕ → C → Type 0) (d : Deployment) (room : ℕ) where
  -- one connection, from its opening to its end, and what follows: time passes up to the clock, there is one exchange over the open
  -- connection, and once it is closed the log collector has its turns
  pub record Served (v w : World C) (x : Exchange) : Type 0 where
    pub opened : Option Connections
    pub accepted : Observed v.link opened (AcceptOn (Ok (record {})))
    pub moment : ℕ
    pub told : tells v.clock moment w.clock
    pub ticks : List Response
    pub mid : State
    pub ticked : Steps (IsStep d room) ticks (tick_to v.state.core.now moment) [] v.state mid
    pub asked : List Response
    pub late : State
    pub leads : Leads (IsStep d room) asked mid late
    pub ended : Option Connections
    pub exchange : Serves (number_of d.funcs) (Consults d room asked) mid late opened ended (ended_so x.ended)
    pub closes : Observed ended w.link (λ s t. t ≡ closed s)
    pub pruned : List Response
    pub prunes : Steps (IsStep d room) pruned pruning [] late w.state
    pub responses : x.responses ≡ ticks ++ (asked ++ pruned)

  -- one after another
  abbrev pub ServedAll : List Exchange → World C → World C → Type 0
  ServedAll [] v w = w ≡ v
  ServedAll (x ∷ xs) v w = (u : World C) × Served v u x × ServedAll xs u w

  -- ---- by what a call answers; out of memory the host made a part of what it was to make
  abbrev pub ConnectsBy : World C → World C → Result Ended ServeErr → Type 0
  ConnectsBy v w (Ok x) = (responses : List Response) × Served v w (record { ended = x; responses = responses })
  ConnectsBy v w (Err OutOfMemory) = (ys : List Response) × Leads (IsStep d room) ys v.state w.state
  ConnectsBy v w (Err LinkRefused) = Stays v w
  ConnectsBy v w (Err SinkFault) = ⊥

  -- so many connections are served, and the line of each is written; where it ends before, some were
  abbrev pub ServesBy : {X : Type 0} → ℕ → List ℕ → World C → World C → Result X ServeErr → Type 0
  ServesBy requests written v w (Ok u) = (xs : List Exchange) × (length xs ≡ requests) × (written ≡ lines_from 1 xs) × ServedAll xs v w
  ServesBy requests written v w (Err OutOfMemory) = (xs : List Exchange) × (ys : List Response) × (u : World C) × (written ≡ lines_from 1 xs) × ServedAll xs v u × Leads (IsStep d room) ys u.state w.state
  ServesBy requests written v w (Err LinkRefused) = (xs : List Exchange) × (u : World C) × (length xs < requests) × (written ≡ lines_from 1 xs) × ServedAll xs v u × Stays u w
  ServesBy requests written v w (Err SinkFault) = (xs : List Exchange) × IsPrefixOf written (lines_from 1 xs) × ServedAll xs v w

-- ---- the host, the link and the clock as they are seen between two calls
pub record Sight (C : Type 0) : Type 0 where
  pub code : Deployment
  pub core : Core
  pub table : TableState
  pub link : Option Connections
  pub clock : C

abbrev pub sight : {T : Type 0} {G : Ghosts T} {C : Type 0} → Host T G → Option Connections → C → Sight C
sight {T} {G} h link clock = record { code = h.code; core = core_of h; table = G.state h.table; link = link; clock = clock }

abbrev pub world_at : {C : Type 0} → Sight C → Rows → World C
world_at a m = record { state = record { core = a.core; rows = m; faults = a.table.faults }; link = a.link; clock = a.clock }

-- from one sight to another: the deployment and the room stay, no count falls, and this is so of the rows, where they are told
pub record Passes {C : Type 0} (P : Deployment → ℕ → World C → World C → Type 0) (a b : Sight C) : Type 0 where
  pub code : b.code ≡ a.code
  pub room : b.table.room ≡ a.table.room
  pub later : a.table.faults ≤ b.table.faults
  pub went : Observed a.table.rows b.table.rows (λ m n. P a.code a.table.room (world_at a m) (world_at b n))

-- time passes up to a moment
abbrev pub Ticks : {X E : Type 0} → ℕ → Result X E → HostRelation
Ticks m r d room s t = Passed (tick_to s.core.now m) r d room s t

-- a line was written, or a front of it where the sink failed, or nothing where memory was short
abbrev pub LineBy : {X : Type 0} → List ℕ → List ℕ → Result X ServeErr → Type 0
LineBy line written (Ok u) = written ≡ line
LineBy line written (Err OutOfMemory) = written ≡ []
LineBy line written (Err SinkFault) = IsPrefixOf written line
LineBy line written (Err LinkRefused) = ⊥

pub record WroteLine {X : Type 0} (held held' : Option (List ℕ)) (faults faults' : ℕ) (line : List ℕ) (result : Result X ServeErr) : Type 0 where
  pub written : List ℕ
  pub sink : Writes held held' written
  pub line_by : LineBy line written result
  pub later : faults ≤ faults'
  pub fault : result ≡ Err SinkFault → Rose faults faults'

-- so many connections were served, and this was written
pub record Serving {X C : Type 0} (tells : C → ℕ → C → Type 0) (requests : ℕ) (a b : Sight C) (held held' : Option (List ℕ)) (result : Result X ServeErr) : Type 0 where
  pub written : List ℕ
  pub sink : Writes held held' written
  pub passes : Passes (λ d room v w. ServesBy tells d room requests written v w result) a b
