-- A session: the actions of a script one after another, the responses, and the text that was written.
use Rattle.std.specs.Prelude.{◌≡◌, ◌≤◌, ℕ, Bool, false, List, [], ◌∷◌, ◌++◌, Option, Some, None, Result, Ok, Err, IsErrOf}
use Rattle.std.specs.declared.alloc.AllocError.{AllocError}
use Rattle.beldi_tree.specs.declared.deployment.Deployment.{Deployment}
use Rattle.beldi_book.specs.BookText.{book_text}
use Rattle.beldi_row.specs.{declared.table.Table.Ghosts, Table.Rows, Table.TableState, Table.Rose, Table.row_count}
use Rattle.beldi_step.specs.{declared.event.Event.Event, HostStep.Core, HostStep.EventOn, Prunes.PrunesOn, Next.PassesNoOpen, Next.at_key, Next.next_run, Next.reset, Tables.tables_text}
use Rattle.beldi_host.specs.{declared.host.Host.Host, HostCore.core_of, Survey.reply_status, Survey.is_unknown}
use Rattle.beldi_outside.specs.Outside.{Observed, IsPrefixOf}
use Rattle.beldi_session.specs.HostResponse.{Report, ReplyIs, RowsAre, TablesAre, BookIs, SettledIs, SweptIs, LineRefused, ReplyAlone, Response, Answered, WentBack, WentOn, Reported, BrokeOff, PruneAnswered, PruneBroke, IsTo, AtFirst, responses_text}
use Rattle.beldi_schedule.specs.{declared.machine.Next.Next, declared.machine.Next.TheVariants.Turn, declared.machine.Next.TheVariants.Collect, declared.machine.Next.TheVariants.Reset, declared.machine.Standing.Standing, declared.machine.Standing.TheVariants.Working, Settle.begun, Settle.on_ic_reply, Settle.next_of, Settle.on_turn_reply, Settles.State}
use Rattle.beldi_session.specs.{declared.session.Stop.Stop, declared.session.Stop.TheVariants.OutOfMemory, declared.session.Stop.TheVariants.SinkFault, Script.Action, Script.Settle, Script.sweep_next}

-- ---- one step
-- the host and the rows are as they were
pub record Unchanged (s t : State) : Type 0 where
  pub core : t.core ≡ s.core
  pub rows : t.rows ≡ s.rows
  pub later : s.faults ≤ t.faults

-- a report says what is to be read, or that the table failed where that is not known without a look at the rows
abbrev pub IsReport : Deployment → State → State → Report → Type 0
IsReport d s t (ReplyIs n None) = Rose s.faults t.faults × (is_unknown s.core.newest n ≡ false)
IsReport d s t (ReplyIs n (Some x)) = x ≡ reply_status s.core.newest n s.rows
IsReport d s t (RowsAre n) = n ≡ row_count s.rows
IsReport d s t (TablesAre None) = Rose s.faults t.faults
IsReport d s t (TablesAre (Some lines)) = lines ≡ tables_text d s.rows
IsReport d s t (BookIs lines) = lines ≡ book_text d s.core.book
IsReport d s t (SettledIs r) = Unit {0}
IsReport d s t (SweptIs x) = Unit {0}
IsReport d s t (LineRefused x) = Unit {0}

-- this is the response of an action that leads from s to t: an event, or a turn of a log collector, is one step of the host, also one that is
-- out of memory, and a report changes nothing
abbrev pub IsStep : Deployment → ℕ → State → State → Response → Type 0
IsStep d room s t (Answered share e x) = EventOn d room s.faults t.faults e s.core s.rows t.core t.rows (Ok x) × (s.faults ≤ t.faults)
IsStep d room s t WentBack = t ≡ record s { core = reset s.core }
IsStep d room s t (WentOn k) = PassesNoOpen s.rows s.core.cursor k × (t ≡ record s { core = at_key k s.core })
IsStep d room s t (BrokeOff None) = Unchanged s t
IsStep d room s t (BrokeOff (Some e)) = EventOn d room s.faults t.faults e s.core s.rows t.core t.rows (Err (record {})) × (s.faults ≤ t.faults)
IsStep d room s t (PruneAnswered share k x) = PrunesOn d s.faults t.faults k s.core s.rows t.core t.rows (Ok x) × (s.faults ≤ t.faults)
IsStep d room s t (PruneBroke k) = PrunesOn d s.faults t.faults k s.core s.rows t.core t.rows (Err (record {})) × (s.faults ≤ t.faults)
IsStep d room s t (Reported r) = Unchanged s t × IsReport d s t r

-- ---- one step after another
-- the responses lead from s to t
abbrev pub Leads : (State → State → Response → Type 0) → List Response → State → State → Type 0
Leads Step [] s t = t ≡ s
Leads Step (y ∷ ys) s t = (u : State) × Step s u y × Leads Step ys u t

-- what a settling leaves, by what it does next: its core after that is c
abbrev pub SettlingLeaves : ℕ → Core → Next → Response → List Action → Type 0
SettlingLeaves budget c (Turn s i) (Answered ReplyAlone e x) left = (e ≡ Event.Turn i) × (left ≡ Settle budget (on_turn_reply budget s i x) ∷ [])
SettlingLeaves budget c (Collect s) (Answered ReplyAlone e x) left = (e ≡ Event.Ic) × (left ≡ Settle budget (on_ic_reply budget (next_run c 0) s x) ∷ [])
SettlingLeaves budget c (Reset s) WentBack left = left ≡ Settle budget (Working (begun s)) ∷ []
SettlingLeaves budget c (Collect s) (WentOn k) left = left ≡ Settle budget (Working s) ∷ []
SettlingLeaves budget c (Turn s i) (BrokeOff (Some e)) left = (e ≡ Event.Turn i) × (left ≡ Settle budget (Working s) ∷ [])
SettlingLeaves budget c (Collect s) (BrokeOff (Some e)) left = (e ≡ Event.Ic) × (left ≡ Settle budget (Working s) ∷ [])
SettlingLeaves budget c n y left = ⊥

-- this is a response to the action, from the core c to the core z, and leaves these
abbrev pub Leaves : Action → Core → Core → Response → List Action → Type 0
Leaves (Settle budget (Working s)) c z y left = SettlingLeaves budget z (next_of c s) y left
Leaves a c z y left = IsTo a y left

-- a response to the first of some actions, and what is then left to do
abbrev pub Follows : List Action → Core → Core → Response → List Action → Type 0
Follows actions c z y left = AtFirst (λ a front. Leaves a c z y front) actions left

-- .. and leave these of the actions to do
abbrev pub Steps : (State → State → Response → Type 0) → List Response → List Action → List Action → State → State → Type 0
Steps Step [] actions more s t = (t ≡ s) × (actions ≡ more)
Steps Step (y ∷ ys) actions more s t = (u : State) × (left : List Action) × Step s u y × Follows actions s.core u.core y left × Steps Step ys left more u t

-- the first of these actions were done, but for `more`: the text of their responses came after the text that waited, a front
-- of it was written, and the rest waits
pub record Went (Step : State → State → Response → Type 0) (d : Deployment) (actions more : List Action) (s t : State) (waited written rest : List ℕ) : Type 0 where
  pub responses : List Response
  pub steps : Steps Step responses actions more s t
  pub text : written ++ rest ≡ waited ++ responses_text d responses

-- by what a call answers: the actions were done, but for `left`, and what is not written waits; or it stopped before some
abbrev pub WentBy : {X : Type 0} → Deployment → ℕ → List Action → List Action → State → State → List ℕ → List ℕ → List ℕ → Result X Stop → Type 0
WentBy d room actions left s t waited written waits (Ok x) = Went (IsStep d room) d actions left s t waited written waits
WentBy d room actions left s t waited written waits (Err why) = (more : List Action) × (rest : List ℕ) × Went (IsStep d room) d actions more s t waited written rest

-- ---- calls of the program
-- a sink got this text, where it tells what it got
abbrev pub Writes : Option (List ℕ) → Option (List ℕ) → List ℕ → Type 0
Writes held held' text = Observed held held' (λ h k. k ≡ h ++ text)

-- what waited was written, and the rest of it waits; after a fault a front of it was written
abbrev pub LeftBy : {X E : Type 0} → List ℕ → List ℕ → List ℕ → Result X E → Type 0
LeftBy waited written rest (Ok x) = written ++ rest ≡ waited
LeftBy waited written rest (Err e) = IsPrefixOf written waited

abbrev pub Flushes : {X E : Type 0} → Option (List ℕ) → Option (List ℕ) → List ℕ → List ℕ → Result X E → Type 0
Flushes held held' waited rest r = (written : List ℕ) × Writes held held' written × LeftBy waited written rest r

-- what a call answers after a text was appended
abbrev pub by_text : Result (Unit {0}) AllocError → Result (Unit {0}) Stop
by_text (Ok u) = Ok u
by_text (Err w) = Err OutOfMemory

-- .. and after actions were done, by whether the script is whole
abbrev pub by_done : Bool → Result (Unit {0}) Stop → Result Bool Stop
by_done whole (Ok u) = Ok whole
by_done whole (Err e) = Err e

-- what there is to see between two calls: the host, the text that waits, what the sink got, and its count of faults
pub record Sight : Type 0 where
  pub code : Deployment
  pub core : Core
  pub table : TableState
  pub waiting : List ℕ
  pub held : Option (List ℕ)
  pub faults : ℕ

abbrev pub sight : {T : Type 0} {G : Ghosts T} → Host T G → List ℕ → Option (List ℕ) → ℕ → Sight
sight {T} {G} h waiting held faults = record { code = h.code; core = core_of h; table = G.state h.table; waiting = waiting; held = held; faults = faults }

abbrev pub state_at : Sight → Rows → State
state_at a m = record { core = a.core; rows = m; faults = a.table.faults }

-- a call that does these actions, but for `left`: the text that it wrote, also where the sink does not tell it, and what happened, where
-- the rows are told. The deployment and the room stay, no count falls, and the sink is at fault only where its count rose.
pub record DoesTo {X : Type 0} (actions left : List Action) (a b : Sight) (result : Result X Stop) : Type 0 where
  pub written : List ℕ
  pub sink : Writes a.held b.held written
  pub went : Observed a.table.rows b.table.rows (λ m n. WentBy a.code a.table.room actions left (state_at a m) (state_at b n) a.waiting written b.waiting result)
  pub code : b.code ≡ a.code
  pub room : b.table.room ≡ a.table.room
  pub later : a.table.faults ≤ b.table.faults
  pub sink_later : a.faults ≤ b.faults
  pub fault : IsErrOf result SinkFault → Rose a.faults b.faults

-- .. all of them
abbrev pub Does : {X : Type 0} → List Action → Sight → Sight → Result X Stop → Type 0
Does actions a b result = DoesTo actions [] a b result

-- what is left of a settling that goes on, or is over
abbrev pub left_by : ℕ → Result Standing Stop → List Action
left_by budget (Ok next) = Settle budget next ∷ []
left_by budget (Err why) = []

-- .. and of a sweep after a turn
abbrev pub left_of_sweep : ℕ → ℕ → ℕ → Result Bool Stop → List Action
left_of_sweep k budget n (Ok ended) = sweep_next k budget n ended ∷ []
left_of_sweep k budget n (Err why) = []
