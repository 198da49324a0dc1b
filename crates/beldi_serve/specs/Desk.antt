-- What a desk over a host asks it for a question, and what it says by the host's last response.
use Rattle.std.specs.Prelude.{◌≡◌, ◌≤◌, ◌⊎◌, ℕ, Bool, true, false, List, [], ◌∷◌, ◌++◌, Option, Some, None, Result, Ok, Err}
use Rattle.beldi_value.specs.{declared.value.Value.Value, Value.datum_of}
use Rattle.beldi_tree.specs.declared.deployment.Deployment.{Deployment}
use Rattle.beldi_row.specs.{declared.table.Table.Ghosts, Table.Rows}
use Rattle.beldi_step.specs.declared.event.{Event.Event, EventReply.EventReply}
use Rattle.beldi_host.specs.{declared.host.Host.Host, declared.survey.ReplyStatus.ReplyStatus, HostCore.core_of}
use Rattle.beldi_outside.specs.Outside.{Observed}
use Rattle.beldi_schedule.specs.Settles.{State}
use Rattle.beldi_session.specs.{HostResponse.Response, HostResponse.Answered, HostResponse.Reported, HostResponse.ReplyIs, Script.Action, Script.Call, Script.Carry, Script.TellReply, Session.IsStep, Session.Leads, Session.Steps}
use Rattle.beldi_gateway.specs.{declared.desk.CallReply.CallReply, declared.desk.TicketReply.TicketReply, declared.response.Response.Response as Reply, declared.response.Response.TheVariants.Call as Called, declared.response.Response.TheVariants.Ticket as Ticketed, Exchange.Question, Exchange.ask_call, Exchange.ask_reply, Exchange.ask_ticket}

-- the actions that a question leads to
abbrev pub Asks : Question → List Action → Type 0
Asks ask_ticket fs = fs ≡ Carry Event.Ticket ∷ []
Asks (ask_call t f d) fs = (v : Value) × (datum_of v ≡ d) × (fs ≡ Call t f v ∷ [])
Asks (ask_reply t) fs = fs ≡ TellReply t ∷ []

-- ---- what is said, by the last response; a table that failed is a fault, and so is what cannot come
abbrev pub ticket_said : EventReply → TicketReply
ticket_said (EventReply.Issued t) = TicketReply.Issued t
ticket_said EventReply.NoTicket = TicketReply.NoTicket
ticket_said (EventReply.Full live room) = TicketReply.Full
ticket_said EventReply.Spent = TicketReply.Spent
ticket_said EventReply.Shut = TicketReply.Spent
ticket_said x = TicketReply.Fault

abbrev pub is_replied : EventReply → Bool
is_replied (EventReply.Replied t o) = true
is_replied x = false

abbrev pub request_said : EventReply → CallReply
request_said (EventReply.Replied t o) = CallReply.Reply o
request_said (EventReply.Other t f v) = CallReply.Other
request_said (EventReply.Gone t) = CallReply.Gone
request_said (EventReply.Unknown t) = CallReply.Unknown
request_said EventReply.Crowded = CallReply.Crowded
request_said EventReply.Spent = CallReply.Spent
request_said EventReply.Shut = CallReply.Spent
request_said x = CallReply.Fault

abbrev pub reply_said : Option ReplyStatus → CallReply
reply_said None = CallReply.Fault
reply_said (Some ReplyStatus.Unknown) = CallReply.Unknown
reply_said (Some ReplyStatus.Gone) = CallReply.Gone
reply_said (Some ReplyStatus.Waiting) = CallReply.Running
reply_said (Some (ReplyStatus.Reply o)) = CallReply.Reply o

abbrev pub said_by : Response → Reply
said_by (Answered share Event.Ticket x) = Ticketed (ticket_said x)
said_by (Answered share e x) = Called (request_said x)
said_by (Reported (ReplyIs t x)) = Called (reply_said x)
said_by y = Called CallReply.Fault

abbrev pub IsNoMemory : Reply → Type 0
IsNoMemory x = (x ≡ Ticketed TicketReply.NoMemory) ⊎ (x ≡ Called CallReply.NoMemory)

-- the last of the responses says this
abbrev pub EndsSaying : List Response → Reply → Type 0
EndsSaying ys x = (front : List Response) × (y : Response) × (ys ≡ front ++ y ∷ []) × (x ≡ said_by y)

-- the host's responses to some actions, and what is said by the last of them; or that memory was short
pub record Answers (d : Deployment) (room : ℕ) (ys : List Response) (fs : List Action) (x : Reply) (s t : State) : Type 0 where
  pub more : List Action
  pub steps : Steps (IsStep d room) ys fs more s t
  pub said : IsNoMemory x ⊎ ((more ≡ []) × EndsSaying ys x)

-- .. to a question
pub record Consults (d : Deployment) (room : ℕ) (ys : List Response) (s : State) (q : Question) (x : Reply) (t : State) : Type 0 where
  pub actions : List Action
  pub asks : Asks q actions
  pub answers : Answers d room ys actions x s t

-- ---- between two hosts of one deployment
abbrev pub HostRelation : Type 1
HostRelation = Deployment → ℕ → State → State → Type 0

abbrev pub state_of : {T : Type 0} {G : Ghosts T} → Host T G → Rows → State
state_of {T} {G} h m = record { core = core_of h; rows = m; faults = (G.state h.table).faults }

-- the second one comes of the first: the deployment and the room stay, no count falls, and this is so of the rows, where they are told
pub record Comes {T : Type 0} {G : Ghosts T} (P : HostRelation) (a b : Host T G) : Type 0 where
  pub code : b.code ≡ a.code
  pub room : (G.state b.table).room ≡ (G.state a.table).room
  pub later : (G.state a.table).faults ≤ (G.state b.table).faults
  pub went : Observed (G.state a.table).rows (G.state b.table).rows (λ m n. P a.code (G.state a.table).room (state_of a m) (state_of b n))

-- what a desk says to a question
abbrev pub Replies : Question → Reply → HostRelation
Replies q x d room s t = (ys : List Response) × Consults d room ys s q x t

abbrev pub AnswersTo : List Action → Reply → HostRelation
AnswersTo fs x d room s t = (ys : List Response) × Answers d room ys fs x s t

-- actions were done, or memory was short
abbrev pub Passed : {X E : Type 0} → List Action → Result X E → HostRelation
Passed fs (Ok x) d room s t = (ys : List Response) × Steps (IsStep d room) ys fs [] s t
Passed fs (Err e) d room s t = (ys : List Response) × Leads (IsStep d room) ys s t
