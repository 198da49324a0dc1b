-- What the bytes of a connection come to: a refusal, or a question for the desk.
use Rattle.std.specs.Prelude.{◌≡◌, ℕ, ◌≤◌, ◌⊎◌, ◌^◌, ◌-◌, nat_le, Bool, true, false, List, [], ◌∷◌, length, take, drop, map, bytes_eq, Option, Some, None, Result, Ok, Err, if◌then◌else◌}
use Rattle.httparse.specs.{Grammar.RequestHead, Grammar.ReadsRequest, Spans.IsWithin, Spans.span_bytes, Spans.name_and_value}
use Rattle.beldi_value.specs.{Datum.Datum, Datum.null, Number.numeral_at, ValueReading.read_of, declared.read.ValueErr.ValueErr}
use Rattle.beldi_gateway.specs.{declared.scan.Scan.Scan, declared.framing.Framing.Framing, declared.framing.Length.Length, declared.framing.Length.TheVariants.Absent, declared.framing.Length.TheVariants.Given, declared.framing.Length.TheVariants.Bad, declared.plan.Parts.Parts, declared.plan.Plan.Plan, declared.plan.Want.Want, declared.route.Endpoint.Endpoint, declared.route.Endpoint.TheVariants.Tickets, declared.route.Endpoint.TheVariants.Call, declared.route.Endpoint.TheVariants.Reply, declared.response.Refusal.Refusal, Framing.framed_by, Framing.plain, Route.endpoint_at, Route.path_of, Route.method_of, Route.function_part, Route.ticket_part, Scan.start, Scan.scan_on}

-- what a desk is asked: for a ticket, to call a function with a ticket, for the reply to a ticket
pub data Question : Type 0 where
  ask_ticket : Question
  ask_call : ℕ → ℕ → Datum → Question
  ask_reply : ℕ → Question

-- the bytes are, whole, a request head with at most 64 fields
pub record IsHead (head : List ℕ) (h : RequestHead) : Type 0 where
  pub reads : ReadsRequest head h []
  pub few : length h.fields ≤ 64

-- the length of the body: no Transfer-Encoding, and at most 65,536 bytes
abbrev pub sized : Length → Result ℕ Refusal
sized Absent = Ok 0
sized Bad = Err Refusal.Length
sized (Given n) = if nat_le n 65536 then Ok n else Err Refusal.Size

abbrev pub size_of : Framing → Result ℕ Refusal
size_of f = if f.coded then Err Refusal.Coding else sized f.length

abbrev pub with_size : Endpoint → Result ℕ Refusal → Result Want Refusal
with_size e (Ok n) = Ok (record { endpoint = e; size = n })
with_size e (Err r) = Err r

abbrev pub want_at : Endpoint → List ℕ → Framing → Result Want Refusal
want_at e method f = if bytes_eq method (method_of e) then with_size e (size_of f) else Err (Refusal.Method e)

abbrev pub want_found : Option Endpoint → List ℕ → Framing → Result Want Refusal
want_found None method f = Err Refusal.Path
want_found (Some e) method f = want_at e method f

-- what a request with this method, this target and these fields wants: first the path, then the method, then the fields
abbrev pub wanted : List ℕ → List ℕ → Framing → Result Want Refusal
wanted method target f = want_found (endpoint_at (path_of target)) method f

abbrev pub framing_in : RequestHead → Framing
framing_in h = framed_by plain (map name_and_value h.fields)

abbrev pub wanted_by : RequestHead → Result Want Refusal
wanted_by h = wanted h.method h.target (framing_in h)

abbrev pub value_of : Result Datum ValueErr → Option Datum
value_of (Ok d) = Some d
value_of (Err e) = None

-- no body is null
abbrev pub args_at : List ℕ → Option Datum
args_at [] = Some null
args_at (b ∷ bs) = value_of (read_of (b ∷ bs))

abbrev pub ticket_at : List ℕ → Option ℕ
ticket_at part = numeral_at (2 ^ 32 - 1) part

abbrev pub reply_question : Option ℕ → Result Question Refusal
reply_question None = Err Refusal.Ticket
reply_question (Some t) = Ok (ask_reply t)

-- the ticket, then the function, then the value
abbrev pub call_question : Option ℕ → Option ℕ → Option Datum → Result Question Refusal
call_question None f d = Err Refusal.Ticket
call_question (Some t) None d = Err Refusal.Function
call_question (Some t) (Some f) None = Err Refusal.Value
call_question (Some t) (Some f) (Some d) = Ok (ask_call t f d)

abbrev pub question_of : (List ℕ → Option ℕ) → Endpoint → List ℕ → List ℕ → Result Question Refusal
question_of funcs Tickets path body = Ok ask_ticket
question_of funcs Call path body = call_question (ticket_at (ticket_part Call path)) (funcs (function_part path)) (args_at body)
question_of funcs Reply path body = reply_question (ticket_at (ticket_part Reply path))

-- the body is what comes after the head, as long as it is to be
abbrev pub with_body : (List ℕ → Option ℕ) → Want → List ℕ → List ℕ → Result Question Refusal
with_body funcs w path rest = if nat_le w.size (length rest) then question_of funcs w.endpoint path (take w.size rest) else Err Refusal.Cut

abbrev pub after_head : (List ℕ → Option ℕ) → Result Want Refusal → List ℕ → List ℕ → Result Question Refusal
after_head funcs (Err r) path rest = Err r
after_head funcs (Ok w) path rest = with_body funcs w path rest

-- what a head and the bytes after it come to
abbrev pub HeadComes : (List ℕ → Option ℕ) → List ℕ → List ℕ → Result Question Refusal → Type 0
HeadComes funcs head rest e =
    ((h : RequestHead) × IsHead head h × (e ≡ after_head funcs (wanted_by h) (path_of h.target) rest))
    ⊎ (((h : RequestHead) → ¬ (IsHead head h)) × (e ≡ Err Refusal.Head))

abbrev pub FewLines : (List ℕ → Option ℕ) → Bool → List ℕ → List ℕ → Result Question Refusal → Type 0
FewLines funcs true head rest e = HeadComes funcs head rest e
FewLines funcs false head rest e = e ≡ Err Refusal.HeadSize

-- the end of a head came within 16,384 bytes, or not
abbrev pub HeadEnds : (List ℕ → Option ℕ) → Bool → Scan → List ℕ → Result Question Refusal → Type 0
HeadEnds funcs true s bytes e = FewLines funcs (nat_le s.lines 65) (take s.size bytes) (drop s.size bytes) e
HeadEnds funcs false s bytes e = e ≡ (if nat_le 16384 (length bytes) then Err Refusal.HeadSize else Err Refusal.Cut)

-- what the bytes of a connection come to
abbrev pub Exchanges : (List ℕ → Option ℕ) → List ℕ → Result Question Refusal → Type 0
Exchanges funcs bytes e = HeadEnds funcs (if nat_le (scan_on start bytes).size 16384 then (scan_on start bytes).over else false) (scan_on start bytes) bytes e

-- the parts are those of the head
pub record AreParts (head : List ℕ) (p : Parts) (h : RequestHead) : Type 0 where
  pub method_in : IsWithin (length head) p.method
  pub target_in : IsWithin (length head) p.target
  pub method : span_bytes head p.method ≡ h.method
  pub target : span_bytes head p.target ≡ h.target
  pub framing : p.framing ≡ framing_in h

-- the parts of a head, or that the bytes are none
abbrev pub HeadAt : List ℕ → Option Parts → Type 0
HeadAt head None = (h : RequestHead) → ¬ (IsHead head h)
HeadAt head (Some p) = (h : RequestHead) × IsHead head h × AreParts head p h

-- a plan is what a head wants, and where its target is
abbrev pub PlansHead : List ℕ → Result Plan Refusal → Type 0
PlansHead head (Ok p) = (h : RequestHead) × IsHead head h × IsWithin (length head) p.target × (span_bytes head p.target ≡ h.target) × (wanted_by h ≡ Ok p.want)
PlansHead head (Err r) = ((h : RequestHead) × IsHead head h × (wanted_by h ≡ Err r)) ⊎ (((h : RequestHead) → ¬ (IsHead head h)) × (r ≡ Refusal.Head))

abbrev pub PlanLines : Bool → List ℕ → Result Plan Refusal → Type 0
PlanLines true head p = PlansHead head p
PlanLines false head p = p ≡ Err Refusal.HeadSize

abbrev pub PlanOver : Bool → Scan → List ℕ → Result Plan Refusal → Type 0
PlanOver true s bytes p = PlanLines (nat_le s.lines 65) (take s.size bytes) p
PlanOver false s bytes p = p ≡ (if nat_le 16384 (length bytes) then Err Refusal.HeadSize else Err Refusal.Cut)

-- the plan of the bytes that were gathered
abbrev pub PlanAt : Scan → List ℕ → Result Plan Refusal → Type 0
PlanAt s bytes p = PlanOver s.over s bytes p
