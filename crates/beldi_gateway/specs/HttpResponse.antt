-- The responses: their status, their body and their bytes.
use Rattle.std.specs.Prelude.{ℕ, List, [], ◌++◌, length, decimal, codes, unwrap_or}
use Rattle.http.specs.StatusCode.{reason_phrase}
use Rattle.beldi_value.specs.{declared.outcome.Outcome.Outcome, declared.outcome.Outcome.TheVariants.Value as Gives, declared.outcome.Outcome.TheVariants.Fault as Faulted, declared.outcome.Outcome.TheVariants.Aborted, Json.text_of, ValueText.code_text, Value.datum_of}
use Rattle.beldi_gateway.specs.{declared.desk.CallReply.CallReply, declared.desk.TicketReply.TicketReply, declared.response.Refusal.Refusal, declared.response.Response.Response, declared.response.Response.TheVariants.Refused, declared.response.Response.TheVariants.Ticket, declared.response.Response.TheVariants.Call, Route.method_of}

-- the status and the body of a response
pub record Rendered : Type 0 where
  pub status : ℕ
  pub body : List ℕ

abbrev pub error_text : List ℕ → List ℕ
error_text name = codes "{\"error\":\"" ++ name ++ codes "\"}"

abbrev pub errs : ℕ → List ℕ → Rendered
errs status name = record { status = status; body = error_text name }

abbrev pub rendered_refusal : Refusal → Rendered
rendered_refusal Refusal.HeadSize = errs 431 (codes "head-size")
rendered_refusal Refusal.Cut = errs 400 (codes "cut")
rendered_refusal Refusal.Head = errs 400 (codes "head")
rendered_refusal Refusal.Path = errs 404 (codes "path")
rendered_refusal (Refusal.Method e) = errs 405 (codes "method")
rendered_refusal Refusal.Coding = errs 400 (codes "coding")
rendered_refusal Refusal.Length = errs 400 (codes "length")
rendered_refusal Refusal.Size = errs 413 (codes "size")
rendered_refusal Refusal.Ticket = errs 404 (codes "ticket")
rendered_refusal Refusal.Function = errs 404 (codes "function")
rendered_refusal Refusal.Value = errs 400 (codes "value")

abbrev pub rendered_ticket : TicketReply → Rendered
rendered_ticket (TicketReply.Issued n) = record { status = 200; body = codes "{\"ticket\":" ++ decimal n ++ codes "}" }
rendered_ticket TicketReply.NoTicket = errs 503 (codes "tickets")
rendered_ticket TicketReply.Full = errs 503 (codes "full")
rendered_ticket TicketReply.Fault = errs 503 (codes "fault")
rendered_ticket TicketReply.Spent = errs 503 (codes "spent")
rendered_ticket TicketReply.NoMemory = errs 500 (codes "memory")

-- a root is never aborted
abbrev pub outcome_body : Outcome → List ℕ
outcome_body (Gives v) = codes "{\"value\":" ++ text_of (datum_of v) ++ codes "}"
outcome_body (Faulted c) = codes "{\"fault\":\"" ++ code_text c ++ codes "\"}"
outcome_body (Aborted c) = codes "{\"fault\":\"aborted\"}"

abbrev pub rendered_call : CallReply → Rendered
rendered_call (CallReply.Reply o) = record { status = 200; body = outcome_body o }
rendered_call CallReply.Running = record { status = 202; body = codes "{\"running\":true}" }
rendered_call CallReply.Other = errs 409 (codes "other")
rendered_call CallReply.Gone = errs 410 (codes "gone")
rendered_call CallReply.Unknown = errs 404 (codes "ticket")
rendered_call CallReply.Fault = errs 503 (codes "fault")
rendered_call CallReply.Crowded = errs 503 (codes "crowded")
rendered_call CallReply.Spent = errs 503 (codes "spent")
rendered_call CallReply.NoMemory = errs 500 (codes "memory")

abbrev pub rendered : Response → Rendered
rendered (Refused r) = rendered_refusal r
rendered (Ticket t) = rendered_ticket t
rendered (Call c) = rendered_call c

abbrev pub status_of : Response → ℕ
status_of r = (rendered r).status

abbrev pub body_of : Response → List ℕ
body_of r = (rendered r).body

-- where another method was used, the field that names the one of the route
abbrev pub allow_text : Response → List ℕ
allow_text (Refused (Refusal.Method e)) = codes "Allow: " ++ method_of e ++ codes "\r\n"
allow_text r = []

abbrev pub phrase_of : ℕ → List ℕ
phrase_of status = unwrap_or (reason_phrase status) []

abbrev pub status_text : ℕ → List ℕ
status_text status = codes "HTTP/1.1 " ++ decimal status ++ codes " "

abbrev pub length_text : ℕ → List ℕ
length_text n = codes "Content-Length: " ++ decimal n ++ codes "\r\nConnection: close\r\n\r\n"

-- the bytes of a response with this status, these further fields and this body
unfoldable pub composed : ℕ → List ℕ → List ℕ → List ℕ
composed status allow body =
    ((((status_text status ++ phrase_of status) ++ codes "\r\nContent-Type: application/json\r\n") ++ allow) ++ length_text (length body)) ++ body

abbrev pub response_bytes : Response → List ℕ
response_bytes r = composed (status_of r) (allow_text r) (body_of r)
