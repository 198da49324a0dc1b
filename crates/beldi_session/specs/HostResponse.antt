-- What the program says of each action of a script, and its text.
use Rattle.std.specs.Prelude.{◌≡◌, ℕ, Bool, true, false, List, [], ◌∷◌, ◌++◌, flat_map, Option, Some, None, codes, if◌then◌else◌}
use Rattle.beldi_tree.specs.declared.deployment.Deployment.{Deployment}
use Rattle.beldi_row.specs.Key.{RowKey}
use Rattle.beldi_step.specs.declared.event.{Event.Event, Pruned.Pruned, EventReply.EventReply}
use Rattle.beldi_host.specs.declared.survey.ReplyStatus.{ReplyStatus}
use Rattle.beldi_session.specs.Script.{Action, Carry, Call, Settle, Prune, Sweep, TellSwept, on_sweep_reply, TellReply, CountRows, ListTables, ListBook, Refuse}
use Rattle.beldi_schedule.specs.{Settle.first_at, Settle.go_on, declared.machine.Settled.Settled, declared.machine.Standing.Standing, declared.machine.Standing.TheVariants.Working, declared.machine.Standing.TheVariants.Over}
use Rattle.beldi_session.specs.{declared.refusal.Refusal.Refusal, declared.sweeping.Swept.Swept, Answer.answer_text, Answer.numbered, Answer.outcome_line, Answer.pruned_text, Answer.reply_told, Answer.ticket_line, Refusal.refusal_text, Settled.settled_text, Settled.swept_text}

-- what is said without an event: what a ticket's run gave; how many rows there are; the lines of a listing of the tables, or of
-- the book; how a settling or a sweep ended; why a line is refused. None where the table failed as a ticket's row, or all rows, were to be read.
pub data Report : Type 0 where
  ReplyIs : ℕ → Option ReplyStatus → Report
  RowsAre : ℕ → Report
  TablesAre : Option (List ℕ) → Report
  BookIs : List ℕ → Report
  SettledIs : Settled → Report
  SweptIs : Swept → Report
  LineRefused : Refusal → Report

-- how much is told of an answer: all of it, or, inside a settling or a sweep, the reply alone that a turn of a run gives
pub data Share : Type 0 where
  Whole : Share
  ReplyAlone : Share

-- how an event was answered; a settling set the intent collector before all rows, or to a key, past rows that are of no open intent; a
-- report; memory was short: in an event, or as something was to be told; how a turn of the log collector of this number was answered; or
-- memory was short in one
pub data Response : Type 0 where
  Answered : Share → Event → EventReply → Response
  WentBack : Response
  WentOn : RowKey → Response
  Reported : Report → Response
  BrokeOff : Option Event → Response
  PruneAnswered : Share → ℕ → Pruned → Response
  PruneBroke : ℕ → Response

-- ---- the actions that a response leaves to do, in place of the one that it is to
-- the events of a settling
abbrev pub is_turn : Event → Bool
is_turn (Event.Turn i) = true
is_turn Event.Ic = true
is_turn e = false

-- a settling that goes on leaves itself, as it stands then
abbrev pub IsToSettling : ℕ → Response → List Action → Type 0
IsToSettling budget (Answered ReplyAlone e x) left = (is_turn e ≡ true) × (s : Standing) × (left ≡ Settle budget s ∷ [])
IsToSettling budget WentBack left = (s : Standing) × (left ≡ Settle budget s ∷ [])
IsToSettling budget (WentOn k) left = (s : Standing) × (left ≡ Settle budget s ∷ [])
IsToSettling budget (BrokeOff (Some e)) left = (is_turn e ≡ true) × (s : Standing) × (left ≡ Settle budget s ∷ [])
IsToSettling budget y left = ⊥

-- a call goes on where its intent is bound, or was: the host settles, and the reply is told
abbrev pub goes_on : EventReply → Bool
goes_on (EventReply.Bound t i) = true
goes_on (EventReply.Running t) = true
goes_on x = false

-- the turns that a call is given at most
abbrev pub patience : ℕ
patience = 10000

abbrev pub after_request : ℕ → EventReply → List Action
after_request t x = if goes_on x then Settle patience (go_on patience first_at) ∷ TellReply t ∷ [] else []

-- this is a response to the action, and leaves these; what broke off leaves the action
abbrev pub IsTo : Action → Response → List Action → Type 0
IsTo (Carry e) (Answered Whole f x) left = (f ≡ e) × (left ≡ [])
IsTo (Carry e) (BrokeOff (Some f)) left = (f ≡ e) × (left ≡ Carry e ∷ [])
IsTo (Call t f v) (Answered Whole e x) left = (e ≡ Event.Request t f v) × (left ≡ after_request t x)
IsTo (Call t f v) (BrokeOff (Some e)) left = (e ≡ Event.Request t f v) × (left ≡ Call t f v ∷ [])
IsTo (Settle budget (Working s)) y left = IsToSettling budget y left
IsTo (Settle budget (Over r)) (Reported (SettledIs q)) left = (q ≡ r) × (left ≡ [])
IsTo (Prune k) (PruneAnswered Whole j x) left = (j ≡ k) × (left ≡ [])
IsTo (Prune k) (PruneBroke j) left = (j ≡ k) × (left ≡ Prune k ∷ [])
IsTo (Sweep k budget n) (PruneAnswered ReplyAlone j x) left = (j ≡ k) × (left ≡ on_sweep_reply k budget n x ∷ [])
IsTo (Sweep k budget n) (PruneBroke j) left = (j ≡ k) × (left ≡ Sweep k budget n ∷ [])
IsTo (TellSwept x) (Reported (SweptIs y)) left = (y ≡ x) × (left ≡ [])
IsTo (TellReply t) (Reported (ReplyIs u x)) left = (u ≡ t) × (left ≡ [])
IsTo (TellReply t) (BrokeOff None) left = left ≡ TellReply t ∷ []
IsTo CountRows (Reported (RowsAre n)) left = left ≡ []
IsTo ListTables (Reported (TablesAre lines)) left = left ≡ []
IsTo ListTables (BrokeOff None) left = left ≡ ListTables ∷ []
IsTo ListBook (Reported (BookIs lines)) left = left ≡ []
IsTo (Refuse x) (Reported (LineRefused y)) left = (y ≡ x) × (left ≡ [])
IsTo a y left = ⊥

-- what the first of some actions leaves so, and the others after it
abbrev pub AtFirst : (Action → List Action → Type 0) → List Action → List Action → Type 0
AtFirst LeavesSo [] left = ⊥
AtFirst LeavesSo (a ∷ more) left = (front : List Action) × LeavesSo a front × (left ≡ front ++ more)

-- ---- the text
-- the line of what a ticket's run gave
abbrev pub reply_line : ℕ → ReplyStatus → List ℕ
reply_line t ReplyStatus.Unknown = ticket_line (codes "reply ") t (codes "unknown")
reply_line t ReplyStatus.Gone = ticket_line (codes "reply ") t (codes "gone")
reply_line t ReplyStatus.Waiting = ticket_line (codes "reply ") t (codes "waiting")
reply_line t (ReplyStatus.Reply o) = outcome_line (codes "reply ") t o

abbrev pub tables_head : List ℕ
tables_head = codes "== tables\n"

abbrev pub book_head : List ℕ
book_head = codes "== book\n"

-- where the table failed, one line in place of what was to be read, under the heading of the tables
abbrev pub unread_line : List ℕ
unread_line = codes "dropped\n"

abbrev pub report_text : Deployment → Report → List ℕ
report_text d (ReplyIs t None) = unread_line
report_text d (ReplyIs t (Some x)) = reply_line t x
report_text d (RowsAre n) = numbered (codes "rows ") n
report_text d (TablesAre None) = tables_head ++ unread_line
report_text d (TablesAre (Some lines)) = tables_head ++ lines
report_text d (BookIs lines) = book_head ++ lines
report_text d (SettledIs r) = settled_text d r
report_text d (SweptIs x) = swept_text x
report_text d (LineRefused x) = refusal_text x

abbrev pub response_text : Deployment → Response → List ℕ
response_text d (Answered Whole e x) = answer_text d x
response_text d (Answered ReplyAlone Event.Ic x) = []
response_text d (Answered ReplyAlone e x) = reply_told x
response_text d WentBack = []
response_text d (WentOn k) = []
response_text d (BrokeOff o) = []
response_text d (PruneAnswered Whole k x) = pruned_text x
response_text d (PruneAnswered ReplyAlone k x) = []
response_text d (PruneBroke k) = []
response_text d (Reported r) = report_text d r

-- the text of all responses, one after another
abbrev pub responses_text : Deployment → List Response → List ℕ
responses_text d ys = flat_map (response_text d) ys
