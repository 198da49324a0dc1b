-- The text of an answer.
use Rattle.std.specs.Prelude.{ℕ, Bool, true, false, List, [], ◌++◌, Option, Some, None, codes}
use Rattle.std.specs.Fmt.{decimal}
use Rattle.beldi_value.specs.{Json.text_of, Value.datum_of, ValueText.id_text, ValueText.outcome_text, ValueText.owner_text, declared.id.IntentId.IntentId, declared.outcome.Outcome.Outcome, declared.place.Owner.Owner}
use Rattle.beldi_tree.specs.{declared.deployment.Deployment.Deployment, Names.func_text}
use Rattle.beldi_book.specs.{BookText.entry_text, declared.entry.Entry.Entry}
use Rattle.beldi_step.specs.declared.event.{Pruned.Pruned, EventReply.EventReply}

-- a word and a number, as a line
abbrev pub numbered : List ℕ → ℕ → List ℕ
numbered word n = word ++ (decimal n ++ codes "\n")

-- a word, a ticket and a text, as a line
abbrev pub ticket_line : List ℕ → ℕ → List ℕ → List ℕ
ticket_line word t text = word ++ (decimal t ++ (codes " " ++ (text ++ codes "\n")))

-- a word, a ticket and an outcome, as a line
abbrev pub outcome_line : List ℕ → ℕ → Outcome → List ℕ
outcome_line word t o = ticket_line word t (outcome_text o)

-- the line of a request that was bound, and its run
abbrev pub bound_line : ℕ → ℕ → List ℕ
bound_line t r = codes "bound " ++ (decimal t ++ (codes " run " ++ (decimal r ++ codes "\n")))

-- the line of who has the lock of an item
abbrev pub held_line : Owner → List ℕ
held_line o = codes "held " ++ (owner_text o ++ codes "\n")

-- the line of the callee that a run waits for
abbrev pub waits_line : IntentId → List ℕ
waits_line id = codes "waits " ++ (id_text id ++ codes "\n")

-- the line of the run that the intent collector started, with its intent
abbrev pub launched_line : ℕ → IntentId → List ℕ
launched_line run id = codes "launched run " ++ (decimal run ++ (codes " " ++ (id_text id ++ codes "\n")))

abbrev pub entry_part : Deployment → Option Entry → List ℕ
entry_part d None = []
entry_part d (Some e) = codes " " ++ entry_text d e

-- the run that was started
abbrev pub run_part : Option ℕ → List ℕ
run_part None = []
run_part (Some n) = codes " run " ++ decimal n

abbrev pub over_part : Bool → List ℕ
over_part false = []
over_part true = codes " over"

-- the line of a reply
abbrev pub reply_part : Option (ℕ × Outcome) → List ℕ
reply_part None = []
reply_part (Some r) = outcome_line (codes "reply ") r.0 r.1

abbrev pub answer_text : Deployment → EventReply → List ℕ
answer_text d (EventReply.Issued n) = numbered (codes "ticket ") n
answer_text d EventReply.NoTicket = codes "no-ticket\n"
answer_text d (EventReply.Bound t r) = bound_line t r
answer_text d (EventReply.Running t) = numbered (codes "running ") t
answer_text d (EventReply.Replied t o) = outcome_line (codes "ended ") t o
answer_text d (EventReply.Other t f a) = codes "other " ++ (decimal t ++ (codes " " ++ (func_text d f ++ (codes " " ++ (text_of (datum_of a) ++ codes "\n")))))
answer_text d (EventReply.Gone t) = numbered (codes "gone ") t
answer_text d (EventReply.Unknown t) = numbered (codes "unknown ") t
answer_text d (EventReply.Acted e started over r) = codes "acted" ++ (entry_part d e ++ (run_part started ++ (over_part over ++ (codes "\n" ++ reply_part r))))
answer_text d (EventReply.Held o) = held_line o
answer_text d (EventReply.NotYet id) = waits_line id
answer_text d (EventReply.Full live room) = codes "full " ++ (decimal live ++ (codes " " ++ (decimal room ++ codes "\n")))
answer_text d EventReply.Worn = codes "worn\n"
answer_text d EventReply.Crowded = codes "crowded 1024\n"
answer_text d EventReply.Expired = codes "expired\n"
answer_text d EventReply.NoRun = codes "no-run\n"
answer_text d EventReply.RunOver = codes "run-over\n"
answer_text d EventReply.Dropped = codes "dropped\n"
answer_text d EventReply.Crashed = codes "crashed\n"
answer_text d (EventReply.Started r) = numbered (codes "run ") r
answer_text d EventReply.Passed = codes "passed\n"
answer_text d (EventReply.Launched r id) = launched_line r id
answer_text d EventReply.Round = codes "round\n"
answer_text d (EventReply.Now n) = numbered (codes "now ") n
answer_text d EventReply.ClockEnd = codes "clock-end\n"
answer_text d EventReply.Halted = codes "halted\n"
answer_text d EventReply.Shut = codes "shut\n"
answer_text d EventReply.Spent = codes "spent\n"

-- the answer to a turn of a log collector, as a line
abbrev pub pruned_text : Pruned → List ℕ
pruned_text Pruned.Going = codes "going\n"
pruned_text Pruned.Marked = codes "marked\n"
pruned_text Pruned.Skipped = codes "skipped\n"
pruned_text Pruned.Dangled = codes "dangled\n"
pruned_text Pruned.Removed = codes "removed\n"
pruned_text Pruned.Round = codes "round\n"
pruned_text Pruned.Dropped = codes "dropped\n"
pruned_text Pruned.Shut = codes "shut\n"
pruned_text Pruned.Spent = codes "spent\n"

-- of the answer to a turn inside a settling the reply alone is told
abbrev pub reply_told : EventReply → List ℕ
reply_told (EventReply.Acted e started over r) = reply_part r
reply_told x = []
