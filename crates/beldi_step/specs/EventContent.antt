-- What an event and its answer tell: what was bound, the entries that were made, and the outcome of a root.
use Rattle.std.specs.Prelude.{ℕ, Bool, true, false, option_to_list, List, [], ◌∷◌, Option, Some, None}
use Rattle.beldi_value.specs.declared.{value.Value.Value, outcome.Outcome.Outcome}
use Rattle.beldi_book.specs.declared.entry.Entry.{Entry, TheVariants.Start}
use Rattle.beldi_step.specs.declared.event.{Event.Event, Event.TheVariants.Request, Event.TheVariants.Lost, EventReply.EventReply, EventReply.TheVariants.Bound, EventReply.TheVariants.Replied, EventReply.TheVariants.Acted, EventReply.TheVariants.Dropped}

-- what an event asks to be bound: ticket, function and arguments
abbrev pub requested : Event → List (ℕ × (ℕ × Value))
requested (Request t f a) = (t, (f, a)) ∷ []
requested e = []

-- the request that an event bound: the one that was answered so
abbrev pub bound_of : Event → EventReply → List (ℕ × (ℕ × Value))
bound_of e (Bound t run) = requested e
bound_of e x = []

-- the outcome of a root that an answer tells, with the root's ticket
abbrev pub reply_outcome : EventReply → Option (ℕ × Outcome)
reply_outcome (Replied t o) = Some (t, o)
reply_outcome (Acted e started over reply) = reply
reply_outcome x = None

-- the entries that an event's answer tells: the start of a root that was bound, or the entry of a turn
abbrev pub reply_entries : Event → EventReply → List Entry
reply_entries e (Acted entry started over reply) = option_to_list entry
reply_entries (Request t f a) (Bound u run) = Start t f a ∷ []
reply_entries e x = []

-- the event of a run whose answer is lost
abbrev pub is_lost : Event → Bool
is_lost (Lost i) = true
is_lost e = false

-- the answer that tells nothing of what was done: it was lost, or the table failed
abbrev pub is_dropped : EventReply → Bool
is_dropped Dropped = true
is_dropped x = false
