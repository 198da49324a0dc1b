-- What an answer expects of the rows: a note, the value of a read, a call.
use Rattle.std.specs.Prelude.{ℕ, ◌==◌, Option, Some, None, if◌then◌else◌}
use Rattle.std.specs.Ordering.{is_eq}
use Rattle.beldi_value.specs.declared.{outcome.Outcome.Outcome, value.Value.Value}
use Rattle.beldi_lang.specs.declared.effect.{Answer.Answer, Answer.TheVariants.Done, Effect.Effect, Effect.TheVariants.Read}
use Rattle.beldi_plain.specs.Operation.{Operation, OnItem, item_in, write, cond, lock, free}
use Rattle.beldi_plain.specs.{Item.Item, Item.item_cmp, Plain.Instance}
use Rattle.beldi_row.specs.declared.notes.Note.{Note}
use Rattle.beldi_step.specs.Run.{is_waited}

-- the note that an answer to an operation leaves
abbrev pub noted : Operation → Answer → Option Note
noted (write v) Done = Some Note.Wrote
noted (cond r o v) (Answer.Value (Value.Bool b)) = Some (Note.Cond b)
noted lock Done = Some Note.Got
noted free Done = Some Note.Freed
noted o a = None

-- the note of an answer to an operation of a function, where it is one on this item
abbrev pub note_of : Item → ℕ → Option OnItem → Answer → Option Note
note_of x func None a = None
note_of x func (Some o) a = if is_eq (item_cmp (item_in func o) x) then noted o.does a else None

-- the value of an answer to an effect, where the effect is a read
abbrev pub value_for : Effect → Answer → Option Value
value_for (Read t k) (Answer.Value v) = Some v
value_for e a = None

-- what a call of this function, whose callee is this instance, gives back: its outcome, where the caller waits for it
abbrev pub result_of : Instance → Option Outcome
result_of j = if is_waited j.parent then j.outcome else None

-- the call that the log of a function has, by its caller and its callee
abbrev pub called_by : ℕ → Option Instance → Option Instance → Option (ℕ × Option Outcome)
called_by f None j = None
called_by f (Some i) None = None
called_by f (Some i) (Some j) = if i.func == f then Some (j.func, result_of j) else None
