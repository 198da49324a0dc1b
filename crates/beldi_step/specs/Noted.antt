-- The answer that a note in a row stands for.
use Rattle.std.specs.Prelude.{Option, Some, None}
use Rattle.beldi_value.specs.declared.value.Value.{Value}
use Rattle.beldi_lang.specs.declared.effect.Answer.{Answer}
use Rattle.beldi_row.specs.declared.notes.Note.{Note, TheVariants.Wrote, TheVariants.Cond, TheVariants.Got, TheVariants.Died, TheVariants.Freed}

-- a note, read as an answer: what was written, locked or freed was done, and a test has its truth. A death is no answer outside
-- a transaction.
abbrev pub noted_answer : Note → Option Answer
noted_answer Wrote = Some Answer.Done
noted_answer (Cond b) = Some (Answer.Value (Value.Bool b))
noted_answer Got = Some Answer.Done
noted_answer (Died h) = None
noted_answer Freed = Some Answer.Done
