-- What the rows of an item hold.
use Rattle.std.specs.Prelude.{List, [], Option, Some, None}
use Rattle.beldi_value.specs.declared.{place.Owner.Owner, place.Place.Place, value.Value.Value, value.Value.TheVariants.Null}
use Rattle.beldi_row.specs.{declared.notes.Note.Note, declared.row.Row.Row}

-- its value, who owns it, and what was done to it, each with the place that it was done for
pub record Content : Type 0 where
  pub value : Value
  pub owner : Option Owner
  pub notes : List (Place × Note)

-- what a last row holds, with the notes of all rows; without a row an item is null, and nobody's
abbrev pub held_in : Option Row → List (Place × Note) → Content
held_in (Some (Row.Cell c)) es = record { value = c.value; owner = c.owner; notes = es }
held_in r es = record { value = Null; owner = None; notes = es }

-- the notes of one row
abbrev pub log_of : Option Row → List (Place × Note)
log_of (Some (Row.Cell c)) = c.log
log_of r = []

-- what one row holds by itself
abbrev pub content_in : Option Row → Content
content_in r = held_in r (log_of r)
