-- What is so of chains, whatever acts there are.
use Rattle.std.specs.Prelude.{◌≡◌, ℕ, false, Some}
use Rattle.beldi_value.specs.declared.place.Place.{Place}
use Rattle.beldi_row.specs.{declared.act.Act.Act, declared.notes.Note.Note, Act.prunes, Key.RowKey, Log.note_at, Table.Rows, Table.after_act}
use Rattle.beldi_chain.specs.{Chain.chain, Chain.content}

-- no act on any row, but one that may remove its row, takes away the note that a place has in a chain
abbrev pub NotesStay : Type 0
NotesStay = (a : Act) → prunes a ≡ false → (now : ℕ) (l head : RowKey) (m : Rows) (p : Place) (n : Note) → note_at (content (chain m head)).notes p ≡ Some n → note_at (content (chain (after_act a now l m) head)).notes p ≡ Some n
