-- What is asked of the rows of an item, and what follows from what is told.
use Rattle.std.specs.Prelude.{ℕ, ◌+◌, ◌-◌, ◌^◌, ◌==◌, List, true, false, Option, Some, None, if◌then◌else◌}
use Rattle.beldi_value.specs.{declared.value.Value.TheVariants.Null, declared.place.Place.Place, declared.place.Owner.Owner, declared.place.TxId.TxId, Id.root_of}
use Rattle.beldi_row.specs.Act.{absent, here, added, present, no_row, did, died, noted, next, held, not_owner, tested, packed, other_owner}
use Rattle.beldi_row.specs.{declared.key.Kind.TheVariants.Shadow, declared.act.Act.Act, declared.notes.Note.Note, declared.notes.Note.TheVariants.Wrote, declared.notes.Note.TheVariants.Cond, declared.notes.Note.TheVariants.Got, declared.notes.Note.TheVariants.Died, declared.notes.Note.TheVariants.Freed, declared.row.Cell.Cell, declared.act.Act.TheVariants.MakeCell, declared.act.Act.TheVariants.WriteCell, declared.act.Act.TheVariants.CondCell, declared.act.Act.TheVariants.LockCell, declared.act.Act.TheVariants.FreeCell, declared.act.Act.TheVariants.LinkCell, Key.RowKey, Key.at_row, Key.head_key, Log.blank, declared.row.Row.Row}
use Rattle.beldi_query.specs.{declared.query.Query.Query, Query.QueryReply, Query.replied}
use Rattle.beldi_daal.specs.declared.cell.{CellOp.CellOp, FullRow.FullRow, WriteAt.WriteAt, WriteAt.TheVariants.Try, WriteAt.TheVariants.Make, WriteAt.TheVariants.Append, WriteAt.TheVariants.Link, WriteGoes.WriteGoes, ReadGoes.ReadGoes}

-- the key of an item's first row
abbrev pub cell_key : ℕ → ℕ → List ℕ → RowKey
cell_key home t k = head_key home t k

-- .. and of a transaction's own copy of it
abbrev pub shadow_key : ℕ → TxId → ℕ → List ℕ → RowKey
shadow_key home x t k = record { home = home; kind = Shadow x t k 0 }

-- the act of an operation, for a place and an owner
abbrev pub op_act : Place → Owner → CellOp → Act
op_act p who (CellOp.Write v) = WriteCell p who v
op_act p who (CellOp.Cond r o v) = CondCell p who r o v
op_act p who CellOp.Lock = LockCell p who (root_of 0)
op_act p who (CellOp.Free v) = FreeCell p who v

-- the note that it leaves where its act says that it was done; the act of a condition says the test, and that of a lock may say a
-- death
abbrev pub done_note : CellOp → Note
done_note (CellOp.Write v) = Wrote
done_note (CellOp.Cond r o v) = Cond true
done_note CellOp.Lock = Got
done_note (CellOp.Free v) = Freed

-- what a write asks, by the key of its item's first row: the operation, at a row; that the first row be made; that the row of a number be
-- made, which is to follow a full one, with the value and the owner that this told; or that it be linked to that one
abbrev pub write_asks : RowKey → Place → Owner → CellOp → WriteAt → Query
write_asks k p who op (Try r) = Query.Act (at_row k r) (op_act p who op)
write_asks k p who op Make = Query.Act k (MakeCell Null None blank)
write_asks k p who op (Append n t) = Query.Act (at_row k n) (MakeCell t.value t.owner blank)
write_asks k p who op (Link n) = Query.Act (at_row k (n - 1)) (LinkCell n)

-- the greatest number of a row
abbrev pub last_row : ℕ
last_row = 2 ^ 32 - 1

-- where a write goes from a full row: none can follow that of the greatest number
abbrev pub full_goes : FullRow → WriteAt → WriteGoes
full_goes t (Try r) = if r == last_row then WriteGoes.Worn else WriteGoes.On (Append (r + 1) t)
full_goes t at = WriteGoes.Stays

-- .. and once a row is there that it asked for
abbrev pub made_goes : WriteAt → WriteGoes
made_goes Make = WriteGoes.On (Try 0)
made_goes (Append n t) = WriteGoes.On (Link n)
made_goes at = WriteGoes.Stays

-- where a write goes after it was told, by the note that it leaves where it was done, and where it stood
abbrev pub write_goes : Note → WriteAt → QueryReply → WriteGoes
write_goes d at (replied no_row) = WriteGoes.On Make
write_goes d at (replied added) = made_goes at
write_goes d at (replied present) = made_goes at
write_goes d at (replied did) = WriteGoes.Done d true
write_goes d at (replied (tested b)) = WriteGoes.Done (Cond b) true
write_goes d at (replied (died a)) = WriteGoes.Done (Died a) true
write_goes d at (replied (noted n)) = WriteGoes.Done n false
write_goes d at (replied (next n)) = WriteGoes.On (Try n)
write_goes d at (replied (held o)) = WriteGoes.Held o
write_goes d at (replied not_owner) = WriteGoes.NotOwner
write_goes d at (replied (packed v o)) = full_goes (record { value = v; owner = o }) at
write_goes d at t = WriteGoes.Stays

-- the owner that stands in the way of who reads: none does where the read is for nobody
abbrev pub in_the_way : Option Owner → Option Owner → Option Owner
in_the_way None o = None
in_the_way (Some who) o = other_owner who o

-- what a cell without a next gives, by the owner that stands in the way
abbrev pub got_or_held : Cell → Option Owner → ReadGoes
got_or_held c None = ReadGoes.Got (Some c.value)
got_or_held c (Some o) = ReadGoes.Held o

-- where a read goes at a cell, by the row after it
abbrev pub cell_goes : Option Owner → Cell → Option ℕ → ReadGoes
cell_goes who c None = got_or_held c (in_the_way who c.owner)
cell_goes who c (Some n) = ReadGoes.On n

-- where a read goes after it was told
abbrev pub read_goes : Option Owner → QueryReply → ReadGoes
read_goes who (replied absent) = ReadGoes.Got None
read_goes who (replied (here (Row.Cell c))) = cell_goes who c c.next
read_goes who t = ReadGoes.Stays
