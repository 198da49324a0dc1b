-- What the walks say of a shadow is so of it.
use Rattle.std.specs.Prelude.{◌≡◌, ℕ, Bool, true, false, List, Option, Some, None, Result, Ok, Err}
use Rattle.beldi_value.specs.declared.place.{Owner.Owner, Place.Place, TxId.TxId}
use Rattle.beldi_row.specs.{declared.notes.Note.Note, declared.table.TableErr.TableErr, declared.table.TableErr.TheVariants.OutOfMemory, declared.table.TableErr.TheVariants.Failed, declared.table.TableErr.TheVariants.Full, Key.RowKey, Log.note_at, Table.Rows, Table.TableState, Table.Tells}
use Rattle.beldi_query.specs.Walk.{Turned}
use Rattle.beldi_chain.specs.{Chain.ChangedAlone, Chain.chain, Chain.content, Content.Content, Content.content_in}
use Rattle.beldi_links.specs.Links.{IsLinked, ReadsAt, SeesAt}
use Rattle.beldi_daal.specs.{declared.cell.CellOp.CellOp, declared.cell.CellOp.TheVariants.Write, declared.cell.CellOp.TheVariants.Cond, declared.cell.CellOp.TheVariants.Lock, declared.cell.CellOp.TheVariants.Free, Logged.at_of, Logged.done_to}
use Rattle.beldi_daal.specs.ReadWalk as read
use Rattle.beldi_daal.specs.WriteWalk as write
use Rattle.beldi_shadow.specs.Shadow.{read_asks, read_next, read_output, write_asks, write_next, write_output}
use Rattle.beldi_shadow.specs.declared.shadow.{ShadowRead.ShadowRead, ShadowOutput.ShadowOutput, ShadowOutput.TheVariants.Going, ShadowOutput.TheVariants.Got, ShadowOutput.TheVariants.Noted, ShadowOutput.TheVariants.Worn, ShadowWrite.ShadowWrite}

-- ---- a write
-- a shadow is written and tested
abbrev pub is_aside : CellOp → Bool
is_aside (Write v) = true
is_aside (Cond r o v) = true
is_aside Lock = false
is_aside (Free v) = false

abbrev pub write_key : ShadowWrite → RowKey
write_key w = write.walk_key w.walk

-- by the note that the place had: the operation was done in this turn, or nothing was
abbrev pub DoneOnce : Place → Owner → CellOp → Option Note → Content → Content → Type 0
DoneOnce p who op None c d = d ≡ done_to p who op c
DoneOnce p who op (Some n) c d = d ≡ c

-- by the content of the shadow before the turn, and after it
abbrev pub Writes : Place → Owner → CellOp → ShadowOutput → Content → Content → Type 0
Writes p who op (Noted n) c d = (note_at d.notes p ≡ Some n) × DoneOnce p who op (note_at c.notes p) c d
Writes p who op Going c d = d ≡ c
Writes p who op (Got v) c d = ⊥
Writes p who op Worn c d = (note_at c.notes p ≡ None) × (d ≡ c)

-- what a turn leaves, where the shadow's rows are linked, nobody owns it, and the walk sees what it has to
pub record WriteTurn (w x : ShadowWrite) (m n : Rows) (s : ShadowOutput) : Type 0 where
  -- all rows are as before but those of the shadow
  pub others : ChangedAlone (write_key w) m n
  pub writes : Writes w.walk.place w.walk.who w.walk.op s (content (chain m (write_key w))) (content (chain n (write_key w)))
  pub linked : IsLinked (chain n (write_key w))
  pub unowned : (content (chain n (write_key w))).owner ≡ None
  pub sees : SeesAt (chain n (write_key w)) w.walk.place (at_of x.walk.at)

-- for every turn that says something, over every table that tells its rows
abbrev pub ShadowsAreLogged : Type 0
ShadowsAreLogged = (w x : ShadowWrite) (now : ℕ) (old new : TableState) (s : ShadowOutput) → is_aside w.walk.op ≡ true → Turned (write_asks w) now (write_next w) (write_output w) w x old new (Ok s)
    → Tells old.rows new.rows (λ m n. IsLinked (chain m (write_key w)) → (content (chain m (write_key w))).owner ≡ None → SeesAt (chain m (write_key w)) w.walk.place (at_of w.walk.at) → WriteTurn w x m n s)

-- ---- a read
abbrev pub read_key : ShadowRead → RowKey
read_key w = read.read_key w.walk

-- what it says is so of the content: the value, none where there is no shadow
abbrev pub Reads : ShadowOutput → Content → Type 0
Reads (Got None) c = c ≡ content_in None
Reads (Got (Some v)) c = v ≡ c.value
Reads (Noted n) c = ⊥
Reads Going c = Unit {0}
Reads Worn c = ⊥

-- where the shadow's rows are linked, and the walk sees what it has to: what is said is so, and it sees that again
pub record ReadTurn (w x : ShadowRead) (m : Rows) (s : ShadowOutput) : Type 0 where
  pub reads : Reads s (content (chain m (read_key w)))
  pub sees : ReadsAt (chain m (read_key w)) x.walk.row

-- the rows are as before, and a Look adds none, so it is never refused as Full
abbrev pub LooksOn : ShadowRead → ShadowRead → Rows → Rows → Result ShadowOutput TableErr → Type 0
LooksOn w x m n (Ok s) = (n ≡ m) × (IsLinked (chain m (read_key w)) → ReadsAt (chain m (read_key w)) w.walk.row → ReadTurn w x m s)
LooksOn w x m n (Err OutOfMemory) = n ≡ m
LooksOn w x m n (Err Failed) = n ≡ m
LooksOn w x m n (Err (Full live most)) = ⊥

abbrev pub ShadowsReadTheirOwn : Type 0
ShadowsReadTheirOwn = (w x : ShadowRead) (now : ℕ) (old new : TableState) (r : Result ShadowOutput TableErr) → w.walk.who ≡ None
    → Turned (read_asks w) now (read_next w) (read_output w) w x old new r → Tells old.rows new.rows (λ m n. LooksOn w x m n r)
