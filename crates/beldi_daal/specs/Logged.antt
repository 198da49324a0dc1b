-- A chain is a logged cell: a turn of a walk leaves the content of every item as it is, but for its own operation, which has
-- one effect at its place, however many walks there are for it.
use Rattle.std.specs.Prelude.{◌≡◌, ℕ, Bool, true, false, if◌then◌else◌, [], ◌∷◌, ◌++◌, Option, Some, None, Result, Ok, Err}
use Rattle.beldi_value.specs.{declared.id.IntentId.IntentId, declared.place.Owner.Owner, Id.age_of, Id.is_older, declared.place.Place.Place, declared.value.Value.Value, Passes.passes}
use Rattle.beldi_row.specs.{declared.notes.Note.Note, Act.other_owner, Act.owns, Act.given_or, Log.note_at, declared.table.TableErr.TableErr, declared.table.TableErr.TheVariants.OutOfMemory, declared.table.TableErr.TheVariants.Failed, declared.table.TableErr.TheVariants.Full, Table.Rows, Table.TableState, Table.Tells}
use Rattle.beldi_query.specs.Walk.{Turned}
use Rattle.beldi_chain.specs.{Chain.ChangedAlone, Chain.chain, Chain.content, Content.Content, Content.content_in}
use Rattle.beldi_links.specs.Links.{AllGrow, At, IsLinked, ReadsAt, SeesAt}
use Rattle.beldi_daal.specs.{declared.cell.CellOp.CellOp, declared.cell.CellOp.TheVariants.Write, declared.cell.CellOp.TheVariants.Cond, declared.cell.CellOp.TheVariants.Lock, declared.cell.CellOp.TheVariants.Free, declared.cell.WriteAt.WriteAt, declared.walk.WriteOutput.WriteOutput, declared.walk.WriteOutput.TheVariants.Going, declared.walk.WriteOutput.TheVariants.Done, declared.walk.WriteOutput.TheVariants.NotOwner, declared.walk.WriteOutput.TheVariants.Held, declared.walk.WriteOutput.TheVariants.Worn, declared.walk.WriteWalk.WriteWalk, declared.read_walk.ReadWalk.ReadWalk, declared.read_walk.ReadOutput.ReadOutput, Cell.in_the_way, ReadWalk.read_key, ReadWalk.read_asks, ReadWalk.read_next, ReadWalk.read_output, WriteWalk.walk_key, WriteWalk.walk_asks, WriteWalk.walk_next, WriteWalk.walk_output}

-- ---- the walk of a write
-- where it stands
abbrev pub at_of : WriteAt → At
at_of (WriteAt.Try r) = At.Try r
at_of WriteAt.Make = At.Make
at_of (WriteAt.Append n t) = At.Append n t.value t.owner
at_of (WriteAt.Link n) = At.Link n

-- what an operation makes of the value, and of the owner, where this one asks; and the note that it leaves, by the value that
-- was there. A new operation is a line in each.
abbrev pub value_after : CellOp → Value → Value
value_after (Write v) w = v
value_after (Cond r o v) w = if passes w r o then v else w
value_after Lock w = w
value_after (Free v) w = given_or v w

abbrev pub owner_after : CellOp → Owner → Option Owner → Option Owner
owner_after (Write v) who o = o
owner_after (Cond r u v) who o = o
owner_after Lock who o = Some who
owner_after (Free v) who o = None

abbrev pub note_after : CellOp → Value → Note
note_after (Write v) w = Note.Wrote
note_after (Cond r o v) w = Note.Cond (passes w r o)
note_after Lock w = Note.Got
note_after (Free v) w = Note.Freed

-- who asks for a lock where another owner is: an intent waits for it, and so does a transaction that is older ..
abbrev pub waited : Owner → Option Owner → Option Owner
waited (Owner.Intent a) o = o
waited (Owner.Tx t) None = None
waited (Owner.Tx t) (Some o) = if is_older t.intent (age_of o) then Some o else None

-- .. any other transaction dies of it: the age of that owner
abbrev pub died_of : Owner → Option Owner → Option IntentId
died_of (Owner.Intent a) o = None
died_of (Owner.Tx t) None = None
died_of (Owner.Tx t) (Some o) = if is_older t.intent (age_of o) then None else Some (age_of o)

-- only who asks for a lock dies
abbrev pub dies : Owner → CellOp → Option Owner → Option IntentId
dies (Owner.Intent a) op o = None
dies (Owner.Tx t) (Write v) o = None
dies (Owner.Tx t) (Cond r u v) o = None
dies (Owner.Tx t) Lock o = died_of (Owner.Tx t) (other_owner (Owner.Tx t) o)
dies (Owner.Tx t) (Free v) o = None

-- what bars it, as the walk says: another owner, or, where it gives the item back, that who asks does not own it
abbrev pub held_by : Option Owner → Option WriteOutput
held_by None = None
held_by (Some o) = Some (Held o)

abbrev pub unless_owned : Bool → Option WriteOutput
unless_owned true = None
unless_owned false = Some NotOwner

abbrev pub barred : CellOp → Owner → Option Owner → Option WriteOutput
barred (Write v) who o = held_by (other_owner who o)
barred (Cond r u v) who o = held_by (other_owner who o)
barred Lock who o = held_by (waited who (other_owner who o))
barred (Free v) who o = unless_owned (owns who o)

-- the content after an operation for a place
abbrev pub done_to : Place → Owner → CellOp → Content → Content
done_to p who op c = record { value = value_after op c.value; owner = owner_after op who c.owner; notes = c.notes ++ (p, note_after op c.value) ∷ [] }

-- .. and after a death there, of an owner with this age
abbrev pub died_at : Place → IntentId → Content → Content
died_at p a c = record { value = c.value; owner = c.owner; notes = c.notes ++ (p, Note.Died a) ∷ [] }

-- by whether who asks dies: nothing barred the operation, and it was done, or the death was noted
abbrev pub DidAs : Place → Owner → CellOp → Option IntentId → Content → Content → Type 0
DidAs p who op None c d = (barred op who c.owner ≡ None) × (d ≡ done_to p who op c)
DidAs p who op (Some a) c d = d ≡ died_at p a c

-- what a turn did that says `Done`. With `first` the place had no note, and the operation was done, or who asked died; without,
-- nothing was done
abbrev pub DidOnce : Place → Owner → CellOp → Bool → Content → Content → Type 0
DidOnce p who op true c d = (note_at c.notes p ≡ None) × DidAs p who op (dies who op c.owner) c d
DidOnce p who op false c d = d ≡ c

-- .. and what one left that says that the operation was barred
abbrev pub WasBarred : Place → Owner → CellOp → WriteOutput → Content → Content → Type 0
WasBarred p who op s c d = (note_at c.notes p ≡ None) × (barred op who c.owner ≡ Some s) × (d ≡ c)

-- what a walk for a place says, by the content before its turn, and after it. `Done`: the content has the note at the place.
-- `Held`, `NotOwner`: the place has no note, and this barred the operation. `Worn`: the place has no note.
abbrev pub Logs : Place → Owner → CellOp → WriteOutput → Content → Content → Type 0
Logs p who op (Done n first) c d = (note_at d.notes p ≡ Some n) × DidOnce p who op first c d
Logs p who op NotOwner c d = WasBarred p who op NotOwner c d
Logs p who op (Held o) c d = WasBarred p who op (Held o) c d
Logs p who op Going c d = d ≡ c
Logs p who op Worn c d = (note_at c.notes p ≡ None) × (d ≡ c)

-- what a turn of a walk leaves, where its item's rows are linked, and it sees what it has to
pub record LoggedTurn (w x : WriteWalk) (m n : Rows) (s : WriteOutput) : Type 0 where
  -- all rows are as before but those of its item, which are linked, and grow
  pub others : ChangedAlone (walk_key w) m n
  pub linked : IsLinked (chain n (walk_key w))
  pub grows : AllGrow m n
  pub logs : Logs w.place w.who w.op s (content (chain m (walk_key w))) (content (chain n (walk_key w)))
  -- it sees what it has to where it stands then
  pub sees : SeesAt (chain n (walk_key w)) w.place (at_of x.at)

-- for every turn that says something, over every table that tells its rows
abbrev pub WritesAreLogged : Type 0
WritesAreLogged = (w x : WriteWalk) (now : ℕ) (old new : TableState) (s : WriteOutput) → Turned (walk_asks w) now (walk_next w) (walk_output w) w x old new (Ok s)
    → Tells old.rows new.rows (λ m n. IsLinked (chain m (walk_key w)) → SeesAt (chain m (walk_key w)) w.place (at_of w.at) → LoggedTurn w x m n s)

-- ---- the walk of a read
-- what it says is so of the content: the value, none where the item has no row; or the owner that is in the way
abbrev pub ReadsContent : Option Owner → ReadOutput → Content → Type 0
ReadsContent who (ReadOutput.Got None) c = c ≡ content_in None
ReadsContent who (ReadOutput.Got (Some v)) c = (in_the_way who c.owner ≡ None) × (v ≡ c.value)
ReadsContent who (ReadOutput.Held o) c = in_the_way who c.owner ≡ Some o
ReadsContent who ReadOutput.Going c = Unit {0}

-- what a turn leaves, where the item's rows are linked, and the walk sees what it has to: what is said is so, and it sees that again
pub record ReadTurn (w x : ReadWalk) (m : Rows) (s : ReadOutput) : Type 0 where
  pub reads : ReadsContent w.who s (content (chain m (read_key w)))
  pub sees : ReadsAt (chain m (read_key w)) x.row

-- the rows are as before, and a Look adds none, so it is never refused as Full
abbrev pub LooksOn : ReadWalk → ReadWalk → Rows → Rows → Result ReadOutput TableErr → Type 0
LooksOn w x m n (Ok s) = (n ≡ m) × (IsLinked (chain m (read_key w)) → ReadsAt (chain m (read_key w)) w.row → ReadTurn w x m s)
LooksOn w x m n (Err OutOfMemory) = n ≡ m
LooksOn w x m n (Err Failed) = n ≡ m
LooksOn w x m n (Err (Full live most)) = ⊥

abbrev pub ReadsAreContents : Type 0
ReadsAreContents = (w x : ReadWalk) (now : ℕ) (old new : TableState) (r : Result ReadOutput TableErr) → Turned (read_asks w) now (read_next w) (read_output w) w x old new r → Tells old.rows new.rows (λ m n. LooksOn w x m n r)
