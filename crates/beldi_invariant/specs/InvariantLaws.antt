-- What holds of every event.
use Rattle.std.specs.Prelude.{◌≡◌, ◌⊎◌, ◌&&◌, ◌≤◌, ℕ, Bool, true, false, option_to_list, List, [], ◌++◌, Option, Some, Result, Ok, Err, IfOk}
use Rattle.std.specs.declared.alloc.AllocError.{AllocError}
use Rattle.std.specs.FinMap as map
use Rattle.beldi_value.specs.declared.{value.Value.Value, outcome.Outcome.Outcome}
use Rattle.beldi_tree.specs.declared.deployment.Deployment.{Deployment}
use Rattle.beldi_book.specs.declared.entry.Entry.{Entry}
use Rattle.beldi_plain.specs.{Item.Item, Plain.PlainState, Legal.IsLegal, Legal.run_of, Listing.listing_of, Replies.starts_of, Replies.HasNoReply, Replies.HasReply}
use Rattle.beldi_plain_laws.specs.Grown.{Grows}
use Rattle.beldi_row.specs.{Act.prunes, Key.RowKey, declared.act.Act.Act, Table.Rows, Table.TableState, Table.Rose, Table.after_act}
use Rattle.beldi_step.specs.{declared.event.Event.Event, declared.event.EventReply.EventReply, HostStep.Core, HostStep.Stepped, HostStep.EventOn, HostStep.first_core, EventContent.is_lost, EventContent.is_dropped, EventContent.reply_outcome, EventContent.bound_of, EventContent.reply_entries, Tables.tables_text}
use Rattle.beldi_histories.specs.{Stands.Stands, Contents.head_key, Contents.content_of}
use Rattle.beldi_chain.specs.Chain.{is_row_of}
use Rattle.beldi_invariant.specs.{Invariant.Invariant, OneAnswer.OneAnswerPerStep, OneAnswer.AnswersStay}

-- a host that nothing has happened to has the invariant, over no rows
abbrev pub InvariantAtStart : Type 0
InvariantAtStart = (d : Deployment) (now : ℕ) → Invariant d (first_core 0 now) map.empty

-- an event keeps it, whatever it came to: an answer, or out of memory
abbrev pub KeepsInvariant : Type 0
KeepsInvariant = (d : Deployment) (room old new : ℕ) (e : Event) (c b : Core) (m n : Rows) (r : Result EventReply AllocError) → Invariant d c m → EventOn d room old new e c m b n r → Invariant d b n

-- where it holds the book is legal ..
abbrev pub InvariantImpliesLegal : Type 0
InvariantImpliesLegal = (d : Deployment) (c : Core) (m : Rows) → Invariant d c m → IsLegal d c.book

-- .. and the rows stand for its run
abbrev pub InvariantImpliesStands : Type 0
InvariantImpliesStands = (d : Deployment) (c : Core) (m : Rows) (p : PlainState) → Invariant d c m → run_of d c.book ≡ Some p → Stands d m p

-- an outcome that is told is that of the root in the run of the book
abbrev pub RepliesAreOutcomes : Type 0
RepliesAreOutcomes = (d : Deployment) (room old new : ℕ) (e : Event) (c b : Core) (m n : Rows) (x : EventReply) → Invariant d c m → EventOn d room old new e c m b n (Ok x)
    → (t : ℕ) (o : Outcome) → reply_outcome x ≡ Some (t, o) → HasReply d b.book t o

-- an outcome that a root gets by an event is told by it, unless the answer was lost; out of memory nothing is told
abbrev pub FirstOutcomesAreTold : Type 0
FirstOutcomesAreTold = (d : Deployment) (room old new : ℕ) (e : Event) (c b : Core) (m n : Rows) (x : EventReply) → Invariant d c m → EventOn d room old new e c m b n (Ok x) → (is_lost e && is_dropped x) ≡ false
    → (t : ℕ) (o : Outcome) → HasNoReply d c.book t → HasReply d b.book t o → reply_outcome x ≡ Some (t, o)

-- a ticket is answered that its row is absent
abbrev pub is_gone : EventReply → Bool
is_gone (EventReply.Gone t) = true
is_gone x = false

-- where the invariant holds of the host and its rows, no ticket is answered so
abbrev pub TicketsHaveRows : Type 0
TicketsHaveRows = (d : Deployment) (room old new : ℕ) (e : Event) (c b : Core) (m n : Rows) (x : EventReply) → Invariant d c m → EventOn d room old new e c m b n (Ok x) → is_gone x ≡ false

-- the request that an event bound, by what it came to: none out of memory
abbrev pub bound_by : Event → Result EventReply AllocError → List (ℕ × (ℕ × Value))
bound_by e (Ok x) = bound_of e x
bound_by e (Err w) = []

-- the book starts exactly what was bound, in order
abbrev pub StartsAreBound : Type 0
StartsAreBound = (d : Deployment) (room old new : ℕ) (e : Event) (c b : Core) (m n : Rows) (r : Result EventReply AllocError) → EventOn d room old new e c m b n r → starts_of b.book ≡ starts_of c.book ++ bound_by e r

-- what was made goes on: the run of the book after an event has each instance with its function and arguments, and its answers
-- are the first of those that it has then
abbrev pub InstancesGoOn : Type 0
InstancesGoOn = (d : Deployment) (room old new : ℕ) (e : Event) (c b : Core) (m n : Rows) (r : Result EventReply AllocError) (p q : PlainState) → Invariant d c m → EventOn d room old new e c m b n r
    → run_of d c.book ≡ Some p → run_of d b.book ≡ Some q → Grows p.made q.made

-- an outcome that a root has stays: the book of a later moment has it too
abbrev pub OutcomesStay : Type 0
OutcomesStay = (d : Deployment) (room old new : ℕ) (e : Event) (c b : Core) (m n : Rows) (r : Result EventReply AllocError) (t : ℕ) (o : Outcome) → Invariant d c m → EventOn d room old new e c m b n r → HasReply d c.book t o → HasReply d b.book t o

-- the listing of the rows is that of the book's run
abbrev pub ListingIsPlain : Type 0
ListingIsPlain = (d : Deployment) (c : Core) (m : Rows) (p : PlainState) → Invariant d c m → run_of d c.book ≡ Some p → tables_text d m ≡ listing_of d p

-- ---- one answer per step
-- in the run of the book
abbrev pub InvariantImpliesOneAnswer : Type 0
InvariantImpliesOneAnswer = (d : Deployment) (c : Core) (m : Rows) (p : PlainState) → Invariant d c m → run_of d c.book ≡ Some p → OneAnswerPerStep d c m p

-- what rows hold at a step stays, whether they have the invariant or not
abbrev pub HeldAnswersStay : Type 0
HeldAnswersStay = (d : Deployment) (room old new : ℕ) (e : Event) (c b : Core) (m n : Rows) (r : Result EventReply AllocError) → EventOn d room old new e c m b n r → AnswersStay m n

-- ---- what one event changes
-- at most the row of this key changes, by one act, which removes no row; and an item that it is no row of has the content that it had
pub record OneRowChanged (c : Core) (m n : Rows) : Type 0 where
  pub key : RowKey
  pub rows : (n ≡ m) ⊎ ((a : Act) × (prunes a ≡ false) × (n ≡ after_act a c.now key m))
  pub others : (x : Item) → is_row_of (head_key x) key ≡ false → content_of n x ≡ content_of m x

abbrev pub ChangesOneRow : Type 0
ChangesOneRow = (d : Deployment) (room old new : ℕ) (e : Event) (c b : Core) (m n : Rows) (r : Result EventReply AllocError) → EventOn d room old new e c m b n r → OneRowChanged c m n

-- the rows never exceed the room, where they did not before: a row is added only where there was room, also out of memory
abbrev pub KeepsRoom : Type 0
KeepsRoom = (d : Deployment) (room old new : ℕ) (e : Event) (c b : Core) (m n : Rows) (r : Result EventReply AllocError) → EventOn d room old new e c m b n r → map.len m ≤ room → map.len n ≤ room

-- the book gets at most one entry, which starts what the event bound: it is the one that the answer tells, unless the answer was
-- lost. Out of memory nothing is told.
pub record BookGrew (e : Event) (c b : Core) (r : Result EventReply AllocError) : Type 0 where
  pub entry : Option Entry
  pub book : b.book ≡ c.book ++ option_to_list entry
  pub starts : starts_of (option_to_list entry) ≡ bound_by e r
  pub told : IfOk r (λ x. (is_lost e && is_dropped x) ≡ false → option_to_list entry ≡ reply_entries e x)

abbrev pub WritesWhatIsTold : Type 0
WritesWhatIsTold = (d : Deployment) (room old new : ℕ) (e : Event) (c b : Core) (m n : Rows) (r : Result EventReply AllocError) → EventOn d room old new e c m b n r → BookGrew e c b r

-- an answer is dropped only where it was lost, or the table failed
abbrev pub DropsHaveCause : Type 0
DropsHaveCause = (d : Deployment) (e : Event) (c b : Core) (old new : TableState) → is_lost e ≡ false → Stepped d e c b old new (Ok EventReply.Dropped) → Rose old.faults new.faults
