-- Calls that read the rows of a table, one after another, and change none.
use Rattle.std.specs.Prelude.{◌≡◌, ◌⊎◌, ℕ, zero, ◌≤◌, ◌==◌, ◌||◌, max, IsSome, IfSome, nat_le, nat_lt, Bool, true, false, ◌++◌, List, [], ◌∷◌, Option, Some, None, Result, IfOk, OnOk, IsErrOf, if◌then◌else◌}
use Rattle.std.specs.Option.{option_map}
use Rattle.std.specs.Ordering.{is_lt}
use Rattle.std.specs.FinMap as map
use Rattle.beldi_value.specs.declared.{outcome.Outcome.Outcome, place.Owner.Owner, place.Owner.TheVariants.Tx, value.Value.Value}
use Rattle.beldi_tree.specs.declared.deployment.Deployment.{Deployment}
use Rattle.beldi_row.specs.{Key.RowKey, Key.head_key, Key.key_cmp, Key.key_ticket, Key.least_key, Key.rank_of, declared.key.Kind.Kind, declared.key.Kind.TheVariants.Data, declared.key.Kind.TheVariants.Shadow, declared.key.Kind.TheVariants.Lockset, declared.row.Row.Row, declared.row.Row.TheVariants.Intent, declared.row.Row.TheVariants.Cell, Act.ActReply, Act.here, Table.Rows, Table.TableState, Table.Tells, Table.Rose}
use Rattle.beldi_chain.specs.Chain.{above, chain, tail}
use Rattle.beldi_daal.specs.Cell.{shadow_key}
use Rattle.beldi_intent.specs.Intent.{root_key}
use Rattle.beldi_step.specs.{HostStep.Core, HostStep.first_core, HostStep.last_moment, HostStep.newest_of, Next.PassesNoOpen, Tables.cell_line, Tables.row_line, Tables.value_line, Tables.decision_key, Tables.owned_value}
use Rattle.beldi_host.specs.declared.high_water.HighWater.{HighWater}
use Rattle.beldi_host.specs.declared.survey.{OpenErr.OpenErr, Owned.Owned, Wanted.Wanted, Wanted.TheVariants.LastRow, OpenErr.TheVariants.Failed, ReplyStatus.ReplyStatus, ReplyStatus.TheVariants.Unknown, ReplyStatus.TheVariants.Gone, ReplyStatus.TheVariants.Waiting, ReplyStatus.TheVariants.Reply}

-- the rows are as before, and an answer is right of them
pub record Reads {X : Type 0} (P : Rows → X → Type 0) (old new : TableState) (result : Result X OpenErr) : Type 0 where
  pub rows : Tells old.rows new.rows (λ m n. (n ≡ m) × IfOk result (P m))
  pub later : old.faults ≤ new.faults
  pub failed : IsErrOf result Failed → Rose old.faults new.faults
  pub room : new.room ≡ old.room

-- no key names a greater ticket than this, and some key names it, or it is 0
pub record IsNewest (m : Rows) (t : ℕ) : Type 0 where
  pub none_above : (k : RowKey) → IsSome (map.get m k) → key_ticket k ≤ t
  pub named : (t ≡ 0) ⊎ ((k : RowKey) × IsSome (map.get m k) × (key_ticket k ≡ t))

-- a moment counts where it is at most the last one of a host
abbrev pub timely : ℕ → ℕ
timely t = if nat_le t last_moment then t else 0

abbrev pub timely_in : Option ℕ → ℕ
timely_in None = 0
timely_in (Some t) = timely t

-- the greatest moment that a row has, 0 where it has none
abbrev pub row_moment : Row → ℕ
row_moment (Intent i) = max (timely i.issued) (timely_in i.finish)
row_moment (Cell c) = timely_in c.dangled
row_moment r = 0

-- the entries from the first one past a key
abbrev pub rest : RowKey → List (RowKey × Row) → List (RowKey × Row)
rest k [] = []
rest k (e ∷ es) = if is_lt (key_cmp k e.0) then e ∷ es else rest k es

abbrev pub latest : List (RowKey × Row) → ℕ
latest [] = 0
latest (e ∷ es) = max (row_moment e.1) (latest es)

-- the greatest moment of the rows, 0 where there is none; the least key is no row's
abbrev pub latest_of : Rows → ℕ
latest_of m = latest (rest least_key (map.entries m))

-- the greatest ticket and the greatest moment of the rows
pub record IsHighWater (m : Rows) (ticket moment : ℕ) : Type 0 where
  pub newest : ticket ≡ newest_of m
  pub latest : moment ≡ latest_of m

-- the next row's key, and its greatest moment
abbrev pub next_mark_of : Option (RowKey × Row) → Option (RowKey × ℕ)
next_mark_of None = None
next_mark_of (Some e) = Some (e.0, row_moment e.1)

-- ---- the line of a row, in two steps: where no transaction owns its item, and where one does
-- by the owner and the row's own value: the text with its line; of an item that a transaction owns, what its line wants instead
abbrev pub cell_listed : Deployment → List ℕ → ℕ → ℕ → List ℕ → Option Owner → Value → Option Owned × List ℕ
cell_listed d text f t k (Some (Tx x)) v = (Some (record { decision = decision_key x; shadow = shadow_key f x t k; value = v }), text)
cell_listed d text f t k o v = (None, text ++ value_line d f t k v)

abbrev pub held_listed : Deployment → List ℕ → ℕ → Kind → Option Owner → Value → Option Owned × List ℕ
held_listed d text f (Data t k zero) o v = cell_listed d text f t k o v
held_listed d text f k o v = (None, text)

-- .. or that its last row is wanted, where one follows the first
abbrev pub head_listed : Option Owned × List ℕ → List ℕ → Option ℕ → Option Wanted × List ℕ
head_listed z text None = (option_map Wanted.Owned z.0, z.1)
head_listed z text (Some n) = (Some LastRow, text)

abbrev pub listed_at : Deployment → List ℕ → ℕ → Kind → Row → Option Wanted × List ℕ
listed_at d text f (Data t k zero) (Cell c) = head_listed (cell_listed d text f t k c.owner c.value) text (above 0 c.next)
listed_at d text f k r = (None, text)

abbrev pub listed_of : Deployment → List ℕ → RowKey × Row → Option Wanted × List ℕ
listed_of d text e = listed_at d text e.0.home e.0.kind e.1

abbrev pub next_listed_of : Deployment → List ℕ → Option (RowKey × Row) → Option (RowKey × Option Wanted) × List ℕ
next_listed_of d text None = (None, text)
next_listed_of d text (Some e) = (Some (e.0, (listed_of d text e).0), (listed_of d text e).1)

-- the line of an item's first row, by the value that is shown
abbrev pub key_line : Deployment → ℕ → Kind → Value → List ℕ
key_line d f (Data t k zero) v = value_line d f t k v
key_line d f k v = []

-- the line of an item by its last row
abbrev pub last_line : Deployment → Rows → ℕ → Kind → List ℕ
last_line d m f (Data t k zero) = cell_line d m f t k (tail (chain m (head_key f t k)))
last_line d m f k = []

-- the text, with the line that was left
abbrev pub owned_after : Deployment → Rows → ℕ → Kind → Option Owned × List ℕ → List ℕ
owned_after d m f k (None, text) = text
owned_after d m f k (Some o, text) = text ++ key_line d f k (owned_value m o.decision o.shadow o.value)

abbrev pub line_after : Deployment → Rows → ℕ → Kind → Option Wanted × List ℕ → List ℕ
line_after d m f k (None, text) = text
line_after d m f k (Some (Wanted.Owned o), text) = owned_after d m f k (Some o, text)
line_after d m f k (Some LastRow, text) = text ++ last_line d m f k

-- the key of the next row, and the text with its line
abbrev pub next_line_of : Deployment → Rows → List ℕ → Option (RowKey × Row) → Option RowKey × List ℕ
next_line_of d m text None = (None, text)
next_line_of d m text (Some e) = (Some e.0, text ++ row_line d m e)

-- ---- rows that have no line
-- the number of the last kind that is as this one before the items or after them
abbrev pub last_rank : Kind → ℕ
last_rank (Shadow x t k r) = 5
last_rank (Lockset a b t k) = 5
last_rank k = 2

-- reading goes on from the key j where it was at k: no item's row is in between
pub record Past (k j : RowKey) : Type 0 where
  pub not_before : is_lt (key_cmp j k) ≡ false
  pub no_item : (e : RowKey) → is_lt (key_cmp k e) ≡ true → is_lt (key_cmp j e) ≡ false → rank_of e.kind ≡ 3 → ⊥

-- a table is made ready for a host: its room is set
pub record Prepared (wanted : ℕ) (old new : TableState) (result : Result HighWater OpenErr) : Type 0 where
  pub rows : Tells old.rows new.rows (λ m n. (n ≡ m) × IfOk result (λ w. IsHighWater m w.ticket w.moment))
  pub later : old.faults ≤ new.faults
  pub failed : IsErrOf result Failed → Rose old.faults new.faults
  pub room : OnOk result (new.room ≡ wanted)

-- the core of a host that is opened over rows at a moment: nothing has happened to it
abbrev pub opened_core : Rows → ℕ → Core
opened_core m now = first_core (newest_of m) (max now (latest_of m))

-- a host that was opened: nothing has happened to it
pub record Opened (code kept : Deployment) (now : ℕ) (old new : TableState) (c : Core) : Type 0 where
  pub rows : Tells old.rows new.rows (λ m n. (n ≡ m) × (c ≡ opened_core m now))
  pub core : c ≡ first_core c.newest c.now
  pub later_moment : now ≤ c.now
  pub code_kept : kept ≡ code
  pub room_set : new.room ≡ code.room
  pub later : old.faults ≤ new.faults

-- the table is given back
pub record Refused (old new : TableState) (why : OpenErr) : Type 0 where
  pub rows : Tells old.rows new.rows (λ m n. n ≡ m)
  pub later : old.faults ≤ new.faults
  pub failed : why ≡ Failed → Rose old.faults new.faults

abbrev pub NewestAt : Option Rows → ℕ → Type 0
NewestAt None t = Unit {0}
NewestAt (Some m) t = IsNewest m t

abbrev pub outcome_status : Option Outcome → ReplyStatus
outcome_status None = Waiting
outcome_status (Some o) = Reply o

-- a row of another kind has no outcome
abbrev pub row_status : Option Row → ReplyStatus
row_status None = Gone
row_status (Some (Intent i)) = outcome_status i.outcome
row_status (Some r) = Waiting

-- the row that a look told
abbrev pub told_row : ActReply → Option Row
told_row (here r) = Some r
told_row t = None

abbrev pub is_unknown : ℕ → ℕ → Bool
is_unknown newest t = (t == 0) || nat_lt newest t

abbrev pub reply_status : ℕ → ℕ → Rows → ReplyStatus
reply_status newest t m = if is_unknown newest t then Unknown else row_status (map.get m (root_key t))

-- no row that is told is of an open intent and has a key past one of these, up to the other
abbrev pub PassesToldOpen : Option Rows → RowKey → RowKey → Type 0
PassesToldOpen told k q = IfSome told (λ m. PassesNoOpen m k q)
