-- Where the invariant begins, what a look at a row finds, and that removals and events keep it.
use Rattle.std.specs.Prelude.{◌≡◌, ◌⊎◌, ℕ, ◌<◌, true, false, [], Some, None, is_some, Result, IfOk}
use Rattle.std.specs.declared.alloc.AllocError.{AllocError}
use Rattle.std.specs.FinMap as map
use Rattle.std.specs.Ordering.{is_eq}
use Rattle.beldi_value.specs.{Id.has_no_hops, declared.id.IntentId.IntentId}
use Rattle.beldi_tree.specs.declared.deployment.Deployment.{Deployment}
use Rattle.beldi_row.specs.{Key.RowKey, Key.key_cmp, Table.Rows, Table.after_act, Table.set_row, declared.act.Act.Act, declared.row.IntentRow.IntentRow, declared.row.Row.Row}
use Rattle.beldi_intent.specs.Intent.{root_key}
use Rattle.beldi_histories.specs.Stands.{key_in}
use Rattle.beldi_step.specs.{HostStep.Core, HostStep.EventOn, HostStep.first_core, HostStep.newest_of, declared.event.Event.Event, EventContent.reply_entries, EventContent.reply_outcome, declared.event.EventReply.EventReply}
use Rattle.beldi_upkeep.specs.{Callees.belongs_to, Callees.seat_of, Upkeep.Upkeep, WorksFor.finish_in}
use Rattle.beldi_wanted.specs.Wanted.{Wanted}
use Rattle.beldi_kept.specs.KeptRows.{HasKept, IsLater, IsOld, IsRowOfOld}

-- over no rows it holds, of a host that nothing has happened to
abbrev pub BeginsKept : Type 0
BeginsKept = (d : Deployment) (now : ℕ) → HasKept d (first_core 0 now) map.empty

-- where all rows are there and all holds that every event keeps, all of them were kept ..
abbrev pub AllAreKept : Type 0
AllAreKept = (d : Deployment) (c : Core) (m : Rows) → Upkeep d c m → Wanted d c m → (h : HasKept d c m) × (h.kept ≡ m) × ((i : IntentId) → h.gone i ≡ false)

-- .. and where nobody is gone the kept rows are those that are there
abbrev pub NobodyGone : Type 0
NobodyGone = (d : Deployment) (c : Core) (m : Rows) (h : HasKept d c m) → ((i : IntentId) → h.gone i ≡ false) → Upkeep d c m

-- a row that was kept: where the table has no row of its intent, or one whose finish is old, that intent is gone or old
abbrev pub LooksFindOld : Type 0
LooksFindOld = (d : Deployment) (c : Core) (m : Rows) (h : HasKept d c m) (k : RowKey) (i : IntentId) → is_some (map.get h.kept k) ≡ true → belongs_to k.kind ≡ Some i
    → (map.get m (seat_of k i) ≡ None) ⊎ IsOld d.life c.now (finish_in (map.get m (seat_of k i))) → IsRowOfOld d.life c.now h.gone h.kept k

-- .. which is so later
abbrev pub OldStays : Type 0
OldStays = (d : Deployment) (c b : Core) (m n : Rows) (h : HasKept d c m) (g : HasKept d b n) → IsLater h g → (k : RowKey) → IsRowOfOld d.life c.now h.gone h.kept k → IsRowOfOld d.life b.now g.gone g.kept k

-- a row of such an intent may go, but that of the newest ticket
abbrev pub RemovalsKeep : Type 0
RemovalsKeep = (d : Deployment) (c : Core) (m : Rows) (h : HasKept d c m) (k : RowKey) → IsRowOfOld d.life c.now h.gone h.kept k → is_eq (key_cmp (root_key c.newest) k) ≡ false → (g : HasKept d c (set_row m k None)) × IsLater h g

-- .. and so may the row of a root that has no body, where a later ticket was issued
abbrev pub UnboundMayGo : Type 0
UnboundMayGo = (d : Deployment) (c : Core) (m : Rows) (h : HasKept d c m) (t : ℕ) (w : IntentRow) → map.get m (root_key t) ≡ Some (Row.Intent w) → w.body ≡ None → t < c.newest → (g : HasKept d c (set_row m (root_key t) None)) × IsLater h g

-- ---- the acts that may remove a row: by what they leave of the rows, also where none is there, or it stays
-- one that drops the row of an intent once it is old, but not that of the newest ticket ..
abbrev pub IntentDropsKeep : Type 0
IntentDropsKeep = (d : Deployment) (c : Core) (m : Rows) (h : HasKept d c m) (home : ℕ) (i : IntentId) → (has_no_hops i.hops ≡ true → i.ticket < c.newest) → (g : HasKept d c (after_act (Act.DropIntent d.life) c.now (key_in home i) m)) × IsLater h g

-- .. and one that drops another row, of an intent that is gone or old
abbrev pub RowDropsKeep : Type 0
RowDropsKeep = (d : Deployment) (c : Core) (m : Rows) (h : HasKept d c m) (k : RowKey) → IsRowOfOld d.life c.now h.gone h.kept k → (g : HasKept d c (after_act Act.DropRow c.now k m)) × IsLater h g

-- ---- every event that there is keeps it, whatever it came to, also out of memory, and nobody more is gone
abbrev pub EventsKeep : Type 0
EventsKeep = (d : Deployment) (room old new : ℕ) (e : Event) (c b : Core) (m n : Rows) (x : Result EventReply AllocError) (h : HasKept d c m) → EventOn d room old new e c m b n x → (g : HasKept d b n) × IsLater h g × (g.latest ≡ h.latest)

-- where the intent collector stands is nothing to it
abbrev pub CursorIsFree : Type 0
CursorIsFree = (d : Deployment) (c : Core) (m : Rows) (h : HasKept d c m) (k : RowKey) → (g : HasKept d (record c { cursor = k }) m) × IsLater h g

-- the newest ticket is the greatest that a key of the table's rows names
abbrev pub NewestIsRead : Type 0
NewestIsRead = (d : Deployment) (c : Core) (m : Rows) → HasKept d c m → newest_of m ≡ c.newest

-- no row is added under a key of which a row went: what was kept of a key, and is not there, is not there after an event
abbrev pub NoRowComesBack : Type 0
NoRowComesBack = (d : Deployment) (room old new : ℕ) (e : Event) (c b : Core) (m n : Rows) (x : Result EventReply AllocError) (h : HasKept d c m) → EventOn d room old new e c m b n x
    → (k : RowKey) → map.get m k ≡ None → is_some (map.get h.kept k) ≡ true → map.get n k ≡ None

-- ---- what is answered: over the kept rows it is that event, with that answer, ..
pub record IsOfKept (d : Deployment) (e : Event) (c : Core) (kept : Rows) (b : Core) (x : Result EventReply AllocError) : Type 0 where
  pub room : ℕ
  pub old : ℕ
  pub new : ℕ
  pub after : Rows
  pub on : EventOn d room old new e c kept b after x

-- .. or the book stays, and neither an outcome is told nor an entry
pub record IsQuiet (e : Event) (c b : Core) (x : Result EventReply AllocError) : Type 0 where
  pub book : b.book ≡ c.book
  pub tells : IfOk x (λ y. (reply_outcome y ≡ None) × (reply_entries e y ≡ []))

abbrev pub AnswersAreOfKept : Type 0
AnswersAreOfKept = (d : Deployment) (room old new : ℕ) (e : Event) (c b : Core) (m n : Rows) (x : Result EventReply AllocError) (h : HasKept d c m) → EventOn d room old new e c m b n x → IsOfKept d e c h.kept b x ⊎ IsQuiet e c b x
