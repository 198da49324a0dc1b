-- The invariant with the log collectors of the host: none is about to remove a row but one of an intent that is gone or old, and none to mark,
-- lead past or leave adrift a row of an item but one whose every entry is of such an intent.
use Rattle.std.specs.Prelude.{◌≡◌, ◌⊎◌, ◌≤◌, ℕ, Bool, true, false, is_some, max, List, [], ◌∷◌, Option, Some, None, Result, Ok, IfOk}
use Rattle.std.specs.declared.alloc.AllocError.{AllocError}
use Rattle.std.specs.FinMap as map
use Rattle.beldi_value.specs.declared.{id.IntentId.IntentId, place.Owner.Owner}
use Rattle.beldi_tree.specs.declared.deployment.Deployment.{Deployment}
use Rattle.beldi_plain.specs.Item.{Item}
use Rattle.beldi_chain.specs.{Chain.Chain, Chain.chain, Content.content_in}
use Rattle.beldi_intent.specs.Intent.{intent_key}
use Rattle.beldi_links.specs.Links.{LeadsTo}
use Rattle.beldi_splice.specs.Onward.{HasFollower, IsOnWay}
use Rattle.beldi_row.specs.{Act.is_adrift, Act.is_old_row, Key.RowKey, Key.at_row, Key.row_of, Table.Rows, Table.set_row, declared.row.Row.Row}
use Rattle.beldi_prune.specs.{Collectors.collector_at, Collectors.first_collectors, CellEntries.HasEntryOf, CellEntries.IsOf, PruneLaws.HasCollectorInvariant, PruneLaws.MayGo, PruneLaws.is_behind}
use Rattle.beldi_prune.specs.declared.collector.LogCollector.{LogCollector}
use Rattle.beldi_prune.specs.declared.collector.CollectorAt.{CollectorAt, TheVariants.Before, TheVariants.ToDropIntent, TheVariants.ToLook, TheVariants.ToDrop, TheVariants.ToProve, TheVariants.ToMark, TheVariants.ToLead, TheVariants.ToSkip, TheVariants.ToDangle, TheVariants.ToDropCell}
use Rattle.beldi_step.specs.{HostStep.Core, HostStep.EventOn, Prunes.PrunesOn, declared.event.Event.Event, declared.event.Pruned.Pruned, declared.event.Pruned.TheVariants.Marked, declared.event.Pruned.TheVariants.Skipped, declared.event.Pruned.TheVariants.Dangled, declared.event.Pruned.TheVariants.Removed, declared.event.EventReply.EventReply}
use Rattle.beldi_histories.specs.Contents.{content_of, head_key}
use Rattle.beldi_upkeep.specs.{Callees.HasIntentRow, Upkeep.Upkeep, WorksFor.finish_in}
use Rattle.beldi_kept.specs.KeptRows.{HasKept, IsLater, IsOld, IsRowOfOld}

-- ---- what a collector found of a row of an item, which may be gone by now
-- an intent is gone, or its finish, by the kept row in this home, is old
abbrev pub IsGoneOrOld : ℕ → ℕ → (IntentId → Bool) → Rows → ℕ → IntentId → Type 0
IsGoneOrOld life now gone kept home i = (gone i ≡ true) ⊎ IsOld life now (finish_in (map.get kept (intent_key i home)))

-- the row has a next, and each entry is of one that is so, or of one of these
abbrev pub IsProved : ℕ → ℕ → (IntentId → Bool) → Rows → ℕ → List IntentId → Option Row → Type 0
IsProved life now gone kept home is None = Unit {0}
IsProved life now gone kept home is (Some (Row.Cell c)) = (is_some c.next ≡ true) × ((i : IntentId) → HasEntryOf c.log i → IsGoneOrOld life now gone kept home i ⊎ IsOf is i)
IsProved life now gone kept home is (Some r) = ⊥

-- the row is marked, and leads to this one
abbrev pub IsMarkedTo : ℕ → Option Row → Type 0
IsMarkedTo to None = Unit {0}
IsMarkedTo to (Some (Row.Cell c)) = (c.marked ≡ true) × (c.next ≡ Some to)
IsMarkedTo to (Some r) = ⊥

-- the rows of the item whose row has this key
abbrev pub chain_of : Rows → RowKey → Chain
chain_of m k = chain m (at_row k 0)

-- the first row of the item does not lead there
abbrev pub IsUnled : Rows → RowKey → Type 0
IsUnled m k = LeadsTo (chain_of m k) 0 (row_of k.kind) → ⊥

-- ---- what a collector found of a row that it has begun: that it was kept, and then that it is of an intent that is gone or old; or, where it
-- is an item's, that it may be marked, led past, and left adrift
abbrev pub WasKept : Rows → RowKey → Type 0
WasKept kept k = is_some (map.get kept k) ≡ true

abbrev pub Found : (d : Deployment) (c : Core) (m : Rows) → HasKept d c m → CollectorAt → Type 0
Found d c m h Before = Unit {0}
Found d c m h (ToDropIntent k) = Unit {0}
Found d c m h (ToLook k) = WasKept h.kept k
Found d c m h (ToDrop k) = IsRowOfOld d.life c.now h.gone h.kept k
Found d c m h (ToProve k i is) = WasKept h.kept k × IsProved d.life c.now h.gone h.kept k.home (i ∷ is) (map.get m k)
Found d c m h (ToMark k) = WasKept h.kept k × IsProved d.life c.now h.gone h.kept k.home [] (map.get m k)
Found d c m h (ToLead k to at) = WasKept h.kept k × IsMarkedTo to (map.get m k) × IsOnWay (chain_of m k) (row_of k.kind) at
Found d c m h (ToSkip k to at) = WasKept h.kept k × IsMarkedTo to (map.get m k)
Found d c m h (ToDangle k) = WasKept h.kept k × HasFollower (map.get m k) × IsUnled m k
Found d c m h (ToDropCell k) = Unit {0}

pub record Collects (d : Deployment) (c : Core) (m : Rows) (h : HasKept d c m) (w : LogCollector) : Type 0 where
  pub invariant : HasCollectorInvariant c.newest w
  pub found : Found d c m h w.at

-- ---- the invariant, of the host with its collectors and the table's rows
pub record IsSafe (d : Deployment) (c : Core) (m : Rows) : Type 0 where
  pub has : HasKept d c m
  pub collects : (n : ℕ) → Collects d c m has (collector_at c.collectors n)

-- it holds where the rows that are there were kept, and no collector has begun a row
abbrev pub SafeAtFirst : Type 0
SafeAtFirst = (d : Deployment) (c : Core) (m : Rows) (h : HasKept d c m) → c.collectors ≡ first_collectors → (g : IsSafe d c m) × (g.has ≡ h)

-- every event keeps it, whatever it came to, and no row goes
abbrev pub EventsKeepSafe : Type 0
EventsKeepSafe = (d : Deployment) (room old new : ℕ) (e : Event) (c b : Core) (m n : Rows) (x : Result EventReply AllocError) (h : IsSafe d c m) → EventOn d room old new e c m b n x
    → (g : IsSafe d b n) × IsLater h.has g.has × (g.has.latest ≡ h.has.latest)

-- ---- .. and so does every turn of a log collector
-- a turn that says so changed a row
abbrev pub changes : Pruned → Bool
changes Marked = true
changes Skipped = true
changes Dangled = true
changes Removed = true
changes y = false

-- .. and after one that says so more may be gone
abbrev pub takes : Pruned → Bool
takes Marked = true
takes Removed = true
takes y = false

-- who is gone was old at this moment, or earlier; where no row was changed the rows are as before, and where none was marked or removed
-- nobody more is gone
abbrev pub PruningsKeepSafe : Type 0
PruningsKeepSafe = (d : Deployment) (old new k : ℕ) (c b : Core) (m n : Rows) (x : Result Pruned AllocError) (h : IsSafe d c m) → PrunesOn d old new k c m b n x
    → (g : IsSafe d b n) × IsLater h.has g.has × (g.has.latest ≤ max h.has.latest c.now) × (IfOk x (λ y. changes y ≡ false) → n ≡ m) × (IfOk x (λ y. takes y ≡ false) → g.has.latest ≡ h.has.latest)

-- where the intent collector stands is nothing to it
abbrev pub SafeAtCursor : Type 0
SafeAtCursor = (d : Deployment) (c : Core) (m : Rows) (h : IsSafe d c m) (k : RowKey) → (g : IsSafe d (record c { cursor = k }) m) × (g.has.latest ≡ h.has.latest)

-- ---- what a turn of a log collector leaves of the host, and of rows of which none was changed
-- all but how many turns and events were taken, and where the collectors stand
pub record MovesCollectors (c b : Core) : Type 0 where
  pub taken : ℕ
  pub collectors : List LogCollector
  pub is : b ≡ record c { taken = taken; collectors = collectors }

abbrev pub PruningsMoveCollectors : Type 0
PruningsMoveCollectors = (d : Deployment) (old new k : ℕ) (c b : Core) (m n : Rows) (x : Result Pruned AllocError) → PrunesOn d old new k c m b n x → MovesCollectors c b

abbrev pub PruningsKeepWhole : Type 0
PruningsKeepWhole = (d : Deployment) (old new k : ℕ) (c b : Core) (m n : Rows) (x : Result Pruned AllocError) → PrunesOn d old new k c m b n x → IfOk x (λ y. changes y ≡ false) → Upkeep d c m → Upkeep d b n

-- .. and where the collectors are safe, no row of rows that are all there is marked, and so none is led past or left adrift
abbrev pub PruningsLeaveWhole : Type 0
PruningsLeaveWhole = (d : Deployment) (old new k : ℕ) (c b : Core) (m n : Rows) (x : Result Pruned AllocError) → IsSafe d c m → PrunesOn d old new k c m b n x → IfOk x (λ y. takes y ≡ false) → Upkeep d c m → Upkeep d b n

-- ---- the promise of the collectors: what a turn removed
-- it was the row of an intent, but of no root of the newest ticket, that had finished more than a life ago, or was issued then and never
-- bound; or a row of an item, but no first one, that was adrift for more than a life; or another row, of an intent that is gone or has
-- finished more than a life ago
pub record RemovesOld (d : Deployment) (c : Core) (m n : Rows) (h : HasKept d c m) : Type 0 where
  pub key : RowKey
  pub row : Row
  pub there : map.get m key ≡ Some row
  pub old : (MayGo c.newest key.kind × (is_old_row d.life c.now row ≡ true)) ⊎ (((is_behind key.kind ≡ true) × (is_adrift d.life c.now row ≡ true)) ⊎ IsRowOfOld d.life c.now h.gone h.kept key)
  pub gone : n ≡ set_row m key None

abbrev pub OnlyOldRowsGo : Type 0
OnlyOldRowsGo = (d : Deployment) (old new k : ℕ) (c b : Core) (m n : Rows) (h : IsSafe d c m) → PrunesOn d old new k c m b n (Ok Removed) → RemovesOld d c m n h.has

-- ---- owners
-- the owner of an item has its intent's row in the table: so no collector takes the row of an owner ..
abbrev pub OwnersHaveTheirRows : Type 0
OwnersHaveTheirRows = (d : Deployment) (c : Core) (m : Rows) → IsSafe d c m → (o : Owner) (x : Item) → (content_of m x).owner ≡ Some o → HasIntentRow m o

-- .. and no event gives a row of an item an owner whose intent has none: the row had that owner before, or the intent has its row
abbrev pub owner_at : Rows → Item → ℕ → Option Owner
owner_at m x i = (content_in (map.get m (at_row (head_key x) i))).owner

abbrev pub OwnersComeWithRows : Type 0
OwnersComeWithRows = (d : Deployment) (room old new : ℕ) (e : Event) (c b : Core) (m n : Rows) (x : Result EventReply AllocError) → IsSafe d c m → EventOn d room old new e c m b n x
    → (o : Owner) (y : Item) (i : ℕ) → owner_at n y i ≡ Some o → (owner_at m y i ≡ Some o) ⊎ HasIntentRow n o
