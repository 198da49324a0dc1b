-- The invariant over rows of which some were removed: all that holds of rows that no one removed holds of the rows that were kept.
use Rattle.std.specs.Prelude.{◌≡◌, ◌⊎◌, ℕ, ◌<◌, ◌≤◌, Bool, true, false, Option, Some, None, is_some, max}
use Rattle.std.specs.FinMap as map
use Rattle.beldi_value.specs.{Id.has_no_hops, declared.id.IntentId.IntentId}
use Rattle.beldi_tree.specs.declared.deployment.Deployment.{Deployment}
use Rattle.beldi_row.specs.{Act.is_past, Key.RowKey, Table.Rows, declared.row.Row.Row}
use Rattle.beldi_intent.specs.Intent.{root_key}
use Rattle.beldi_step.specs.{HostStep.Core, declared.run.Run.Run}
use Rattle.beldi_histories.specs.Stands.{key_in}
use Rattle.beldi_upkeep.specs.{Callees.belongs_to, Callees.seat_of, Upkeep.Upkeep, WorksFor.WorksFor, WorksFor.finish_in}
use Rattle.beldi_wanted.specs.Wanted.{Wanted}
use Rattle.beldi_kept.specs.{KeptAhead.StaysAhead, Less.Less}

-- ---- moments
-- a finish more than a life ago
abbrev pub IsOld : ℕ → ℕ → Option ℕ → Type 0
IsOld life now f = is_past life now f ≡ true

-- ---- who is gone has an old finish; or is a root without body, which the table has no row of any more, and after which another ticket was issued
abbrev pub IsUnbound : ℕ → IntentId → Option Row → Option Row → Type 0
IsUnbound newest i None (Some (Row.Intent r)) = (r.body ≡ None) × (has_no_hops i.hops ≡ true) × (i.ticket < newest)
IsUnbound newest i s r = ⊥

pub record IsOver (life newest latest : ℕ) (m kept : Rows) (i : IntentId) : Type 0 where
  pub home : ℕ
  pub over : IsOld life latest (finish_in (map.get kept (key_in home i))) ⊎ IsUnbound newest i (map.get m (key_in home i)) (map.get kept (key_in home i))

-- ---- the invariant, of the host and the table's rows
pub record HasKept (d : Deployment) (c : Core) (m : Rows) : Type 0 where
  -- there are rows for which all holds that every event keeps
  pub kept : Rows
  pub upkeep : Upkeep d c kept
  -- each of an item that was made, and is not linked yet, has someone who will link it
  pub wanted : Wanted d c kept
  -- some intents are gone, and the table's rows are the kept ones less some of these
  pub gone : IntentId → Bool
  pub less : Less gone m kept
  -- .. each of which was old at this moment, or has no body
  pub latest : ℕ
  pub over : (i : IntentId) → gone i ≡ true → IsOver d.life c.newest latest m kept i
  -- no run that may act works for one that is gone
  pub spared : (n : ℕ) (r : Run) (i : IntentId) → map.get c.runs n ≡ Some r → c.now ≤ r.deadline → WorksFor r r.at i → gone i ≡ false
  -- and the rows of items that its walk is led to stay until its deadline
  pub ahead : (n : ℕ) (r : Run) → map.get c.runs n ≡ Some r → c.now ≤ r.deadline → StaysAhead d.life m r r.at
  -- the newest ticket has its row in the table
  pub newest : (c.newest ≡ 0) ⊎ (is_some (map.get m (root_key c.newest)) ≡ true)

-- ---- a row that may go
-- its intent is gone already, or its finish, by the kept row, is old
pub record IsRowOfOld (life now : ℕ) (gone : IntentId → Bool) (kept : Rows) (k : RowKey) : Type 0 where
  pub intent : IntentId
  pub belongs : belongs_to k.kind ≡ Some intent
  pub old : (gone intent ≡ true) ⊎ IsOld life now (finish_in (map.get kept (seat_of k intent)))

-- ---- later, what was found of rows that were kept is so still
module _ {d : Deployment} {c b : Core} {m n : Rows} (h : HasKept d c m) (g : HasKept d b n) where
  pub record IsLater : Type 0 where
    pub moment : c.now ≤ b.now
    pub ticket : c.newest ≤ b.newest
    -- a kept row stays, and so does a finish; and who is gone stays so
    pub rows : (k : RowKey) → is_some (map.get h.kept k) ≡ true → is_some (map.get g.kept k) ≡ true
    pub finishes : (k : RowKey) (f : ℕ) → finish_in (map.get h.kept k) ≡ Some f → finish_in (map.get g.kept k) ≡ Some f
    pub gone : (i : IntentId) → h.gone i ≡ true → g.gone i ≡ true
    -- nobody went after the moment that it is then
    pub latest : g.latest ≤ max h.latest b.now
