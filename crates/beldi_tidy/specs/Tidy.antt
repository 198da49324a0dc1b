-- What the rows of a host with the invariant are to a sweep of a log collector.
use Rattle.std.specs.Prelude.{◌≡◌, ℕ, ◌<◌, Some, None}
use Rattle.beldi_tree.specs.declared.deployment.Deployment.{Deployment}
use Rattle.beldi_plain.specs.Item.{Item}
use Rattle.beldi_row.specs.{Table.Rows, declared.row.Cell.Cell, declared.row.Row.Row}
use Rattle.beldi_chain.specs.Chain.{chain}
use Rattle.beldi_sweep.specs.SweptRows.{AllIsOld, AreSound, IsIdle}
use Rattle.beldi_step.specs.HostStep.{Core}
use Rattle.beldi_histories.specs.Contents.{head_key}
use Rattle.beldi_kept.specs.KeptRows.{HasKept}

-- they are sound
abbrev pub RowsAreSound : Type 0
RowsAreSound = (d : Deployment) (c : Core) (m : Rows) → HasKept d c m → AreSound m

-- and once all intents are idle, what belongs to one is of one that is gone, or old
abbrev pub IdleAreOld : Type 0
IdleAreOld = (d : Deployment) (c : Core) (m : Rows) → HasKept d c m → IsIdle c.newest d.life c.now m → AllIsOld c.newest d.life c.now m

-- ---- .. and no item has a row that was made and never linked
-- one row of an item has no next
abbrev pub EndOnce : Rows → Type 0
EndOnce m = (x : Item) (a b : ℕ) (p q : Cell) → chain m (head_key x) a ≡ Some (Row.Cell p) → p.next ≡ None → chain m (head_key x) b ≡ Some (Row.Cell q) → q.next ≡ None → a ≡ b

abbrev pub IdleEndOnce : Type 0
IdleEndOnce = (d : Deployment) (c : Core) (m : Rows) → HasKept d c m → IsIdle c.newest d.life c.now m → EndOnce m

-- an item has at most one row beside its first
abbrev pub HaveOneBehind : Rows → Type 0
HaveOneBehind m = (x : Item) (a b : ℕ) → 0 < a → 0 < b → (r s : Row) → chain m (head_key x) a ≡ Some r → chain m (head_key x) b ≡ Some s → a ≡ b
