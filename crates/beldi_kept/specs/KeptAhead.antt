-- Where the walk of a run stands along the rows of an item, and that the rows which it is led to stay there until its deadline.
use Rattle.std.specs.Prelude.{◌≡◌, ℕ, ◌+◌, List, Option, Some, None}
use Rattle.beldi_value.specs.declared.{id.IntentId.IntentId, place.TxId.TxId}
use Rattle.beldi_lang.specs.declared.effect.Effect.{Effect}
use Rattle.beldi_row.specs.{Table.Rows}
use Rattle.beldi_chain.specs.Chain.{Chain, chain}
use Rattle.beldi_links.specs.Links.{At}
use Rattle.beldi_splice.specs.Splice.{IsSafeFrom, MayFollow}
use Rattle.beldi_daal.specs.{declared.cell.WriteAt.WriteAt, Cell.cell_key, Logged.at_of}
use Rattle.beldi_lock.specs.declared.lock.LockAt.{LockAt}
use Rattle.beldi_txn.specs.{declared.tx.TxAt.TxAt, declared.end.EndAt.EndAt, declared.end.EndState.EndState, declared.call_path.Called.Called, Tx.item_of, End.visited_by}
use Rattle.beldi_step.specs.declared.run.{Run.Run, RunAt.TheVariants.Begins, RunTx.RunTx, RunTx.TheVariants.Own, Stage.Stage}
use Rattle.beldi_step.specs.declared.run.RunAt as standing
use Rattle.beldi_step.specs.Run.{OnCell, cell_op, own_tx}

-- ---- a walk at a row of a chain: the rows that it is led to stay; and a row that it makes or links follows none yet, or stays as well
abbrev pub IsFollowed : ℕ → ℕ → Chain → ℕ → Type 0
IsFollowed life deadline g r = IsSafeFrom life deadline g r × MayFollow life deadline g r

abbrev pub StaysFor : ℕ → ℕ → Chain → At → Type 0
StaysFor life deadline g (At.Try r) = IsSafeFrom life deadline g r
StaysFor life deadline g At.Make = Unit {0}
StaysFor life deadline g (At.Append n v o) = (r : ℕ) → n ≡ r + 1 → IsFollowed life deadline g r
StaysFor life deadline g (At.Link n) = (r : ℕ) → n ≡ r + 1 → IsFollowed life deadline g r

-- ---- a run at a stage of its effect
abbrev pub StaysForPut : ℕ → ℕ → Rows → ℕ → WriteAt → Option OnCell → Type 0
StaysForPut life deadline m func at (Some o) = StaysFor life deadline (chain m (cell_key func o.table o.key)) (at_of at)
StaysForPut life deadline m func at None = Unit {0}

abbrev pub StaysForTx : ℕ → ℕ → Rows → ℕ → TxAt → Option (ℕ × List ℕ) → Type 0
StaysForTx life deadline m func (TxAt.Lock (LockAt.Item at)) (Some i) = StaysFor life deadline (chain m (cell_key func i.0 i.1)) (at_of at)
StaysForTx life deadline m func (TxAt.Item r) (Some i) = IsSafeFrom life deadline (chain m (cell_key func i.0 i.1)) r
StaysForTx life deadline m func a i = Unit {0}

abbrev pub StaysForVisit : ℕ → ℕ → Rows → TxId → List Called → EndAt → Option (ℕ × List ℕ) → Type 0
StaysForVisit life deadline m x path (EndAt.Free at) (Some i) = StaysFor life deadline (chain m (cell_key (visited_by x path).1 i.0 i.1)) (at_of at)
StaysForVisit life deadline m x path a i = Unit {0}

abbrev pub StaysForRead : ℕ → ℕ → Rows → ℕ → ℕ → Effect → Type 0
StaysForRead life deadline m func r (Effect.Read t k) = IsSafeFrom life deadline (chain m (cell_key func t k)) r
StaysForRead life deadline m func r e = Unit {0}

abbrev pub StaysForEnd : ℕ → ℕ → Rows → IntentId → ℕ → EndState → Option RunTx → Type 0
StaysForEnd life deadline m id func v (Some (Own o)) = StaysForVisit life deadline m (own_tx id func o) v.path v.at v.item
StaysForEnd life deadline m id func v o = Unit {0}

abbrev pub StaysAtStage : ℕ → ℕ → Rows → IntentId → ℕ → Stage → Effect → Option RunTx → Type 0
StaysAtStage life deadline m id func (Stage.Walk r) e o = StaysForRead life deadline m func r e
StaysAtStage life deadline m id func (Stage.Write at) e o = StaysForPut life deadline m func at (cell_op e)
StaysAtStage life deadline m id func (Stage.Tx a) e o = StaysForTx life deadline m func a (item_of e)
StaysAtStage life deadline m id func (Stage.End v) e o = StaysForEnd life deadline m id func v o
StaysAtStage life deadline m id func s e o = Unit {0}

abbrev pub StaysAhead : ℕ → Rows → Run → standing.RunAt → Type 0
StaysAhead life m r (Begins g) = StaysAtStage life r.deadline m r.id r.func g.stage g.machine.effect g.tx
StaysAhead life m r at = Unit {0}
