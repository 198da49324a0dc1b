-- A run that walks along linked rows: the row that it looks at next, the run set forward to another one, and that a turn at a row which
-- holds nothing for it goes on to the next row, and does no more.
use Rattle.std.specs.Prelude.{◌≡◌, ℕ, ◌==◌, Bool, true, false, List, Option, Some, None, if◌then◌else◌}
use Rattle.beldi_value.specs.{declared.id.IntentId.IntentId, declared.place.Place.Place, declared.place.TxId.TxId}
use Rattle.beldi_tree.specs.declared.deployment.Deployment.{Deployment}
use Rattle.beldi_lang.specs.declared.effect.Effect.{Effect}
use Rattle.beldi_row.specs.{Key.RowKey, Key.at_row, Key.row_of, Table.Rows, Table.LeadsOn}
use Rattle.beldi_query.specs.Query.{rows_after, query_adds, query_reply}
use Rattle.beldi_daal.specs.{declared.cell.WriteAt.WriteAt, declared.cell.WriteAt.TheVariants.Try, Cell.cell_key}
use Rattle.beldi_lock.specs.declared.lock.LockAt.{LockAt}
use Rattle.beldi_txn.specs.{declared.tx.TxAt.TxAt, declared.end.EndAt.EndAt, declared.end.EndState.EndState, declared.call_path.Called.Called, Tx.item_of, End.visited_by, End.free_place}
use Rattle.beldi_step.specs.declared.run.{Run.Run, RunAt.RunAt, RunAt.TheVariants.Looks, RunAt.TheVariants.Registers, RunAt.TheVariants.Begins, RunTx.RunTx, RunTx.TheVariants.Own, RunTx.TheVariants.Inherited, Stage.Stage, Walking.Walking}
use Rattle.beldi_step.specs.Run.{OnCell, cell_op, place_of, own_tx, at_stage, run_asks, run_told}

-- ---- the row that is looked at next, and the place whose entry is looked for there, none where a value is read
-- at this row of an item
abbrev pub along : RowKey → ℕ → Option Place → Option Walking
along k r p = Some (record { key = at_row k r; place = p })

-- an operation, where it is tried
abbrev pub write_walking : Place → RowKey → WriteAt → Option Walking
write_walking p k (Try r) = along k r (Some p)
write_walking p k at = None

abbrev pub lock_walking : Place → RowKey → LockAt → Option Walking
lock_walking p k (LockAt.Lockset begin) = None
lock_walking p k (LockAt.Item at) = write_walking p k at

-- outside a transaction
abbrev pub read_walking : ℕ → ℕ → Effect → Option Walking
read_walking func row (Effect.Read t k) = along (cell_key func t k) row None
read_walking func row e = None

abbrev pub put_walking : Place → ℕ → WriteAt → Option OnCell → Option Walking
put_walking p func at (Some o) = write_walking p (cell_key func o.table o.key) at
put_walking p func at None = None

-- inside one, at the item itself, as a transaction's own copy has only the rows that it filled
abbrev pub item_walking : ℕ → Place → ℕ × List ℕ → TxAt → Option Walking
item_walking func p i (TxAt.Lock at) = lock_walking p (cell_key func i.0 i.1) at
item_walking func p i (TxAt.Item r) = along (cell_key func i.0 i.1) r None
item_walking func p i at = None

abbrev pub tx_walking : ℕ → Place → TxAt → Option RunTx → Option (ℕ × List ℕ) → Option Walking
tx_walking func p at (Some o) (Some i) = item_walking func p i at
tx_walking func p at (Some o) None = None
tx_walking func p at None i = None

-- at its end, where an item is given back
abbrev pub free_walking : TxId → ℕ → List Called → ℕ × List ℕ → EndAt → Option Walking
free_walking x end cs i (EndAt.Free at) = write_walking (free_place x end cs) (cell_key (visited_by x cs).1 i.0 i.1) at
free_walking x end cs i at = None

abbrev pub visit_walking : TxId → ℕ → List Called → EndAt → Option (ℕ × List ℕ) → Option Walking
visit_walking x end cs at (Some i) = free_walking x end cs i at
visit_walking x end cs at None = None

abbrev pub end_by_walking : IntentId → ℕ → ℕ → EndState → Option RunTx → Option Walking
end_by_walking id func step v (Some (Own o)) = visit_walking (own_tx id func o) step v.path v.at v.item
end_by_walking id func step v (Some (Inherited x)) = None
end_by_walking id func step v None = None

abbrev pub end_walking : IntentId → ℕ → ℕ → Effect → EndState → Option RunTx → Option Walking
end_walking id func step (Effect.End commit) v o = end_by_walking id func step v o
end_walking id func step e v o = None

abbrev pub stage_walking : IntentId → ℕ → Option RunTx → ℕ → Effect → Stage → Option Walking
stage_walking id func o step e (Stage.Walk row) = read_walking func row e
stage_walking id func o step e (Stage.Write at) = put_walking (place_of id step) func at (cell_op e)
stage_walking id func o step e (Stage.Tx at) = tx_walking func (place_of id step) at o (item_of e)
stage_walking id func o step e (Stage.End v) = end_walking id func step e v o
stage_walking id func o step e s = None

abbrev pub walking_at : Run → RunAt → Option Walking
walking_at r (Begins g) = stage_walking r.id r.func g.tx g.machine.steps g.machine.effect g.stage
walking_at r at = None

abbrev pub walking : Run → Option Walking
walking r = walking_at r r.at

-- .. past the first row of its item, which a turn looks at
abbrev pub unless_first : Bool → Walking → Option Walking
unless_first true w = None
unless_first false w = Some w

abbrev pub past_first : Option Walking → Option Walking
past_first None = None
past_first (Some w) = unless_first (row_of w.key.kind == 0) w

-- ---- the same, set forward to the row of a number
abbrev pub write_to : ℕ → WriteAt → WriteAt
write_to n (Try r) = Try n
write_to n at = at

abbrev pub lock_to : ℕ → LockAt → LockAt
lock_to n (LockAt.Lockset begin) = LockAt.Lockset begin
lock_to n (LockAt.Item at) = LockAt.Item (write_to n at)

abbrev pub tx_to : ℕ → TxAt → TxAt
tx_to n (TxAt.Lock at) = TxAt.Lock (lock_to n at)
tx_to n (TxAt.Item r) = TxAt.Item n
tx_to n at = at

abbrev pub end_to : ℕ → EndAt → EndAt
end_to n (EndAt.Free at) = EndAt.Free (write_to n at)
end_to n at = at

abbrev pub stage_to : ℕ → Stage → Stage
stage_to n (Stage.Walk row) = Stage.Walk n
stage_to n (Stage.Write at) = Stage.Write (write_to n at)
stage_to n (Stage.Tx at) = Stage.Tx (tx_to n at)
stage_to n (Stage.End v) = Stage.End (record v { at = end_to n v.at })
stage_to n s = s

abbrev pub run_to : ℕ → RunAt → RunAt
run_to n (Begins g) = Begins (at_stage g (stage_to n g.stage))
run_to n at = at

abbrev pub walked : ℕ → Run → Run
walked n r = record r { at = run_to n r.at }

-- ---- a turn at a row that leads on to the row of this number: the rows are as before and none is added, the run stands at that row,
-- and no more is said
pub record WalkedOn (d : Deployment) (changes : ℕ) (r : Run) (w : Walking) (next now : ℕ) (m : Rows) : Type 0 where
  pub stands : rows_after (run_asks r) now m ≡ m
  pub adds : query_adds (run_asks r) now m ≡ false
  pub told : run_told d changes r (query_reply (run_asks r) now m) ≡ record { next = Some (walked next r); mark = None; starts = false; wait = None; reply = None }
  pub walks : walking (walked next r) ≡ Some (record { key = at_row w.key next; place = w.place })

abbrev pub WalksOn : Type 0
WalksOn = (d : Deployment) (changes : ℕ) (r : Run) (w : Walking) (next now : ℕ) (m : Rows) → walking r ≡ Some w → LeadsOn m w.key w.place next → WalkedOn d changes r w next now m
