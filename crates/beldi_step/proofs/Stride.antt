-- A turn of a walk at a row that leads on: what an act and a Look do there, and then by cases on the stage.
use Rattle.std.specs.FinMap as map
use Rattle.std.proofs.Common.{◌≡◌, ℕ, Bool, false, not, ◌&&◌, is_some, List, Option, None, Some, IfSome, refl, ap, ◌∙◌, subst}
use Rattle.beldi_value.specs.declared.{id.IntentId.IntentId, place.Caller.Caller, place.Owner.Owner, place.Place.Place, place.TxId.TxId, value.Value.Value}
use Rattle.beldi_tree.specs.declared.deployment.Deployment.{Deployment}
use Rattle.beldi_lang.specs.declared.effect.Effect.{Effect}
use Rattle.beldi_row.specs.Act.{ActReply, act, here, next, at_tail, noted_or, next_or, off}
use Rattle.beldi_row.{specs.declared.act.Act.Act, specs.declared.act.Act.TheVariants.Look, specs.declared.row.Cell.Cell, specs.declared.row.Row.Row, specs.Key.RowKey, specs.Key.at_row, specs.Log.note_at, specs.Table.Rows, specs.Table.LeadsOn, proofs.Unchanged.left}
use Rattle.beldi_query.specs.{declared.query.Query.Query, Query.QueryReply, Query.replied, Query.rows_after, Query.query_adds, Query.query_reply}
use Rattle.beldi_daal.specs.{declared.cell.CellOp.CellOp, declared.cell.WriteAt.WriteAt, declared.cell.WriteAt.TheVariants.Try, Cell.op_act, Cell.cell_goes}
use Rattle.beldi_lock.specs.declared.lock.LockAt.{LockAt}
use Rattle.beldi_txn.specs.{declared.tx.TxAt.TxAt, declared.end.EndAt.EndAt, declared.end.EndState.EndState, declared.call_path.Called.Called, Tx.item_of, Tx.asks_of, Tx.item_goes, End.visit_asks, End.end_goes}
use Rattle.beldi_step.specs.declared.run.{Run.Run, RunAt.RunAt, RunAt.TheVariants.Begins, RunTx.RunTx, RunTx.TheVariants.Own, Stage.Stage, StageOutput.StageOutput, StageOutput.TheVariants.On, Walking.Walking}
use Rattle.beldi_step.specs.Run.{OnCell, cell_op, note_of_op, place_of, own_tx, tx_of, put_asks, put_output, walk_output, tx_output, tx_here_output, visit_output, stage_asks, stage_output, turned_by}
use Rattle.beldi_step.specs.RunStride.{put_walking, tx_walking, visit_walking, stage_walking, write_to, tx_to, end_to, stage_to, walking, WalkedOn, WalksOn}

if_some : (o : Option Walking) (P Q : Walking → Type 0) → ((w : Walking) → P w → Q w) → IfSome o P → IfSome o Q
if_some None P Q f h = h
if_some (Some w) P Q f h = f w h

-- another row follows this cell, which has no note of the place
tail : (p : Place) (c : Cell) (n : ℕ) (z : Cell × ActReply) → note_at c.log p ≡ None → c.next ≡ Some n → at_tail p c z ≡ (c, next n)
tail p c n z lacks is = ap (λ o. noted_or c o (next_or c c.next z)) lacks ∙ ap (λ o. next_or c o z) is

acted : (p : Place) (who : Owner) (op : CellOp) (now : ℕ) (c : Cell) (n : ℕ) → note_at c.log p ≡ None → c.next ≡ Some n → act (op_act p who op) now (Some (Row.Cell c)) ≡ (Some (Row.Cell c), next n)
acted p who (CellOp.Write v) now c n lacks is = ap (λ (z : Cell × ActReply). (Some (Row.Cell z.0), z.1)) (tail p c n _ lacks is)
acted p who (CellOp.Cond r o v) now c n lacks is = ap (λ (z : Cell × ActReply). (Some (Row.Cell z.0), z.1)) (tail p c n _ lacks is)
acted p who CellOp.Lock now c n lacks is = ap (λ (z : Cell × ActReply). (Some (Row.Cell z.0), z.1)) (tail p c n _ lacks is)
acted p who (CellOp.Free v) now c n lacks is = ap (λ (z : Cell × ActReply). (Some (Row.Cell z.0), z.1)) (tail p c n _ lacks is)

module _ (m : Rows) (now n : ℕ) where
  -- what a query leaves, and what is said of what it tells
  record Leads (q : Query) (output : QueryReply → StageOutput) (s : StageOutput) : Type 0 where
    stands : rows_after q now m ≡ m
    adds : query_adds q now m ≡ false
    told : output (query_reply q now m) ≡ s

  leads : (k : RowKey) (a : Act) (row : Row) (t : ActReply) (output : QueryReply → StageOutput) (s : StageOutput) → map.get m k ≡ Some row → act a now (Some row) ≡ (Some row, t) → output (replied t) ≡ s → Leads (Query.Act k a) output s
  leads k a row t output s there is so = record {
    stands = left a now k m (Some row) there (ap (λ (z : Option Row × ActReply). z.0) is);
    adds = ap (λ (o : Option Row). not (is_some o) && is_some (off a now).0) there;
    told = ap (λ (o : Option Row). output (replied (act a now o).1)) there ∙ ap (λ (z : Option Row × ActReply). output (replied z.1)) is ∙ so;
  }

  operates : (k : RowKey) (p : Place) (who : Owner) (op : CellOp) (output : QueryReply → StageOutput) (s : StageOutput) → output (replied (next n)) ≡ s → LeadsOn m k (Some p) n → Leads (Query.Act k (op_act p who op)) output s
  operates k p who op output s so l = leads k (op_act p who op) (Row.Cell l.cell) (next n) output s l.here (acted p who op now l.cell n l.lacks l.followed) so

  looks : (k : RowKey) (output : QueryReply → StageOutput) (s : StageOutput) → ((c : Cell) → c.next ≡ Some n → output (replied (here (Row.Cell c))) ≡ s) → LeadsOn m k None n → Leads (Query.Act k Look) output s
  looks k output s so l = leads k Look (Row.Cell l.cell) (here (Row.Cell l.cell)) output s l.here refl (so l.cell l.followed)

  -- .. and the walk is at the next row then
  abbrev GoesOn : Query → (QueryReply → StageOutput) → StageOutput → Option Walking → Walking → Type 0
  GoesOn q output s after w = LeadsOn m w.key w.place n → Leads q output s × (after ≡ Some (record { key = at_row w.key n; place = w.place }))

  puts : (id : IntentId) (func step : ℕ) (e : Effect) (at : WriteAt) (o : Option OnCell)
      → IfSome (put_walking (place_of id step) func at o) (GoesOn (put_asks id func step at o) (λ t. put_output e at (note_of_op o) t) (On (Stage.Write (write_to n at)) None) (put_walking (place_of id step) func (write_to n at) o))
  puts id func step e (Try r) (Some o) = λ l. (operates _ _ _ o.op _ _ refl l, refl)
  puts id func step e at (Some o) = tt {0}
  puts id func step e at None = tt {0}

  operated : (id : IntentId) (func step : ℕ) (e : Effect) (o : RunTx) (at : TxAt) (i : Option (ℕ × List ℕ))
      → IfSome (tx_walking func (place_of id step) at (Some o) i) (GoesOn (asks_of func (place_of id step) (tx_of id func o) e at i) (λ t. tx_here_output id step e at (Some o) t) (On (Stage.Tx (tx_to n at)) None) (tx_walking func (place_of id step) (tx_to n at) (Some o) i))
  operated id func step e o (TxAt.Lock (LockAt.Item (Try r))) (Some i) = λ l. (operates _ _ _ CellOp.Lock _ _ refl l, refl)
  operated id func step e o (TxAt.Item r) (Some i) = λ l. (looks _ _ _ (λ c is. ap (λ x. tx_output (TxAt.Item r) (item_goes e (cell_goes None c x))) is) l, refl)
  operated id func step e o at (Some i) = tt {0}
  operated id func step e o at None = tt {0}

  gives : (x : TxId) (end : ℕ) (commit : Bool) (v : EndState) (at : EndAt) (i : Option (ℕ × List ℕ))
      → IfSome (visit_walking x end v.path at i) (GoesOn (visit_asks x end commit v.path v.after i v.value at) (λ t. visit_output commit v (end_goes x end commit v.path at t)) (On (Stage.End (record v { at = end_to n at })) None) (visit_walking x end v.path (end_to n at) i))
  gives x end commit v (EndAt.Free (Try r)) (Some i) = λ l. (operates _ _ _ (CellOp.Free v.value) _ _ refl l, refl)
  gives x end commit v at (Some i) = tt {0}
  gives x end commit v at None = tt {0}

  stages : (id : IntentId) (func : ℕ) (c : Option Caller) (o : Option RunTx) (changes step : ℕ) (e : Effect) (s : Stage)
      → IfSome (stage_walking id func o step e s) (GoesOn (stage_asks id func c o step e s) (λ t. stage_output id func c o changes step e s t) (On (stage_to n s) None) (stage_walking id func o step e (stage_to n s)))
  stages id func c o changes step (Effect.Read t k) (Stage.Walk row) = λ l. (looks _ _ _ (λ z is. ap (λ x. walk_output changes (cell_goes (Some (Owner.Intent id)) z x)) is) l, refl)
  stages id func c o changes step e (Stage.Write at) = puts id func step e at (cell_op e)
  stages id func c (Some o) changes step e (Stage.Tx at) = operated id func step e o at (item_of e)
  stages id func c (Some (Own o)) changes step (Effect.End commit) (Stage.End v) = gives (own_tx id func o) step commit v v.at v.item
  stages id func c o changes step e s = tt {0}

  runs : (d : Deployment) (changes : ℕ) (id : IntentId) (func deadline : ℕ) (at : RunAt) → let r : Run = record { id = id; func = func; deadline = deadline; at = at } in
      IfSome (walking r) (λ w. LeadsOn m w.key w.place n → WalkedOn d changes r w n now m)
  runs d changes id func deadline (Begins g) = let r : Run = record { id = id; func = func; deadline = deadline; at = Begins g } in
      if_some (walking r) _ _ (λ w f l. let h = f l in record { stands = h.0.stands; adds = h.0.adds; told = ap (turned_by d r g) h.0.told; walks = h.1 })
      (stages id func g.caller g.tx changes g.machine.steps g.machine.effect g.stage)
  runs d changes id func deadline at = tt {0}

pub walks_on : WalksOn
walks_on d changes r w n now m is = subst (λ (o : Option Walking). IfSome o (λ z. LeadsOn m z.key z.place n → WalkedOn d changes r z n now m)) is (runs m now n d changes r.id r.func r.deadline r.at)
