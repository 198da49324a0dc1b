-- Whose rows a run asks for.
use Rattle.std.proofs.Common.{◌≡◌, ◌⊎◌, inl, inr, ℕ, ◌-◌, Bool, true, false, List, Option, Some, None, if◌then◌else◌, refl, sym, subst, ◌∙◌}
use Rattle.beldi_value.specs.{Id.has_callees, declared.id.IntentId.IntentId, declared.place.Caller.Caller, declared.place.Owner.Owner, declared.place.Place.Place, declared.place.TxId.TxId}
use Rattle.beldi_lang.specs.declared.effect.Effect.{Effect}
use Rattle.beldi_row.specs.{Key.RowKey, Key.at_row}
use Rattle.beldi_query.specs.declared.query.Query.{Query}
use Rattle.beldi_daal.specs.{Cell.cell_key, Cell.shadow_key, Cell.write_asks, declared.cell.CellOp.CellOp, declared.cell.WriteAt.WriteAt}
use Rattle.beldi_invokelog.specs.InvokeLog.{invoke_key}
use Rattle.beldi_lock.specs.{Lock.asks_at, declared.lock.LockAt.LockAt}
use Rattle.beldi_txn.specs.{End.first_visit, End.free_asks, End.free_place, End.shadow_asks, End.visit_asks, End.visited_by, Tx.aside_asks, Tx.asks_of, Tx.item_asks, Tx.item_of, Tx.op_of, declared.end.EndAt.EndAt, declared.end.EndState.EndState, declared.tx.TxAt.TxAt}
use Rattle.beldi_call.specs.{Async.async_asks, declared.async_call.AsyncAt.AsyncAt, declared.call.CallAt.CallAt}
use Rattle.beldi_step.specs.Run.{OnCell, async_here_asks, asks_at as run_asks_at, back_to_asks, call_here_asks, callee_body, cell_op, close_asks, end_here_asks, own_tx, place_of, put_asks, stage_asks, notify_asks, tx_here_asks, tx_of, walk_asks}
use Rattle.beldi_step.specs.declared.run.{OpenTx.OpenTx, Run.Run, RunAt.TheVariants.Looks, RunAt.TheVariants.Registers, RunAt.TheVariants.Begins, RunTx.RunTx, RunTx.TheVariants.Own, RunTx.TheVariants.Inherited, Stage.Stage}
use Rattle.beldi_step.specs.declared.run.RunAt as standing
use Rattle.beldi_step.proofs.StepRuns.{either, same_some}
use Rattle.beldi_upkeep.specs.{Callees.belongs_to, Checked.is_visit, WorksFor.AsksSo, WorksFor.IsCallOf, WorksFor.IsOfOther, WorksFor.IsOwner, WorksFor.IsRegistered, WorksFor.RunsAskForWork, WorksFor.called_in}

module _ (r : Run) (c : Option Caller) (step : ℕ) where
  -- ---- rows of the run's own intent, or of the owner of the transaction that it was called in; or of an item
  abbrev IsMine : Option RunTx → RowKey → Type 0
  IsMine o k = (i : IntentId) → belongs_to k.kind ≡ Some i → (i ≡ r.id) ⊎ IsOwner (called_in o) i

  abbrev Mine : Option RunTx → Query → Type 0
  Mine o (Query.Act k a) = IsMine o k
  Mine o (Query.After k) = ⊥

  own : (o : Option RunTx) (k : RowKey) → belongs_to k.kind ≡ Some r.id → IsMine o k
  own o k is i of = inl (same_some (sym of ∙ is))

  items : (o : Option RunTx) (k : RowKey) → belongs_to k.kind ≡ None → IsMine o k
  items o k is i of = let clash = sym is ∙ of in cc

  -- .. a shadow's
  of_tx : (o : RunTx) (k : RowKey) → belongs_to k.kind ≡ Some (tx_of r.id r.func o).intent → IsMine (Some o) k
  of_tx (Own o) k is i of = inl (same_some (sym of ∙ is))
  of_tx (Inherited t) k is i of = inr (same_some (sym of ∙ is))

  put_mine : (o : Option RunTx) (k : RowKey) (p : Place) (w : Owner) (op : CellOp) (at : WriteAt) → IsMine o k → ((n : ℕ) → IsMine o (at_row k n)) → Mine o (write_asks k p w op at)
  put_mine o k p w op (WriteAt.Try n) first rows = rows n
  put_mine o k p w op WriteAt.Make first rows = first
  put_mine o k p w op (WriteAt.Append n told) first rows = rows n
  put_mine o k p w op (WriteAt.Link n) first rows = rows (n - 1)

  cell_mine : (o : Option RunTx) (home t : ℕ) (k : List ℕ) (p : Place) (w : Owner) (op : CellOp) (at : WriteAt) → Mine o (write_asks (cell_key home t k) p w op at)
  cell_mine o home t k p w op at = put_mine o (cell_key home t k) p w op at (items o (cell_key home t k) refl) (λ n. items o (at_row (cell_key home t k) n) refl)

  -- ---- inside a transaction
  module _ (o : RunTx) where
    abbrev x : TxId
    x = tx_of r.id r.func o

    aside_mine : (home t : ℕ) (k : List ℕ) (w : WriteAt) (op : Option CellOp) → Mine (Some o) (aside_asks home (place_of r.id step) x (shadow_key home x t k) w op)
    aside_mine home t k w None = λ i of. inl (sym (same_some of))
    aside_mine home t k w (Some op) = put_mine (Some o) (shadow_key home x t k) (place_of r.id step) (Owner.Tx x) op w (of_tx o (shadow_key home x t k) refl) (λ n. of_tx o (at_row (shadow_key home x t k) n) refl)

    lock_mine : (home t : ℕ) (k : List ℕ) (l : LockAt) → Mine (Some o) (asks_at home t k (place_of r.id step) (Owner.Tx x) l)
    lock_mine home t k (LockAt.Lockset b) = λ i of. inl (sym (same_some of))
    lock_mine home t k (LockAt.Item at) = cell_mine (Some o) home t k (place_of r.id step) (Owner.Tx x) CellOp.Lock at

    item_mine : (home : ℕ) (e : Effect) (t : ℕ) (k : List ℕ) (a : TxAt) → Mine (Some o) (item_asks home (place_of r.id step) x e t k a)
    item_mine home e t k TxAt.Log = λ i of. inl (sym (same_some of))
    item_mine home e t k (TxAt.Lock l) = lock_mine home t k l
    item_mine home e t k TxAt.Seek = of_tx o (shadow_key home x t k) refl
    item_mine home e t k (TxAt.Shadow n) = of_tx o (at_row (shadow_key home x t k) n) refl
    item_mine home e t k (TxAt.Item n) = items (Some o) (at_row (cell_key home t k) n) refl
    item_mine home e t k (TxAt.Keep v) = λ i of. inl (sym (same_some of))
    item_mine home e t k (TxAt.Head v) = of_tx o (shadow_key home x t k) refl
    item_mine home e t k (TxAt.Write w) = aside_mine home t k w (op_of e)

    tx_mine : (home : ℕ) (e : Effect) (a : TxAt) (i : Option (ℕ × List ℕ)) → Mine (Some o) (asks_of home (place_of r.id step) x e a i)
    tx_mine home e a None = λ i of. inl (sym (same_some of))
    tx_mine home e a (Some i) = item_mine home e i.0 i.1 a

  -- ---- by stage, what is asked outside of an end
  walk_mine : (o : Option RunTx) (n : ℕ) (e : Effect) → Mine o (walk_asks r.id r.func n e)
  walk_mine o n (Effect.Read t k) = items o (at_row (cell_key r.func t k) n) refl
  walk_mine o n e = λ i of. inl (sym (same_some of))

  write_mine : (o : Option RunTx) (at : WriteAt) (z : Option OnCell) → Mine o (put_asks r.id r.func step at z)
  write_mine o at None = λ i of. inl (sym (same_some of))
  write_mine o at (Some z) = cell_mine o r.func z.table z.key (place_of r.id step) (Owner.Intent r.id) z.op at

  here_mine : (e : Effect) (at : TxAt) (o : Option RunTx) → Mine o (tx_here_asks r.id r.func step e at o)
  here_mine e at None = λ i of. inl (sym (same_some of))
  here_mine e at (Some o) = tx_mine o r.func e at (item_of e)

  decide_mine : (e : Effect) (o : Option RunTx) → Mine o (end_here_asks r.id r.func step e first_visit o)
  decide_mine (Effect.End commit) None = λ i of. inl (sym (same_some of))
  decide_mine (Effect.End commit) (Some (Own o)) = λ i of. inl (sym (same_some of))
  decide_mine (Effect.End commit) (Some (Inherited x)) = λ i of. inl (sym (same_some of))
  decide_mine e o = λ i of. inl (sym (same_some of))

  call_mine : (o : Option RunTx) (e : Effect) (at : CallAt) → Mine o (call_here_asks r.id r.func step e at)
  call_mine o (Effect.Call f a) CallAt.Open = λ i of. inl (sym (same_some of))
  call_mine o (Effect.Call f a) CallAt.Look = λ i of. inl (sym (same_some of))
  call_mine o e at = λ i of. inl (sym (same_some of))

  close_mine : (o : Option RunTx) (e : Effect) → Mine o (close_asks r.id r.func o e)
  close_mine o (Effect.Return u) = λ i of. inl (sym (same_some of))
  close_mine o e = λ i of. inl (sym (same_some of))

  -- ---- what is asked at a stage
  abbrev Works : Effect → Option RunTx → Stage → IntentId → Type 0
  Works e o s i = (i ≡ r.id) ⊎ (IsOwner (called_in o) i ⊎ IsRegistered r step e s i)

  abbrev Suits : Effect → Option RunTx → Stage → Query → Type 0
  Suits e o s (Query.Act k a) = (i : IntentId) → belongs_to k.kind ≡ Some i → Works e o s i ⊎ IsOfOther r c o s k
  Suits e o s (Query.After k) = is_visit s ≡ true

  suits : (e : Effect) (o : Option RunTx) (s : Stage) (q : Query) → Mine o q → Suits e o s q
  suits e o s (Query.Act k a) mine = λ i of. elim (mine i of) [
    | inl same ↦ inl (inl same)
    | inr owner ↦ inl (inr (inl owner))
  ]
  suits e o s (Query.After k) mine = absurd mine

  itself : (e : Effect) (o : Option RunTx) (s : Stage) (i : IntentId) → Some r.id ≡ Some i → {B : Type 0} → Works e o s i ⊎ B
  itself e o s i of = inl (inl (sym (same_some of)))

  module _ (e : Effect) (o : OpenTx) (v : EndState) where
    abbrev t : TxId
    t = own_tx r.id r.func o

    visits : (end : ℕ) (commit : Bool) (at : EndAt) → v.at ≡ at → Suits e (Some (Own o)) (Stage.End v) (visit_asks t end commit v.path v.after v.item v.value at)
    visits end commit EndAt.Decide is = λ i of. itself e (Some (Own o)) (Stage.End v) i of
    visits end commit EndAt.Callees is = refl
    visits end commit EndAt.Next is = refl
    visits end commit (EndAt.Shadow n) is = by_item v.item
      where
        by_item : (x : Option (ℕ × List ℕ)) → Suits e (Some (Own o)) (Stage.End v) (shadow_asks t (visited_by t v.path) n x)
        by_item None = refl
        by_item (Some x) = λ i of. itself e (Some (Own o)) (Stage.End v) i of
    visits end commit (EndAt.Free w) is = by_item v.item
      where
        by_item : (x : Option (ℕ × List ℕ)) → Suits e (Some (Own o)) (Stage.End v) (free_asks t (visited_by t v.path) (free_place t end v.path) v.value w x)
        by_item None = refl
        by_item (Some x) = suits e (Some (Own o)) (Stage.End v) _ (cell_mine (Some (Own o)) (visited_by t v.path).1 x.0 x.1 (free_place t end v.path) (Owner.Tx t) (CellOp.Free v.value) w)
    visits end commit EndAt.Stamp is = λ i of. inr (is, refl)

  end_suits : (e : Effect) (v : EndState) (o : Option RunTx) → Suits e o (Stage.End v) (end_here_asks r.id r.func step e v o)
  end_suits (Effect.End commit) v None = λ i of. itself (Effect.End commit) None (Stage.End v) i of
  end_suits (Effect.End commit) v (Some (Own o)) = visits (Effect.End commit) o v step commit v.at refl
  end_suits (Effect.End commit) v (Some (Inherited x)) = λ i of. itself (Effect.End commit) (Some (Inherited x)) (Stage.End v) i of
  end_suits e v o = λ i of. itself e o (Stage.End v) i of

  async_suits : (o : Option RunTx) (e : Effect) (at : AsyncAt) → Suits e o (Stage.Async at) (async_here_asks r.id r.func step e at)
  async_suits o (Effect.Async f a) at = either (Suits (Effect.Async f a) o (Stage.Async at)) (has_callees r.id) _ _ (λ t. by_at at) (λ t i of. itself (Effect.Async f a) o (Stage.Async at) i of)
    where
      by_at : (at : AsyncAt) → Suits (Effect.Async f a) o (Stage.Async at) (async_asks r.func (place_of r.id step) (callee_body r.id r.func step f a None false) at)
      by_at AsyncAt.Open = λ i of. itself (Effect.Async f a) o (Stage.Async AsyncAt.Open) i of
      by_at AsyncAt.Register = λ i of. inl (inr (inr (sym (same_some of))))
      by_at AsyncAt.Note = λ i of. itself (Effect.Async f a) o (Stage.Async AsyncAt.Note) i of
  async_suits o e at = λ i of. itself e o (Stage.Async at) i of

  back_suits : (o : Option RunTx) (z : Option Caller) (e : Effect) → c ≡ z → Suits e o Stage.Back (back_to_asks r.id r.func z e)
  back_suits o (Some z) (Effect.Return u) is = λ i of. inr (subst (λ w. IsCallOf w (invoke_key z.func z.place)) (sym is) refl)
  back_suits o z e is = λ i of. itself e o Stage.Back i of

  tell_suits : (o : Option RunTx) (z : Option Caller) (e : Effect) → c ≡ z → Suits e o Stage.Notify (notify_asks r.id r.func z)
  tell_suits o None e is = λ i of. itself e o Stage.Notify i of
  tell_suits o (Some z) e is = λ i of. inr (subst (λ w. IsCallOf w (invoke_key z.func z.place)) (sym is) refl)

  by_stage : (o : Option RunTx) (e : Effect) (s : Stage) → Suits e o s (stage_asks r.id r.func c o step e s)
  by_stage o e Stage.Ask = λ i of. itself e o Stage.Ask i of
  by_stage o e (Stage.Walk n) = suits e o (Stage.Walk n) _ (walk_mine o n e)
  by_stage o e (Stage.Keep v version) = λ i of. itself e o (Stage.Keep v version) i of
  by_stage o e (Stage.Write at) = suits e o (Stage.Write at) _ (write_mine o at (cell_op e))
  by_stage o e (Stage.Tx at) = suits e o (Stage.Tx at) _ (here_mine e at o)
  by_stage o e (Stage.Decide m) = suits e o (Stage.Decide m) _ (decide_mine e o)
  by_stage o e (Stage.End v) = end_suits e v o
  by_stage o e (Stage.Call at) = suits e o (Stage.Call at) _ (call_mine o e at)
  by_stage o e (Stage.Async at) = async_suits o e at
  by_stage o e Stage.Back = back_suits o c e refl
  by_stage o e Stage.Notify = tell_suits o c e refl
  by_stage o e Stage.Close = suits e o Stage.Close _ (close_mine o e)

by_at : (r : Run) (at : standing.RunAt) → AsksSo r at (run_asks_at r at)
by_at r Looks = λ i of. inr (refl, refl)
by_at r (Registers b) = λ i of. inl (inl (sym (same_some of)))
by_at r (Begins g) = by_stage r g.caller g.machine.steps g.tx g.machine.effect g.stage

pub asks_for_work : RunsAskForWork
asks_for_work r = by_at r r.at
