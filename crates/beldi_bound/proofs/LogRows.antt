-- Who puts the row of a log: a run at its own step, or at the Begin of its own open transaction.
use Rattle.std.specs.{Ordering.is_eq}
use Rattle.std.specs.FinMap as map
use Rattle.std.proofs.Common.{◌≡◌, ℕ, Bool, true, false, List, Option, Some, None, is_some, cond, if◌then◌else◌, refl, sym, ap, subst, ◌∙◌}
use Rattle.beldi_value.specs.{Id.has_callees, declared.id.IntentId.IntentId, declared.place.Caller.Caller, declared.place.Place.Place, declared.value.Value.Value}
use Rattle.beldi_lang.specs.declared.effect.Effect.{Effect}
use Rattle.beldi_row.{proofs.Gets.got, proofs.Gets.key_same, specs.Act.act, specs.Key.RowKey, specs.Key.key_cmp, specs.Table.Rows, specs.declared.act.Act.Act, specs.declared.key.Kind.Kind, specs.declared.row.Body.Body}
use Rattle.beldi_query.specs.{Query.rows_after, declared.query.Query.Query}
use Rattle.beldi_daal.specs.{Cell.shadow_key, declared.cell.CellOp.CellOp, declared.cell.WriteAt.WriteAt}
use Rattle.beldi_lock.specs.declared.lock.LockAt.{LockAt}
use Rattle.beldi_readlog.specs.ReadLog.{log_key}
use Rattle.beldi_txn.specs.{End.visit_asks, Tx.aside_asks, Tx.asks_of, Tx.item_asks, Tx.item_of as item_of_tx, Tx.op_of, declared.end.EndAt.EndAt, declared.end.EndState.EndState, declared.tx.TxAt.TxAt, declared.call_path.Called.Called}
use Rattle.beldi_call.specs.declared.{async_call.AsyncAt.AsyncAt, call.CallAt.CallAt}
use Rattle.beldi_call.specs.{Async.async_asks}
use Rattle.beldi_intent.specs.Intent.{look_asks}
use Rattle.beldi_step.specs.{declared.run.Begun.Begun, declared.run.OpenTx.OpenTx, declared.run.Run.Run, declared.run.RunAt.RunAt, declared.run.RunTx.RunTx, declared.run.Stage.Stage, Run.OnCell, Run.asks_at, Run.back_to_asks, Run.cell_op, Run.end_here_asks, Run.own_tx, Run.place_of, Run.put_asks, Run.stage_asks, Run.notify_asks, Run.tx_of}

-- ---- the place of the log's row that a query may put, with the home of the row
abbrev pub unless_look : Act → ℕ × Place → Option (ℕ × Place)
unless_look Act.Look x = None
unless_look a x = Some x

abbrev pub log_at : ℕ → Kind → Act → Option (ℕ × Place)
log_at home (Kind.ReadLog p) a = unless_look a (home, p)
log_at home kind a = None

abbrev pub log_put : Query → Option (ℕ × Place)
log_put (Query.Act k a) = log_at k.home k.kind a
log_put (Query.After k) = None

not_look : (now : ℕ) (a : Act) → is_some (act a now None).0 ≡ true → (x : ℕ × Place) → unless_look a x ≡ Some x
not_look now Act.Look some x = cc
not_look now a some x = refl

-- a log's row that is there after a query and was not there before stands at such a place
pub new_log : (q : Query) (now : ℕ) (m : Rows) (home : ℕ) (p : Place) → map.get m (log_key home p) ≡ None → is_some (map.get (rows_after q now m) (log_key home p)) ≡ true → log_put q ≡ Some (home, p)
new_log (Query.After k) now m home p none some = let clash = sym (ap is_some none) ∙ some in cc
new_log (Query.Act k a) now m home p none some = by_key (is_eq (key_cmp (log_key home p) k)) refl
  where
    by_key : (b : Bool) → is_eq (key_cmp (log_key home p) k) ≡ b → log_at k.home k.kind a ≡ Some (home, p)
    by_key false e = let clash = sym (ap is_some (got m k (log_key home p) (act a now (map.get m k)).0 ∙ ap (λ t. cond t (act a now (map.get m k)).0 (map.get m (log_key home p))) e ∙ none)) ∙ some in cc
    by_key true e =
        let same : log_key home p ≡ k = key_same (log_key home p) k e in
        let there : is_some (act a now (map.get m k)).0 ≡ true = sym (ap is_some (got m k (log_key home p) (act a now (map.get m k)).0 ∙ ap (λ t. cond t (act a now (map.get m k)).0 (map.get m (log_key home p))) e)) ∙ some in
        subst (λ (l : RowKey). log_at l.home l.kind a ≡ Some (home, p)) same
        (not_look now a (ap (λ o. is_some (act a now o).0) (sym none ∙ ap (map.get m) same) ∙ there) (home, p))

-- ---- whose place it is
pub data OwnLog (id : IntentId) (func : ℕ) (o : Option RunTx) (step : ℕ) (x : ℕ × Place) : Type 0 where
  here : x ≡ (func, place_of id step) → OwnLog id func o step x
  at_begin : (w : OpenTx) → o ≡ Some (RunTx.Own w) → x ≡ (func, place_of id w.begin) → OwnLog id func o step x

same_place : {x y : ℕ × Place} → Some x ≡ Some y → y ≡ x
same_place h = cc

module _ (id : IntentId) (func : ℕ) (c : Option Caller) (step : ℕ) where
  abbrev Puts : Option RunTx → Query → Type 0
  Puts o q = (x : ℕ × Place) → log_put q ≡ Some x → OwnLog id func o step x

  -- an operation outside a transaction works on its item's rows
  by_put : (o : Option RunTx) (at : WriteAt) (z : Option OnCell) → Puts o (put_asks id func step at z)
  by_put o at None x h = cc
  by_put o (WriteAt.Try r) (Some z) x h = cc
  by_put o WriteAt.Make (Some z) x h = cc
  by_put o (WriteAt.Append n t) (Some z) x h = cc
  by_put o (WriteAt.Link n) (Some z) x h = cc

  -- inside one it keeps a value at its own place
  by_item : (o : RunTx) (e : Effect) (t : ℕ) (k : List ℕ) (a : TxAt) → Puts (Some o) (item_asks func (place_of id step) (tx_of id func o) e t k a)
  by_item o e t k TxAt.Log x h = cc
  by_item o e t k (TxAt.Lock (LockAt.Lockset b)) x h = cc
  by_item o e t k (TxAt.Lock (LockAt.Item (WriteAt.Try r))) x h = cc
  by_item o e t k (TxAt.Lock (LockAt.Item WriteAt.Make)) x h = cc
  by_item o e t k (TxAt.Lock (LockAt.Item (WriteAt.Append n u))) x h = cc
  by_item o e t k (TxAt.Lock (LockAt.Item (WriteAt.Link n))) x h = cc
  by_item o e t k TxAt.Seek x h = cc
  by_item o e t k (TxAt.Shadow r) x h = cc
  by_item o e t k (TxAt.Item r) x h = cc
  by_item o e t k (TxAt.Keep v) x h = OwnLog.here (same_place h)
  by_item o e t k (TxAt.Head v) x h = cc
  by_item o e t k (TxAt.Write w) x h = by_write w (op_of e) h
    where
      by_write : (w : WriteAt) (z : Option CellOp) → log_put (aside_asks func (place_of id step) (tx_of id func o) (shadow_key func (tx_of id func o) t k) w z) ≡ Some x → OwnLog id func (Some o) step x
      by_write (WriteAt.Try r) (Some z) h = cc
      by_write WriteAt.Make (Some z) h = cc
      by_write (WriteAt.Append n u) (Some z) h = cc
      by_write (WriteAt.Link n) (Some z) h = cc
      by_write w None h = cc

  by_tx : (o : RunTx) (e : Effect) (a : TxAt) (i : Option (ℕ × List ℕ)) → Puts (Some o) (asks_of func (place_of id step) (tx_of id func o) e a i)
  by_tx o e a None x h = cc
  by_tx o e a (Some i) x h = by_item o e i.0 i.1 a x h

  -- the end of a transaction keeps the decision at its Begin
  by_visit : (o : OpenTx) (commit : Bool) (cs : List Called) (after : Option ℕ) (i : Option (ℕ × List ℕ)) (v : Option Value) (at : EndAt) → Puts (Some (RunTx.Own o)) (visit_asks (own_tx id func o) step commit cs after i v at)
  by_visit o commit cs after i v EndAt.Decide x h = OwnLog.at_begin o refl (same_place h)
  by_visit o commit cs after i v EndAt.Callees x h = cc
  by_visit o commit cs after i v EndAt.Next x h = cc
  by_visit o commit cs after None v (EndAt.Shadow r) x h = cc
  by_visit o commit cs after (Some i) v (EndAt.Shadow r) x h = cc
  by_visit o commit cs after None v (EndAt.Free w) x h = cc
  by_visit o commit cs after (Some i) v (EndAt.Free (WriteAt.Try r)) x h = cc
  by_visit o commit cs after (Some i) v (EndAt.Free WriteAt.Make) x h = cc
  by_visit o commit cs after (Some i) v (EndAt.Free (WriteAt.Append n u)) x h = cc
  by_visit o commit cs after (Some i) v (EndAt.Free (WriteAt.Link n)) x h = cc
  by_visit o commit cs after i v EndAt.Stamp x h = cc

  by_end : (o : Option RunTx) (e : Effect) (v : EndState) → Puts o (end_here_asks id func step e v o)
  by_end (Some (RunTx.Own o)) (Effect.End commit) v x h = by_visit o commit v.path v.after v.item v.value v.at x h
  by_end (Some (RunTx.Inherited t)) (Effect.End commit) v x h = cc
  by_end None (Effect.End commit) v x h = cc
  by_end o e v x h = cc

  -- the other stages put none
  by_async : (o : Option RunTx) (b : Body) (at : AsyncAt) (t : Bool) → Puts o (if t then async_asks func (place_of id step) b at else look_asks id func)
  by_async o b AsyncAt.Open true x h = cc
  by_async o b AsyncAt.Register true x h = cc
  by_async o b AsyncAt.Note true x h = cc
  by_async o b at false x h = cc

  by_back : (o : Option RunTx) (b : Option Caller) (e : Effect) → Puts o (back_to_asks id func b e)
  by_back o None e x h = cc
  by_back o (Some b) (Effect.Return u) x h = cc
  by_back o (Some b) e x h = cc

  by_tell : (o : Option RunTx) (b : Option Caller) → Puts o (notify_asks id func b)
  by_tell o None x h = cc
  by_tell o (Some b) x h = cc

  pub stage_puts : (o : Option RunTx) (e : Effect) (s : Stage) → Puts o (stage_asks id func c o step e s)
  stage_puts o e Stage.Ask x h = cc
  stage_puts o (Effect.Read t k) (Stage.Walk r) x h = cc
  stage_puts o e (Stage.Walk r) x h = cc
  stage_puts o e (Stage.Keep v version) x h = OwnLog.here (same_place h)
  stage_puts o e (Stage.Write at) x h = by_put o at (cell_op e) x h
  stage_puts None e (Stage.Tx a) x h = cc
  stage_puts (Some o) e (Stage.Tx a) x h = by_tx o e a (item_of_tx e) x h
  stage_puts o e (Stage.Decide m) x h = by_end o e _ x h
  stage_puts o e (Stage.End v) x h = by_end o e v x h
  stage_puts o (Effect.Call f a) (Stage.Call CallAt.Open) x h = cc
  stage_puts o (Effect.Call f a) (Stage.Call CallAt.Look) x h = cc
  stage_puts o e (Stage.Call at) x h = cc
  stage_puts o (Effect.Async f a) (Stage.Async at) x h = by_async o _ at (has_callees id) x h
  stage_puts o e (Stage.Async at) x h = cc
  stage_puts o e Stage.Back x h = by_back o c e x h
  stage_puts o e Stage.Notify x h = by_tell o c x h
  stage_puts o (Effect.Return u) Stage.Close x h = cc
  stage_puts o e Stage.Close x h = cc

-- a run that has not begun puts none
pub first_puts : (r : Run) (at : RunAt) (x : ℕ × Place) → log_put (asks_at r at) ≡ Some x → (g : Begun) × (at ≡ RunAt.Begins g)
first_puts r RunAt.Looks x h = cc
first_puts r (RunAt.Registers b) x h = cc
first_puts r (RunAt.Begins g) x h = (g, refl)
