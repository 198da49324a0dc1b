-- What a run may ask in its stages: it gives no root a body.
use Rattle.std.proofs.Common.{Bool, ap, List, None, Option, Some, [], false, refl, sym, true, ℕ, ◌-◌, ◌∙◌, ◌∷◌, ◌≡◌}
use Rattle.beldi_value.specs.{Id.has_callees, declared.id.IntentId.IntentId, declared.place.Caller.Caller, declared.place.Owner.Owner, declared.place.Place.Place, declared.place.TxId.TxId, declared.value.Value.Value}
use Rattle.beldi_lang.specs.declared.effect.Effect.{Effect}
use Rattle.beldi_plain_laws.proofs.Called.{not_root}
use Rattle.beldi_row.specs.{Key.RowKey, Key.at_row, Log.blank, declared.act.Act.Act, declared.key.Kind.Kind}
use Rattle.beldi_query.specs.declared.query.Query.{Query}
use Rattle.beldi_daal.specs.{Cell.cell_key, Cell.op_act, Cell.shadow_key, Cell.write_asks, declared.cell.CellOp.CellOp, declared.cell.WriteAt.WriteAt}
use Rattle.beldi_lock.specs.{Lock.asks_at, declared.lock.LockAt.LockAt}
use Rattle.beldi_intent.specs.Intent.{root_key}
use Rattle.beldi_txn.specs.{End.free_asks, End.first_visit, End.free_place, End.shadow_asks, End.visit_asks, End.visited_by, Tx.aside_asks, Tx.asks_of, Tx.item_asks, Tx.item_of, Tx.op_of, CallPath.Member, declared.end.EndAt.EndAt, declared.end.EndState.EndState, declared.tx.TxAt.TxAt, declared.call_path.Called.Called}
use Rattle.beldi_call.specs.{Async.async_asks, declared.async_call.AsyncAt.AsyncAt, declared.call.CallAt.CallAt}
use Rattle.beldi_step.specs.{declared.run.RunTx.RunTx, declared.run.Stage.Stage, Run.OnCell, Run.async_here_asks, Run.back_to_asks, Run.call_here_asks, Run.callee_body, Run.cell_op, Run.close_asks, Run.end_by_asks, Run.end_here_asks, Run.place_of, Run.put_asks, Run.stage_asks, Run.own_tx, Run.notify_asks, Run.tx_here_asks, Run.tx_of, Run.walk_asks}
use Rattle.beldi_invariant.proofs.Moves.{if_plan}

-- an act that may give a row a body
abbrev pub sets_body : Act → Bool
sets_body (Act.Bind f a) = true
sets_body (Act.Register b) = true
sets_body a = false

-- the intent of a key, if it is that of one
abbrev pub id_or : IntentId → Kind → IntentId
id_or id (Kind.Intent i) = i
id_or id kind = id

abbrev pub Tame : Query → Type 0
Tame (Query.Act k a) = sets_body a ≡ true → (t : ℕ) → k ≡ root_key t → ⊥
Tame (Query.After k) = Unit {0}

-- an act that sets no body
mild : (k : RowKey) (a : Act) → sets_body a ≡ false → Tame (Query.Act k a)
mild k a other sets t e = let clash = sym other ∙ sets in cc

op_sets : (p : Place) (w : Owner) (op : CellOp) → sets_body (op_act p w op) ≡ false
op_sets p w (CellOp.Write v) = refl
op_sets p w (CellOp.Cond r o v) = refl
op_sets p w CellOp.Lock = refl
op_sets p w (CellOp.Free v) = refl

-- of a row of an item, or of a shadow
write_tame : (k : RowKey) (p : Place) (w : Owner) (op : CellOp) (at : WriteAt) → Tame (write_asks k p w op at)
write_tame k p w op (WriteAt.Try i) = mild (at_row k i) (op_act p w op) (op_sets p w op)
write_tame k p w op WriteAt.Make = mild k (Act.MakeCell Value.Null None blank) refl
write_tame k p w op (WriteAt.Append i told) = mild (at_row k i) (Act.MakeCell told.value told.owner blank) refl
write_tame k p w op (WriteAt.Link i) = mild (at_row k (i - 1)) (Act.LinkCell i) refl

-- ---- inside a transaction
aside_tame : (home : ℕ) (p : Place) (x : TxId) (k : RowKey) (w : WriteAt) (op : Option CellOp) → Tame (aside_asks home p x k w op)
aside_tame home p x k w None = λ s t e. cc
aside_tame home p x k w (Some op) = write_tame k p (Owner.Tx x) op w

lock_tame : (home t : ℕ) (k : List ℕ) (p : Place) (w : Owner) (l : LockAt) → Tame (asks_at home t k p w l)
lock_tame home t k p w (LockAt.Lockset b) = λ s t e. cc
lock_tame home t k p w (LockAt.Item at) = write_tame (cell_key home t k) p w CellOp.Lock at

at_item_tame : (home : ℕ) (p : Place) (x : TxId) (e : Effect) (t : ℕ) (k : List ℕ) (a : TxAt) → Tame (item_asks home p x e t k a)
at_item_tame home p x e t k TxAt.Log = λ s t e. cc
at_item_tame home p x e t k (TxAt.Lock l) = lock_tame home t k p (Owner.Tx x) l
at_item_tame home p x e t k TxAt.Seek = λ s t e. cc
at_item_tame home p x e t k (TxAt.Shadow i) = λ s t e. cc
at_item_tame home p x e t k (TxAt.Item i) = λ s t e. cc
at_item_tame home p x e t k (TxAt.Keep v) = λ s t e. cc
at_item_tame home p x e t k (TxAt.Head v) = mild (shadow_key home x t k) (Act.MakeCell v None blank) refl
at_item_tame home p x e t k (TxAt.Write w) = aside_tame home p x (shadow_key home x t k) w (op_of e)

tx_tame : (home : ℕ) (p : Place) (x : TxId) (e : Effect) (a : TxAt) (i : Option (ℕ × List ℕ)) → Tame (asks_of home p x e a i)
tx_tame home p x e a None = λ s t e. cc
tx_tame home p x e a (Some i) = at_item_tame home p x e i.0 i.1 a

-- ---- at an end
shadow_tame : (x : TxId) (p : Member) (r : ℕ) (i : Option (ℕ × List ℕ)) → Tame (shadow_asks x p r i)
shadow_tame x p r None = tt
shadow_tame x p r (Some i) = λ s t e. cc

give_tame : (x : TxId) (p : Member) (at : Place) (v : Option Value) (w : WriteAt) (i : Option (ℕ × List ℕ)) → Tame (free_asks x p at v w i)
give_tame x p at v w None = tt
give_tame x p at v w (Some i) = write_tame (cell_key p.1 i.0 i.1) at (Owner.Tx x) (CellOp.Free v) w

visit_tame : (x : TxId) (end : ℕ) (commit : Bool) (cs : List Called) (after : Option ℕ) (i : Option (ℕ × List ℕ)) (v : Option Value) (at : EndAt) → Tame (visit_asks x end commit cs after i v at)
visit_tame x end commit cs after i v EndAt.Decide = λ s t e. cc
visit_tame x end commit cs (Some n) i v EndAt.Callees = tt
visit_tame x end commit [] None i v EndAt.Callees = tt
visit_tame x end commit (c ∷ cs) None i v EndAt.Callees = tt
visit_tame x end commit cs after (Some j) v EndAt.Next = tt
visit_tame x end commit cs after None v EndAt.Next = tt
visit_tame x end commit cs after i v (EndAt.Shadow r) = shadow_tame x (visited_by x cs) r i
visit_tame x end commit cs after i v (EndAt.Free w) = give_tame x (visited_by x cs) (free_place x end cs) v w i
visit_tame x end commit cs after i v EndAt.Stamp = λ s t e. cc

-- ---- a stage
module _ (id : IntentId) (func : ℕ) (c : Option Caller) (o : Option RunTx) (step : ℕ) where
  walk_tame : (i : ℕ) (e : Effect) → Tame (walk_asks id func i e)
  walk_tame i (Effect.Read t k) = λ s t e. cc
  walk_tame i e = λ s t e. cc

  put_tame : (at : WriteAt) (x : Option OnCell) → Tame (put_asks id func step at x)
  put_tame at None = λ s t e. cc
  put_tame at (Some x) = write_tame (cell_key func x.table x.key) (place_of id step) (Owner.Intent id) x.op at

  here_tame : (e : Effect) (at : TxAt) (x : Option RunTx) → Tame (tx_here_asks id func step e at x)
  here_tame e at None = λ s t e. cc
  here_tame e at (Some x) = tx_tame func (place_of id step) (tx_of id func x) e at (item_of e)

  end_tame : (commit : Bool) (v : EndState) (x : Option RunTx) → Tame (end_by_asks id func step commit v x)
  end_tame commit v None = λ s t e. cc
  end_tame commit v (Some (RunTx.Inherited x)) = λ s t e. cc
  end_tame commit v (Some (RunTx.Own x)) = visit_tame (own_tx id func x) step commit v.path v.after v.item v.value v.at

  end_here_tame : (e : Effect) (v : EndState) → Tame (end_here_asks id func step e v o)
  end_here_tame (Effect.End commit) v = end_tame commit v o
  end_here_tame e v = λ s t e. cc

  call_tame : (e : Effect) (at : CallAt) → Tame (call_here_asks id func step e at)
  call_tame (Effect.Call f a) CallAt.Open = λ s t e. cc
  call_tame (Effect.Call f a) CallAt.Look = λ s t e. cc
  call_tame e at = λ s t e. cc

  async_tame : (e : Effect) (at : AsyncAt) → Tame (async_here_asks id func step e at)
  async_tame (Effect.Async f a) at = if_plan Tame (has_callees id) _ _ (λ t. by_at at) (λ t s u e. cc)
    where
      by_at : (at : AsyncAt) → Tame (async_asks func (place_of id step) (callee_body id func step f a None false) at)
      by_at AsyncAt.Open = λ s t e. cc
      by_at AsyncAt.Register = λ s t e. not_root id step t (ap (λ (k : RowKey). id_or id k.kind) e)
      by_at AsyncAt.Note = λ s t e. cc
  async_tame e at = λ s t e. cc

  tell_tame : (x : Option Caller) → Tame (notify_asks id func x)
  tell_tame None = λ s t e. cc
  tell_tame (Some x) = λ s t e. cc

  back_tame : (x : Option Caller) (e : Effect) → Tame (back_to_asks id func x e)
  back_tame (Some x) (Effect.Return u) = λ s t e. cc
  back_tame x e = λ s t e. cc

  close_tame : (e : Effect) → Tame (close_asks id func o e)
  close_tame (Effect.Return u) = λ s t e. cc
  close_tame e = λ s t e. cc

  pub stage_tame : (e : Effect) (s : Stage) → Tame (stage_asks id func c o step e s)
  stage_tame e Stage.Ask = λ s t e. cc
  stage_tame e (Stage.Walk i) = walk_tame i e
  stage_tame e (Stage.Keep v version) = λ s t e. cc
  stage_tame e (Stage.Write at) = put_tame at (cell_op e)
  stage_tame e (Stage.Tx at) = here_tame e at o
  stage_tame e (Stage.Decide m) = end_here_tame e first_visit
  stage_tame e (Stage.End v) = end_here_tame e v
  stage_tame e (Stage.Call at) = call_tame e at
  stage_tame e (Stage.Async at) = async_tame e at
  stage_tame e Stage.Back = back_tame c e
  stage_tame e Stage.Notify = tell_tame c
  stage_tame e Stage.Close = close_tame e
