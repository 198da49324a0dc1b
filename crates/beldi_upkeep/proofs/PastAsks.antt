-- What a run asks in its stages shows its intent past no step that the run is not past, and opens no call but that of its step.
use Rattle.std.proofs.Common.{Bool, arith, List, None, Option, Some, [], false, inl, inr, refl, subst, sym, true, ℕ, ◌-◌, ◌∙◌, ◌<◌, ◌∷◌, ◌≡◌}
use Rattle.beldi_value.specs.{Id.child_of, Id.has_callees, declared.id.IntentId.IntentId, declared.outcome.Outcome.Outcome, declared.place.Caller.Caller, declared.place.Owner.Owner, declared.place.Place.Place, declared.place.TxId.TxId, declared.value.Value.Value}
use Rattle.beldi_lang.specs.declared.effect.Effect.{Effect}
use Rattle.beldi_plain_laws.specs.WellFormedState.{call_of}
use Rattle.beldi_plain_laws.proofs.Maps.{same_some}
use Rattle.beldi_row.specs.{Key.RowKey, Key.at_row, Log.blank, Table.Rows, declared.act.Act.Act, declared.key.Kind.Kind}
use Rattle.beldi_query.specs.declared.query.Query.{Query}
use Rattle.beldi_daal.specs.{Cell.cell_key, Cell.op_act, Cell.shadow_key, Cell.write_asks, declared.cell.CellOp.CellOp, declared.cell.WriteAt.WriteAt}
use Rattle.beldi_invokelog.specs.InvokeLog.{invoke_key}
use Rattle.beldi_lock.specs.{Lock.asks_at, declared.lock.LockAt.LockAt}
use Rattle.beldi_txn.specs.{End.free_asks, End.first_visit, End.free_place, End.shadow_asks, End.visit_asks, End.visited_by, Tx.aside_asks, Tx.asks_of, Tx.item_asks, Tx.item_of, Tx.op_of, CallPath.Member, declared.end.EndAt.EndAt, declared.end.EndState.EndState, declared.tx.TxAt.TxAt, declared.call_path.Called.Called}
use Rattle.beldi_call.specs.{Async.async_asks, declared.async_call.AsyncAt.AsyncAt, declared.call.CallAt.CallAt}
use Rattle.beldi_step.specs.{declared.run.OpenTx.OpenTx, declared.run.RunTx.RunTx, declared.run.Stage.Stage, Run.OnCell, Run.async_here_asks, Run.back_to_asks, Run.call_here_asks, Run.callee_body, Run.cell_op, Run.close_asks, Run.end_by_asks, Run.end_here_asks, Run.place_of, Run.put_asks, Run.stage_asks, Run.own_tx, Run.notify_asks, Run.tx_here_asks, Run.tx_of, Run.walk_asks}
use Rattle.beldi_invariant.proofs.Moves.{if_plan}
use Rattle.beldi_upkeep.specs.Passed.{IsLater, MayPass}
use Rattle.beldi_upkeep.proofs.PastActs.{Does, calls_back, ends_intent, notes_at, opens_call, puts_read}

op_notes : (p : Place) (w : Owner) (op : CellOp) → notes_at (op_act p w op) ≡ Some p
op_notes p w (CellOp.Write v) = refl
op_notes p w (CellOp.Cond r o v) = refl
op_notes p w CellOp.Lock = refl
op_notes p w (CellOp.Free v) = refl

op_opens : (p : Place) (w : Owner) (op : CellOp) → opens_call (op_act p w op) ≡ false
op_opens p w (CellOp.Write v) = refl
op_opens p w (CellOp.Cond r o v) = refl
op_opens p w CellOp.Lock = refl
op_opens p w (CellOp.Free v) = refl

-- an act that shows nothing
pub record IsQuiet (a : Act) : Type 0 where
  pub read : puts_read a ≡ false
  pub opens : opens_call a ≡ false
  pub back : calls_back a ≡ false
  pub ends : ends_intent a ≡ false
  pub notes : notes_at a ≡ None

pub no_both : (b : Bool) → b ≡ false → b ≡ true → ⊥
no_both b e f = let clash = sym e ∙ f in cc

pub nothing : (a : Act) → IsQuiet a → (κ : Kind) (i : IntentId) (n : ℕ) → Does a κ i n → ⊥
nothing a q (Kind.ReadLog p) i n s = no_both (puts_read a) q.read s.1
nothing a q (Kind.Invoke p) i n (inl s) = no_both (opens_call a) q.opens s.1
nothing a q (Kind.Invoke p) i n (inr s) = no_both (calls_back a) q.back s.1
nothing a q (Kind.Data t k z) i n s = let clash = sym q.notes ∙ s.1 in cc
nothing a q (Kind.Intent j) i n s = no_both (ends_intent a) q.ends s.1
nothing a q (Kind.Shadow s t k z) i n x = absurd x
nothing a q (Kind.Lockset j b t k) i n x = absurd x

module _ (m : Rows) (id : IntentId) (func : ℕ) (c : Option Caller) (o : Option RunTx) (step : ℕ) (effect : Effect) where
  -- an effect that is a call
  pub record IsCalling : Type 0 where
    pub waits : Bool
    pub callee : ℕ
    pub args : Value
    pub is : effect ≡ call_of waits callee args

  abbrev pub Shows : Act → Kind → Type 0
  Shows a κ = (i : IntentId) (n : ℕ) → Does a κ i n → MayPass m i n

  abbrev pub OpensHere : RowKey → Act → Type 0
  OpensHere k a = opens_call a ≡ true → (k ≡ invoke_key func (place_of id step)) × IsCalling

  abbrev pub Suits : Query → Type 0
  Suits (Query.Act k a) = Shows a k.kind × OpensHere k a
  Suits (Query.After k) = Unit {0}

  quiet : (k : RowKey) (a : Act) → IsQuiet a → Suits (Query.Act k a)
  quiet k a q = (λ i n does. absurd (nothing a q k.kind i n does), λ e. absurd (no_both (opens_call a) q.opens e))

  looked : (k : RowKey) → Suits (Query.Act k Act.Look)
  looked k = quiet k Act.Look (record { read = refl; opens = refl; back = refl; ends = refl; notes = refl })

  made : (k : RowKey) (v : Value) (w : Option Owner) → Suits (Query.Act k (Act.MakeCell v w blank))
  made k v w = quiet k (Act.MakeCell v w blank) (record { read = refl; opens = refl; back = refl; ends = refl; notes = refl })

  linked : (k : RowKey) (r : ℕ) → Suits (Query.Act k (Act.LinkCell r))
  linked k r = quiet k (Act.LinkCell r) (record { read = refl; opens = refl; back = refl; ends = refl; notes = refl })

  -- a place all before which may be passed
  abbrev pub Fine : Place → Type 0
  Fine p = (i : IntentId) (n : ℕ) → IsLater p i n → MayPass m i n

  -- of a row of an item
  item_suits : (home t : ℕ) (k : List ℕ) (p : Place) (w : Owner) (op : CellOp) (at : WriteAt) → Fine p → Suits (write_asks (cell_key home t k) p w op at)
  item_suits home t k p w op (WriteAt.Try r) fine = (λ i n does. fine i n (subst (λ q. IsLater q i n) (same_some (sym does.1 ∙ op_notes p w op)) does.2), λ e. absurd (no_both (opens_call (op_act p w op)) (op_opens p w op) e))
  item_suits home t k p w op WriteAt.Make fine = made (cell_key home t k) Value.Null None
  item_suits home t k p w op (WriteAt.Append r told) fine = made (at_row (cell_key home t k) r) told.value told.owner
  item_suits home t k p w op (WriteAt.Link r) fine = linked (at_row (cell_key home t k) (r - 1)) r

  -- of a shadow's
  shadow_suits : (x : TxId) (t : ℕ) (k : List ℕ) (p : Place) (w : Owner) (op : CellOp) (at : WriteAt) → Suits (write_asks (shadow_key func x t k) p w op at)
  shadow_suits x t k p w op (WriteAt.Try r) = (λ i n does. absurd does, λ e. absurd (no_both (opens_call (op_act p w op)) (op_opens p w op) e))
  shadow_suits x t k p w op WriteAt.Make = made (shadow_key func x t k) Value.Null None
  shadow_suits x t k p w op (WriteAt.Append r told) = made (at_row (shadow_key func x t k) r) told.value told.owner
  shadow_suits x t k p w op (WriteAt.Link r) = linked (at_row (shadow_key func x t k) (r - 1)) r

  -- ---- inside a transaction
  aside_suits : (p : Place) (x : TxId) (t : ℕ) (k : List ℕ) (w : WriteAt) (op : Option CellOp) → Suits (aside_asks func p x (shadow_key func x t k) w op)
  aside_suits p x t k w None = looked _
  aside_suits p x t k w (Some op) = shadow_suits x t k p (Owner.Tx x) op w

  module _ (p : Place) (fine : Fine p) (x : TxId) where
    lock_suits : (t : ℕ) (k : List ℕ) (l : LockAt) → Suits (asks_at func t k p (Owner.Tx x) l)
    lock_suits t k (LockAt.Lockset b) = quiet _ Act.PutLockset (record { read = refl; opens = refl; back = refl; ends = refl; notes = refl })
    lock_suits t k (LockAt.Item at) = item_suits func t k p (Owner.Tx x) CellOp.Lock at fine

    at_item_suits : (e : Effect) (t : ℕ) (k : List ℕ) (a : TxAt) → Suits (item_asks func p x e t k a)
    at_item_suits e t k TxAt.Log = looked _
    at_item_suits e t k (TxAt.Lock l) = lock_suits t k l
    at_item_suits e t k TxAt.Seek = looked _
    at_item_suits e t k (TxAt.Shadow r) = looked _
    at_item_suits e t k (TxAt.Item r) = looked _
    at_item_suits e t k (TxAt.Keep v) = (λ i n does. fine i n does.0, λ e. cc)
    at_item_suits e t k (TxAt.Head v) = made (shadow_key func x t k) v None
    at_item_suits e t k (TxAt.Write w) = aside_suits p x t k w (op_of e)

    tx_suits : (e : Effect) (a : TxAt) (i : Option (ℕ × List ℕ)) → Suits (asks_of func p x e a i)
    tx_suits e a None = looked _
    tx_suits e a (Some i) = at_item_suits e i.0 i.1 a

  -- ---- at an end
  shadow_ends : (x : TxId) (p : Member) (r : ℕ) (i : Option (ℕ × List ℕ)) → Suits (shadow_asks x p r i)
  shadow_ends x p r None = tt
  shadow_ends x p r (Some i) = looked _

  give_suits : (x : TxId) (p : Member) (at : Place) (v : Option Value) (w : WriteAt) (i : Option (ℕ × List ℕ)) → Fine at → Suits (free_asks x p at v w i)
  give_suits x p at v w None fine = tt
  give_suits x p at v w (Some i) fine = item_suits p.1 i.0 i.1 at (Owner.Tx x) (CellOp.Free v) w fine

  -- ---- a run that is past so much
  module _ (passes : (n : ℕ) → n < step → MayPass m id n) (begun : (x : OpenTx) → o ≡ Some (RunTx.Own x) → x.begin < step) (returns : (u : Outcome) → effect ≡ Effect.Return u → (n : ℕ) → MayPass m id n)
      (backs : (z : Caller) → c ≡ Some z → child_of z.place.intent z.place.step ≡ id) where
    own : Fine (place_of id step)
    own i n later = subst (λ j. MayPass m j n) later.intent (passes n later.later)

    before : (x : OpenTx) → o ≡ Some (RunTx.Own x) → Fine (place_of id x.begin)
    before x is i n later = subst (λ j. MayPass m j n) later.intent (passes n (let b = begun x is in let l = later.later in omega (arith, b, l)))

    freed : (x : OpenTx) (cs : List Called) → Fine (free_place (own_tx id func x) step cs)
    freed x [] i n later = own i n later
    freed x (d ∷ cs) i n later = absurd (let s = later.short in omega (arith, s))

    visit_suits : (x : OpenTx) → o ≡ Some (RunTx.Own x) → (commit : Bool) (cs : List Called) (after : Option ℕ) (i : Option (ℕ × List ℕ)) (v : Option Value) (at : EndAt) → Suits (visit_asks (own_tx id func x) step commit cs after i v at)
    visit_suits x is commit cs after i v EndAt.Decide = (λ j n does. before x is j n does.0, λ e. cc)
    visit_suits x is commit cs (Some n) i v EndAt.Callees = tt
    visit_suits x is commit [] None i v EndAt.Callees = tt
    visit_suits x is commit (d ∷ cs) None i v EndAt.Callees = tt
    visit_suits x is commit cs after (Some j) v EndAt.Next = tt
    visit_suits x is commit cs after None v EndAt.Next = tt
    visit_suits x is commit cs after i v (EndAt.Shadow r) = shadow_ends (own_tx id func x) (visited_by (own_tx id func x) cs) r i
    visit_suits x is commit cs after i v (EndAt.Free w) = give_suits (own_tx id func x) (visited_by (own_tx id func x) cs) (free_place (own_tx id func x) step cs) v w i (freed x cs)
    visit_suits x is commit cs after i v EndAt.Stamp = quiet _ Act.Stamp (record { read = refl; opens = refl; back = refl; ends = refl; notes = refl })

    -- ---- a stage
    walk_suits : (r : ℕ) (e : Effect) → Suits (walk_asks id func r e)
    walk_suits r (Effect.Read t k) = looked _
    walk_suits r e = looked _

    put_suits : (at : WriteAt) (x : Option OnCell) → Suits (put_asks id func step at x)
    put_suits at None = looked _
    put_suits at (Some x) = item_suits func x.table x.key (place_of id step) (Owner.Intent id) x.op at own

    here_suits : (e : Effect) (at : TxAt) (x : Option RunTx) → Suits (tx_here_asks id func step e at x)
    here_suits e at None = looked _
    here_suits e at (Some x) = tx_suits (place_of id step) own (tx_of id func x) e at (item_of e)

    end_suits : (commit : Bool) (v : EndState) (x : Option RunTx) → o ≡ x → Suits (end_by_asks id func step commit v x)
    end_suits commit v None is = looked _
    end_suits commit v (Some (RunTx.Inherited x)) is = looked _
    end_suits commit v (Some (RunTx.Own x)) is = visit_suits x is commit v.path v.after v.item v.value v.at

    end_here_suits : (e : Effect) (v : EndState) → Suits (end_here_asks id func step e v o)
    end_here_suits (Effect.End commit) v = end_suits commit v o refl
    end_here_suits e v = looked _

    opens_suits : (f : ℕ) → IsCalling → Suits (Query.Act (invoke_key func (place_of id step)) (Act.OpenInvoke f))
    opens_suits f calls = (by_does, λ e. (refl, calls))
      where
        by_does : (i : IntentId) (n : ℕ) → Does (Act.OpenInvoke f) (Kind.Invoke (place_of id step)) i n → MayPass m i n
        by_does i n (inl s) = own i n s.0
        by_does i n (inr s) = cc

    call_suits : (e : Effect) → effect ≡ e → (at : CallAt) → Suits (call_here_asks id func step e at)
    call_suits (Effect.Call f a) is CallAt.Open = opens_suits f (record { waits = true; callee = f; args = a; is = is })
    call_suits (Effect.Call f a) is CallAt.Look = looked _
    call_suits e is at = looked _

    async_suits : (e : Effect) → effect ≡ e → (at : AsyncAt) → Suits (async_here_asks id func step e at)
    async_suits (Effect.Async f a) is at = if_plan Suits (has_callees id) _ _ (λ t. by_at at) (λ t. looked _)
      where
        by_at : (at : AsyncAt) → Suits (async_asks func (place_of id step) (callee_body id func step f a None false) at)
        by_at AsyncAt.Open = opens_suits f (record { waits = false; callee = f; args = a; is = is })
        by_at AsyncAt.Register = quiet _ (Act.Register (callee_body id func step f a None false)) (record { read = refl; opens = refl; back = refl; ends = refl; notes = refl })
        by_at AsyncAt.Note = quiet _ Act.NoteRegistered (record { read = refl; opens = refl; back = refl; ends = refl; notes = refl })
    async_suits e is at = looked _

    tell_suits : (x : Option Caller) → Suits (notify_asks id func x)
    tell_suits None = looked _
    tell_suits (Some x) = quiet _ Act.NoteRegistered (record { read = refl; opens = refl; back = refl; ends = refl; notes = refl })

    back_suits : (x : Option Caller) → c ≡ x → (e : Effect) → effect ≡ e → Suits (back_to_asks id func x e)
    back_suits (Some x) from (Effect.Return u) is = (by_does, λ e. cc)
      where
        by_does : (i : IntentId) (n : ℕ) → Does (Act.CallBack u) (Kind.Invoke x.place) i n → MayPass m i n
        by_does i n (inl s) = cc
        by_does i n (inr s) = subst (λ j. MayPass m j n) (sym (backs x from) ∙ s.0) (returns u is n)
    back_suits None from e is = looked _
    back_suits (Some x) from e is = looked _

    close_suits : (e : Effect) → effect ≡ e → Suits (close_asks id func o e)
    close_suits (Effect.Return u) is = (λ i n does. subst (λ j. MayPass m j n) does.0 (returns u is n), λ e. cc)
    close_suits e is = looked _

    pub stage_suits : (s : Stage) → Suits (stage_asks id func c o step effect s)
    stage_suits Stage.Ask = looked _
    stage_suits (Stage.Walk r) = walk_suits r effect
    stage_suits (Stage.Keep v version) = (λ i n does. own i n does.0, λ e. cc)
    stage_suits (Stage.Write at) = put_suits at (cell_op effect)
    stage_suits (Stage.Tx at) = here_suits effect at o
    stage_suits (Stage.Decide x) = end_here_suits effect first_visit
    stage_suits (Stage.End v) = end_here_suits effect v
    stage_suits (Stage.Call at) = call_suits effect refl at
    stage_suits (Stage.Async at) = async_suits effect refl at
    stage_suits Stage.Back = back_suits c refl effect refl
    stage_suits Stage.Notify = tell_suits c
    stage_suits Stage.Close = close_suits effect refl
