-- What the turn of a run that has begun leaves of the rows.
use Rattle.beldi_chain.specs.Chain.{chain}
use Rattle.beldi_links.specs.Links.{SeesAt}
use Rattle.beldi_daal.specs.Logged.{at_of}
use Rattle.beldi_row.specs.declared.act.Act.TheVariants.{LinkCell}
use Rattle.beldi_row.specs.Act.{prunes}
use Rattle.beldi_daal.proofs.Spares.{write_spares}
use Rattle.beldi_histories.proofs.{Acts.is_data, Callers.all_called, Participants.open_owner}
use Rattle.beldi_invariant.proofs.Names.{Async, AsyncAt, Begun, Body, Bool, ByTx, CallAt, Caller, CellOp, Core, Deployment, Effect, Inherited, Inside, Instance, IntentId, IntentMatches, InvokeRow, Item, Kind, Knows, List, Look, MakeCell, None, Null, Option, Outcome, Own, Place, PutLockset, PutRead, Register, Return, Invariant, RootMatches, Row, RowAct, RowKey, Rows, Run, RunTx, Some, Stage, TxAt, TxId, Value, WriteAt, after_act, ap, at_row, behind_locks, call_of, child_of, content_of, effect_before, length, false, func_called, has_ended, has_finish, has_no_hops, head_key, if◌then◌else◌, inl, intent_key, invoke_key, is_some, key_in, log_key, op_act, note_at, place_of, refl, rows_after, same_some, shadow_key, subst, sym, touched, true, tx_after, tx_of, ℕ, ◌∙◌, ◌≡◌, AtItem, Lockset, async_asks, back_to_asks, blank, call_asks, callee_body, register_asks, notify_asks, write_asks, ◌-◌}
use Rattle.beldi_invariant.proofs.Names.map
use Rattle.beldi_invariant.proofs.Names.txn
use Rattle.beldi_invariant.proofs.InTx as in_tx
use Rattle.beldi_invariant.proofs.{Frames.is_intent, Frames.is_invoke, Members.call_there, OpenOf.called_in, Returns.has_caller, StageTurns.at_steps, StageTurns.by_answer, StageTurns.effect_here, StageTurns.well_formed_instance}
use Rattle.beldi_invariant.specs.FoundInside.{SeesBoth, SeesPut}
use Rattle.beldi_upkeep.specs.Callees.{HasPut, Seats, belongs_to, owner_key, seat_of}
use Rattle.beldi_upkeep.proofs.{CellActs.owner_noted, CellActs.told_note, FromInvariant.below_key, FromInvariant.call_absent, FromInvariant.call_is, FromInvariant.called_here, FromInvariant.child_key, FromInvariant.open_unfinished, Leaving.IsPassedBy, Leaving.Leaves, Leaving.leaves_looked, Leaving.leaves_op, Leaving.leaves_quiet, Leaving.leaves_walk, RowSets.marks, RowSets.opens, RowSets.registers, RowSets.returns}
use Rattle.beldi_invokelog.specs.InvokeLog.{open_asks}
use Rattle.beldi_step.specs.Run.{OnCell, put_asks}
use Rattle.beldi_value.specs.{Id.home_of, declared.place.Owner.Owner}
use Rattle.std.specs.Option.{option_map}

-- ---- a live run that has begun
module _ (d : Deployment) (c : Core) (m : Rows) (h : Invariant d c m) (seats : Seats m) (r : Run) (g : Begun) (k : Knows d h.histories r g) (finds : Inside m h.plain c.book k g.stage) where
  abbrev Leave : Rows → Type 0
  Leave n = Leaves c m n

  abbrev place : Place
  place = place_of r.id g.machine.steps

  -- its own row is there
  pub own_row : is_some (map.get m (intent_key r.id r.func)) ≡ true
  own_row = by_root (has_no_hops r.id.hops) refl
    where
      root_there : (o : Option Row) → RootMatches true o (Some k.instance) → is_some o ≡ true
      root_there None f = let clash = f in cc
      root_there (Some w) f = refl

      by_root : (b : Bool) → has_no_hops r.id.hops ≡ b → is_some (map.get m (intent_key r.id r.func)) ≡ true
      by_root true e = ap (λ q. is_some (map.get m q)) (λ i. record { home = if e i then 0 else r.func; kind = Kind.Intent r.id })
          ∙ root_there (map.get m (key_in 0 r.id)) (subst (λ o. RootMatches true (map.get m (key_in 0 r.id)) o) k.made (subst (λ b. IntentMatches (has_ended d h.histories) b 0 (map.get m (key_in 0 r.id)) (map.get h.histories r.id)) e (h.rows.keys (key_in 0 r.id))))
      by_root false e = ap (λ q. is_some (map.get m q)) (below_key r.id r.func e) ∙ finds.row e

  -- the row of the owner of the transaction that it is in: by the call that leads to it
  pub tx_row : (o : RunTx) → g.tx ≡ Some o → is_some (map.get m (owner_key (tx_of r.id r.func o))) ≡ true
  tx_row (Own o) is = own_row
  tx_row (Inherited t) is = all_called d h.histories h.well_formed t (λ i z. is_some (map.get m (owner_key t)) ≡ true)
      (λ i z inner q outside own.
      let there = call_there d m h.histories h.lock_ahead h.rows (q.caller, q.waiter.func) (record { step = q.step; func = z.func }) (record { caller = q.waiter; made = q.made; func = refl; callee = z; there = ap (map.get h.histories) (sym q.is) ∙ q.there; its = refl }) in
      (λ i. is_some (map.get m (intent_key (own.intent i) (own.func_is i)))) ∙ seats.has_seat (invoke_key q.waiter.func (place_of q.caller q.step)) q.caller refl (row_there (map.get m (invoke_key q.waiter.func (place_of q.caller q.step))) there))
      (λ i z inner q up there. there) r.id k.instance k.made (called_in d k.instance t k.answers (sym k.run_open ∙ is))
    where
      row_there : {f : ℕ} (o : Option Row) → option_map func_called o ≡ Some f → is_some o ≡ true
      row_there None e = cc
      row_there (Some w) e = refl

  -- ---- a row that belongs to it, in its function's home
  pub own_put : (kind : Kind) (a : RowAct) → prunes a ≡ false → is_intent kind ≡ false → is_invoke kind ≡ false → is_data kind ≡ false → belongs_to kind ≡ Some r.id → seat_of (record { home = r.func; kind = kind }) r.id ≡ intent_key r.id r.func → Leave (after_act a c.now (record { home = r.func; kind = kind }) m)
  own_put kind a keeps off call item of seat = leaves_quiet c m seats c.now (record { home = r.func; kind = kind }) a keeps off call item
      (λ i is. subst (λ z. is_some (map.get m (seat_of (record { home = r.func; kind = kind }) z)) ≡ true) (same_some (sym of ∙ is)) (ap (λ q. is_some (map.get m q)) seat ∙ own_row))

  -- a row of a shadow of the transaction that it is in
  shadow_put : (o : RunTx) → g.tx ≡ Some o → (x : Item) (i : ℕ) (a : RowAct) → prunes a ≡ false → Leave (after_act a c.now (at_row (shadow_key (tx_of r.id r.func o) x) i) m)
  shadow_put o is x i a keeps = leaves_quiet c m seats c.now (at_row (shadow_key (tx_of r.id r.func o) x) i) a keeps refl refl refl
      (λ j e. subst (λ z. is_some (map.get m (intent_key z (tx_of r.id r.func o).func)) ≡ true) (same_some e) (tx_row o is))

  -- a Look
  pub look : (q : RowKey) → Leave (after_act Look c.now q m)
  look q = leaves_looked c m seats c.now q

  -- ---- an operation outside
  pub write_leaves : (w : WriteAt) (o : Option OnCell) → SeesPut m r.func place w o → Leave (rows_after (put_asks r.id r.func g.machine.steps w o) c.now m)
  write_leaves w None sees = look (intent_key r.id r.func)
  write_leaves w (Some o) sees = leaves_op c m seats c.now (record { func = r.func; table = o.table; key = o.key }) (h.rows.chains (record { func = r.func; table = o.table; key = o.key })) place (Owner.Intent r.id) o.op w sees own_row (λ lock. (home_of r.id r.func, own_row))

  -- ---- inside a transaction
  module _ (o : RunTx) (tx : g.tx ≡ Some o) (here : tx_after d r.id k.instance k.answers ≡ Some (tx_of r.id r.func o)) (e : Effect) (is : g.machine.effect ≡ e) (x : ℕ × List ℕ) (touch : touched e ≡ Some x) where
    abbrev own : TxId
    own = tx_of r.id r.func o

    abbrev item : Item
    item = record { func = r.func; table = x.0; key = x.1 }

    abbrev its_item : Item
    its_item = record { func = k.instance.func; table = x.0; key = x.1 }

    -- a lock makes the transaction of who stands at the front the owner; behind, its place has its note
    lock_leaves : (w : WriteAt) → SeesAt (chain m (head_key item)) place (at_of w) → Leave (rows_after (write_asks (head_key item) place (ByTx own) CellOp.Lock w) c.now m)
    lock_leaves w sees = by_answer k
        (λ left. leaves_op c m seats c.now item (h.rows.chains item) place (ByTx own) CellOp.Lock w sees own_row (λ lock. (
          tx_row o tx,
          open_unfinished d c m h own
              (open_owner d h.histories h.well_formed r.id k.instance own k.made (in_tx.open_still d c m r g h k o here e is x touch left) (in_tx.apart d c m r g h k o here e is x touch left) (in_tx.tx_is d c m r g h k o here e is x touch left)),
        )))
        (λ a rest left.
        let locks = behind_locks d m h.histories h.lock_ahead h.rows r.id k.instance k.made (well_formed_instance h k) k.answers a rest (in_tx.recorded_answers d c m r g h k o here e is x touch a rest left) (in_tx.short d c m r g h k o here e is x touch) own here x (ap touched (in_tx.effect_so d c m r g h k o here e is x touch) ∙ touch) in
        let told = told_note (place_of r.id (length k.answers)) own (content_of m its_item) (content_of m its_item) _ locks.0 in
        leaves_walk c m seats c.now item (h.rows.chains item) place (ByTx own) CellOp.Lock w sees own_row (λ t s logs owned. inl (owner_noted t place (content_of m item) _ (ByTx own) CellOp.Lock s _ ((λ i. note_at (content_of m (sym (in_tx.same_item d c m r g h k o here e is x touch) i)).notes (place_of r.id ((at_steps k) i))) ∙ told) logs owned)))

    aside_leaves : (w : WriteAt) (y : Option CellOp) → Leave (rows_after (txn.aside_asks r.func place own (shadow_key own item) w y) c.now m)
    aside_leaves w None = look (log_key r.func place)
    aside_leaves (WriteAt.Try i) (Some op) = shadow_put o tx item i (op_act place (ByTx own) op) (write_spares (shadow_key own item) place (ByTx own) op (WriteAt.Try i))
    aside_leaves WriteAt.Make (Some op) = shadow_put o tx item 0 (MakeCell Null None blank) refl
    aside_leaves (WriteAt.Append i told) (Some op) = shadow_put o tx item i (MakeCell told.value told.owner blank) refl
    aside_leaves (WriteAt.Link i) (Some op) = shadow_put o tx item (i - 1) (LinkCell i) refl

    pub tx_leaves : (a : TxAt) → SeesBoth m place own item a → Leave (rows_after (txn.item_asks r.func place own e x.0 x.1 a) c.now m)
    tx_leaves TxAt.Log sees = look (log_key r.func place)
    tx_leaves (TxAt.Lock (Lockset b)) sees = own_put (Kind.Lockset r.id b x.0 x.1) PutLockset refl refl refl refl refl refl
    tx_leaves (TxAt.Lock (AtItem w)) sees = lock_leaves w sees
    tx_leaves TxAt.Seek sees = look (shadow_key own item)
    tx_leaves (TxAt.Shadow i) sees = look (at_row (shadow_key own item) i)
    tx_leaves (TxAt.Item i) sees = look (at_row (head_key item) i)
    tx_leaves (TxAt.Keep v) sees = own_put (Kind.ReadLog place) (PutRead v) refl refl refl refl refl refl
    tx_leaves (TxAt.Head v) sees = shadow_put o tx item 0 (MakeCell v None blank) refl
    tx_leaves (TxAt.Write w) sees = aside_leaves w (txn.op_of e)

  -- ---- calls
  abbrev call_key : RowKey
  call_key = invoke_key r.func place

  -- a call is opened: nobody has its callee's row before
  open_leaves : (f : ℕ) → Leave (rows_after (open_asks r.func place f) c.now m)
  open_leaves f = opens c m seats c.now r.func r.id g.machine.steps f own_row (λ none home s b body. call_absent d c m h r.func r.id g.machine.steps home s b k.instance k.made k.func none body)

  -- who is called gets its row
  register_leaves : (id : IntentId) (b : Body) → intent_key id b.func ≡ key_in b.func id → (map.get m (key_in b.func id) ≡ None → (t : TxId) → b.tx ≡ Some t → (has_finish (map.get m (owner_key t)) ≡ true → ⊥) × (IsPassedBy c t → ⊥)) → Leave (rows_after (register_asks id b) c.now m)
  register_leaves id b seat is_open = subst (λ q. Leave (after_act (Register b) c.now q m)) (sym seat) (registers c m seats c.now id b seat is_open)

  pub call_leaves : (w : CallAt) (f : ℕ) → Leave (rows_after (call_asks r.func place f w) c.now m)
  call_leaves CallAt.Open f = open_leaves f
  call_leaves CallAt.Look f = look call_key

  -- a call that nobody waits for
  module _ (f : ℕ) (v : Value) (is : g.machine.effect ≡ Async f v) where
    sent_func : (x : InvokeRow) → map.get m call_key ≡ Some (Row.Invoke x) → x.func ≡ f
    sent_func x at =
        let i = call_is d c m h r.func r.id g.machine.steps x at in
        let w = called_here d c m h r.id g.machine.steps i.callee i.there in
        let call = subst (λ (q : Instance). effect_before d q g.machine.steps ≡ call_of w.1.1.waits i.callee.func i.callee.args) (same_some (sym w.1.0 ∙ k.made)) w.1.1.call in
        sym i.its ∙ by_waits w.1.1.waits i.callee.func f i.callee.args v (sym call ∙ effect_here k ∙ is)
      where
        by_waits : (t : Bool) (f g : ℕ) (a b : Value) → call_of t f a ≡ Async g b → f ≡ g
        by_waits true f g a b e = cc
        by_waits false f g a b e = cc

    pub async_leaves : (w : AsyncAt) → HasPut (Stage.Async w) (Async f v) (child_of r.id g.machine.steps) m → Leave (rows_after (async_asks r.func place (callee_body r.id r.func g.machine.steps f v None false) w) c.now m)
    async_leaves AsyncAt.Open put = open_leaves f
    async_leaves AsyncAt.Register put = register_leaves (child_of r.id g.machine.steps) (callee_body r.id r.func g.machine.steps f v None false) (child_key r.id g.machine.steps f) (λ none t is. cc)
    async_leaves AsyncAt.Note put = marks c m seats c.now r.func r.id g.machine.steps (λ x at. ap (λ z. is_some (map.get m (key_in z (child_of r.id g.machine.steps)))) (sent_func x at) ∙ put)

  -- ---- a return
  pub back_leaves : (b : Option Caller) (u : Outcome) → Leave (rows_after (back_to_asks r.id r.func b (Return u)) c.now m)
  back_leaves None u = look (intent_key r.id r.func)
  back_leaves (Some b) u = returns c m seats c.now b.func b.place.intent b.place.step u

  -- its call says its function, and has its own row
  pub tell_leaves : (b : Option Caller) → g.caller ≡ b → Leave (rows_after (notify_asks r.id r.func b) c.now m)
  tell_leaves None from = look (intent_key r.id r.func)
  tell_leaves (Some b) from = marks c m seats c.now b.func b.place.intent b.place.step (λ x at.
      let i = call_is d c m h b.func b.place.intent b.place.step x at in
      let w = has_caller d h.histories r.id k.instance b h.well_formed k.made (sym k.caller ∙ from) in
      let same : i.callee ≡ k.instance = same_some (sym i.there ∙ ap (map.get h.histories) (sym w.is_callee) ∙ k.made) in
      let func : r.func ≡ x.func = sym k.func ∙ ap (λ (q : Instance). q.func) (sym same) ∙ i.its in
      let key : intent_key r.id r.func ≡ key_in x.func (child_of b.place.intent b.place.step) = ap (λ z. intent_key z r.func) w.is_callee ∙ child_key b.place.intent b.place.step r.func ∙ ap (λ z. key_in z (child_of b.place.intent b.place.step)) func in
      ap (λ q. is_some (map.get m q)) (sym key) ∙ own_row)
