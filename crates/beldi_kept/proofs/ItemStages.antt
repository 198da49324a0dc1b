-- A run at an operation on an item, outside a transaction and inside one: its turn, by the stage that it is at.
use Rattle.std.specs.FinMap as map
use Rattle.std.specs.Prelude.{Result}
use Rattle.std.specs.declared.alloc.AllocError.{AllocError}
use Rattle.std.proofs.Common.{◌≡◌, ◌⊎◌, inl, inr, ℕ, ◌+◌, ◌≤◌, true, false, List, Option, Some, None, is_some, refl, ap, sym, ◌∙◌, subst, arith}
use Rattle.beldi_value.specs.declared.{place.Owner.Owner, place.Place.Place}
use Rattle.beldi_tree.specs.declared.deployment.Deployment.{Deployment}
use Rattle.beldi_lang.specs.declared.effect.Effect.{Effect}
use Rattle.beldi_book.specs.LinearOrder.{count_changes}
use Rattle.beldi_plain.specs.{Item.Item, Operation.op_of, Operation.touched}
use Rattle.beldi_row.specs.{Act.next, Key.at_row, Log.note_at, Table.Rows, declared.act.Act.Act, declared.row.Cell.Cell, declared.row.Row.Row}
use Rattle.beldi_query.specs.{declared.query.Query.Query, Query.QueryReply, Query.replied, Query.query_reply}
use Rattle.beldi_chain.specs.Chain.{chain}
use Rattle.beldi_links.specs.Links.{At, Linkable, Linked, Passed, ReadsAt, SeesAt}
use Rattle.beldi_links.proofs.Ways.{one_cell}
use Rattle.beldi_splice.specs.Splice.{IsSafeFrom}
use Rattle.beldi_splice.proofs.{Alike.reads_go_further, Alike.walks_go_further, Both.there_linked, Pruned.is_of}
use Rattle.beldi_daal.specs.{Cell.cell_key, Logged.at_of, declared.cell.CellOp.CellOp, declared.cell.WriteAt.WriteAt}
use Rattle.beldi_lock.specs.declared.lock.LockAt.{LockAt}
use Rattle.beldi_txn.specs.{declared.tx.TxAt.TxAt, Tx.asks_of, Tx.item_of, TxTurn.Fits}
use Rattle.beldi_step.specs.HostStep.{Core}
use Rattle.beldi_step.specs.Run.{OnCell, asks_at, cell_op, note_done, note_of_op, place_of, put_asks, put_output, run_asks, run_told, stage_asks, stage_output, told_at, turned_by, tx_here_output, tx_of}
use Rattle.beldi_step.specs.RunStride.{put_walking, stage_to, stage_walking, tx_walking, walking, walking_at}
use Rattle.beldi_step.specs.declared.{event.EventReply.EventReply, run.Begun.Begun, run.Run.Run, run.RunAt.TheVariants.Begins, run.RunTx.RunTx, run.Stage.Stage}
use Rattle.beldi_histories.specs.Contents.{head_key}
use Rattle.beldi_invariant.specs.{FoundInside.Found, FoundInside.InItem, FoundInside.InOperation, FoundInside.SeesPut, Invariant.AtStage, Invariant.Knows, Invariant.KnowsAt, Invariant.RunAt}
use Rattle.beldi_value.specs.{Id.child_of, declared.value.Value.Value}
use Rattle.beldi_upkeep.specs.{Callees.HasPut, Callees.HasTold, WorksFor.WorksFor}
use Rattle.beldi_kept.proofs.Elsewhere.{is_owing}
use Rattle.beldi_kept.specs.{KeptAhead.StaysFor, KeptRows.HasKept}
use Rattle.beldi_kept.proofs.ItemTurns as item
use Rattle.beldi_kept.proofs.{ItemWrites.numbered_of, ItemWrites.writes, Less.was_there}

-- ---- what an operation of a transaction needs at another row of its item
lock_fits : (e : Effect) (a b : LockAt) → Fits e (TxAt.Lock a) → Fits e (TxAt.Lock b)
lock_fits (Effect.Read t k) a b fits = tt
lock_fits (Effect.Write t k v) a b fits = tt
lock_fits (Effect.CondWrite t k r o v) a b fits = tt
lock_fits e a b fits = absurd fits

lock_found : (e : Effect) (a : LockAt) (s : Option Row) (v : Value) → Found e (TxAt.Lock a) s v
lock_found (Effect.Read t k) a s v = tt
lock_found (Effect.CondWrite t k r o w) a s v = tt
lock_found e a s v = tt

item_fits : (e : Effect) (a b : ℕ) → Fits e (TxAt.Item a) → Fits e (TxAt.Item b)
item_fits (Effect.Read t k) a b fits = tt
item_fits (Effect.CondWrite t k r o v) a b fits = tt
item_fits e a b fits = absurd fits

item_found : (e : Effect) (a b : ℕ) (s : Option Row) (v : Value) → Found e (TxAt.Item a) s v → Found e (TxAt.Item b) s v
item_found (Effect.Read t k) a b s v found = found
item_found (Effect.CondWrite t k r o w) a b s v found = tt
item_found e a b s v found = tt

module _ (d : Deployment) (c : Core) (m : Rows) (h : HasKept d c m) (room old new : ℕ) (b : Core) (n : Rows) (x : Result EventReply AllocError) (i : ℕ) (r : Run) (live : map.get c.runs i ≡ Some r) (in_time : c.now ≤ r.deadline) (g : Begun) (at : r.at ≡ Begins g) where
  abbrev pub Turns : Type 0
  Turns = item.Turns d c m h room old new b n x i r live in_time g at

  pub alive : h.gone r.id ≡ false
  alive = h.spared i r r.id live in_time (subst (λ y. WorksFor r y r.id) (sym at) (inl refl))

  -- ---- a run at a stage of an effect
  module _ (s : Stage) (stage : g.stage ≡ s) (e : Effect) (ends : g.machine.effect ≡ e) (o : Option RunTx) (tx : g.tx ≡ o) where
    pub asks_is : run_asks r ≡ stage_asks r.id r.func g.caller o g.machine.steps e s
    asks_is = ap (asks_at r) at ∙ (λ j. stage_asks r.id r.func g.caller (tx j) g.machine.steps (ends j) (stage j))

    pub walks_is : walking r ≡ stage_walking r.id r.func o g.machine.steps e s
    walks_is = ap (walking_at r) at ∙ (λ j. stage_walking r.id r.func (tx j) g.machine.steps (ends j) (stage j))

    pub output_is : (t : QueryReply) → run_told d (count_changes c.book) r t ≡ turned_by d r g (stage_output r.id r.func g.caller o (count_changes c.book) g.machine.steps e s t)
    output_is t = ap (λ y. told_at d (count_changes c.book) r y t) at ∙ (λ j. turned_by d r g (stage_output r.id r.func g.caller (tx j) (count_changes c.book) g.machine.steps (ends j) (stage j) t))

    pub to_is : (z : ℕ) → stage_to z g.stage ≡ stage_to z s
    to_is z = ap (stage_to z) stage

    -- what is so at another stage of it
    pub at_stage_is : (w : Stage) → ((k : Knows d h.upkeep.invariant.histories r g) → AtStage h.kept h.upkeep.invariant.plain c.book k w e o) → (k : Knows d h.upkeep.invariant.histories r g) → AtStage h.kept h.upkeep.invariant.plain c.book k w g.machine.effect g.tx
    at_stage_is w here k = subst (λ y. AtStage h.kept h.upkeep.invariant.plain c.book k w y g.tx) (sym ends) (subst (λ y. AtStage h.kept h.upkeep.invariant.plain c.book k w e y) (sym tx) (here k))

  -- ---- the chain of an item, where one of its rows is there
  pub kept_links : (y : Item) (row : ℕ) (u : Cell) → map.get m (at_row (head_key y) row) ≡ Some (Row.Cell u) → Linked (chain h.kept (head_key y))
  kept_links y row u is = by_row (map.get h.kept (at_row (head_key y) row)) refl (was_there h.gone m h.kept h.less (at_row (head_key y) row) (ap is_some is))
    where
      by_row : (w : Option Row) → map.get h.kept (at_row (head_key y) row) ≡ w → is_some w ≡ true → Linked (chain h.kept (head_key y))
      by_row (Some w) kept there = there_linked (chain h.kept (head_key y)) (h.upkeep.invariant.rows.chains y) row w kept
      by_row None kept there = cc

  -- a walk that reads
  module _ (y : Item) (row : ℕ) (asked : run_asks r ≡ Query.Act (at_row (head_key y) row) Act.Look) (walks : walking r ≡ Some (record { key = at_row (head_key y) row; place = None })) (stays : IsSafeFrom d.life r.deadline (chain m (head_key y)) row)
      (here : (z : ℕ) → ReadsAt (chain h.kept (head_key y)) z → item.IsMoved d c m h room old new b n x i r live in_time g at z) where
    pub reads : Turns
    reads = item.by_rows d c m h room old new b n x i r live in_time g at y row Act.Look asked refl (item.safe_there d c m h room old new b n x i r live in_time g at y row stays)
        (λ u k z e is kept log to ends. let moved = here z (reads_go_further h.gone (chain m (head_key y)) (chain h.kept (head_key y)) (kept_links y row u is) (h.less.cells y) row z u is to) in
        item.led_on d c m h room old new b n x i r live in_time g at y row None walks z e (record { cell = u; here = is; followed = to; lacks = tt }) (record { cell = k; here = kept; followed = ends; lacks = tt }) moved.quiet moved.told moved.put moved.here)

  -- what a walk that writes sees at the row that it comes to
  pub sees_then : (y : Item) (p : Place) (wr : WriteAt) → h.gone p.intent ≡ false → SeesAt (chain h.kept (head_key y)) p (at_of wr) → (row z : ℕ) (u : Cell) → map.get m (at_row (head_key y) row) ≡ Some (Row.Cell u) → u.next ≡ Some z
      → (wr ≡ WriteAt.Try row → note_at u.log p ≡ None) → (wr ≡ WriteAt.Try row) ⊎ (wr ≡ WriteAt.Link (row + 1)) → SeesAt (chain h.kept (head_key y)) p (At.Try z)
  sees_then y p wr live sees row z u is to none (inl tries) =
      let s = subst (λ w. SeesAt (chain h.kept (head_key y)) p (at_of w)) tries sees in
      walks_go_further h.gone (chain m (head_key y)) (chain h.kept (head_key y)) (kept_links y row u is) (h.less.cells y) row z u is to p live s.1 (none tries)
  sees_then y p wr live sees row z u is to none (inr links) =
      let s = subst (λ w. SeesAt (chain h.kept (head_key y)) p (at_of w)) links sees in
      let one : row ≡ s.0 = (let e = s.1.next in omega (arith, e)) in
      walks_go_further h.gone (chain m (head_key y)) (chain h.kept (head_key y)) (kept_links y row u is) (h.less.cells y) row z u is to p live (subst (Passed (chain h.kept (head_key y)) p) (sym one) s.3) (linked_none s.0 one s.4)
    where
      linked_none : (q : ℕ) → row ≡ q → Linkable (chain h.kept (head_key y)) p q → note_at u.log p ≡ None
      linked_none q e l =
          let k = is_of h.gone (chain m (head_key y)) (chain h.kept (head_key y)) (h.less.cells y) row u is in
          let same = one_cell k.kept l.cell (sym k.there ∙ ap (chain h.kept (head_key y)) e ∙ l.there) in
          ap (λ es. note_at es p) k.less.log ∙ ap (λ (w : Cell). note_at w.log p) same ∙ l.none

  pub before : KnowsAt d h.kept h.upkeep.invariant.plain c.book h.upkeep.invariant.histories r (Begins g)
  before = subst (KnowsAt d h.kept h.upkeep.invariant.plain c.book h.upkeep.invariant.histories r) at (subst (RunAt d h.kept h.upkeep.invariant.plain c.book h.upkeep.invariant.histories) live (h.upkeep.invariant.runs.runs i))

  abbrev pub IsAt : Stage → Effect → Option RunTx → (k : Knows d h.upkeep.invariant.histories r g) → Type 0
  IsAt s e o k = AtStage h.kept h.upkeep.invariant.plain c.book k s e o

  -- what is so at the stage that it is at
  pub stage_here : (s : Stage) → g.stage ≡ s → (e : Effect) → g.machine.effect ≡ e → (o : Option RunTx) → g.tx ≡ o → IsAt s e o before.0
  stage_here s stage e ends o tx = subst (λ y. IsAt s e y before.0) tx (subst (λ y. IsAt s y g.tx before.0) ends (subst (λ y. IsAt y g.machine.effect g.tx before.0) stage before.1.here))

  -- ---- a read outside
  module _ (row t : ℕ) (k : List ℕ) (stage : g.stage ≡ Stage.Walk row) (ends : g.machine.effect ≡ Effect.Read t k) (tx : g.tx ≡ None) (stays : IsSafeFrom d.life r.deadline (chain m (cell_key r.func t k)) row) where
    pub walk_turns : Turns
    walk_turns = reads (record { func = r.func; table = t; key = k }) row (asks_is (Stage.Walk row) stage (Effect.Read t k) ends None tx) (walks_is (Stage.Walk row) stage (Effect.Read t k) ends None tx) stays (λ z seen. record {
      quiet = subst (λ w. is_owing w ≡ false) (sym (ap (stage_to z) stage)) refl;
      told = subst (λ w. HasTold w g.caller h.kept) (sym (ap (stage_to z) stage)) tt;
      put = subst (λ w. HasPut w g.machine.effect (child_of r.id g.machine.steps) h.kept) (sym (ap (stage_to z) stage)) tt;
      here = subst (λ w. (j : Knows d h.upkeep.invariant.histories r g) → IsAt w g.machine.effect g.tx j) (sym (ap (stage_to z) stage)) (at_stage_is (Stage.Walk row) stage (Effect.Read t k) ends None tx (Stage.Walk z) (λ j. seen));
    })

  -- ---- another operation outside
  module _ (wr : WriteAt) (e : Effect) (q : OnCell) (stage : g.stage ≡ Stage.Write wr) (ends : g.machine.effect ≡ e) (tx : g.tx ≡ None) (op : cell_op e ≡ Some q) (stays : StaysFor d.life r.deadline (chain m (cell_key r.func q.table q.key)) (at_of wr)) where
    abbrev y : Item
    y = record { func = r.func; table = q.table; key = q.key }

    abbrev p : Place
    p = place_of r.id g.machine.steps

    was : (is_some (op_of e) ≡ true) × SeesPut h.kept r.func p wr (cell_op e)
    was = stage_here (Stage.Write wr) stage e ends None tx

    sees : SeesAt (chain h.kept (head_key y)) p (at_of wr)
    sees = subst (SeesPut h.kept r.func p wr) op was.1

    pub put_turns : Turns
    put_turns = writes d c m h room old new b n x i r live in_time g at y p (Owner.Intent r.id) q.op wr (asks_is (Stage.Write wr) stage e ends None tx ∙ ap (put_asks r.id r.func g.machine.steps wr) op) stays (numbered_of (chain h.kept (head_key y)) p (at_of wr) sees)
        (λ row is. walks_is (Stage.Write wr) stage e ends None tx ∙ ap (put_walking p r.func wr) op ∙ ap (λ w. put_walking p r.func w (Some q)) is)
        (λ z. Stage.Write (WriteAt.Try z)) (λ row z is. ap (stage_to z) stage ∙ ap (λ w. stage_to z (Stage.Write w)) is)
        (λ l k z is told. output_is (Stage.Write wr) stage e ends None tx (query_reply (run_asks r) c.now l) ∙ ap (λ t. turned_by d r g (put_output e wr (note_done e) t)) told ∙ ap (λ v. turned_by d r g (put_output e wr (note_of_op v) (replied (next z)))) op)
        (λ z. refl) (λ z. tt) (λ z. tt)
        (λ row z u is to none where_at. at_stage_is (Stage.Write wr) stage e ends None tx (Stage.Write (WriteAt.Try z)) (λ j. (was.0, subst (SeesPut h.kept r.func p (WriteAt.Try z)) (sym op) (sees_then y p wr alive sees row z u is to none where_at))))

  -- ---- an operation inside
  module _ (e : Effect) (o : RunTx) (q : ℕ × List ℕ) (ends : g.machine.effect ≡ e) (tx : g.tx ≡ Some o) (of : item_of e ≡ Some q) (touch : touched e ≡ Some q) where
    abbrev its : Item
    its = record { func = r.func; table = q.0; key = q.1 }

    abbrev place : Place
    place = place_of r.id g.machine.steps

    abbrev InIts : TxAt → Type 0
    InIts a = InOperation d h.kept h.upkeep.invariant.plain h.upkeep.invariant.histories r.id r.func o g.machine.steps e a q

    its_here : (a : TxAt) → g.stage ≡ Stage.Tx a → Fits e a × InIts a
    its_here a stage = let w = stage_here (Stage.Tx a) stage e ends (Some o) tx in (w.0, subst (InItem d h.kept h.upkeep.invariant.plain h.upkeep.invariant.histories r.id r.func o g.machine.steps e a) touch w.1)

    then_here : (s : Stage) (stage : g.stage ≡ s) (a : TxAt) → Fits e a → InIts a → (j : Knows d h.upkeep.invariant.histories r g) → IsAt (Stage.Tx a) g.machine.effect g.tx j
    then_here s stage a fits in_it = at_stage_is s stage e ends (Some o) tx (Stage.Tx a) (λ j. (fits, subst (InItem d h.kept h.upkeep.invariant.plain h.upkeep.invariant.histories r.id r.func o g.machine.steps e a) (sym touch) in_it))

    -- it asks for the lock
    module _ (wr : WriteAt) (stage : g.stage ≡ Stage.Tx (TxAt.Lock (LockAt.Item wr))) (stays : StaysFor d.life r.deadline (chain m (cell_key r.func q.0 q.1)) (at_of wr)) where
      abbrev here_at : WriteAt → TxAt
      here_at w = TxAt.Lock (LockAt.Item w)

      was_in : Fits e (here_at wr) × InIts (here_at wr)
      was_in = its_here (here_at wr) stage

      pub lock_turns : Turns
      lock_turns = writes d c m h room old new b n x i r live in_time g at its place (Owner.Tx (tx_of r.id r.func o)) CellOp.Lock wr (asks_is (Stage.Tx (here_at wr)) stage e ends (Some o) tx ∙ ap (asks_of r.func place (tx_of r.id r.func o) e (here_at wr)) of) stays (numbered_of (chain h.kept (head_key its)) place (at_of wr) was_in.1.sees)
          (λ row is. walks_is (Stage.Tx (here_at wr)) stage e ends (Some o) tx ∙ ap (tx_walking r.func place (here_at wr) (Some o)) of ∙ ap (λ w. tx_walking r.func place (here_at w) (Some o) (Some q)) is)
          (λ z. Stage.Tx (here_at (WriteAt.Try z))) (λ row z is. ap (stage_to z) stage ∙ ap (λ w. stage_to z (Stage.Tx (here_at w))) is)
          (λ l k z is told. output_is (Stage.Tx (here_at wr)) stage e ends (Some o) tx (query_reply (run_asks r) c.now l) ∙ ap (λ t. turned_by d r g (tx_here_output r.id g.machine.steps e (here_at wr) (Some o) t)) told)
          (λ z. refl) (λ z. tt) (λ z. tt)
          (λ row z u is to none where_at. then_here (Stage.Tx (here_at wr)) stage (here_at (WriteAt.Try z)) (lock_fits e (LockAt.Item wr) (LockAt.Item (WriteAt.Try z)) was_in.0) (record {
            begin = was_in.1.begin;
            asked = was_in.1.asked;
            locked = tt;
            sees = sees_then its place wr alive was_in.1.sees row z u is to none where_at;
            found = λ w made same. lock_found e (LockAt.Item (WriteAt.Try z)) _ _;
          }))

    -- it reads the item itself
    module _ (row : ℕ) (stage : g.stage ≡ Stage.Tx (TxAt.Item row)) (stays : IsSafeFrom d.life r.deadline (chain m (cell_key r.func q.0 q.1)) row) where
      was_item : Fits e (TxAt.Item row) × InIts (TxAt.Item row)
      was_item = its_here (TxAt.Item row) stage

      pub item_turns : Turns
      item_turns = reads its row (asks_is (Stage.Tx (TxAt.Item row)) stage e ends (Some o) tx ∙ ap (asks_of r.func place (tx_of r.id r.func o) e (TxAt.Item row)) of)
          (walks_is (Stage.Tx (TxAt.Item row)) stage e ends (Some o) tx ∙ ap (tx_walking r.func place (TxAt.Item row) (Some o)) of) stays (λ z seen. record {
            quiet = subst (λ w. is_owing w ≡ false) (sym (ap (stage_to z) stage)) refl;
            told = subst (λ w. HasTold w g.caller h.kept) (sym (ap (stage_to z) stage)) tt;
            put = subst (λ w. HasPut w g.machine.effect (child_of r.id g.machine.steps) h.kept) (sym (ap (stage_to z) stage)) tt;
            here = subst (λ w. (j : Knows d h.upkeep.invariant.histories r g) → IsAt w g.machine.effect g.tx j) (sym (ap (stage_to z) stage)) (then_here (Stage.Tx (TxAt.Item row)) stage (TxAt.Item z) (item_fits e row z was_item.0) (record {
              begin = was_item.1.begin;
              asked = was_item.1.asked;
              locked = was_item.1.locked;
              sees = seen;
              found = λ w made same. item_found e row z _ _ (was_item.1.found w made same);
            }));
          })
