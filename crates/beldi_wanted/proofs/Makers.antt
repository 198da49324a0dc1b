-- A run that makes a row which is to follow the last one stands at a note that the item lacks, or gives back what its transaction owns.
use Rattle.std.specs.FinMap as map
use Rattle.std.proofs.Common.{◌≡◌, ◌⊎◌, inl, inr, ℕ, zero, suc, ◌+◌, ◌<◌, Bool, true, false, List, [], ◌∷◌, ◌++◌, take, slice_get, Option, Some, None, is_some, if◌then◌else◌, refl, ap, sym, ◌∙◌, subst, arith}
use Rattle.beldi_value.specs.{Id.has_callees, Id.has_no_hops, declared.place.Caller.Caller, declared.place.Owner.Owner, declared.place.Owner.TheVariants.Tx as ByTx, declared.place.Owner.TheVariants.Intent as ByIntent, declared.place.Place.Place, declared.place.TxId.TxId, declared.value.Value.Value}
use Rattle.beldi_tree.specs.declared.deployment.Deployment.{Deployment}
use Rattle.beldi_lang.specs.declared.{effect.Answer.Answer, effect.Effect.Effect}
use Rattle.beldi_plain.specs.{Item.Item, Operation.touched, Plain.Instance}
use Rattle.beldi_plain_laws.specs.Txs.{effect_after, tx_after}
use Rattle.beldi_plain_laws.proofs.Maps.{same_some}
use Rattle.beldi_row.specs.{Act.off, Key.RowKey, Key.at_row, Key.item_of as key_of, Key.rank_of, Key.row_of, Key.table_of, Log.note_at, Table.Rows, declared.act.Act.Act, declared.row.Cell.Cell}
use Rattle.beldi_query.specs.declared.query.Query.{Query}
use Rattle.beldi_chain.specs.{Chain.Chain, Chain.chain, Chain.content, Content.Content}
use Rattle.beldi_links.specs.Links.{At, Linked, SeesAt}
use Rattle.beldi_links.proofs.{Meets.none_noted, Meets.spare_is_made, Ways.content_is, Ways.one_cell}
use Rattle.beldi_daal.specs.{Cell.cell_key, Cell.op_act, Cell.shadow_key, Cell.write_asks, Logged.at_of, declared.cell.CellOp.CellOp, declared.cell.FullRow.FullRow, declared.cell.WriteAt.WriteAt}
use Rattle.beldi_lock.specs.{Lock.asks_at, declared.lock.LockAt.LockAt}
use Rattle.beldi_txn.specs.{End.free_asks, End.free_place, End.shadow_asks, End.visit_asks, End.visited_by, Tx.aside_asks, Tx.asks_of, Tx.item_asks, Tx.item_of, Tx.op_of as aside_op, Visited.SeesRows, declared.end.EndAt.EndAt, declared.end.EndState.EndState, declared.tx.TxAt.TxAt}
use Rattle.beldi_call.specs.{Async.async_asks, Call.call_asks, declared.async_call.AsyncAt.AsyncAt, declared.call.CallAt.CallAt}
use Rattle.beldi_step.specs.HostStep.{Core}
use Rattle.beldi_step.specs.Run.{OnCell, asks_at as run_asks_at, back_to_asks, callee_body, cell_op, own_tx, place_of, put_asks, run_asks, stage_asks, notify_asks, tx_at as run_tx, tx_of}
use Rattle.beldi_step.specs.declared.run.{Begun.Begun, OpenTx.OpenTx, Run.Run, RunAt.TheVariants.Begins, RunAt.TheVariants.Looks, RunAt.TheVariants.Registers, RunTx.RunTx, RunTx.TheVariants.Own, Stage.Stage}
use Rattle.beldi_step.specs.declared.run.RunAt as standing
use Rattle.beldi_histories.specs.{Extends.is_begin, Contents.content_of, Contents.head_key, Stands.body_of, Stands.held_answer, Stands.key_in}
use Rattle.beldi_invariant.specs.FoundInside.{InItem, SeesPut, end_walk}
use Rattle.beldi_invariant.specs.Invariant.{AtStage, Inside, Knows, KnowsAt, Invariant, RunAt}
use Rattle.beldi_invariant.proofs.{Passing.tx_is, Standing.held_here, StageTurns.at_steps, StageTurns.wanted_here}
use Rattle.beldi_upkeep.specs.Checked.{body_at}
use Rattle.beldi_wanted.specs.Wanted.{FreesAreOwned, IsHeld, IsLent, HasExpectedNote, OwnsAt, OwnsAtStage, WasOwned, notes_of}
use Rattle.beldi_wanted.proofs.{Bodies.has_body, Bodies.root_has_row}

-- ---- the first of a list
front_get : (xs ys : List Answer) (n : ℕ) (a : Answer) → slice_get xs n ≡ Some a → (slice_get (xs ++ ys) n ≡ Some a) × (take n (xs ++ ys) ≡ take n xs)
front_get [] ys n a h = cc
front_get (x ∷ xs) ys zero a h = (h, refl)
front_get (x ∷ xs) ys (suc n) a h = let k = front_get xs ys n a h in (k.0, ap (λ zs. x ∷ zs) k.1)

-- ---- what a walk sees that is to make a row, where none is there yet
module _ (f : Chain) (l : Linked f) (none : f (l.last + 1) ≡ None) where
  record IsAtLast (p : Place) (o : Option Owner) : Type 0 where
    lacks : note_at (content f).notes p ≡ None
    owner : (content f).owner ≡ o

  at_last : (p : Place) (n : ℕ) (v : Value) (o : Option Owner) → n ≡ l.last + 1 → SeesAt f p (At.Append n v o) → IsAtLast p o
  at_last p n v o is (r, after, meets, passed, told) =
      let s : Cell = record { value = v; owner = o; log = []; next = None; marked = false; dangled = None } in
      let made = spare_is_made f l p n v o s (r, after, meets, passed, told) (ap f is ∙ none) refl refl refl refl in
      let here : r ≡ l.last = (let a = after.next in omega (arith, a, is)) in
      let cell : told.cell ≡ l.tail = one_cell told.cell l.tail (sym told.there ∙ ap f here ∙ l.there) in
      record {
        lacks = none_noted f l p (λ k c less at. passed k c (subst (λ z. k < z) (sym here) less) at) (ap (λ (z : Cell). note_at z.log p) (sym cell) ∙ told.none);
        owner = ap (λ (z : Content). z.owner) (content_is f l.path.0 l.last l.tail l.path.1 l.there l.ends l.few) ∙ sym made.1.owner;
      }

-- ---- a query that makes the row of this number of an item
module _ (x : Item) (r now : ℕ) where
  abbrev pub Makes : Query → Type 0
  Makes (Query.Act k a) = (k ≡ at_row (head_key x) (r + 1)) × (is_some (off a now).0 ≡ true)
  Makes (Query.After k) = ⊥

  -- a row that has no number, or is a first one, is none
  pub quiet : (k : RowKey) → row_of k.kind ≡ 0 → k ≡ at_row (head_key x) (r + 1) → ⊥
  quiet k first is = let same = ap (λ (z : RowKey). row_of z.kind) is in omega (arith, same, first)

  looked : (k : RowKey) → Makes (Query.Act k Act.Look) → ⊥
  looked k made = let clash = made.1 in cc

  op_quiet : (p : Place) (w : Owner) (op : CellOp) → is_some (off (op_act p w op) now).0 ≡ true → ⊥
  op_quiet p w op made = grind arith

  -- the walk of an item makes it as it is to append one
  walk_makes : (func t : ℕ) (k : List ℕ) (p : Place) (w : Owner) (op : CellOp) (at : WriteAt) → Makes (write_asks (cell_key func t k) p w op at)
      → (n : ℕ) × (told : FullRow) × (at ≡ WriteAt.Append n told) × (n ≡ r + 1) × (◌≡◌ {A = Item} (record { func = func; table = t; key = k }) x)
  walk_makes func t k p w op (WriteAt.Try i) made = absurd (op_quiet p w op made.1)
  walk_makes func t k p w op WriteAt.Make made = absurd (quiet (cell_key func t k) refl made.0)
  walk_makes func t k p w op (WriteAt.Link i) made = let clash = made.1 in cc
  walk_makes func t k p w op (WriteAt.Append n told) made =
      let same = made.0 in
      (n, told, refl, ap (λ (z : RowKey). row_of z.kind) same, λ i. record { func = ap (λ (z : RowKey). z.home) same i; table = ap (λ (z : RowKey). table_of z.kind) same i; key = ap (λ (z : RowKey). key_of z.kind) same i })

  -- that of a shadow makes none
  aside_makes : (func : ℕ) (y : TxId) (t : ℕ) (k : List ℕ) (p : Place) (w : Owner) (op : CellOp) (at : WriteAt) → Makes (write_asks (shadow_key func y t k) p w op at) → ⊥
  aside_makes func y t k p w op (WriteAt.Try i) made = op_quiet p w op made.1
  aside_makes func y t k p w op WriteAt.Make made = quiet (shadow_key func y t k) refl made.0
  aside_makes func y t k p w op (WriteAt.Append n told) made = let clash = ap (λ (z : RowKey). rank_of z.kind) made.0 in cc
  aside_makes func y t k p w op (WriteAt.Link i) made = let clash = made.1 in cc

-- ---- effects that leave notes
put_notes : (e : Effect) (u : OnCell) → cell_op e ≡ Some u → (notes_of None e ≡ Some (u.table, u.key)) × (is_begin e ≡ false)
put_notes (Effect.Write t k v) u is = (ap (λ (z : OnCell). Some (z.table, z.key)) (same_some is), refl)
put_notes (Effect.CondWrite t k r o v) u is = (ap (λ (z : OnCell). Some (z.table, z.key)) (same_some is), refl)
put_notes (Effect.Lock t k) u is = (ap (λ (z : OnCell). Some (z.table, z.key)) (same_some is), refl)
put_notes (Effect.Unlock t k) u is = (ap (λ (z : OnCell). Some (z.table, z.key)) (same_some is), refl)
put_notes e u is = cc

touched_is : (e : Effect) → touched e ≡ item_of e
touched_is e = grind arith

touch_begins : (e : Effect) (j : ℕ × List ℕ) → touched e ≡ Some j → is_begin e ≡ false
touch_begins e j is = grind arith

-- ---- a live run
module _ (d : Deployment) (c : Core) (m : Rows) (h : Invariant d c m) (x : Item) (l : Linked (chain m (head_key x))) (none : chain m (head_key x) (l.last + 1) ≡ None) (run : Run) where
  abbrev pub IsWanted : Type 0
  IsWanted = HasExpectedNote d m x ⊎ IsLent m x

  abbrev pub Wants : Query → Type 0
  Wants q = Makes x l.last c.now q → IsWanted

  none_made : {X : Type 0} (k : RowKey) → row_of k.kind ≡ 0 → (k ≡ at_row (head_key x) (l.last + 1)) × X → IsWanted
  none_made k first made = absurd (quiet x l.last c.now k first made.0)

  none_looked : (k : RowKey) → Wants (Query.Act k Act.Look)
  none_looked k made = absurd (looked x l.last c.now k made)

  if_wants : (b : Bool) (p q : Query) → Wants p → Wants q → Wants (if b then p else q)
  if_wants true p q f g = f
  if_wants false p q f g = g

  -- a walk of an item
  appended : (func t : ℕ) (k : List ℕ) (p : Place) (w : Owner) (op : CellOp) (at : WriteAt)
      → ((n : ℕ) (told : FullRow) → at ≡ WriteAt.Append n told → SeesAt (chain m (cell_key func t k)) p (At.Append n told.value told.owner))
      → ((n : ℕ) (told : FullRow) → at ≡ WriteAt.Append n told → ◌≡◌ {A = Item} (record { func = func; table = t; key = k }) x → IsAtLast (chain m (head_key x)) l none p told.owner → IsWanted) → Wants (write_asks (cell_key func t k) p w op at)
  appended func t k p w op at sees wants made =
      let (n, told, is, number, same) = walk_makes x l.last c.now func t k p w op at made in
      wants n told is same (at_last (chain m (head_key x)) l none p n told.value told.owner number (subst (λ (y : Item). SeesAt (chain m (head_key y)) p (At.Append n told.value told.owner)) same (sees n told is)))

  module _ (g : Begun) (k : Knows d h.histories run g) (finds : Inside m h.plain c.book k g.stage) where
    abbrev place : Place
    place = place_of run.id g.machine.steps

    -- ---- what its instance is to leave there, by the answers that the run was given
    abbrev given : Instance
    given = record k.instance { answers = k.answers }

    given_held : IsHeld d m run.id given
    given_held n a at =
        let front = front_get k.answers k.later n a at in
        let cut : take n k.instance.answers ≡ take n k.answers = ap (take n) (sym k.run_answers) ∙ front.1 in
        (λ i. held_answer m run.id k.instance.func n (tx_after d run.id k.instance (sym cut i)) (effect_after d k.instance (sym cut i)))
        ∙ held_here d m h.histories h.lock_ahead h.rows h.well_formed run.id k.instance k.made n a (ap (λ xs. slice_get xs n) (sym k.run_answers) ∙ front.0)

    its_body : (b : Bool) → has_no_hops run.id.hops ≡ b → (home : ℕ) × (body_at (map.get m (key_in home run.id)) ≡ Some (body_of k.instance))
    its_body true root = (0, has_body d c m h run.id k.instance k.made 0 (root_has_row d c m h run.id k.instance k.made root))
    its_body false below = (run.func, has_body d c m h run.id k.instance k.made run.func (finds.row below))

    expected : run.func ≡ x.func → is_begin g.machine.effect ≡ false → notes_of (run_tx run.id run.func g.tx) g.machine.effect ≡ Some (x.table, x.key) → note_at (content_of m x).notes place ≡ None → HasExpectedNote d m x
    expected func apart notes lacks =
        let b = its_body (has_no_hops run.id.hops) refl in
        record {
          id = run.id;
          instance = given;
          home = b.0;
          body = b.1;
          answered = given_held;
          func = k.func ∙ func;
          notes = (λ i. notes_of (tx_is k apart i) (wanted_here k i)) ∙ notes;
          none = ap (λ n. note_at (content_of m x).notes (place_of run.id n)) (sym (at_steps k)) ∙ lacks;
        }

    -- ---- outside a transaction
    write_wants : (at : WriteAt) (e : Effect) (u : Option OnCell) → cell_op e ≡ u → SeesPut m run.func place at u → g.machine.effect ≡ e → g.tx ≡ None → Wants (put_asks run.id run.func g.machine.steps at u)
    write_wants at e None op sees is tx = none_looked _
    write_wants at e (Some u) op sees is tx =
        let n = put_notes e u op in
        appended run.func u.table u.key place (ByIntent run.id) u.op at (λ n told to. subst (λ w. SeesAt (chain m (cell_key run.func u.table u.key)) place (at_of w)) to sees)
        (λ r told to same last. inl (expected (ap (λ (y : Item). y.func) same) (ap is_begin is ∙ n.1) ((λ i. notes_of (run_tx run.id run.func (tx i)) (is i)) ∙ n.0 ∙ ap (λ (y : Item). Some (y.table, y.key)) same) last.lacks))

    -- ---- inside
    module _ (e : Effect) (o : RunTx) (is : g.machine.effect ≡ e) (tx : g.tx ≡ Some o) where
      lock_wants : (j : ℕ × List ℕ) → touched e ≡ Some j → (at : LockAt) → InItem d m h.plain h.histories run.id run.func o g.machine.steps e (TxAt.Lock at) (Some j) → Wants (asks_at run.func j.0 j.1 place (ByTx (tx_of run.id run.func o)) at)
      lock_wants j touch (LockAt.Lockset b) f = none_made _ refl
      lock_wants j touch (LockAt.Item at) f = appended run.func j.0 j.1 place (ByTx (tx_of run.id run.func o)) CellOp.Lock at
          (λ n told to. subst (λ w. SeesAt (chain m (cell_key run.func j.0 j.1)) place (at_of w)) to f.sees)
          (λ r told to same last. inl (expected (ap (λ (y : Item). y.func) same) (ap is_begin is ∙ touch_begins e j touch) ((λ i. notes_of (run_tx run.id run.func (tx i)) (is i)) ∙ touch ∙ ap (λ (y : Item). Some (y.table, y.key)) same) last.lacks))

      aside_wants : (j : ℕ × List ℕ) (w : WriteAt) (op : Option CellOp) → Wants (aside_asks run.func place (tx_of run.id run.func o) (shadow_key run.func (tx_of run.id run.func o) j.0 j.1) w op)
      aside_wants j w None = none_looked _
      aside_wants j w (Some op) = λ made. absurd (aside_makes x l.last c.now run.func (tx_of run.id run.func o) j.0 j.1 place (ByTx (tx_of run.id run.func o)) op w made)

      item_wants : (j : ℕ × List ℕ) → touched e ≡ Some j → (a : TxAt) → InItem d m h.plain h.histories run.id run.func o g.machine.steps e a (Some j) → Wants (item_asks run.func place (tx_of run.id run.func o) e j.0 j.1 a)
      item_wants j touch TxAt.Log f = none_looked _
      item_wants j touch (TxAt.Lock at) f = lock_wants j touch at f
      item_wants j touch TxAt.Seek f = none_looked _
      item_wants j touch (TxAt.Shadow r) f = none_looked _
      item_wants j touch (TxAt.Item r) f = none_looked _
      item_wants j touch (TxAt.Keep v) f = none_made _ refl
      item_wants j touch (TxAt.Head v) f = none_made _ refl
      item_wants j touch (TxAt.Write w) f = aside_wants j w (aside_op e)

      tx_wants : (a : TxAt) (q : Option (ℕ × List ℕ)) → touched e ≡ q → InItem d m h.plain h.histories run.id run.func o g.machine.steps e a q → Wants (asks_of run.func place (tx_of run.id run.func o) e a q)
      tx_wants a None touch f = none_looked _
      tx_wants a (Some j) touch f = item_wants j touch a f

    -- ---- at an end
    module _ (o : OpenTx) (commit : Bool) where
      abbrev y : TxId
      y = own_tx run.id run.func o

      free_wants : (v : EndState) (i : Option (ℕ × List ℕ)) (w : WriteAt) → SeesRows (EndAt.Free w) (end_walk run.id run.func o g.machine.steps commit v) (visited_by y v.path).1 m i → WasOwned y (EndAt.Free w)
          → Wants (free_asks y (visited_by y v.path) (free_place y g.machine.steps v.path) v.value w i)
      free_wants v None w sees was = λ made. absurd made
      free_wants v (Some i) w sees was = let p = visited_by y v.path in
          appended p.1 i.0 i.1 (free_place y g.machine.steps v.path) (ByTx y) (CellOp.Free v.value) w
          (λ n told to. subst (λ z. SeesRows (EndAt.Free z) (end_walk run.id run.func o g.machine.steps commit v) p.1 m (Some i)) to sees)
          (λ n told to same last. inr (record { tx = y; owner = last.owner ∙ subst (λ z. WasOwned y (EndAt.Free z)) to was }))

      visit_wants : (v : EndState) (at : EndAt) → SeesRows at (end_walk run.id run.func o g.machine.steps commit v) (visited_by y v.path).1 m v.item → WasOwned y at → Wants (visit_asks y g.machine.steps commit v.path v.after v.item v.value at)
      visit_wants v EndAt.Decide sees was = none_made _ refl
      visit_wants v EndAt.Callees sees was = λ made. absurd made
      visit_wants v EndAt.Next sees was = λ made. absurd made
      visit_wants v (EndAt.Shadow r) sees was = shadow_wants v.item
        where
          shadow_wants : (i : Option (ℕ × List ℕ)) → Wants (shadow_asks y (visited_by y v.path) r i)
          shadow_wants None = λ made. absurd made
          shadow_wants (Some i) = none_looked _
      visit_wants v (EndAt.Free w) sees was = free_wants v v.item w sees was
      visit_wants v EndAt.Stamp sees was = none_made _ refl

    -- ---- a stage
    back_wants : (b : Option Caller) (e : Effect) → Wants (back_to_asks run.id run.func b e)
    back_wants (Some b) (Effect.Return u) = none_made _ refl
    back_wants None e = none_looked _
    back_wants (Some b) e = none_looked _

    tell_wants : (b : Option Caller) → Wants (notify_asks run.id run.func b)
    tell_wants None = none_looked _
    tell_wants (Some b) = none_made _ refl

    call_wants : (f : ℕ) (at : CallAt) → Wants (call_asks run.func place f at)
    call_wants f CallAt.Open = none_made _ refl
    call_wants f CallAt.Look = none_looked _

    async_wants : (f : ℕ) (v : Value) (at : AsyncAt) → Wants (async_asks run.func place (callee_body run.id run.func g.machine.steps f v None false) at)
    async_wants f v AsyncAt.Open = none_made _ refl
    async_wants f v AsyncAt.Register = none_made _ refl
    async_wants f v AsyncAt.Note = none_made _ refl

    stage_wants : (s : Stage) (e : Effect) (o : Option RunTx) → g.machine.effect ≡ e → g.tx ≡ o → AtStage m h.plain c.book k s e o → OwnsAtStage run.id run.func s o → Wants (stage_asks run.id run.func g.caller o g.machine.steps e s)
    stage_wants Stage.Ask (Effect.Read t key) None is tx at was = none_looked _
    stage_wants (Stage.Walk row) (Effect.Read t key) None is tx at was = none_looked _
    stage_wants (Stage.Keep v seen) (Effect.Read t key) None is tx at was = none_made _ refl
    stage_wants (Stage.Write w) e None is tx at was = write_wants w e (cell_op e) refl at.1 is tx
    stage_wants (Stage.Call w) (Effect.Call f v) o is tx at was = call_wants f w
    stage_wants (Stage.Async w) (Effect.Async f v) None is tx at was = if_wants (has_callees run.id) _ _ (async_wants f v w) (none_looked _)
    stage_wants Stage.Back (Effect.Return u) o is tx at was = back_wants g.caller (Effect.Return u)
    stage_wants Stage.Notify (Effect.Return u) None is tx at was = tell_wants g.caller
    stage_wants Stage.Close (Effect.Return u) o is tx at was = none_made _ refl
    stage_wants (Stage.Tx a) e (Some o) is tx at was = subst (λ q. Wants (asks_of run.func place (tx_of run.id run.func o) e a q)) (touched_is e) (tx_wants e o is tx a (touched e) refl at.1)
    stage_wants (Stage.Decide w) (Effect.End commit) (Some (Own o)) is tx at was = none_made _ refl
    stage_wants (Stage.End v) (Effect.End commit) (Some (Own o)) is tx at was = visit_wants o commit v v.at at.1.sees was
    stage_wants s e o is tx at was = absurd at

  -- ---- whatever it stands at
  at_wants : (at : standing.RunAt) → KnowsAt d m h.plain c.book h.histories run at → OwnsAt run at → Wants (run_asks_at run at)
  at_wants Looks knows was = none_looked _
  at_wants (Registers b) knows was = none_made _ refl
  at_wants (Begins g) knows was = stage_wants g knows.0 knows.1 g.stage g.machine.effect g.tx refl refl knows.1.here was

  pub run_wants : (i : ℕ) → map.get c.runs i ≡ Some run → FreesAreOwned c → Wants (run_asks run)
  run_wants i live frees = at_wants run.at (subst (RunAt d m h.plain c.book h.histories) live (h.runs.runs i)) (frees i run live)
