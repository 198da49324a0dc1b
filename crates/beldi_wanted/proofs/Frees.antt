-- A run that gives an item back, and makes a row, was told that its transaction owns the item.
use Rattle.std.specs.FinMap as map
use Rattle.std.proofs.Common.{◌≡◌, ℕ, ◌+◌, Bool, true, false, cond, List, Option, Some, None, is_some, if◌then◌else◌, refl, ap, sym, ◌∙◌, subst, arith}
use Rattle.std.specs.FinMap.{get-empty}
use Rattle.std.specs.Ordering.{is_eq, nat_cmp}
use Rattle.beldi_value.specs.{Id.has_callees, declared.id.IntentId.IntentId, declared.place.Caller.Caller, declared.place.Owner.Owner, declared.place.Owner.TheVariants.Tx as ByTx, declared.place.Owner.TheVariants.Intent as ByIntent, declared.place.Place.Place, declared.place.TxId.TxId, declared.value.Value.Value}
use Rattle.beldi_tree.specs.declared.deployment.{Deployment.Deployment, Func.Func}
use Rattle.beldi_tree.specs.Names.{func_at}
use Rattle.beldi_lang.specs.Machine.{begun as machine_begun}
use Rattle.beldi_lang.specs.declared.{machine.Machine.Machine, effect.Answer.Answer, effect.Effect.Effect}
use Rattle.beldi_book.specs.LinearOrder.{count_changes}
use Rattle.beldi_row.specs.{Act.ActReply, Act.act, Act.did, Act.entered, Act.free_at, Act.given_or, Act.is_full, Act.next_or, Act.not_owner, Act.noted_or, Act.owns, Act.packed, Key.RowKey, Log.note_at, Table.Rows, declared.act.Act.Act, declared.notes.Note.Note, declared.row.Body.Body, declared.row.Cell.Cell, declared.row.Row.Row}
use Rattle.beldi_query.specs.{declared.query.Query.Query, Query.QueryReply, Query.replied, Query.query_reply}
use Rattle.beldi_call.specs.{Async.async_output, Call.call_output}
use Rattle.beldi_call.specs.declared.{async_call.AsyncAt.AsyncAt, async_call.AsyncOutput.AsyncOutput, call.CallAt.CallAt, call.CallOutput.CallOutput}
use Rattle.beldi_invokelog.specs.InvokeLog.{back_of}
use Rattle.beldi_invokelog.specs.declared.invoke_log.Back as given
use Rattle.beldi_invokelog.specs.declared.invoke_log.Back.TheVariants as back
use Rattle.beldi_intent.specs.Intent.{body_told, is_did}
use Rattle.beldi_readlog.specs.ReadLog.{given_of}
use Rattle.beldi_daal.specs.{Cell.cell_key, Cell.full_goes, Cell.read_goes, Cell.write_asks, Cell.write_goes, declared.cell.CellOp.CellOp, declared.cell.FullRow.FullRow, declared.cell.ReadGoes.ReadGoes, declared.cell.WriteAt.WriteAt, declared.cell.WriteGoes.WriteGoes}
use Rattle.beldi_lock.specs.Last.{split_last}
use Rattle.beldi_txn.specs.{End.back_from, End.end_goes, End.first_visit, End.free_first, End.free_place, End.freed_goes, End.end_after, End.visit_asks, End.visited_by, Tx.tx_goes, declared.end.EndAt.EndAt, declared.end.EndGoes.EndGoes, declared.end.EndState.EndState, declared.tx.TxAt.TxAt, declared.tx.TxGoes.TxGoes, declared.call_path.Called.Called}
use Rattle.beldi_step.specs.HostStep.{Core, EventOn, counted, first_core, put_run}
use Rattle.beldi_step.specs.Run.{Turned, answer_noted, ask_output, asks_at, async_answer, async_here_output, local_steps, at_stage, back_output, begin_in, begin_of, body_registered, call_answer, call_here_output, callee_of, close_output, decide_here_output, decided_output, done_output, end_here_asks, end_here_output, first_stage, goes_from, goes_to, note_done, own_tx, place_of, put_answer, put_output, run_asks, run_told, stage_asks, stage_output, takes, told_at, turned_by, tx_here_output, tx_output, visit_output, walk_output, inherited_tx, write_output}
use Rattle.beldi_step.specs.declared.run.{Begun.Begun, Mark.Mark, OpenTx.OpenTx, Run.Run, RunAt.TheVariants.Begins, RunAt.TheVariants.Looks, RunAt.TheVariants.Registers, RunTx.RunTx, RunTx.TheVariants.Inherited, RunTx.TheVariants.Own, StageOutput.StageOutput, Stage.Stage}
use Rattle.beldi_step.specs.declared.run.RunAt as standing
use Rattle.beldi_step.proofs.{PutRun.put_got, StepRuns.Leaves, StepRuns.adds_by, StepRuns.after_event, StepRuns.same_some}
use Rattle.beldi_step.specs.declared.{event.Event.Event, event.EventReply.EventReply}
use Rattle.std.specs.Prelude.{Result}
use Rattle.std.specs.declared.alloc.AllocError.{AllocError}
use Rattle.beldi_histories.proofs.LockRows.{tx_same}
use Rattle.beldi_wanted.specs.Wanted.{FreesAreOwned, OwnsAt, OwnsAtStage, WasOwned}

-- ---- what a full row tells of a free: that who asks owns the item
owns_tx : (t : TxId) (o : Option Owner) → owns (ByTx t) o ≡ true → o ≡ Some (ByTx t)
owns_tx t None h = cc
owns_tx t (Some (ByIntent i)) h = cc
owns_tx t (Some (ByTx s)) h = ap (λ z. Some (ByTx z)) (tx_same s t h)

free_told : (c : Cell) (z : Cell × ActReply) (v : Value) (u : Option Owner) → z.1 ≡ did → (n : Option Note) (x : Option ℕ) (b f : Bool)
    → (noted_or c n (next_or c x (if b then (if f then (c, packed c.value c.owner) else z) else (c, not_owner)))).1 ≡ packed v u → (b ≡ true) × (u ≡ c.owner)
free_told c z v u put n x b f told = grind arith

cell_told : (p : Place) (t : TxId) (given : Option Value) (v : Value) (u : Option Owner) (c : Cell) → (free_at p (ByTx t) given c).1 ≡ packed v u → u ≡ Some (ByTx t)
cell_told p t given v u c told =
    let k = free_told c (entered p Note.Freed (given_or given c.value) None c, did) v u refl (note_at c.log p) c.next (owns (ByTx t) c.owner) (is_full c) told in
    k.1 ∙ owns_tx t c.owner k.0

packed_own : (p : Place) (t : TxId) (given : Option Value) (now : ℕ) (v : Value) (u : Option Owner) (r : Option Row) → (act (Act.FreeCell p (ByTx t) given) now r).1 ≡ packed v u → u ≡ Some (ByTx t)
packed_own p t given now v u None told = cc
packed_own p t given now v u (Some (Row.Cell c)) told = cell_told p t given v u c told
packed_own p t given now v u (Some (Row.Intent i)) told = cc
packed_own p t given now v u (Some (Row.ReadLog i)) told = cc
packed_own p t given now v u (Some (Row.Invoke i)) told = cc
packed_own p t given now v u (Some Row.Lockset) told = cc

-- a walk is to make a row only behind a full one
record WasPacked (t : QueryReply) (f : FullRow) : Type 0 where
  value : Value
  owner : Option Owner
  told : t ≡ replied (packed value owner)
  is : f.owner ≡ owner

full_on : (r n : ℕ) (t f : FullRow) → full_goes t (WriteAt.Try r) ≡ WriteGoes.On (WriteAt.Append n f) → f.owner ≡ t.owner
full_on r n t f is = grind arith

was_packed : (d : Note) (r n : ℕ) (t : QueryReply) (f : FullRow) → write_goes d (WriteAt.Try r) t ≡ WriteGoes.On (WriteAt.Append n f) → WasPacked t f
was_packed d r n (replied (packed v o)) f is = record { value = v; owner = o; told = refl; is = full_on r n (record { value = v; owner = o }) f is }
was_packed d r n t f is = cc

no_append : (d : Note) (at : WriteAt) (n : ℕ) (t : QueryReply) (f : FullRow) → ((r : ℕ) → at ≡ WriteAt.Try r → ⊥) → write_goes d at t ≡ WriteGoes.On (WriteAt.Append n f) → ⊥
no_append d (WriteAt.Try r) n t f off is = off r refl
no_append d WriteAt.Make n t f off is = grind arith
no_append d (WriteAt.Append k u) n t f off is = grind arith
no_append d (WriteAt.Link k) n t f off is = grind arith

-- ---- the end of a transaction
module _ (now : ℕ) (m : Rows) (y : TxId) where
  module _ (k : RowKey) (p : Place) (given : Option Value) where
    abbrev told : WriteAt → QueryReply
    told w = query_reply (write_asks k p (ByTx y) (CellOp.Free given) w) now m

    append_owned : (w : WriteAt) (n : ℕ) (f : FullRow) → write_goes Note.Freed w (told w) ≡ WriteGoes.On (WriteAt.Append n f) → f.owner ≡ Some (ByTx y)
    append_owned (WriteAt.Try r) n f is =
        let w = was_packed Note.Freed r n (told (WriteAt.Try r)) f is in
        w.is ∙ packed_own p y given now w.value w.owner _ (same_tell _ _ w.told)
      where
        same_tell : (a b : ActReply) → replied a ≡ replied b → a ≡ b
        same_tell a b e = cc
    append_owned WriteAt.Make n f is = absurd (no_append Note.Freed WriteAt.Make n (told WriteAt.Make) f (λ r e. cc) is)
    append_owned (WriteAt.Append i u) n f is = absurd (no_append Note.Freed (WriteAt.Append i u) n (told (WriteAt.Append i u)) f (λ r e. cc) is)
    append_owned (WriteAt.Link i) n f is = absurd (no_append Note.Freed (WriteAt.Link i) n (told (WriteAt.Link i)) f (λ r e. cc) is)

    walk_owned : (w v : WriteAt) → write_goes Note.Freed w (told w) ≡ WriteGoes.On v → WasOwned y (EndAt.Free v)
    walk_owned w (WriteAt.Append n f) is = append_owned w n f is
    walk_owned w (WriteAt.Try r) is = tt
    walk_owned w WriteAt.Make is = tt
    walk_owned w (WriteAt.Link n) is = tt

  freed_on : (g : WriteGoes) (w : WriteAt) → freed_goes g ≡ EndGoes.On (EndAt.Free w) → g ≡ WriteGoes.On w
  freed_on (WriteGoes.On v) w is = let same : v ≡ w = cc in ap WriteGoes.On same
  freed_on g w is = cc

  module _ (end : ℕ) (commit : Bool) where
    back_owned : (v : EndState) → WasOwned y v.at → (s : Option (List Called × Called)) → WasOwned y (back_from v s).at
    back_owned v was None = was
    back_owned v was (Some s) = tt

    moved_owned : (v : EndState) → WasOwned y v.at → (g : EndGoes) → ((a : EndAt) → g ≡ EndGoes.On a → WasOwned y a) → WasOwned y (end_after commit v g).at
    moved_owned v was (EndGoes.On a) goes = goes a refl
    moved_owned v was EndGoes.Stays goes = was
    moved_owned v was EndGoes.Worn goes = was
    moved_owned v was (EndGoes.Decided first) goes = tt
    moved_owned v was (EndGoes.Passed s) goes = was
    moved_owned v was (EndGoes.Callee cs) goes = tt
    moved_owned v was (EndGoes.Item t k) goes = by_commit commit
      where
        by_commit : (b : Bool) → WasOwned y (free_first b)
        by_commit true = tt
        by_commit false = tt
    moved_owned v was (EndGoes.Value u) goes = tt
    moved_owned v was EndGoes.Back goes = back_owned v was (split_last v.path)
    moved_owned v was EndGoes.Done goes = was

    -- only where an item is given back it walks along its rows
    free_only : (a : EndAt) → ((w : WriteAt) → a ≡ EndAt.Free w → WasOwned y (EndAt.Free w)) → WasOwned y a
    free_only (EndAt.Free w) goes = goes w refl
    free_only EndAt.Decide goes = tt
    free_only EndAt.Callees goes = tt
    free_only EndAt.Next goes = tt
    free_only (EndAt.Shadow r) goes = tt
    free_only EndAt.Stamp goes = tt

    -- no other stage says so
    never_free : (path : List Called) (a : EndAt) (t : QueryReply) (w : WriteAt) → ((w0 : WriteAt) → a ≡ EndAt.Free w0 → ⊥) → end_goes y end commit path a t ≡ EndGoes.On (EndAt.Free w) → ⊥
    never_free path EndAt.Decide t w off is = grind arith
    never_free path EndAt.Callees t w off is = grind arith
    never_free path EndAt.Next t w off is = grind arith
    never_free path (EndAt.Shadow r) t w off is = grind arith
    never_free path (EndAt.Free w0) t w off is = off w0 refl
    never_free path EndAt.Stamp t w off is = cc

    module _ (v : EndState) where
      abbrev visit_told : EndAt → QueryReply
      visit_told a = query_reply (visit_asks y end commit v.path v.after v.item v.value a) now m

      free_owned : (i : Option (ℕ × List ℕ)) (w0 w : WriteAt) → freed_goes (write_goes Note.Freed w0 (query_reply (visit_asks y end commit v.path v.after i v.value (EndAt.Free w0)) now m)) ≡ EndGoes.On (EndAt.Free w) → WasOwned y (EndAt.Free w)
      free_owned (Some i) w0 w goes = let p = visited_by y v.path in
          walk_owned (cell_key p.1 i.0 i.1) (free_place y end v.path) v.value w0 w (freed_on (write_goes Note.Freed w0 (told (cell_key p.1 i.0 i.1) (free_place y end v.path) v.value w0)) w goes)
      free_owned None w0 w goes = cc

      visit_owned : (a : EndAt) (w : WriteAt) → end_goes y end commit v.path a (visit_told a) ≡ EndGoes.On (EndAt.Free w) → WasOwned y (EndAt.Free w)
      visit_owned (EndAt.Free w0) w goes = free_owned v.item w0 w goes
      visit_owned EndAt.Decide w goes = absurd (never_free v.path EndAt.Decide (visit_told EndAt.Decide) w (λ w0 is. cc) goes)
      visit_owned EndAt.Callees w goes = absurd (never_free v.path EndAt.Callees (visit_told EndAt.Callees) w (λ w0 is. cc) goes)
      visit_owned EndAt.Next w goes = absurd (never_free v.path EndAt.Next (visit_told EndAt.Next) w (λ w0 is. cc) goes)
      visit_owned (EndAt.Shadow r) w goes = absurd (never_free v.path (EndAt.Shadow r) (visit_told (EndAt.Shadow r)) w (λ w0 is. cc) goes)
      visit_owned EndAt.Stamp w goes = absurd (never_free v.path EndAt.Stamp (visit_told EndAt.Stamp) w (λ w0 is. cc) goes)

      visited_owned : WasOwned y v.at → WasOwned y (end_after commit v (end_goes y end commit v.path v.at (visit_told v.at))).at
      visited_owned was = moved_owned v was (end_goes y end commit v.path v.at (visit_told v.at)) (λ a is. free_only a (λ w at. visit_owned v.at w (is ∙ ap EndGoes.On at)))

-- ---- what a stage says
module _ (id : IntentId) (func : ℕ) where
  abbrev OutputOwned : Option RunTx → StageOutput → Type 0
  OutputOwned o (StageOutput.On s k) = OwnsAtStage id func s o
  OutputOwned o s = Unit {0}

  visit_output_owned : (o : OpenTx) (commit : Bool) (v : EndState) (g : EndGoes) → WasOwned (own_tx id func o) (end_after commit v g).at → OutputOwned (Some (Own o)) (visit_output commit v g)
  visit_output_owned o commit v EndGoes.Done h = tt
  visit_output_owned o commit v EndGoes.Worn h = tt
  visit_output_owned o commit v (EndGoes.On a) h = h
  visit_output_owned o commit v EndGoes.Stays h = h
  visit_output_owned o commit v (EndGoes.Decided first) h = h
  visit_output_owned o commit v (EndGoes.Passed s) h = h
  visit_output_owned o commit v (EndGoes.Callee cs) h = h
  visit_output_owned o commit v (EndGoes.Item t k) h = h
  visit_output_owned o commit v (EndGoes.Value u) h = h
  visit_output_owned o commit v EndGoes.Back h = h

  end_owned : (now step : ℕ) (m : Rows) (e : Effect) (o : Option RunTx) (v : EndState) → OwnsAtStage id func (Stage.End v) o → OutputOwned o (end_here_output id func step e v o (query_reply (end_here_asks id func step e v o) now m))
  end_owned now step m (Effect.End commit) (Some (Own o)) v was = let y = own_tx id func o in
      visit_output_owned o commit v (end_goes y step commit v.path v.at (query_reply (visit_asks y step commit v.path v.after v.item v.value v.at) now m)) (visited_owned now m y step commit v was)
  end_owned now step m (Effect.End commit) (Some (Inherited x)) v was = tt
  end_owned now step m (Effect.End commit) None v was = tt
  end_owned now step m e o v was = tt

  decided_owned : (o : OpenTx) (commit : Bool) (k : Mark) (g : EndGoes) → OutputOwned (Some (Own o)) (decided_output commit k g)
  decided_owned o commit k (EndGoes.Decided first) = tt
  decided_owned o commit k g = tt

  decide_owned : (step : ℕ) (e : Effect) (o : Option RunTx) (k : Mark) (t : QueryReply) → OutputOwned o (decide_here_output id func step e k o t)
  decide_owned step (Effect.End commit) (Some (Own o)) k t = decided_owned o commit k (end_goes (own_tx id func o) step commit first_visit.path first_visit.at t)
  decide_owned step (Effect.End commit) (Some (Inherited x)) k t = tt
  decide_owned step (Effect.End commit) None k t = tt
  decide_owned step e o k t = tt

  -- no other stage leads to one of an end
  module _ (o : Option RunTx) where
    either_owned : (b : Bool) (u v : StageOutput) → OutputOwned o u → OutputOwned o v → OutputOwned o (if b then u else v)
    either_owned true u v h g = h
    either_owned false u v h g = g

    asked_owned : (v : Option Value) → OutputOwned o (ask_output v)
    asked_owned None = tt
    asked_owned (Some v) = tt

    walk_output_owned : (changes : ℕ) (g : ReadGoes) → OutputOwned o (walk_output changes g)
    walk_output_owned changes (ReadGoes.On row) = tt
    walk_output_owned changes ReadGoes.Stays = tt
    walk_output_owned changes (ReadGoes.Got v) = tt
    walk_output_owned changes (ReadGoes.Held w) = tt

    done_owned : (first : Bool) (a : Option Answer) → OutputOwned o (done_output first a)
    done_owned first None = tt
    done_owned first (Some a) = tt

    write_output_owned : (e : Effect) (g : WriteGoes) → OutputOwned o (write_output e g)
    write_output_owned e (WriteGoes.On v) = tt
    write_output_owned e WriteGoes.Stays = tt
    write_output_owned e (WriteGoes.Done w first) = done_owned first (answer_noted e w)
    write_output_owned e WriteGoes.NotOwner = tt
    write_output_owned e (WriteGoes.Held w) = tt
    write_output_owned e WriteGoes.Worn = tt

    put_owned : (e : Effect) (at : WriteAt) (n : Option Note) (t : QueryReply) → OutputOwned o (put_output e at n t)
    put_owned e at None t = tt
    put_owned e at (Some n) t = write_output_owned e (write_goes n at t)

    put_answer_owned : (a : TxAt) → OutputOwned o (put_answer a)
    put_answer_owned a = grind arith

    tx_output_owned : (a : TxAt) (g : TxGoes) → OutputOwned o (tx_output a g)
    tx_output_owned a (TxGoes.On b) = tt
    tx_output_owned a TxGoes.Stays = tt
    tx_output_owned a TxGoes.Put = put_answer_owned a
    tx_output_owned a (TxGoes.Died c) = tt
    tx_output_owned a (TxGoes.Held w) = tt
    tx_output_owned a TxGoes.Worn = tt
    tx_output_owned a (TxGoes.Value v) = tt
    tx_output_owned a TxGoes.Done = tt

    call_owned : (step : ℕ) (u : CallOutput) → OutputOwned o (call_answer id o step u)
    call_owned step (CallOutput.Opened first) = tt
    call_owned step CallOutput.NotYet = tt
    call_owned step (CallOutput.Done x) = tt

    call_here_owned : (step : ℕ) (e : Effect) (at : CallAt) (t : QueryReply) → OutputOwned o (call_here_output id o step e at t)
    call_here_owned step (Effect.Call f a) at t = either_owned (has_callees id) (call_answer id o step (call_output f at t)) (StageOutput.Ends None None) (call_owned step (call_output f at t)) tt
    call_here_owned step e at t = tt

    async_owned : (at : AsyncAt) (u : AsyncOutput) → OutputOwned o (async_answer at u)
    async_owned at (AsyncOutput.Opened first) = tt
    async_owned at AsyncOutput.Going = tt
    async_owned AsyncAt.Note AsyncOutput.Done = tt
    async_owned at AsyncOutput.Done = grind arith

    async_here_owned : (e : Effect) (at : AsyncAt) (t : QueryReply) → OutputOwned o (async_here_output id e at t)
    async_here_owned (Effect.Async f a) at t = either_owned (has_callees id) (async_answer at (async_output f at t)) (StageOutput.Ends None None) (async_owned at (async_output f at t)) tt
    async_here_owned e at t = tt

    back_owned_output : (b : given.Back) → OutputOwned o (back_output o b)
    back_owned_output back.Set = tt
    back_owned_output back.AlreadySet = tt
    back_owned_output back.Absent = tt

    close_owned : (c : Option Caller) (e : Effect) (b : Bool) → OutputOwned o (close_output id c e b)
    close_owned c e b = grind arith

  tx_owned : (step : ℕ) (e : Effect) (a : TxAt) (o : Option RunTx) (t : QueryReply) → OutputOwned o (tx_here_output id step e a o t)
  tx_owned step e a None t = tt
  tx_owned step e a (Some o) t = tx_output_owned (Some o) a (tx_goes (place_of id step) (begin_of o) e a t)

  module _ (c : Option Caller) (o : Option RunTx) (changes step now : ℕ) (e : Effect) (m : Rows) where
    abbrev told_here : Stage → QueryReply
    told_here s = query_reply (stage_asks id func c o step e s) now m

    output_owned : (s : Stage) → OwnsAtStage id func s o → OutputOwned o (stage_output id func c o changes step e s (told_here s))
    output_owned Stage.Ask was = asked_owned o (given_of (told_here Stage.Ask))
    output_owned (Stage.Walk row) was = walk_output_owned o changes (read_goes (Some (ByIntent id)) (told_here (Stage.Walk row)))
    output_owned (Stage.Keep v seen) was = tt
    output_owned (Stage.Write at) was = put_owned o e at (note_done e) (told_here (Stage.Write at))
    output_owned (Stage.Tx a) was = tx_owned step e a o (told_here (Stage.Tx a))
    output_owned (Stage.Decide k) was = decide_owned step e o k (told_here (Stage.Decide k))
    output_owned (Stage.End v) was = end_owned now step m e o v was
    output_owned (Stage.Call at) was = call_here_owned o step e at (told_here (Stage.Call at))
    output_owned (Stage.Async at) was = async_here_owned o e at (told_here (Stage.Async at))
    output_owned Stage.Back was = back_owned_output o (back_of (told_here Stage.Back))
    output_owned Stage.Notify was = tt
    output_owned Stage.Close was = close_owned o c e (is_did (told_here Stage.Close))

-- ---- where an effect begins
module _ (d : Deployment) (r : Run) where
  abbrev OfFirst : Option RunTx → Option Stage → Type 0
  OfFirst o None = Unit {0}
  OfFirst o (Some s) = OwnsAtStage r.id r.func s o

  first_owned : (c : Option Caller) (step : ℕ) (e : Effect) (o : Option RunTx) → OfFirst o (first_stage r.id c o step e)
  first_owned c step e o = grind arith

  -- ---- the run that goes on
  abbrev NextOwns : Turned → Type 0
  NextOwns t = (s : Run) → t.next ≡ Some s → OwnsAt s s.at

  run_owns : (q : Run) → OwnsAt q q.at → (s : Run) → ◌≡◌ {A = Option Run} (Some q) (Some s) → OwnsAt s s.at
  run_owns q h s is = let same : q ≡ s = cc in subst (λ (z : Run). OwnsAt z z.at) same h

  from_owns : (s : Machine × Option RunTx) (c : Option Caller) (k : Option Mark) (w : Option Stage) → OfFirst s.1 w → NextOwns (goes_from r s c k w)
  from_owns s c k None h q is = cc
  from_owns s c k (Some w) h q is = run_owns (record r { at = Begins (record { machine = s.0; caller = c; tx = s.1; stage = w }) }) h q is

  to_owns : (s : Machine × Option RunTx) (c : Option Caller) (k : Option Mark) → NextOwns (goes_to d r s c k)
  to_owns s c k = let w = local_steps d r.id s in from_owns w c k (first_stage r.id c w.1 w.0.steps w.0.effect) (first_owned c w.0.steps w.0.effect w.1)

  begin_owns : (f : Option Func) (b : Option Body) → NextOwns (begin_in d r f b)
  begin_owns f None q is = cc
  begin_owns None (Some b) q is = cc
  begin_owns (Some f) (Some b) q is = to_owns (machine_begun d r.func b.args (is_some b.tx), inherited_tx b.tx) b.parent None q is

  turned_owns : (changes now : ℕ) (m : Rows) → OwnsAt r r.at → NextOwns (run_told d changes r (query_reply (run_asks r) now m))
  turned_owns changes now m was = by_at r.at refl was
    where
      output : (g : Begun) → r.at ≡ Begins g → OwnsAt r (Begins g) → (u : StageOutput) → OutputOwned r.id r.func g.tx u → NextOwns (turned_by d r g u)
      output g at still (StageOutput.On w k) h = run_owns (record r { at = Begins (at_stage g w) }) h
      output g at still StageOutput.Stays h = run_owns (record r { at = Begins g }) still
      output g at still (StageOutput.Opens k) h = run_owns (record r { at = Begins (at_stage g (Stage.Call CallAt.Look)) }) tt
      output g at still (StageOutput.Waits w) h = run_owns r (subst (OwnsAt r) (sym at) still)
      output g at still (StageOutput.Starts a) h = to_owns (takes d g.machine g.tx a) g.caller None
      output g at still (StageOutput.Answers a k) h = to_owns (takes d g.machine g.tx a) g.caller k
      output g at still (StageOutput.Ends k o) h = λ q is. cc

      by_at : (a : standing.RunAt) → r.at ≡ a → OwnsAt r a → NextOwns (told_at d changes r a (query_reply (asks_at r a) now m))
      by_at Looks at was = begin_owns (func_at d r.func) (body_told r.func (query_reply (asks_at r Looks) now m))
      by_at (Registers b) at was = begin_owns (func_at d r.func) (body_registered r.func b (query_reply (asks_at r (Registers b)) now m))
      by_at (Begins g) at was = output g at was (stage_output r.id r.func g.caller g.tx changes g.machine.steps g.machine.effect g.stage (query_reply (asks_at r (Begins g)) now m))
          (output_owned r.id r.func g.caller g.tx changes g.machine.steps now g.machine.effect m g.stage was)

-- who is called has told nothing
callee_owns : (r s : Run) → callee_of r ≡ Some s → OwnsAt s s.at
callee_owns r s is = grind arith

-- ---- every event
module _ (c : Core) (m : Rows) where
  abbrev OwnsSo : ℕ → Run → Type 0
  OwnsSo i r = OwnsAt r r.at

  abbrev ToldSo : Query → QueryReply → Type 0
  ToldSo q t = t ≡ query_reply q c.now m

  turn_owns : (d : Deployment) (next : ℕ) (i : ℕ) (r : Run) → OwnsAt r r.at → (t : QueryReply) → ToldSo (run_asks r) t → Leaves OwnsSo ToldSo i next r (run_told d (count_changes c.book) r t)
  turn_owns d next i r was t told = subst (λ u. Leaves OwnsSo ToldSo i next r (run_told d (count_changes c.book) r u)) (sym told) (record { goes = turned_owns d r (count_changes c.book) c.now m was; calls = λ starts s is. callee_owns r s is })

pub frees_kept : (d : Deployment) (room old new : ℕ) (e : Event) (c b : Core) (m n : Rows) (x : Result EventReply AllocError) → FreesAreOwned c → EventOn d room old new e c m b n x → FreesAreOwned b
frees_kept d room old new e c b m n x owned s = (after_event (OwnsSo c m) (ToldSo c m) d e c b owned (adds_by (OwnsSo c m) (ToldSo c m) d e (counted c) (λ id f. tt) (λ i r live t told. turn_owns c m d (c.last_run + 1) i r (owned i r live) t told)) x room old new m n (λ q. refl) s).runs

pub frees_begin : (newest now : ℕ) → FreesAreOwned (first_core newest now)
frees_begin newest now n r live = let clash = sym (get-empty nat_cmp n) ∙ live in cc

-- ---- one run is another, that was told so if it has to be
pub frees_put : (c : Core) (i : ℕ) (s : Run) → OwnsAt s s.at → FreesAreOwned c → (n : ℕ) (r : Run) → map.get (put_run c.runs i (Some s)) n ≡ Some r → OwnsAt r r.at
frees_put c i s own owned n r is = by_test (is_eq (nat_cmp n i)) (sym (put_got c.runs i (Some s) n) ∙ is)
  where
    by_test : (b : Bool) → cond b (Some s) (map.get c.runs n) ≡ Some r → OwnsAt r r.at
    by_test true e = subst (λ (z : Run). OwnsAt z z.at) (same_some e) own
    by_test false e = owned n r e
