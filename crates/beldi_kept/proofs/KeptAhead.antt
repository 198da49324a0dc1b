-- What a run is led to after its turn stays, wherever it stands then.
use Rattle.std.proofs.Common.{◌≡◌, ℕ, Bool, true, false, List, Option, Some, None, is_some, if◌then◌else◌, refl, ap, sym, ◌∙◌, subst, arith}
use Rattle.beldi_value.specs.declared.{id.IntentId.IntentId, place.Caller.Caller, place.Owner.Owner, place.Place.Place, place.TxId.TxId, value.Value.Value}
use Rattle.beldi_tree.specs.declared.deployment.Deployment.{Deployment}
use Rattle.beldi_tree.specs.{Names.func_at, declared.deployment.Func.Func}
use Rattle.beldi_lang.specs.Machine.{begun as machine_begun}
use Rattle.beldi_lang.specs.declared.{machine.Machine.Machine, effect.Answer.Answer, effect.Effect.Effect}
use Rattle.beldi_plain.specs.Item.{Item}
use Rattle.beldi_value.specs.Id.{has_callees}
use Rattle.beldi_row.specs.{declared.row.Body.Body, Act.absent, Act.added, Act.here, Act.kept, Act.present, Table.Rows, declared.notes.Note.Note}
use Rattle.beldi_query.specs.{Query.QueryReply, Query.rows_after, Query.replied, Query.query_reply}
use Rattle.beldi_call.specs.{Async.async_output, Call.call_output}
use Rattle.beldi_call.specs.declared.{async_call.AsyncAt.AsyncAt, async_call.AsyncOutput.AsyncOutput, call.CallAt.CallAt, call.CallOutput.CallOutput}
use Rattle.beldi_invokelog.specs.InvokeLog.{back_of}
use Rattle.beldi_invokelog.specs.declared.invoke_log.Back as given
use Rattle.beldi_invokelog.specs.declared.invoke_log.Back.TheVariants as back
use Rattle.beldi_intent.specs.Intent.{body_told, is_did}
use Rattle.beldi_readlog.specs.ReadLog.{given_of}
use Rattle.beldi_chain.specs.Chain.{chain}
use Rattle.beldi_splice.specs.Splice.{IsSafeFrom}
use Rattle.beldi_daal.specs.{Cell.cell_key, Cell.done_note, Cell.read_goes, Cell.write_goes, Logged.at_of, declared.cell.CellOp.CellOp, declared.cell.ReadGoes.ReadGoes, declared.cell.WriteAt.WriteAt, declared.cell.WriteGoes.WriteGoes}
use Rattle.beldi_lock.specs.{Lock.lock_goes, Lock.put_goes, declared.lock.LockAt.LockAt}
use Rattle.beldi_lock.specs.Last.{split_last}
use Rattle.beldi_lock.specs.Lock as lock
use Rattle.beldi_txn.specs.Tx as tx
use Rattle.beldi_txn.specs.{End.at_calls, End.back_from, End.end_goes, End.first_visit, End.free_first, End.free_place, End.freed_goes, End.end_after, End.visit_asks, End.visited_by, Tx.asks_of, Tx.done_of, Tx.given_goes, Tx.head_made, Tx.item_leads, Tx.item_of, Tx.keep_goes, Tx.lock_leads, Tx.locked_goes, Tx.seek_goes, Tx.shadow_read, Tx.tx_goes, Tx.write_leads, declared.end.EndAt.EndAt, declared.end.EndGoes.EndGoes, declared.end.EndState.EndState, declared.tx.TxAt.TxAt, declared.tx.TxGoes.TxGoes, declared.call_path.Called.Called}
use Rattle.beldi_step.specs.Run.{OnCell, Turned, answer_noted, ask_output, asks_at, async_answer, async_here_output, local_steps, at_stage, back_output, begin_in, begin_of, body_registered, call_answer, call_here_output, cell_op, close_output, decide_here_output, decided_output, done_output, end_here_asks, end_here_output, first_outside, first_stage, goes_from, goes_to, last_stage, note_of_op, own_tx, place_of, put_answer, put_asks, put_output, run_asks, run_told, stage_asks, stage_output, takes, told_at as reply_at_run, turned_by, tx_of, tx_output, visit_output, walk_output, inherited_tx, write_output}
use Rattle.beldi_step.specs.declared.run.{Begun.Begun, Mark.Mark, OpenTx.OpenTx, Run.Run, RunAt.TheVariants.Begins, RunAt.TheVariants.Looks, RunAt.TheVariants.Registers, RunTx.RunTx, RunTx.TheVariants.Inherited, RunTx.TheVariants.Own, StageOutput.StageOutput, Stage.Stage}
use Rattle.beldi_step.specs.declared.run.RunAt as standing
use Rattle.beldi_histories.specs.Contents.{head_key}
use Rattle.beldi_kept.specs.KeptAhead.{StaysAhead, StaysAtStage, StaysFor, StaysForEnd, StaysForPut, StaysForRead, StaysForTx, StaysForVisit}
use Rattle.beldi_kept.proofs.{Coming.IsSafeFurther, Coming.first_safe, Coming.then_read, Coming.then_write, Staying.StaysOn, Staying.for_run, Staying.for_visit}

-- ---- over the rows before and after a turn, at this moment
module _ (life deadline now : ℕ) (m n : Rows) (on : StaysOn life deadline m n) (further : (x : Item) → IsSafeFurther life deadline (chain n (head_key x))) where
  abbrev At : IntentId → ℕ → Stage → Effect → Option RunTx → Type 0
  At id func s e o = StaysAtStage life deadline n id func s e o

  -- what is so where a stage says this
  abbrev OutputStay : IntentId → ℕ → Effect → Option RunTx → StageOutput → Type 0
  OutputStay id func e o (StageOutput.On s k) = At id func s e o
  OutputStay id func e o s = Unit {0}

  -- ---- outside a transaction
  walk_stays : (id : IntentId) (func step row changes : ℕ) (c : Option Caller) (e : Effect) (o : Option RunTx) → n ≡ rows_after (stage_asks id func c o step e (Stage.Walk row)) now m → StaysForRead life deadline m func row e
      → (w : Option Owner) (g : ReadGoes) → read_goes w (query_reply (stage_asks id func c o step e (Stage.Walk row)) now m) ≡ g → OutputStay id func e o (walk_output changes g)
  walk_stays id func step row changes c (Effect.Read t k) o set safe w (ReadGoes.On z) told = let x : Item = record { func = func; table = t; key = k } in then_read life deadline m n on x (further x) w row now set safe z told
  walk_stays id func step row changes c e o set safe w (ReadGoes.Got v) told = tt
  walk_stays id func step row changes c e o set safe w ReadGoes.Stays told = tt
  walk_stays id func step row changes c e o set safe w (ReadGoes.Held v) told = tt
  walk_stays id func step row changes c e o set safe w (ReadGoes.On z) told = tt

  module _ (id : IntentId) (func step : ℕ) (e : Effect) (o : Option RunTx) where
    done_stays : (first : Bool) (a : Option Answer) → OutputStay id func e o (done_output first a)
    done_stays first None = tt
    done_stays first (Some a) = tt

    write_stays : (u : OnCell) → cell_op e ≡ Some u → (at : WriteAt) → n ≡ rows_after (put_asks id func step at (Some u)) now m → StaysForPut life deadline m func at (Some u)
        → (g : WriteGoes) → write_goes (done_note u.op) at (query_reply (put_asks id func step at (Some u)) now m) ≡ g → OutputStay id func e o (write_output e g)
    write_stays u op at set safe (WriteGoes.On v) told = let x : Item = record { func = func; table = u.table; key = u.key } in
        subst (StaysForPut life deadline n func v) (sym op) (then_write life deadline m n on x (further x) (place_of id step) (Owner.Intent id) u.op (done_note u.op) now at set safe v told)
    write_stays u op at set safe (WriteGoes.Done w first) told = done_stays first (answer_noted e w)
    write_stays u op at set safe WriteGoes.Stays told = tt
    write_stays u op at set safe WriteGoes.NotOwner told = tt
    write_stays u op at set safe (WriteGoes.Held w) told = tt
    write_stays u op at set safe WriteGoes.Worn told = tt

    put_stays : (q : Option OnCell) → cell_op e ≡ q → (at : WriteAt) → n ≡ rows_after (put_asks id func step at q) now m → StaysForPut life deadline m func at q → OutputStay id func e o (put_output e at (note_of_op q) (query_reply (put_asks id func step at q) now m))
    put_stays None op at set safe = tt
    put_stays (Some u) op at set safe = write_stays u op at set safe (write_goes (done_note u.op) at (query_reply (put_asks id func step at (Some u)) now m)) refl

  -- ---- inside
  none_stays : (func : ℕ) (b : TxAt) → StaysForTx life deadline n func b None
  none_stays func (TxAt.Lock (LockAt.Item w)) = tt
  none_stays func (TxAt.Lock (LockAt.Lockset w)) = tt
  none_stays func (TxAt.Item r) = tt
  none_stays func b = tt

  module _ (func : ℕ) (p : Place) (y : TxId) (begin : ℕ) (e : Effect) (i : ℕ × List ℕ) where
    abbrev x : Item
    x = record { func = func; table = i.0; key = i.1 }

    abbrev To : TxAt → Type 0
    To b = StaysForTx life deadline n func b (Some i)

    abbrev StaysIfOn : TxGoes → Type 0
    StaysIfOn (TxGoes.On b) = To b
    StaysIfOn g = Unit {0}

    abbrev told : TxAt → QueryReply
    told a = query_reply (asks_of func p y e a (Some i)) now m

    abbrev Set : TxAt → Type 0
    Set a = n ≡ rows_after (asks_of func p y e a (Some i)) now m

    given_stays : (v : Option Value) → StaysIfOn (given_goes begin v)
    given_stays None = tt
    given_stays (Some v) = tt

    locked_stays : (f : Effect) → StaysIfOn (locked_goes f)
    locked_stays f = grind arith

    noted_stays : (w : Note) (first : Bool) → StaysIfOn (lock_leads p e (lock.note_goes w first))
    noted_stays Note.Got first = locked_stays e
    noted_stays Note.Wrote first = tt
    noted_stays (Note.Cond b) first = tt
    noted_stays (Note.Died b) first = tt
    noted_stays Note.Freed first = tt

    lock_stays : (w : WriteAt) → Set (TxAt.Lock (LockAt.Item w)) → StaysFor life deadline (chain m (head_key x)) (at_of w) → (g : WriteGoes) → write_goes Note.Got w (told (TxAt.Lock (LockAt.Item w))) ≡ g → StaysIfOn (lock_leads p e (lock.item_goes g))
    lock_stays w set safe (WriteGoes.On v) goes = then_write life deadline m n on x (further x) p (Owner.Tx y) CellOp.Lock Note.Got now w set safe v goes
    lock_stays w set safe WriteGoes.Stays goes = tt
    lock_stays w set safe (WriteGoes.Done d first) goes = noted_stays d first
    lock_stays w set safe WriteGoes.NotOwner goes = tt
    lock_stays w set safe (WriteGoes.Held o) goes = tt
    lock_stays w set safe WriteGoes.Worn goes = tt

    shadow_stays : (g : ReadGoes) → StaysIfOn (shadow_read g)
    shadow_stays (ReadGoes.On z) = tt
    shadow_stays ReadGoes.Stays = tt
    shadow_stays (ReadGoes.Got None) = first_safe life deadline (chain n (head_key x))
    shadow_stays (ReadGoes.Got (Some v)) = tt
    shadow_stays (ReadGoes.Held o) = tt

    led_stays : (v : Value) → StaysIfOn (item_leads e v)
    led_stays v = grind arith

    item_stays : (r : ℕ) → Set (TxAt.Item r) → IsSafeFrom life deadline (chain m (head_key x)) r → (g : ReadGoes) → read_goes None (told (TxAt.Item r)) ≡ g → StaysIfOn (tx.item_goes e g)
    item_stays r set safe (ReadGoes.On z) goes = then_read life deadline m n on x (further x) None r now set safe z goes
    item_stays r set safe ReadGoes.Stays goes = tt
    item_stays r set safe (ReadGoes.Got None) goes = led_stays Value.Null
    item_stays r set safe (ReadGoes.Got (Some v)) goes = led_stays v
    item_stays r set safe (ReadGoes.Held o) goes = tt

    seek_stays : (t : QueryReply) → StaysIfOn (seek_goes t)
    seek_stays (replied absent) = first_safe life deadline (chain n (head_key x))
    seek_stays (replied (here r)) = tt
    seek_stays t = tt

    put_lock_stays : (t : QueryReply) → StaysIfOn (lock_leads p e (put_goes t))
    put_lock_stays (replied added) = first_safe life deadline (chain n (head_key x))
    put_lock_stays (replied present) = first_safe life deadline (chain n (head_key x))
    put_lock_stays t = tt

    keep_stays : (t : QueryReply) → StaysIfOn (keep_goes t)
    keep_stays (replied added) = tt
    keep_stays (replied (kept v)) = tt
    keep_stays t = tt

    head_stays : (t : QueryReply) → StaysIfOn (head_made t)
    head_stays (replied added) = tt
    head_stays (replied present) = tt
    head_stays t = tt

    own_stays : (g : WriteGoes) → StaysIfOn (write_leads e g)
    own_stays g = grind arith

    goes_stay : (a : TxAt) → Set a → StaysForTx life deadline m func a (Some i) → StaysIfOn (tx_goes p begin e a (told a))
    goes_stay TxAt.Log set safe = given_stays (given_of (told TxAt.Log))
    goes_stay (TxAt.Lock (LockAt.Item w)) set safe = lock_stays w set safe (write_goes Note.Got w (told (TxAt.Lock (LockAt.Item w)))) refl
    goes_stay (TxAt.Lock (LockAt.Lockset b)) set safe = put_lock_stays (told (TxAt.Lock (LockAt.Lockset b)))
    goes_stay TxAt.Seek set safe = seek_stays (told TxAt.Seek)
    goes_stay (TxAt.Shadow r) set safe = shadow_stays (read_goes None (told (TxAt.Shadow r)))
    goes_stay (TxAt.Item r) set safe = item_stays r set safe (read_goes None (told (TxAt.Item r))) refl
    goes_stay (TxAt.Keep v) set safe = keep_stays (told (TxAt.Keep v))
    goes_stay (TxAt.Head v) set safe = head_stays (told (TxAt.Head v))
    goes_stay (TxAt.Write w) set safe = own_stays (write_goes (done_of e) w (told (TxAt.Write w)))

  module _ (id : IntentId) (func step : ℕ) (e : Effect) where
    -- what it says, by where the operation goes
    output_stays : (o : Option RunTx) (a : TxAt) (g : TxGoes) → ((b : TxAt) → g ≡ TxGoes.On b → StaysForTx life deadline n func b (item_of e)) → OutputStay id func e o (tx_output a g)
    output_stays o a (TxGoes.On b) goes = goes b refl
    output_stays o a TxGoes.Stays goes = tt
    output_stays o (TxAt.Keep v) TxGoes.Put goes = tt
    output_stays o a TxGoes.Put goes = put_output_stays a
      where
        put_output_stays : (a : TxAt) → OutputStay id func e o (put_answer a)
        put_output_stays a = grind arith
    output_stays o a (TxGoes.Died c) goes = tt
    output_stays o a (TxGoes.Held w) goes = tt
    output_stays o a TxGoes.Worn goes = tt
    output_stays o a (TxGoes.Value v) goes = tt
    output_stays o a TxGoes.Done goes = tt

    put_in_stays : (o : RunTx) (q : Option (ℕ × List ℕ)) → item_of e ≡ q → (a : TxAt) → n ≡ rows_after (asks_of func (place_of id step) (tx_of id func o) e a q) now m → StaysForTx life deadline m func a q
        → OutputStay id func e (Some o) (tx_output a (tx_goes (place_of id step) (begin_of o) e a (query_reply (asks_of func (place_of id step) (tx_of id func o) e a q) now m)))
    put_in_stays o None of a set safe = output_stays (Some o) a (tx_goes (place_of id step) (begin_of o) e a (query_reply (asks_of func (place_of id step) (tx_of id func o) e a None) now m)) (λ b is. subst (StaysForTx life deadline n func b) (sym of) (none_stays func b))
    put_in_stays o (Some i) of a set safe =
        let g = tx_goes (place_of id step) (begin_of o) e a (query_reply (asks_of func (place_of id step) (tx_of id func o) e a (Some i)) now m) in
        output_stays (Some o) a g (λ b is. subst (StaysForTx life deadline n func b) (sym of) (subst (StaysIfOn func (place_of id step) (tx_of id func o) (begin_of o) e i) is (goes_stay func (place_of id step) (tx_of id func o) (begin_of o) e i a set safe)))

  -- ---- the end of a transaction
  module _ (y : TxId) (end : ℕ) (commit : Bool) where
    abbrev Visits : EndState → Type 0
    Visits v = StaysForVisit life deadline n y v.path v.at v.item

    calls_stay : (path : List Called) (after : Option ℕ) → Visits (at_calls path after)
    calls_stay path after = tt

    back_stays : (v : EndState) → Visits v → (s : Option (List Called × Called)) → Visits (back_from v s)
    back_stays v was None = was
    back_stays v was (Some s) = tt

    moved_stays : (v : EndState) → Visits v → (g : EndGoes) → ((a : EndAt) → g ≡ EndGoes.On a → StaysForVisit life deadline n y v.path a v.item) → Visits (end_after commit v g)
    moved_stays v was (EndGoes.On a) goes = goes a refl
    moved_stays v was EndGoes.Stays goes = was
    moved_stays v was EndGoes.Worn goes = was
    moved_stays v was (EndGoes.Decided first) goes = tt
    moved_stays v was (EndGoes.Passed s) goes = was
    moved_stays v was (EndGoes.Callee cs) goes = tt
    moved_stays v was (EndGoes.Item t k) goes = by_commit commit
      where
        by_commit : (b : Bool) → StaysForVisit life deadline n y v.path (free_first b) (Some (t, k))
        by_commit true = tt
        by_commit false = first_safe life deadline (chain n (cell_key (visited_by y v.path).1 t k))
    moved_stays v was (EndGoes.Value u) goes = by_item v.item
      where
        by_item : (i : Option (ℕ × List ℕ)) → StaysForVisit life deadline n y v.path (EndAt.Free (WriteAt.Try 0)) i
        by_item None = tt
        by_item (Some i) = first_safe life deadline (chain n (cell_key (visited_by y v.path).1 i.0 i.1))
    moved_stays v was EndGoes.Back goes = back_stays v was (split_last v.path)
    moved_stays v was EndGoes.Done goes = was

    -- only where an item is given back it walks along its rows
    free_only : (path : List Called) (i : Option (ℕ × List ℕ)) (a : EndAt) → ((w : WriteAt) → a ≡ EndAt.Free w → StaysForVisit life deadline n y path (EndAt.Free w) i) → StaysForVisit life deadline n y path a i
    free_only path i (EndAt.Free w) goes = goes w refl
    free_only path i EndAt.Decide goes = tt
    free_only path i EndAt.Callees goes = tt
    free_only path i EndAt.Next goes = tt
    free_only path i (EndAt.Shadow r) goes = tt
    free_only path i EndAt.Stamp goes = tt

    freed_on : (g : WriteGoes) (w : WriteAt) → freed_goes g ≡ EndGoes.On (EndAt.Free w) → g ≡ WriteGoes.On w
    freed_on (WriteGoes.On v) w is = let same : v ≡ w = cc in ap WriteGoes.On same
    freed_on g w is = cc

    free_stays : (v : EndState) (i : Option (ℕ × List ℕ)) (w0 w : WriteAt) → n ≡ rows_after (visit_asks y end commit v.path v.after i v.value (EndAt.Free w0)) now m → StaysForVisit life deadline m y v.path (EndAt.Free w0) i
        → freed_goes (write_goes Note.Freed w0 (query_reply (visit_asks y end commit v.path v.after i v.value (EndAt.Free w0)) now m)) ≡ EndGoes.On (EndAt.Free w) → StaysForVisit life deadline n y v.path (EndAt.Free w) i
    free_stays v None w0 w set safe goes = tt
    free_stays v (Some i) w0 w set safe goes = let x : Item = record { func = (visited_by y v.path).1; table = i.0; key = i.1 } in
        then_write life deadline m n on x (further x) (free_place y end v.path) (Owner.Tx y) (CellOp.Free v.value) Note.Freed now w0 set safe w (freed_on (write_goes Note.Freed w0 (query_reply (visit_asks y end commit v.path v.after (Some i) v.value (EndAt.Free w0)) now m)) w goes)

    -- no other stage says so
    never_free : (v : EndState) (a : EndAt) (t : QueryReply) (w : WriteAt) → ((w0 : WriteAt) → a ≡ EndAt.Free w0 → ⊥) → end_goes y end commit v.path a t ≡ EndGoes.On (EndAt.Free w) → ⊥
    never_free v EndAt.Decide t w off is = grind arith
    never_free v EndAt.Callees t w off is = grind arith
    never_free v EndAt.Next t w off is = grind arith
    never_free v (EndAt.Shadow r) t w off is = grind arith
    never_free v (EndAt.Free w0) t w off is = off w0 refl
    never_free v EndAt.Stamp t w off is = cc

    abbrev visit_told : EndState → EndAt → QueryReply
    visit_told v a = query_reply (visit_asks y end commit v.path v.after v.item v.value a) now m

    visit_stays : (v : EndState) (a : EndAt) → v.at ≡ a → n ≡ rows_after (visit_asks y end commit v.path v.after v.item v.value a) now m → StaysForVisit life deadline m y v.path a v.item → (w : WriteAt)
        → end_goes y end commit v.path a (visit_told v a) ≡ EndGoes.On (EndAt.Free w) → StaysForVisit life deadline n y v.path (EndAt.Free w) v.item
    visit_stays v (EndAt.Free w0) at set safe w goes = free_stays v v.item w0 w set safe goes
    visit_stays v EndAt.Decide at set safe w goes = absurd (never_free v EndAt.Decide (visit_told v EndAt.Decide) w (λ w0 is. cc) goes)
    visit_stays v EndAt.Callees at set safe w goes = absurd (never_free v EndAt.Callees (visit_told v EndAt.Callees) w (λ w0 is. cc) goes)
    visit_stays v EndAt.Next at set safe w goes = absurd (never_free v EndAt.Next (visit_told v EndAt.Next) w (λ w0 is. cc) goes)
    visit_stays v (EndAt.Shadow r) at set safe w goes = absurd (never_free v (EndAt.Shadow r) (visit_told v (EndAt.Shadow r)) w (λ w0 is. cc) goes)
    visit_stays v EndAt.Stamp at set safe w goes = absurd (never_free v EndAt.Stamp (visit_told v EndAt.Stamp) w (λ w0 is. cc) goes)

    visited_stays : (v : EndState) → n ≡ rows_after (visit_asks y end commit v.path v.after v.item v.value v.at) now m → StaysForVisit life deadline m y v.path v.at v.item → Visits (end_after commit v (end_goes y end commit v.path v.at (query_reply (visit_asks y end commit v.path v.after v.item v.value v.at) now m)))
    visited_stays v set safe = let g = end_goes y end commit v.path v.at (query_reply (visit_asks y end commit v.path v.after v.item v.value v.at) now m) in
        moved_stays v (for_visit life deadline m n on y v.path v.at v.item safe) g (λ a is. free_only v.path v.item a (λ w at. visit_stays v v.at refl set safe w (is ∙ ap EndGoes.On at)))

  module _ (id : IntentId) (func step : ℕ) where
    end_output_stay : (e : Effect) (o : OpenTx) (commit : Bool) (v : EndState) (g : EndGoes) → StaysForVisit life deadline n (own_tx id func o) (end_after commit v g).path (end_after commit v g).at (end_after commit v g).item → OutputStay id func e (Some (Own o)) (visit_output commit v g)
    end_output_stay e o commit v EndGoes.Done h = tt
    end_output_stay e o commit v EndGoes.Worn h = tt
    end_output_stay e o commit v (EndGoes.On a) h = h
    end_output_stay e o commit v EndGoes.Stays h = h
    end_output_stay e o commit v (EndGoes.Decided first) h = h
    end_output_stay e o commit v (EndGoes.Passed s) h = h
    end_output_stay e o commit v (EndGoes.Callee cs) h = h
    end_output_stay e o commit v (EndGoes.Item t k) h = h
    end_output_stay e o commit v (EndGoes.Value u) h = h
    end_output_stay e o commit v EndGoes.Back h = h

    end_stays : (e : Effect) (o : Option RunTx) (v : EndState) → n ≡ rows_after (end_here_asks id func step e v o) now m → StaysForEnd life deadline m id func v o → OutputStay id func e o (end_here_output id func step e v o (query_reply (end_here_asks id func step e v o) now m))
    end_stays (Effect.End commit) (Some (Own o)) v set safe = let y = own_tx id func o in
        end_output_stay (Effect.End commit) o commit v (end_goes y step commit v.path v.at (query_reply (visit_asks y step commit v.path v.after v.item v.value v.at) now m)) (visited_stays y step commit v set safe)
    end_stays (Effect.End commit) (Some (Inherited x)) v set safe = tt
    end_stays (Effect.End commit) None v set safe = tt
    end_stays e o v set safe = tt

    decided_stays : (e : Effect) (o : OpenTx) (commit : Bool) (k : Mark) (g : EndGoes) → OutputStay id func e (Some (Own o)) (decided_output commit k g)
    decided_stays e o commit k (EndGoes.Decided first) = tt
    decided_stays e o commit k g = tt

    decide_stays : (e : Effect) (o : Option RunTx) (k : Mark) (t : QueryReply) → OutputStay id func e o (decide_here_output id func step e k o t)
    decide_stays (Effect.End commit) (Some (Own o)) k t = decided_stays (Effect.End commit) o commit k (end_goes (own_tx id func o) step commit first_visit.path first_visit.at t)
    decide_stays (Effect.End commit) (Some (Inherited x)) k t = tt
    decide_stays (Effect.End commit) None k t = tt
    decide_stays e o k t = tt

  -- ---- a stage
  module _ (id : IntentId) (func : ℕ) (e : Effect) (o : Option RunTx) where
    either_stays : (b : Bool) (u v : StageOutput) → OutputStay id func e o u → OutputStay id func e o v → OutputStay id func e o (if b then u else v)
    either_stays true u v h g = h
    either_stays false u v h g = g

    call_stays : (step : ℕ) (u : CallOutput) → OutputStay id func e o (call_answer id o step u)
    call_stays step (CallOutput.Opened first) = tt
    call_stays step CallOutput.NotYet = tt
    call_stays step (CallOutput.Done x) = tt

    async_stays : (at : AsyncAt) (u : AsyncOutput) → OutputStay id func e o (async_answer at u)
    async_stays at (AsyncOutput.Opened first) = tt
    async_stays at AsyncOutput.Going = tt
    async_stays AsyncAt.Note AsyncOutput.Done = tt
    async_stays at AsyncOutput.Done = grind arith

  call_here_stays : (id : IntentId) (func step : ℕ) (e : Effect) (o : Option RunTx) (at : CallAt) (t : QueryReply) → OutputStay id func e o (call_here_output id o step e at t)
  call_here_stays id func step (Effect.Call f a) o at t = either_stays id func (Effect.Call f a) o (has_callees id) (call_answer id o step (call_output f at t)) (StageOutput.Ends None None) (call_stays id func (Effect.Call f a) o step (call_output f at t)) tt
  call_here_stays id func step e o at t = tt

  async_here_stays : (id : IntentId) (func : ℕ) (e : Effect) (o : Option RunTx) (at : AsyncAt) (t : QueryReply) → OutputStay id func e o (async_here_output id e at t)
  async_here_stays id func (Effect.Async f a) o at t = either_stays id func (Effect.Async f a) o (has_callees id) (async_answer at (async_output f at t)) (StageOutput.Ends None None) (async_stays id func (Effect.Async f a) o at (async_output f at t)) tt
  async_here_stays id func e o at t = tt

  module _ (id : IntentId) (func : ℕ) (c : Option Caller) (changes step : ℕ) (e : Effect) where
    abbrev told_at : Option RunTx → Stage → QueryReply
    told_at o s = query_reply (stage_asks id func c o step e s) now m

    output_stay : (o : Option RunTx) (s : Stage) → n ≡ rows_after (stage_asks id func c o step e s) now m → StaysAtStage life deadline m id func s e o → OutputStay id func e o (stage_output id func c o changes step e s (told_at o s))
    output_stay o Stage.Ask set safe = asked_stays (given_of (told_at o Stage.Ask))
      where
        asked_stays : (v : Option Value) → OutputStay id func e o (ask_output v)
        asked_stays None = walk_first e
          where
            walk_first : (e : Effect) → StaysForRead life deadline n func 0 e
            walk_first (Effect.Read t k) = first_safe life deadline (chain n (cell_key func t k))
            walk_first e = tt
        asked_stays (Some v) = tt
    output_stay o (Stage.Walk row) set safe = walk_stays id func step row changes c e o set safe (Some (Owner.Intent id)) (read_goes (Some (Owner.Intent id)) (told_at o (Stage.Walk row))) refl
    output_stay o (Stage.Keep v seen) set safe = tt
    output_stay o (Stage.Write at) set safe = put_stays id func step e o (cell_op e) refl at set safe
    output_stay (Some o) (Stage.Tx a) set safe = put_in_stays id func step e o (item_of e) refl a set safe
    output_stay None (Stage.Tx a) set safe = tt
    output_stay o (Stage.Decide k) set safe = decide_stays id func step e o k (told_at o (Stage.Decide k))
    output_stay o (Stage.End v) set safe = end_stays id func step e o v set safe
    output_stay o (Stage.Call at) set safe = call_here_stays id func step e o at (told_at o (Stage.Call at))
    output_stay o (Stage.Async at) set safe = async_here_stays id func e o at (told_at o (Stage.Async at))
    output_stay o Stage.Back set safe = back_stays (back_of (told_at o Stage.Back))
      where
        back_stays : (b : given.Back) → OutputStay id func e o (back_output o b)
        back_stays back.Set = tt
        back_stays back.AlreadySet = tt
        back_stays back.Absent = tt
    output_stay o Stage.Notify set safe = tt
    output_stay o Stage.Close set safe = close_stays (is_did (told_at o Stage.Close))
      where
        close_stays : (b : Bool) → OutputStay id func e o (close_output id c e b)
        close_stays b = grind arith

-- ---- where an effect begins
module _ (life : ℕ) (n : Rows) (d : Deployment) (r : Run) where
  abbrev OfFirst : Effect → Option RunTx → Option Stage → Type 0
  OfFirst e o None = Unit {0}
  OfFirst e o (Some s) = StaysAtStage life r.deadline n r.id r.func s e o

  put_first : (e : Effect) (o : Option RunTx) → StaysForPut life r.deadline n r.func (WriteAt.Try 0) (cell_op e)
  put_first e o = by_op (cell_op e)
    where
      by_op : (q : Option OnCell) → StaysForPut life r.deadline n r.func (WriteAt.Try 0) q
      by_op None = tt
      by_op (Some u) = first_safe life r.deadline (chain n (cell_key r.func u.table u.key))

  last_stays : (c : Option Caller) (x : Effect) (o : Option RunTx) → OfFirst x o (Some (last_stage c))
  last_stays None x o = tt
  last_stays (Some c) x o = by_waits c.waits
    where
      by_waits : (b : Bool) → OfFirst x o (Some (if b then Stage.Back else Stage.Notify))
      by_waits true = tt
      by_waits false = tt

  call_first : (e : Effect) (o : Option RunTx) (b : Bool) → OfFirst e o (if b then Some (Stage.Call CallAt.Open) else None)
  call_first e o true = tt
  call_first e o false = tt

  async_first : (e : Effect) (o : Option RunTx) (b : Bool) → OfFirst e o (first_outside (if b then Some (Stage.Async AsyncAt.Open) else None) o)
  async_first e None true = tt
  async_first e None false = tt
  async_first e (Some o) b = tt

  first_stays : (c : Option Caller) (step : ℕ) (e : Effect) (o : Option RunTx) → OfFirst e o (first_stage r.id c o step e)
  first_stays c step (Effect.Read t k) None = tt
  first_stays c step (Effect.Read t k) (Some o) = tt
  first_stays c step (Effect.Write t k v) None = put_first (Effect.Write t k v) None
  first_stays c step (Effect.Write t k v) (Some o) = tt
  first_stays c step (Effect.CondWrite t k q w v) None = put_first (Effect.CondWrite t k q w v) None
  first_stays c step (Effect.CondWrite t k q w v) (Some o) = tt
  first_stays c step (Effect.Lock t k) None = put_first (Effect.Lock t k) None
  first_stays c step (Effect.Lock t k) (Some o) = tt
  first_stays c step (Effect.Unlock t k) None = put_first (Effect.Unlock t k) None
  first_stays c step (Effect.Unlock t k) (Some o) = tt
  first_stays c step (Effect.Call f a) o = call_first (Effect.Call f a) o (has_callees r.id)
  first_stays c step (Effect.Async f a) o = async_first (Effect.Async f a) o (has_callees r.id)
  first_stays c step (Effect.End commit) None = tt
  first_stays c step (Effect.End commit) (Some (Own o)) = tt
  first_stays c step (Effect.End commit) (Some (Inherited x)) = tt
  first_stays c step (Effect.Return x) o = last_stays c (Effect.Return x) o
  first_stays c step e o = grind arith

  -- ---- the run that goes on
  abbrev NextStays : Turned → Type 0
  NextStays t = (s : Run) → t.next ≡ Some s → StaysAhead life n s s.at

  run_stays : (q : Run) → StaysAhead life n q q.at → (s : Run) → ◌≡◌ {A = Option Run} (Some q) (Some s) → StaysAhead life n s s.at
  run_stays q h s is = let same : q ≡ s = cc in subst (λ (z : Run). StaysAhead life n z z.at) same h

  from_stays : (s : Machine × Option RunTx) (c : Option Caller) (k : Option Mark) (w : Option Stage) → OfFirst s.0.effect s.1 w → NextStays (goes_from r s c k w)
  from_stays s c k None h q is = cc
  from_stays s c k (Some w) h q is = run_stays (record r { at = Begins (record { machine = s.0; caller = c; tx = s.1; stage = w }) }) h q is

  to_stays : (s : Machine × Option RunTx) (c : Option Caller) (k : Option Mark) → NextStays (goes_to d r s c k)
  to_stays s c k = let w = local_steps d r.id s in from_stays w c k (first_stage r.id c w.1 w.0.steps w.0.effect) (first_stays c w.0.steps w.0.effect w.1)

  begin_stays : (f : Option Func) (b : Option Body) → NextStays (begin_in d r f b)
  begin_stays f None q is = cc
  begin_stays None (Some b) q is = cc
  begin_stays (Some f) (Some b) q is = to_stays (machine_begun d r.func b.args (is_some b.tx), inherited_tx b.tx) b.parent None q is

pub turned_stays : (life now changes : ℕ) (m n : Rows) (d : Deployment) (r : Run) (on : StaysOn life r.deadline m n) (further : (x : Item) → IsSafeFurther life r.deadline (chain n (head_key x))) → n ≡ rows_after (run_asks r) now m → StaysAhead life m r r.at
    → (s : Run) → (run_told d changes r (query_reply (run_asks r) now m)).next ≡ Some s → StaysAhead life n s s.at
turned_stays life now changes m n d r on further set was = by_at r.at refl set was
  where
    output : (g : Begun) → r.at ≡ Begins g → StaysAhead life n r (Begins g) → (u : StageOutput) → OutputStay life r.deadline now m n on further r.id r.func g.machine.effect g.tx u → NextStays life n d r (turned_by d r g u)
    output g at still (StageOutput.On w k) h = run_stays life n d r (record r { at = Begins (at_stage g w) }) h
    output g at still StageOutput.Stays h = run_stays life n d r (record r { at = Begins g }) still
    output g at still (StageOutput.Opens k) h = run_stays life n d r (record r { at = Begins (at_stage g (Stage.Call CallAt.Look)) }) tt
    output g at still (StageOutput.Waits w) h = run_stays life n d r r (subst (StaysAhead life n r) (sym at) still)
    output g at still (StageOutput.Starts a) h = to_stays life n d r (takes d g.machine g.tx a) g.caller None
    output g at still (StageOutput.Answers a k) h = to_stays life n d r (takes d g.machine g.tx a) g.caller k
    output g at still (StageOutput.Ends k o) h = λ q is. cc

    by_at : (a : standing.RunAt) → r.at ≡ a → n ≡ rows_after (asks_at r a) now m → StaysAhead life m r a → NextStays life n d r (reply_at_run d changes r a (query_reply (asks_at r a) now m))
    by_at Looks at set was = begin_stays life n d r (func_at d r.func) (body_told r.func (query_reply (asks_at r Looks) now m))
    by_at (Registers b) at set was = begin_stays life n d r (func_at d r.func) (body_registered r.func b (query_reply (asks_at r (Registers b)) now m))
    by_at (Begins g) at set was = output g at (for_run life m n r on (Begins g) was) (stage_output r.id r.func g.caller g.tx changes g.machine.steps g.machine.effect g.stage (query_reply (asks_at r (Begins g)) now m))
        (output_stay life r.deadline now m n on further r.id r.func g.caller changes g.machine.steps g.machine.effect g.tx g.stage set was)
