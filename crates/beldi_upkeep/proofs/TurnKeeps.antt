-- The turn of a live run: what it leaves of the rows, and what its run owes then.
use Rattle.beldi_txn.proofs.Visited.{Leads, turns}
use Rattle.beldi_invariant.proofs.Names.{Answer, Async, AsyncAt, AtStage, Begins, Begun, Body, Bool, Call, CallMatches, Caller, Core, Deployment, Done, Effect, End, EndAt, EndGoes, Fits, Inside, IntentId, InvokeRow, IsTrue, Kind, Knows, List, None, OnItem, OpenTx, Option, Own, PutRead, Query, Read, Return, Invariant, Row, Rows, Run, RunTx, StageOutput, Some, Stage, QueryReply, TxAt, TxId, Value, EndState, Visited, ap, arith, async_asks, async_output, back_of, call_in, call_output, callee_body, cell_op, child_of, close_output, count_changes, end_goes, end_walk, false, func_called, has_callees, if◌then◌else◌, intent_key, invoke_key, is_begin, is_did, is_inherited, is_past, is_some, key_in, look_asks, not, note_done, op_of, option_map, own_tx, place_of, refl, register_to, rows_after, stage_asks, stage_output, subst, sym, query_reply, touched, true, tx_after, tx_end, tx_of, visit_asks, wants_answer, ℕ, ◌∙◌, ◌≡◌}
use Rattle.beldi_invariant.proofs.Names.{IsMember, NoteRegistered, Register, RowKey, act, async_answer, call_answer, first_end, is_closed, open_output, expected_call, register_asks, registered_asks, takes, notify_asks, visited_by, ◌∷◌, back_output}
use Rattle.beldi_call.specs.declared.async_call.AsyncOutput.{AsyncOutput}
use Rattle.beldi_invokelog.specs.InvokeLog.{call_at, invoked_of, registered_in}
use Rattle.beldi_txn.specs.End.{output_of}
use Rattle.beldi_invariant.proofs.Names.map
use Rattle.beldi_invariant.proofs.Names.txn
use Rattle.beldi_invariant.proofs.{InTx.no_begin, InTx.wants_one, Members.call_there, Others.decided_past, Passing.tx_is, Returns.has_caller, Widths.finds_first, Working.operates}
use Rattle.beldi_upkeep.specs.Callees.{AllFinished, HasPut, HasTold, RunOwes, RunsOwe, Seats}
use Rattle.beldi_upkeep.proofs.{EndRows.decide_leaves, EndRows.ends, EndRows.tx_is_ended, EndRows.visit_leaves, EndsLast.all_finished, EndsLast.done_next, FromInvariant.child_key, Leaving.Leaves, RowSets.set_here, OutputOwes.PastClosed, OutputOwes.OutputOwe, StageOutputs.ask_owes, StageOutputs.async_owes, StageOutputs.back_owes, StageOutputs.call_owes, StageOutputs.decided_owes, StageOutputs.is_end, StageOutputs.past_closed, StageOutputs.put_owes, StageOutputs.tx_owes, StageOutputs.visit_owes, StageOutputs.walk_owes, TurnRows.async_leaves, TurnRows.back_leaves, TurnRows.call_leaves, TurnRows.look, TurnRows.own_put, TurnRows.tell_leaves, TurnRows.tx_leaves, TurnRows.write_leaves}
use Rattle.beldi_step.specs.Run.{tx_at}
use Rattle.beldi_invariant.specs.FoundInside.{InItem}

-- an operation on an item wants an answer, and is no Begin and no End
op_begin : (e : Effect) (y : OnItem) → op_of e ≡ Some y → is_begin e ≡ false
op_begin e y op = grind arith

op_end : (e : Effect) (y : OnItem) → op_of e ≡ Some y → is_end e ≡ false
op_end e y op = grind arith

op_wants : (e : Effect) (y : OnItem) → op_of e ≡ Some y → IsTrue (wants_answer e)
op_wants e y op = grind arith

module _ (d : Deployment) (c : Core) (m : Rows) (h : Invariant d c m) (seats : Seats m) (owe : RunsOwe c m) (i : ℕ) (r : Run) (live : map.get c.runs i ≡ Some r) (g : Begun) (at_is : r.at ≡ Begins g) (k : Knows d h.histories r g) (finds : Inside m h.plain c.book k g.stage) where
  owes : RunOwes m r.id g
  owes = owe.each i r g live at_is

  in_it : {e : Effect} {o : Option RunTx} → g.machine.effect ≡ e → g.tx ≡ o → is_begin e ≡ false → tx_after d r.id k.instance k.answers ≡ tx_at r.id r.func o
  in_it is tx apart = tx_is k (ap is_begin is ∙ apart) ∙ ap (tx_at r.id r.func) tx

  -- ---- the rows
  abbrev Left : Stage → Effect → Option RunTx → Type 0
  Left s e o = Leaves c m (rows_after (stage_asks r.id r.func g.caller o g.machine.steps e s) c.now m)

  tx_left : (a : TxAt) (e : Effect) (o : RunTx) → g.machine.effect ≡ e → g.tx ≡ Some o → Fits e a → InItem d m h.plain h.histories r.id r.func o g.machine.steps e a (touched e) → Left (Stage.Tx a) e (Some o)
  tx_left a e o is tx fits inside =
      let x = operates e a fits in
      let found = subst (InItem d m h.plain h.histories r.id r.func o g.machine.steps e a) x.1 inside in
      subst (λ y. Leaves c m (rows_after (txn.asks_of r.func (place_of r.id g.machine.steps) (tx_of r.id r.func o) e a y) c.now m)) (sym (item_touched e ∙ x.1))
      (tx_leaves d c m h seats r g k finds o tx (in_it is tx (no_begin e x.0 x.1)) e is x.0 x.1 a found.sees)
    where
      item_touched : (e : Effect) → txn.item_of e ≡ touched e
      item_touched e = grind arith

  pub left : (s : Stage) (e : Effect) (o : Option RunTx) → g.stage ≡ s → g.machine.effect ≡ e → g.tx ≡ o → AtStage m h.plain c.book k s e o → Left s e o
  left Stage.Ask (Read t x) None st is tx at = look d c m h seats r g k finds _
  left (Stage.Walk i) (Read t x) None st is tx at = look d c m h seats r g k finds _
  left (Stage.Keep v version) (Read t x) None st is tx at = own_put d c m h seats r g k finds (Kind.ReadLog (place_of r.id g.machine.steps)) (PutRead v) refl refl refl refl refl refl
  left (Stage.Write w) e None st is tx at = write_leaves d c m h seats r g k finds w (cell_op e) at.1
  left (Stage.Call w) (Call f v) o st is tx at = call_leaves d c m h seats r g k finds w f
  left (Stage.Async w) (Async f v) None st is tx at = subst (λ b. Leaves c m (rows_after (if b then async_asks r.func (place_of r.id g.machine.steps) (callee_body r.id r.func g.machine.steps f v None false) w else look_asks r.id r.func) c.now m)) (sym at.0)
      (async_leaves d c m h seats r g k finds f v is w (subst (λ s. HasPut s (Async f v) (child_of r.id g.machine.steps) m) st (subst (λ e. HasPut g.stage e (child_of r.id g.machine.steps) m) is owes.put)))
  left Stage.Back (Return u) o st is tx at = back_leaves d c m h seats r g k finds g.caller u
  left Stage.Notify (Return u) None st is tx at = tell_leaves d c m h seats r g k finds g.caller refl
  left Stage.Close (Return u) o st is tx at = ends d c m h seats owe i r g live k finds u is owes st (not (is_inherited o))
  left (Stage.Tx a) e (Some o) st is tx at = tx_left a e o is tx at.0 at.1
  left (Stage.Decide w) (End commit) (Some (Own o)) st is tx at = decide_leaves d c m h seats owe r g k finds o tx commit is
  left (Stage.End v) (End commit) (Some (Own o)) st is tx at = visit_leaves d c m h seats owe r g k finds o tx commit is v at.0 at.1
  left s e o st is tx at = absurd at

  -- ---- what is said, of rows that have the invariant after it
  module _ (b : Core) (n : Rows) (h2 : Invariant d b n) (leaves : Leaves c m n) (owed : RunOwes n r.id g) where
    abbrev Owe : StageOutput → Type 0
    Owe s = OutputOwe d h2.histories n r g s

    -- the answers of an effect that is no End
    plain : (e : Effect) → g.machine.effect ≡ e → is_begin e ≡ false → is_end e ≡ false → IsTrue (wants_answer e) → (a : Answer) → PastClosed d h2.histories n r (takes d g.machine g.tx a) g.caller
    plain e is apart none wanted a = past_closed d c b m n h h2 r g k owed a (subst (λ z. IsTrue (wants_answer z)) (sym is) wanted) (ap is_begin is ∙ apart) (λ o commit tx ends. let clash = sym none ∙ ap is_end (sym is ∙ ends) in cc)

    -- ---- it tells its caller that it is registered
    module _ (z : Caller) (from : g.caller ≡ Some z) where
      abbrev key : RowKey
      key = invoke_key z.func z.place

      by_row : (o : Option Row) → map.get m key ≡ o → option_map func_called o ≡ Some k.instance.func → CallMatches o (expected_call h.histories z.func z.place) → registered_in (call_in (act NoteRegistered c.now o).0) ≡ true
      by_row None at there owed = cc
      by_row (Some (Row.Invoke x)) at there owed = by_mark x x.registered refl
        where
          by_mark : (x : InvokeRow) (t : Bool) → x.registered ≡ t → (register_to x t).0.registered ≡ true
          by_mark x true e = e
          by_mark x false e = refl
      by_row (Some w) at there owed = absurd owed

      marked : registered_in (call_at (rows_after (registered_asks z.func z.place) c.now m) key) ≡ true
      marked =
          let w = has_caller d h.histories r.id k.instance z h.well_formed k.made (sym k.caller ∙ from) in
          let there = call_there d m h.histories h.lock_ahead h.rows (z.place.intent, z.func) (record { step = z.place.step; func = k.instance.func }) (record { caller = w.caller; made = w.made; func = w.func; callee = k.instance; there = ap (map.get h.histories) (sym w.is_callee) ∙ k.made; its = refl }) in
          ap (λ o. registered_in (call_in o)) (set_here m key (act NoteRegistered c.now (map.get m key)).0) ∙ by_row (map.get m key) refl there (h.rows.keys key)

    told_now : (z : Option Caller) → g.caller ≡ z → n ≡ rows_after (notify_asks r.id r.func z) c.now m → HasTold Stage.Close z n
    told_now None from rows = tt
    told_now (Some z) from rows = λ idle. subst (λ l. registered_in (call_at l (invoke_key z.func z.place)) ≡ true) (sym rows) (marked z from)

    -- ---- a call that nobody waits for
    module _ (f : ℕ) (v : Value) (is : g.machine.effect ≡ Async f v) where
      abbrev callee : IntentId
      callee = child_of r.id g.machine.steps

      abbrev body : Body
      body = callee_body r.id r.func g.machine.steps f v None false

      registered_row : n ≡ rows_after (register_asks callee body) c.now m → is_some (map.get n (key_in f callee)) ≡ true
      registered_row rows =
          ap (λ q. is_some (map.get n q)) (sym (child_key r.id g.machine.steps f)) ∙ ap (λ l. is_some (map.get l (intent_key callee f))) rows
          ∙ ap is_some (set_here m (intent_key callee f) (act (Register body) c.now (map.get m (intent_key callee f))).0) ∙ by_row (map.get m (intent_key callee f))
        where
          by_row : (o : Option Row) → is_some (act (Register (callee_body r.id r.func g.machine.steps f v None false)) c.now o).0 ≡ true
          by_row None = refl
          by_row (Some w) = refl

      never_open : (a t : Bool) → open_output a t ≡ AsyncOutput.Going → ⊥
      never_open a true e = cc
      never_open a false e = cc

      put_now : (w : AsyncAt) → g.stage ≡ Stage.Async w → n ≡ rows_after (async_asks r.func (place_of r.id g.machine.steps) body w) c.now m → (t : QueryReply) → async_output f w t ≡ AsyncOutput.Going → HasPut (Stage.Async AsyncAt.Note) g.machine.effect callee n
      put_now AsyncAt.Open st rows t e = absurd (never_open (invoked_of f t).added (invoked_of f t).registered e)
      put_now AsyncAt.Register st rows t e = subst (λ z. HasPut (Stage.Async AsyncAt.Note) z callee n) (sym is) (registered_row rows)
      put_now AsyncAt.Note st rows t e = subst (λ s. HasPut s g.machine.effect callee n) st owed.put

    -- ---- an end that is over
    module _ (o : OpenTx) (tx : g.tx ≡ Some (Own o)) (commit : Bool) (is : g.machine.effect ≡ End commit) (v : EndState) (past : is_past v.at ≡ true) (visited : Visited (end_walk r.id r.func o g.machine.steps commit v) m) where
      abbrev own : TxId
      own = own_tx r.id r.func o

      abbrev asked : EndAt → Query
      asked a = visit_asks own g.machine.steps commit v.path v.after v.item v.value a

      has : tx_end d h.histories own ≡ Some (g.machine.steps, commit)
      has = tx_is_ended d c m h seats owe r g k finds o tx commit is (decided_past v.at (end_walk r.id r.func o g.machine.steps commit v) m past visited.decided)

      finished : n ≡ rows_after (asked v.at) c.now m → end_goes own g.machine.steps commit v.path v.at (query_reply (asked v.at) c.now m) ≡ EndGoes.Done → AllFinished n own
      finished rows done =
          let first = finds_first d c m h own (g.machine.steps, commit) has v.path visited.member in
          let l : Leads own g.machine.steps commit v (asked v.at) m (rows_after (asked v.at) c.now m) (end_goes own g.machine.steps commit v.path v.at (query_reply (asked v.at) c.now m)) = turns own g.machine.steps commit c.now m v.path v.after v.item v.value v.at first.0 first.1 visited in
          let next : v.at ≡ EndAt.Next = done_next own g.machine.steps commit v.path v.at (query_reply (asked v.at) c.now m) done in
          let same : n ≡ m = rows ∙ ap (λ a. rows_after (asked a) c.now m) next in
          let all = (l.done (ap output_of done)).1 in
          subst (λ x. AllFinished x own) (sym same) (all_finished d c m h own (g.machine.steps, commit) has (λ e es member. subst (λ x. is_closed x (visited_by own (e ∷ es)) ≡ true) (sym rows ∙ same) (all.closed e es (subst (λ x. IsMember (first_end own g.machine.steps commit) x (e ∷ es)) (sym same ∙ rows) member))))

      over : n ≡ rows_after (asked v.at) c.now m → end_goes own g.machine.steps commit v.path v.at (query_reply (asked v.at) c.now m) ≡ EndGoes.Done → PastClosed d h2.histories n r (takes d g.machine g.tx Done) g.caller
      over rows done = past_closed d c b m n h h2 r g k owed Done (subst (λ z. IsTrue (wants_answer z)) (sym is) refl) (ap is_begin is) (λ u commit open_there ends. subst (λ x. AllFinished n (own_tx r.id r.func x)) (own_same (sym tx ∙ open_there)) (finished rows done))
        where
          own_same : {x y : OpenTx} → Some (Own x) ≡ Some (Own y) → x ≡ y
          own_same e = cc

    -- ---- what each stage says
    abbrev StageKeeps : Stage → Effect → Option RunTx → Type 0
    StageKeeps s e o = let q = stage_asks r.id r.func g.caller o g.machine.steps e s in n ≡ rows_after q c.now m → Owe (stage_output r.id r.func g.caller o (count_changes c.book) g.machine.steps e s (query_reply q c.now m))

    async_said : (w : AsyncAt) (f : ℕ) (v : Value) → g.stage ≡ Stage.Async w → g.machine.effect ≡ Async f v → has_callees r.id ≡ true → StageKeeps (Stage.Async w) (Async f v) None
    async_said w f v st is hops = subst (λ t. let q = if t then async_asks r.func (place_of r.id g.machine.steps) (callee_body r.id r.func g.machine.steps f v None false) w else look_asks r.id r.func in
        n ≡ rows_after q c.now m → Owe (if t then async_answer w (async_output f w (query_reply q c.now m)) else StageOutput.Ends None None)) (sym hops)
        (λ rows. async_owes d c b m n h h2 r g k owed (plain (Async f v) is refl refl refl) w (async_output f w _) (put_now f v is w st rows _))

    pub said : (s : Stage) (e : Effect) (o : Option RunTx) → g.stage ≡ s → g.machine.effect ≡ e → g.tx ≡ o → AtStage m h.plain c.book k s e o → StageKeeps s e o
    said Stage.Ask (Read t x) None st is tx at rows = ask_owes d c b m n h h2 r g k owed (plain (Read t x) is refl refl refl) _
    said (Stage.Walk i) (Read t x) None st is tx at rows = walk_owes d c b m n h h2 r g k owed (plain (Read t x) is refl refl refl) _ _
    said (Stage.Keep v version) (Read t x) None st is tx at rows = plain (Read t x) is refl refl refl _
    said (Stage.Write w) e None st is tx at rows = put_owes d c b m n h h2 r g k owed (operates_plain e (op_of e) refl at.0 is) e w (note_done e) _
      where
        operates_plain : (e : Effect) (y : Option OnItem) → op_of e ≡ y → is_some y ≡ true → g.machine.effect ≡ e → (a : Answer) → PastClosed d h2.histories n r (takes d g.machine g.tx a) g.caller
        operates_plain e None op some is = cc
        operates_plain e (Some y) op some is = plain e is (op_begin e y op) (op_end e y op) (op_wants e y op)
    said (Stage.Call w) (Call f v) o st is tx at rows = let x = call_output f w (query_reply (stage_asks r.id r.func g.caller o g.machine.steps (Call f v) (Stage.Call w)) c.now m) in
        subst (λ t. Owe (if t then call_answer r.id o g.machine.steps x else StageOutput.Ends None None)) (sym at.0) (call_owes d c b m n h h2 r g k owed (plain (Call f v) is refl refl refl) o g.machine.steps x)
    said (Stage.Async w) (Async f v) None st is tx at rows = async_said w f v st is at.0 rows
    said Stage.Back (Return u) o st is tx at rows = let x = back_of (query_reply (stage_asks r.id r.func g.caller o g.machine.steps (Return u) Stage.Back) c.now m) in subst (λ z. Owe (back_output z x)) tx (back_owes d c b m n h h2 r g k owed x at)
    said Stage.Notify (Return u) None st is tx at rows = (told_now g.caller refl rows, tt)
    said Stage.Close (Return u) o st is tx at rows = closes (is_did (query_reply (stage_asks r.id r.func g.caller o g.machine.steps (Return u) Stage.Close) c.now m))
      where
        closes : (t : Bool) → Owe (close_output r.id g.caller (Return u) t)
        closes true = tt
        closes false = tt
    said (Stage.Tx a) e (Some o) st is tx at rows = let x = operates e a at.0 in tx_owes d c b m n h h2 r g k owed (plain e is (no_begin e x.0 x.1) (no_end e x.0 x.1) (wants_one e x.0 x.1)) a _
      where
        no_end : (e : Effect) (x : ℕ × List ℕ) → touched e ≡ Some x → is_end e ≡ false
        no_end e x h = grind arith
    said (Stage.Decide w) (End commit) (Some (Own o)) st is tx at rows = decided_owes d c b m n h h2 r g k owed commit w _
    said (Stage.End v) (End commit) (Some (Own o)) st is tx at rows = visit_owes d c b m n h h2 r g k owed commit v _ (over o tx commit is v at.0 at.1 rows)
    said s e o st is tx at rows = absurd at
