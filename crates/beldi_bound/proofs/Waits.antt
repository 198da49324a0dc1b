-- What a live run shows that waits: that another owns its item, or that its call has no result; and that its step has no answer, unless
-- the run is late.
use Rattle.std.specs.FinMap as map
use Rattle.std.proofs.Common.{Bool, List, None, Option, Some, ap, arith, false, if◌then◌else◌, inl, inr, is_some, refl, subst, sym, true, ℕ, ◌∙◌, ◌≡◌, ◌⊎◌}
use Rattle.std.specs.Option.{option_map}
use Rattle.std.specs.Prelude.{option_and_then}
use Rattle.beldi_value.specs.{Id.age_of, Id.child_of, Id.is_older, declared.id.IntentId.IntentId, declared.outcome.Outcome.Outcome, declared.place.Caller.Caller, declared.place.Owner.Owner, declared.place.Place.Place, declared.place.TxId.TxId, declared.value.Value.Value}
use Rattle.beldi_tree.specs.{declared.deployment.Deployment.Deployment}
use Rattle.beldi_lang.specs.{Callee.answer_of, declared.effect.Answer.Answer, declared.effect.Effect.Effect}
use Rattle.beldi_book.specs.LinearOrder.{count_changes}
use Rattle.beldi_plain.specs.{Item.Item, Operation.OnItem, Operation.item_in, Operation.op_of, Operation.touched}
use Rattle.beldi_row.specs.{Act.act, Act.other_owner, Key.at_row, Log.note_at, Log.owner_eq, Table.Rows, declared.act.Act.Act, declared.notes.Note.Note, declared.row.Row.Row}
use Rattle.beldi_query.specs.{Query.QueryReply, Query.rows_after, Query.replied, Query.query_reply, declared.query.Query.Query}
use Rattle.beldi_chain.specs.Chain.{chain, content}
use Rattle.beldi_links.specs.Links.{IsLinked, ReadsAt, SeesAt}
use Rattle.beldi_daal.specs.{Cell.cell_key, Cell.done_note, Cell.read_goes, Cell.write_asks, Cell.write_goes, Logged.at_of, declared.cell.CellOp.CellOp, declared.cell.ReadGoes.ReadGoes, declared.cell.WriteAt.WriteAt, declared.cell.WriteGoes.WriteGoes}
use Rattle.beldi_lock.specs.{Lock.item_goes, declared.lock.LockAt.LockAt}
use Rattle.beldi_invokelog.specs.{InvokeLog.call_in, InvokeLog.invoke_key, InvokeLog.result_in, InvokeLog.result_of, InvokeLog.back_of, declared.invoke_log.Back.Back}
use Rattle.beldi_readlog.specs.ReadLog.{given_in, given_of, log_key}
use Rattle.beldi_intent.specs.Intent.{is_did, look_asks}
use Rattle.beldi_txn.specs.{End.end_goes, End.first_visit, Tx.lock_leads, Tx.item_of, Tx.tx_asks, Tx.tx_goes, TxTurn.Fits, declared.end.EndGoes.EndGoes, declared.end.EndState.EndState, declared.tx.TxAt.TxAt, declared.tx.TxGoes.TxGoes}
use Rattle.beldi_call.specs.{Async.async_asks, Async.async_output, Call.call_asks, Call.call_output, declared.async_call.AsyncAt.AsyncAt, declared.async_call.AsyncOutput.AsyncOutput, declared.call.CallAt.CallAt}
use Rattle.beldi_step.specs.{declared.run.Begun.Begun, declared.run.Mark.Mark, declared.run.Run.Run, declared.run.RunTx.RunTx, declared.run.StageOutput.StageOutput, declared.run.Stage.Stage, declared.run.Wait.Wait, HostStep.Core, Noted.noted_answer}
use Rattle.beldi_step.specs.Run.{ask_output, async_answer, back_output, begin_of, call_answer, callee_body, cell_op, close_output, decided_output, done_output, note_of_op, own_tx, place_of, put_answer, put_asks, put_output, stage_asks, stage_output, tx_at, tx_of, tx_output, visit_output, walk_output, write_output, OnCell}
use Rattle.beldi_plain_laws.proofs.Maps.{same_some}
use Rattle.beldi_histories.specs.{Contents.content_of, OutsideOperations.cell_of, Stands.held_answer, Stands.answer_by_note as answer_by_note_of}
use Rattle.beldi_histories.proofs.Cases.{by_option}
use Rattle.beldi_invariant.specs.{FoundInside.InItem, FoundInside.SeesPut, Invariant.AtStage, Invariant.Knows, Invariant.Invariant}
use Rattle.beldi_upkeep.specs.Checked.{next_output}
use Rattle.beldi_upkeep.proofs.Overs.{its_cell}
use Rattle.beldi_bound.specs.{Ends.is_walk, Visits.chain_length, Visits.put_left}
use Rattle.beldi_bound.proofs.Puts.{IsHeld, ReadOn, Turned, put_turn, read_turn}

-- ---- a walk that tells an owner
other_is : (who : Owner) (o : Option Owner) (w : Owner) → other_owner who o ≡ Some w → o ≡ Some w
other_is who None w is = is
other_is who (Some u) w is = by_other (owner_eq u who) is
  where
    by_other : (b : Bool) → (if b then None else Some u) ≡ Some w → Some u ≡ Some w
    by_other b is = grind arith

-- a write that is at its item
put_held : (m : Rows) (p : Place) (who : Owner) (now func t : ℕ) (k : List ℕ) (op : CellOp) (at : WriteAt) (w : Owner) → let f = chain m (cell_key func t k) in IsLinked f → SeesAt f p (at_of at)
    → write_goes (done_note op) at (query_reply (write_asks (cell_key func t k) p who op at) now m) ≡ WriteGoes.Held w → IsHeld f p who op w
put_held m p who now func t k op at w linked sees is =
    let key = cell_key func t k in
    let n = rows_after (write_asks key p who op at) now m in
    subst (Turned (put_left (chain_length n key) (is_some (map.get n key))) (put_left (chain_length n key) (is_some (map.get m key)) at) (chain m key) p who op) is (put_turn n m now key refl p who op linked at sees (λ q h. h))

-- ---- what is said where a run waits
worn_is : (w : Wait) → StageOutput.Waits Wait.Worn ≡ StageOutput.Waits w → w ≡ Wait.Worn
worn_is w is = cc

write_waits : (e : Effect) (z : WriteGoes) (w : Wait) → (w ≡ Wait.Worn → ⊥) → write_output e z ≡ StageOutput.Waits w → (u : Owner) × (z ≡ WriteGoes.Held u) × (w ≡ Wait.Held u)
write_waits e (WriteGoes.On at) w apart is = cc
write_waits e WriteGoes.Stays w apart is = cc
write_waits e (WriteGoes.Done n first) w apart is = absurd (never _ is)
  where
    never : (o : Option Answer) → done_output first o ≡ StageOutput.Waits w → ⊥
    never o is = grind arith
write_waits e WriteGoes.NotOwner w apart is = cc
write_waits e (WriteGoes.Held u) w apart is = (u, refl, cc)
write_waits e WriteGoes.Worn w apart is = absurd (apart (worn_is w is))

tx_waits : (a : TxAt) (z : TxGoes) (w : Wait) → (w ≡ Wait.Worn → ⊥) → tx_output a z ≡ StageOutput.Waits w → (u : Owner) × (z ≡ TxGoes.Held u) × (w ≡ Wait.Held u)
tx_waits a (TxGoes.On b) w apart is = cc
tx_waits a TxGoes.Stays w apart is = cc
tx_waits a TxGoes.Put w apart is = absurd (never a is)
  where
    never : (b : TxAt) → put_answer b ≡ StageOutput.Waits w → ⊥
    never b is = grind arith
tx_waits a (TxGoes.Died u) w apart is = cc
tx_waits a (TxGoes.Held u) w apart is = (u, refl, cc)
tx_waits a TxGoes.Worn w apart is = absurd (apart (worn_is w is))
tx_waits a (TxGoes.Value v) w apart is = cc
tx_waits a TxGoes.Done w apart is = cc

-- ---- a read that finds the item
walk_waits : (n : ℕ) (z : ReadGoes) (w : Wait) → walk_output n z ≡ StageOutput.Waits w → (u : Owner) × (z ≡ ReadGoes.Held u) × (w ≡ Wait.Held u)
walk_waits n (ReadGoes.On r) w is = cc
walk_waits n ReadGoes.Stays w is = cc
walk_waits n (ReadGoes.Got v) w is = cc
walk_waits n (ReadGoes.Held u) w is = (u, refl, cc)

walk_held : (m : Rows) (now : ℕ) (id : IntentId) (func t : ℕ) (k : List ℕ) (r : ℕ) (u : Owner) → let f = chain m (cell_key func t k) in IsLinked f → ReadsAt f r
    → read_goes (Some (Owner.Intent id)) (query_reply (Query.Act (at_row (cell_key func t k) r) Act.Look) now m) ≡ ReadGoes.Held u → (content f).owner ≡ Some u
walk_held m now id func t k r u linked reads is =
    let key = cell_key func t k in
    let who = Some (Owner.Intent id) in
    let n = rows_after (Query.Act (at_row key r) Act.Look) now m in
    other_is (Owner.Intent id) (content (chain m key)).owner u (subst (ReadOn (chain_length n key) r who (chain m key)) is (read_turn n m now key who r linked reads (λ q h. h)))

-- ---- a lock inside
lock_held : (p : Place) (e : Effect) (z : WriteGoes) (u : Owner) → lock_leads p e (item_goes z) ≡ TxGoes.Held u → z ≡ WriteGoes.Held u
lock_held p e z u is = grind arith

lockset_held : (p : Place) (b : ℕ) (e : Effect) (n : ℕ) (t : QueryReply) (u : Owner) → tx_goes p b e (TxAt.Lock (LockAt.Lockset n)) t ≡ TxGoes.Held u → ⊥
lockset_held p b e n t u is = grind arith

-- nothing else inside waits
abbrev is_lock : TxAt → Bool
is_lock (TxAt.Lock l) = true
is_lock a = false

locks_held : (p : Place) (b : ℕ) (e : Effect) (a : TxAt) (t : QueryReply) (u : Owner) → is_lock a ≡ false → tx_goes p b e a t ≡ TxGoes.Held u → ⊥
locks_held p b e a t u apart is = grind arith

-- ---- stages that never wait
abbrev Never : StageOutput → Type 0
Never s = (w : Wait) → s ≡ StageOutput.Waits w → ⊥

ask_never : (v : Option Value) → Never (ask_output v)
ask_never v w is = grind arith

async_never : (at : AsyncAt) (z : AsyncOutput) → Never (async_answer at z)
async_never at z w is = grind arith

back_never : (o : Option RunTx) (z : Back) → Never (back_output o z)
back_never o z w is = grind arith

close_never : (id : IntentId) (c : Option Caller) (u : Outcome) (b : Bool) → Never (close_output id c (Effect.Return u) b)
close_never id c u b w is = grind arith

decided_never : (commit : Bool) (m : Mark) (z : EndGoes) → Never (decided_output commit m z)
decided_never commit m z w is = grind arith

visit_waits : (commit : Bool) (v : EndState) (z : EndGoes) (w : Wait) → visit_output commit v z ≡ StageOutput.Waits w → w ≡ Wait.Worn
visit_waits commit v z w is = grind arith

call_waits : (id : IntentId) (o : Option RunTx) (step f : ℕ) (at : CallAt) (t : QueryReply) (w : Wait) → call_answer id o step (call_output f at t) ≡ StageOutput.Waits w → (at ≡ CallAt.Look) × (w ≡ Wait.Result (child_of id step)) × (result_of t ≡ None)
call_waits id o step f at t w is = grind arith

row_none : (now : ℕ) (r : Option Row) → result_of (replied (act Act.Look now r).1) ≡ None → result_in (call_in r) ≡ None
row_none now r is = grind arith

no_some : {A : Type 0} {x : A} → None ≡ Some x → ⊥
no_some h = cc

no_read : {t : ℕ} {key : List ℕ} {f : ℕ} {v : Value} → Effect.Read t key ≡ Effect.Call f v → ⊥
no_read h = cc

told_none : (p : Place) (a : Option Answer) (n : Option Note) → n ≡ None → answer_by_note_of p n a ≡ None
told_none p a n is = grind arith

-- ---- why a run waits, by its step, the transaction that it is in, its effect and its stage
pub record Owned (m : Rows) (t : Option TxId) (e : Effect) (w : Owner) : Type 0 where
  pub item : Item
  pub owns : (content_of m item).owner ≡ Some w
  -- one inside a transaction is older than the owner
  pub older : (u : TxId) → t ≡ Some u → is_older u.intent (age_of w) ≡ true
  pub apart : (f : ℕ) (v : Value) → e ≡ Effect.Call f v → ⊥

pub record Called (id : IntentId) (step : ℕ) (e : Effect) (j : IntentId) : Type 0 where
  pub func : ℕ
  pub args : Value
  pub call : e ≡ Effect.Call func args
  pub callee : j ≡ child_of id step

abbrev pub Why : Rows → IntentId → ℕ → Option TxId → Effect → Wait → Type 0
Why m id step t e (Wait.Held w) = Owned m t e w
Why m id step t e Wait.Worn = ⊥
Why m id step t e (Wait.Result j) = Called id step e j

pub record Stopped (m : Rows) (id : IntentId) (func step : ℕ) (t : Option TxId) (e : Effect) (s : Stage) (w : Wait) : Type 0 where
  pub why : Why m id step t e w
  -- its step has no answer, or it is late
  pub unanswered : (held_answer m id func step t e ≡ None) ⊎ ((is_walk s ≡ true) × (is_some (map.get m (log_key func (place_of id step))) ≡ true))

module _ (d : Deployment) (c : Core) (m : Rows) (r : Run) (g : Begun) (h : Invariant d c m) (k : Knows d h.histories r g) (w : Wait) (apart : w ≡ Wait.Worn → ⊥) where
  abbrev step : ℕ
  step = g.machine.steps

  abbrev place : Place
  place = place_of r.id step

  abbrev item : ℕ → List ℕ → Item
  item t key = record { func = r.func; table = t; key = key }

  abbrev StoppedAt : Stage → Effect → Option RunTx → Type 0
  StoppedAt s e o = Stopped m r.id r.func step (tx_at r.id r.func o) e s w

  abbrev told_here : Stage → Effect → Option RunTx → QueryReply
  told_here s e o = query_reply (stage_asks r.id r.func g.caller o step e s) c.now m

  -- ---- outside a transaction
  held_so : (s : Stage) (e : Effect) (x : Item) (t : Option TxId) (u : Owner) → (content_of m x).owner ≡ Some u → ((v : TxId) → t ≡ Some v → is_older v.intent (age_of u) ≡ true) → ((f : ℕ) (v : Value) → e ≡ Effect.Call f v → ⊥) → w ≡ Wait.Held u
      → (held_answer m r.id r.func step t e ≡ None) ⊎ ((is_walk s ≡ true) × (is_some (map.get m (log_key r.func place)) ≡ true)) → Stopped m r.id r.func step t e s w
  held_so s e x t u owns older no_call is un = record { why = subst (Why m r.id step t e) (sym is) (record { item = x; owns = owns; older = older; apart = no_call }); unanswered = un }

  walk_stops : (t : ℕ) (key : List ℕ) (n : ℕ) → ReadsAt (chain m (cell_key r.func t key)) n
      → walk_output (count_changes c.book) (read_goes (Some (Owner.Intent r.id)) (query_reply (Query.Act (at_row (cell_key r.func t key) n) Act.Look) c.now m)) ≡ StageOutput.Waits w → StoppedAt (Stage.Walk n) (Effect.Read t key) None
  walk_stops t key n reads is =
      let x = item t key in
      let u = walk_waits (count_changes c.book) (read_goes (Some (Owner.Intent r.id)) (query_reply (Query.Act (at_row (cell_key r.func t key) n) Act.Look) c.now m)) w is in
      held_so (Stage.Walk n) (Effect.Read t key) x None u.0 (walk_held m c.now r.id r.func t key n u.0 (h.rows.chains x) reads u.1) (λ v e. cc) (λ f v call. no_read call) u.2
      (by_option (map.get m (log_key r.func place)) (λ e. inl (ap (λ z. option_map Answer.Value (option_map given_in z)) e)) (λ z e. inr (refl, ap is_some e)))

  noted_none : (e : Effect) (u : OnItem) → op_of e ≡ Some u → note_at (content_of m (item_in r.func u)).notes place ≡ None → held_answer m r.id r.func step None e ≡ None
  noted_none (Effect.Write t key v) u so none = ap (option_and_then noted_answer) ((λ i. note_at (content_of m (item_in r.func (same_some so i))).notes place) ∙ none)
  noted_none (Effect.CondWrite t key q o v) u so none = ap (option_and_then noted_answer) ((λ i. note_at (content_of m (item_in r.func (same_some so i))).notes place) ∙ none)
  noted_none (Effect.Lock t key) u so none = ap (option_and_then noted_answer) ((λ i. note_at (content_of m (item_in r.func (same_some so i))).notes place) ∙ none)
  noted_none (Effect.Unlock t key) u so none = ap (option_and_then noted_answer) ((λ i. note_at (content_of m (item_in r.func (same_some so i))).notes place) ∙ none)
  noted_none e u so none = cc

  write_stops : (e : Effect) (u : OnItem) → op_of e ≡ Some u → (at : WriteAt) → SeesPut m r.func place at (cell_op e) → put_output e at (note_of_op (cell_op e)) (query_reply (put_asks r.id r.func step at (cell_op e)) c.now m) ≡ StageOutput.Waits w → StoppedAt (Stage.Write at) e None
  write_stops e u so at = subst (λ z. SeesPut m r.func place at z → put_output e at (note_of_op z) (query_reply (put_asks r.id r.func step at z) c.now m) ≡ StageOutput.Waits w → StoppedAt (Stage.Write at) e None) (sym (its_cell e u so)) by_at
    where
      by_at : let z : Option OnCell = Some (record { table = u.table; key = u.key; op = cell_of u.does }) in SeesPut m r.func place at z → put_output e at (note_of_op z) (query_reply (put_asks r.id r.func step at z) c.now m) ≡ StageOutput.Waits w → StoppedAt (Stage.Write at) e None
      by_at sees is =
          let x = item_in r.func u in
          let z = write_waits e (write_goes (done_note (cell_of u.does)) at (query_reply (write_asks (cell_key r.func u.table u.key) place (Owner.Intent r.id) (cell_of u.does) at) c.now m)) w apart is in
          let b = put_held m place (Owner.Intent r.id) c.now r.func u.table u.key (cell_of u.does) at z.0 (h.rows.chains x) sees z.1 in
          held_so (Stage.Write at) e x None z.0 (other_is (Owner.Intent r.id) (content_of m x).owner z.0 b.other) (λ v e. cc) (λ f v call. no_some (sym (ap op_of call) ∙ so)) z.2 (inl (noted_none e u so b.note))

  -- ---- inside one
  module _ (o : RunTx) where
    abbrev own : TxId
    own = tx_of r.id r.func o

    note_none : (e : Effect) (t : ℕ) (key : List ℕ) → item_of e ≡ Some (t, key) → note_at (content_of m (item t key)).notes place ≡ None → held_answer m r.id r.func step (Some own) e ≡ None
    note_none (Effect.Read u j) t key so none = told_none place _ (note_at (content_of m (item u j)).notes place) ((λ i. note_at (content_of m (item ((same_some so i).0) ((same_some so i).1))).notes place) ∙ none)
    note_none (Effect.Write u j v) t key so none = told_none place _ (note_at (content_of m (item u j)).notes place) ((λ i. note_at (content_of m (item ((same_some so i).0) ((same_some so i).1))).notes place) ∙ none)
    note_none (Effect.CondWrite u j q y v) t key so none = told_none place _ (note_at (content_of m (item u j)).notes place) ((λ i. note_at (content_of m (item ((same_some so i).0) ((same_some so i).1))).notes place) ∙ none)
    note_none e t key so none = cc

    lock_stops : (e : Effect) (t : ℕ) (key : List ℕ) → item_of e ≡ Some (t, key) → (at : WriteAt) → SeesAt (chain m (cell_key r.func t key)) place (at_of at)
        → tx_output (TxAt.Lock (LockAt.Item at)) (lock_leads place e (item_goes (write_goes Note.Got at (query_reply (write_asks (cell_key r.func t key) place (Owner.Tx own) CellOp.Lock at) c.now m)))) ≡ StageOutput.Waits w → StoppedAt (Stage.Tx (TxAt.Lock (LockAt.Item at))) e (Some o)
    lock_stops e t key so at sees is =
        let x = item t key in
        let goes = write_goes Note.Got at (query_reply (write_asks (cell_key r.func t key) place (Owner.Tx own) CellOp.Lock at) c.now m) in
        let z = tx_waits (TxAt.Lock (LockAt.Item at)) (lock_leads place e (item_goes goes)) w apart is in
        let b = put_held m place (Owner.Tx own) c.now r.func t key CellOp.Lock at z.0 (h.rows.chains x) sees (lock_held place e goes z.0 z.1) in
        held_so (Stage.Tx (TxAt.Lock (LockAt.Item at))) e x (Some own) z.0 (other_is (Owner.Tx own) (content_of m x).owner z.0 b.other) (λ v e. subst (λ (y : TxId). is_older y.intent (age_of z.0) ≡ true) (same_some e) (b.older refl)) (λ f v call. no_some (sym (ap item_of call) ∙ so)) z.2 (inl (note_none e t key so b.note))

    abbrev InTx : Effect → TxAt → Type 0
    InTx e a = tx_output a (tx_goes place (begin_of o) e a (query_reply (tx_asks r.func place own e a) c.now m)) ≡ StageOutput.Waits w → StoppedAt (Stage.Tx a) e (Some o)

    other_stops : (e : Effect) (a : TxAt) → is_lock a ≡ false → InTx e a
    other_stops e a no_lock is =
        let t = query_reply (tx_asks r.func place own e a) c.now m in
        let z = tx_waits a (tx_goes place (begin_of o) e a t) w apart is in
        absurd (locks_held place (begin_of o) e a t z.0 no_lock z.1)

    tx_stops : (e : Effect) (a : TxAt) → Fits e a → InItem d m h.plain h.histories r.id r.func o step e a (touched e) → InTx e a
    tx_stops e (TxAt.Lock (LockAt.Lockset n)) fits here is =
        let t = query_reply (tx_asks r.func place own e (TxAt.Lock (LockAt.Lockset n))) c.now m in
        let z = tx_waits (TxAt.Lock (LockAt.Lockset n)) (tx_goes place (begin_of o) e (TxAt.Lock (LockAt.Lockset n)) t) w apart is in
        absurd (lockset_held place (begin_of o) e n t z.0 z.1)
    tx_stops (Effect.Read t key) (TxAt.Lock (LockAt.Item at)) fits here is = lock_stops (Effect.Read t key) t key refl at here.sees is
    tx_stops (Effect.Write t key v) (TxAt.Lock (LockAt.Item at)) fits here is = lock_stops (Effect.Write t key v) t key refl at here.sees is
    tx_stops (Effect.CondWrite t key q y v) (TxAt.Lock (LockAt.Item at)) fits here is = lock_stops (Effect.CondWrite t key q y v) t key refl at here.sees is
    tx_stops e (TxAt.Lock (LockAt.Item at)) fits here is = absurd fits
    tx_stops e TxAt.Log fits here is = other_stops e TxAt.Log refl is
    tx_stops e TxAt.Seek fits here is = other_stops e TxAt.Seek refl is
    tx_stops e (TxAt.Shadow n) fits here is = other_stops e (TxAt.Shadow n) refl is
    tx_stops e (TxAt.Item n) fits here is = other_stops e (TxAt.Item n) refl is
    tx_stops e (TxAt.Keep v) fits here is = other_stops e (TxAt.Keep v) refl is
    tx_stops e (TxAt.Head v) fits here is = other_stops e (TxAt.Head v) refl is
    tx_stops e (TxAt.Write v) fits here is = other_stops e (TxAt.Write v) refl is

  -- ---- a call
  call_none : (f : ℕ) (v : Value) (o : Option RunTx) → result_of (query_reply (call_asks r.func place f CallAt.Look) c.now m) ≡ None → held_answer m r.id r.func step (tx_at r.id r.func o) (Effect.Call f v) ≡ None
  call_none f v None none = ap (option_map answer_of) (row_none c.now (map.get m (invoke_key r.func place)) none)
  call_none f v (Some o) none = ap (option_map answer_of) (row_none c.now (map.get m (invoke_key r.func place)) none)

  call_stops : (f : ℕ) (v : Value) (o : Option RunTx) (at : CallAt) → call_answer r.id o step (call_output f at (query_reply (call_asks r.func place f at) c.now m)) ≡ StageOutput.Waits w → StoppedAt (Stage.Call at) (Effect.Call f v) o
  call_stops f v o CallAt.Open is = let z = call_waits r.id o step f CallAt.Open (query_reply (call_asks r.func place f CallAt.Open) c.now m) w is in let clash = z.0 in cc
  call_stops f v o CallAt.Look is =
      let z = call_waits r.id o step f CallAt.Look (query_reply (call_asks r.func place f CallAt.Look) c.now m) w is in
      record { why = subst (Why m r.id step (tx_at r.id r.func o) (Effect.Call f v)) (sym z.1) (record { func = f; args = v; call = refl; callee = refl }); unanswered = inl (call_none f v o z.2) }

  -- ---- any stage
  by_stage : (s : Stage) (e : Effect) (o : Option RunTx) → AtStage m h.plain c.book k s e o → stage_output r.id r.func g.caller o (count_changes c.book) step e s (told_here s e o) ≡ StageOutput.Waits w → StoppedAt s e o
  by_stage Stage.Ask (Effect.Read t x) None here is = absurd (ask_never (given_of (told_here Stage.Ask (Effect.Read t x) None)) w is)
  by_stage (Stage.Walk n) (Effect.Read t x) None here is = walk_stops t x n here is
  by_stage (Stage.Keep v version) (Effect.Read t x) None here is = cc
  by_stage (Stage.Write at) e None here is = by_option (op_of e) (λ none. let clash = sym (ap is_some none) ∙ here.0 in cc) (λ u so. write_stops e u so at here.1 is)
  by_stage (Stage.Async at) (Effect.Async f a) None here is =
      let s = subst (λ z. (if z then async_answer at (async_output f at (query_reply (if z then async_asks r.func place (callee_body r.id r.func step f a None false) at else look_asks r.id r.func) c.now m)) else StageOutput.Ends None None) ≡ StageOutput.Waits w) here.0 is in
      absurd (async_never at (async_output f at (query_reply (async_asks r.func place (callee_body r.id r.func step f a None false) at) c.now m)) w s)
  by_stage (Stage.Call at) (Effect.Call f a) o here is = call_stops f a o at (subst (λ z. (if z then call_answer r.id o step (call_output f at (told_here (Stage.Call at) (Effect.Call f a) o)) else StageOutput.Ends None None) ≡ StageOutput.Waits w) here.0 is)
  by_stage Stage.Back (Effect.Return u) o here is = absurd (back_never o (back_of (told_here Stage.Back (Effect.Return u) o)) w is)
  by_stage Stage.Notify (Effect.Return u) None here is = cc
  by_stage Stage.Close (Effect.Return u) o here is = absurd (close_never r.id g.caller u (is_did (told_here Stage.Close (Effect.Return u) o)) w is)
  by_stage (Stage.Tx a) e (Some o) here is = tx_stops o e a here.0 here.1 is
  by_stage (Stage.Decide v) (Effect.End commit) (Some (RunTx.Own o)) here is = absurd (decided_never commit v (end_goes (own_tx r.id r.func o) step commit first_visit.path first_visit.at (told_here (Stage.Decide v) (Effect.End commit) (Some (RunTx.Own o)))) w is)
  by_stage (Stage.End v) (Effect.End commit) (Some (RunTx.Own o)) here is = absurd (apart (visit_waits commit v (end_goes (own_tx r.id r.func o) step commit v.path v.at (told_here (Stage.End v) (Effect.End commit) (Some (RunTx.Own o)))) w is))
  by_stage s e o here is = absurd here

  -- a run that waits
  pub stopped : AtStage m h.plain c.book k g.stage g.machine.effect g.tx → next_output c m r g ≡ StageOutput.Waits w → Stopped m r.id r.func step (tx_at r.id r.func g.tx) g.machine.effect g.stage w
  stopped here is = by_stage g.stage g.machine.effect g.tx here is
