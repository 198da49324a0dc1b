-- Each stage that is no end, by what it is told: a turn that does not wait leaves less.
use Rattle.std.specs.FinMap as map
use Rattle.std.proofs.Common.{arith, List, ◌≡◌, ℕ, suc, ◌+◌, ◌≤◌, Bool, true, false, if◌then◌else◌, is_some, Option, None, Some, refl}
use Rattle.beldi_value.specs.{Id.has_callees, declared.id.IntentId.IntentId, declared.outcome.Outcome.Outcome, declared.place.Caller.Caller, declared.place.Owner.Owner, declared.value.Value.Value}
use Rattle.beldi_lang.specs.declared.effect.{Answer.Answer, Effect.Effect}
use Rattle.beldi_row.specs.{Act.act, Act.register_to, Key.RowKey, Key.at_row, Table.Rows, declared.act.Act.Act, declared.row.Row.Row}
use Rattle.beldi_query.specs.{declared.query.Query.Query, Query.rows_after, Query.replied, Query.query_reply}
use Rattle.beldi_chain.specs.Chain.{chain}
use Rattle.beldi_daal.specs.{Cell.cell_key, Cell.done_note, Cell.read_goes, Cell.write_asks, Cell.write_goes, declared.cell.CellOp.CellOp, declared.cell.ReadGoes.ReadGoes, declared.cell.WriteAt.WriteAt, declared.cell.WriteGoes.WriteGoes}
use Rattle.beldi_readlog.specs.ReadLog.{given_of}
use Rattle.beldi_invokelog.specs.{InvokeLog.back_of, InvokeLog.call_in, InvokeLog.invoke_key, InvokeLog.invoked_of, InvokeLog.registered_asks, InvokeLog.result_of, declared.invoke_log.Back.Back}
use Rattle.beldi_intent.specs.Intent.{is_did, look_asks}
use Rattle.beldi_txn.specs.{Visited.RowsStay, declared.end.EndState.EndState}
use Rattle.beldi_call.specs.{Async.note_output, Async.open_output, Call.look_output, Call.open_output as call_opens, declared.async_call.AsyncAt.AsyncAt, declared.call.CallAt.CallAt}
use Rattle.beldi_step.specs.{Run.answer_noted, Run.ask_output, Run.async_answer, Run.back_output, Run.call_answer, Run.close_output, Run.done_output, Run.place_of, Run.stage_asks, Run.tx_at, Run.walk_output, Run.write_output, declared.run.RunTx.RunTx, declared.run.StageOutput.StageOutput, declared.run.StageOutput.TheVariants.Ends, declared.run.Stage.Stage}
use Rattle.beldi_bound.specs.{Cost.aside_length, Left.CanPut, Left.CanRead, Left.OutputLower, Left.StagesLower, Left.aside_there, Left.item_there, Left.read_left, Left.stage_left, Visits.chain_length, Visits.put_left}
use Rattle.beldi_bound.proofs.{BoundInside.cond_stage, BoundInside.read_stage, BoundInside.write_stage, Lengths.length_some, Puts.ReadOn, Puts.Turned, Puts.put_some, Puts.put_turn, Puts.read_turn}

-- ---- what is said, by what is left after each stage
module _ (after : Stage → ℕ) (n : ℕ) where
  ask_lowers : suc (after (Stage.Walk 0)) ≤ n → (x : Option Value) → OutputLower after n (ask_output x)
  ask_lowers h None = h
  ask_lowers h (Some v) = omega (arith, h)

  done_lowers : (first : Bool) → 1 ≤ n → (a : Option Answer) → OutputLower after n (done_output first a)
  done_lowers first h None = h
  done_lowers first h (Some a) = h

  call_lowers : (id : IntentId) (o : Option RunTx) (step : ℕ) (first : Bool) → suc (after (Stage.Call CallAt.Look)) ≤ n → (r : Option Outcome) → OutputLower after n (call_answer id o step (call_opens first r))
  call_lowers id o step first h None = h
  call_lowers id o step first h (Some x) = omega (arith, h)

  look_lowers : (id : IntentId) (o : Option RunTx) (step : ℕ) → 1 ≤ n → (r : Option Outcome) → OutputLower after n (call_answer id o step (look_output r))
  look_lowers id o step h None = tt
  look_lowers id o step h (Some x) = h

  async_lowers : (first : Bool) → suc (after (Stage.Async AsyncAt.Register)) ≤ n → (b : Bool) → OutputLower after n (async_answer AsyncAt.Open (open_output first b))
  async_lowers first h false = h
  async_lowers first h true = omega (arith, h)

  back_lowers : (o : Option RunTx) → suc (after Stage.Close) ≤ n → (b : Back) → OutputLower after n (back_output o b)
  back_lowers o h Back.Set = h
  back_lowers o h Back.AlreadySet = h
  back_lowers o h Back.Absent = h

  close_lowers : (id : IntentId) (c : Option Caller) (x : Outcome) → 1 ≤ n → (b : Bool) → OutputLower after n (close_output id c (Effect.Return x) b)
  close_lowers id c x h true = h
  close_lowers id c x h false = h

  by_callees : (b : Bool) (s : StageOutput) → 1 ≤ n → (b ≡ true → OutputLower after n s) → OutputLower after n (if b then s else Ends None None)
  by_callees true s h k = k refl
  by_callees false s h k = h

-- a call that is there is told to be so
note_lowers : (after : Stage → ℕ) (b : Back) → (b ≡ Back.Absent → ⊥) → OutputLower after 1 (async_answer AsyncAt.Note (note_output b))
note_lowers after Back.Set h = omega arith
note_lowers after Back.AlreadySet h = omega arith
note_lowers after Back.Absent h = absurd (h refl)

told_there : (now : ℕ) (r : Option Row) → is_some (call_in r) ≡ true → back_of (replied (act Act.NoteRegistered now r).1) ≡ Back.Absent → ⊥
told_there now None h = cc
told_there now (Some (Row.Invoke i)) h = by_flag i.registered
  where
    by_flag : (b : Bool) → back_of (replied (register_to i b).1) ≡ Back.Absent → ⊥
    by_flag true e = cc
    by_flag false e = cc
told_there now (Some r) h = cc

-- ---- the turns of a write and of a read outside a transaction
module _ (v : EndState → ℕ) (e m : Rows) (now : ℕ) (id : IntentId) (func step : ℕ) (f : Effect) (y t : ℕ) (k : List ℕ) where
  abbrev key : RowKey
  key = cell_key func t k

  abbrev x : ℕ
  x = chain_length e key

  abbrev there : Rows → Bool
  there n = is_some (map.get n key)

  wrote : (aside : Bool) (u : CellOp) (w : WriteAt) → CanPut (chain m key) (place_of id step) w → let q = write_asks key (place_of id step) (Owner.Intent id) u w in let n = rows_after q now m in RowsStay n e
      → OutputLower (stage_left x y (there n) aside v f) (put_left x (there m) w) (write_output f (write_goes (done_note u) w (query_reply q now m)))
  wrote aside u w can stay = goes (write_goes (done_note u) w (query_reply q now m)) (put_turn e m now key refl (place_of id step) (Owner.Intent id) u can.0 w can.1 stay)
    where
      q : Query
      q = write_asks key (place_of id step) (Owner.Intent id) u w

      some : 1 ≤ put_left x (there m) w
      some = put_some x (there m) w (length_some e key)

      goes : (g : WriteGoes) → Turned (put_left x (there (rows_after q now m))) (put_left x (there m) w) (chain m key) (place_of id step) (Owner.Intent id) u g
          → OutputLower (stage_left x y (there (rows_after q now m)) aside v f) (put_left x (there m) w) (write_output f g)
      goes (WriteGoes.On z) h = h
      goes WriteGoes.Stays h = absurd h
      goes (WriteGoes.Done z first) h = done_lowers _ (put_left x (there m) w) first some (answer_noted f z)
      goes WriteGoes.NotOwner h = some
      goes (WriteGoes.Held z) h = tt
      goes WriteGoes.Worn h = tt

  read : (there aside : Bool) (changes r : ℕ) → CanRead (chain m key) r → let q = Query.Act (at_row key r) Act.Look in RowsStay (rows_after q now m) e
      → OutputLower (stage_left x y there aside v f) (read_left x r) (walk_output changes (read_goes (Some (Owner.Intent id)) (query_reply q now m)))
  read there aside changes r can stay = goes (read_goes (Some (Owner.Intent id)) (query_reply (Query.Act (at_row key r) Act.Look) now m)) (read_turn e m now key (Some (Owner.Intent id)) r can.0 can.1 stay)
    where
      goes : (g : ReadGoes) → ReadOn x r (Some (Owner.Intent id)) (chain m key) g → OutputLower (stage_left x y there aside v f) (read_left x r) (walk_output changes g)
      goes (ReadGoes.On n) h = let at = h.0 in let less = h.1 in omega (arith, at, less)
      goes ReadGoes.Stays h = absurd h
      goes (ReadGoes.Got z) h = omega arith
      goes (ReadGoes.Held z) h = tt

-- ---- all stages
pub stages_lower : StagesLower
stages_lower v e m now id func c None changes step (Effect.Read t k) Stage.Ask needs stay = ask_lowers _ (chain_length e (cell_key func t k) + 2) (omega arith) (given_of (query_reply (stage_asks id func c None step (Effect.Read t k) Stage.Ask) now m))
stages_lower v e m now id func c None changes step (Effect.Read t k) (Stage.Walk r) needs stay =
    read v e m now id func step (Effect.Read t k) 1 t k (item_there (rows_after (stage_asks id func c None step (Effect.Read t k) (Stage.Walk r)) now m) func (Effect.Read t k)) false changes r needs stay
stages_lower v e m now id func c None changes step (Effect.Read t k) (Stage.Keep u version) needs stay = omega arith
stages_lower v e m now id func c None changes step (Effect.Write t k u) (Stage.Write w) needs stay = wrote v e m now id func step (Effect.Write t k u) 1 t k false (CellOp.Write u) w needs stay
stages_lower v e m now id func c None changes step (Effect.CondWrite t k r x u) (Stage.Write w) needs stay = wrote v e m now id func step (Effect.CondWrite t k r x u) 1 t k false (CellOp.Cond r x u) w needs stay
stages_lower v e m now id func c None changes step (Effect.Lock t k) (Stage.Write w) needs stay = wrote v e m now id func step (Effect.Lock t k) 1 t k false CellOp.Lock w needs stay
stages_lower v e m now id func c None changes step (Effect.Unlock t k) (Stage.Write w) needs stay = wrote v e m now id func step (Effect.Unlock t k) 1 t k false (CellOp.Free None) w needs stay
stages_lower v e m now id func c (Some o) changes step (Effect.Read t k) (Stage.Tx a) needs stay = read_stage v e m now id func o step t k a needs stay
stages_lower v e m now id func c (Some o) changes step (Effect.Write t k u) (Stage.Tx a) needs stay = write_stage v e m now id func o step t k u a needs stay
stages_lower v e m now id func c (Some o) changes step (Effect.CondWrite t k r x u) (Stage.Tx a) needs stay = cond_stage v e m now id func o step t k r x u a needs stay
stages_lower v e m now id func c o changes step (Effect.Call f a) (Stage.Call CallAt.Open) needs stay =
    by_callees _ 2 (has_callees id) _ (omega arith) (λ is. let i = invoked_of f (query_reply (stage_asks id func c o step (Effect.Call f a) (Stage.Call CallAt.Open)) now m) in call_lowers _ 2 id o step i.added (omega arith) i.result)
stages_lower v e m now id func c o changes step (Effect.Call f a) (Stage.Call CallAt.Look) needs stay =
    by_callees _ 1 (has_callees id) _ (omega arith) (λ is. look_lowers _ 1 id o step (omega arith) (result_of (query_reply (stage_asks id func c o step (Effect.Call f a) (Stage.Call CallAt.Look)) now m)))
stages_lower v e m now id func c o changes step (Effect.Async f a) (Stage.Async AsyncAt.Open) needs stay =
    by_callees _ 3 (has_callees id) _ (omega arith) (λ is. let i = invoked_of f (query_reply (stage_asks id func c o step (Effect.Async f a) (Stage.Async AsyncAt.Open)) now m) in async_lowers _ 3 i.added (omega arith) i.registered)
stages_lower v e m now id func c o changes step (Effect.Async f a) (Stage.Async AsyncAt.Register) needs stay = by_callees _ 2 (has_callees id) _ (omega arith) (λ is. omega arith)
stages_lower v e m now id func c o changes step (Effect.Async f a) (Stage.Async AsyncAt.Note) needs stay = by_callees _ 1 (has_callees id) _ (omega arith) (λ is. by_asked (has_callees id) needs.0)
  where
    lefts : Stage → ℕ
    lefts = let n = rows_after (stage_asks id func c o step (Effect.Async f a) (Stage.Async AsyncAt.Note)) now m in stage_left 1 (aside_length e func (tx_at id func o) (Effect.Async f a)) false (aside_there n func id o (Effect.Async f a)) v (Effect.Async f a)

    by_asked : (b : Bool) → b ≡ true → OutputLower lefts 1 (async_answer AsyncAt.Note (note_output (back_of (query_reply (if b then registered_asks func (place_of id step) else look_asks id func) now m))))
    by_asked true is = let row = map.get m (invoke_key func (place_of id step)) in note_lowers lefts (back_of (replied (act Act.NoteRegistered now row).1)) (told_there now row needs.1)
    by_asked false is = cc
stages_lower v e m now id func c o changes step (Effect.Return x) Stage.Back needs stay = back_lowers _ 2 o (omega arith) (back_of (query_reply (stage_asks id func c o step (Effect.Return x) Stage.Back) now m))
stages_lower v e m now id func c o changes step (Effect.Return x) Stage.Notify needs stay = omega arith
stages_lower v e m now id func c o changes step (Effect.Return x) Stage.Close needs stay = close_lowers _ 1 id c x (omega arith) (is_did (query_reply (stage_asks id func c o step (Effect.Return x) Stage.Close) now m))
stages_lower v e m now id func c o changes step f s needs stay = absurd needs
