-- What each stage of a run says, and what the run owes then.
use Rattle.beldi_step.specs.Run.{async_answer, back_output, call_answer, decided_output, done_output, put_output, tx_output, visit_output, walk_output, write_output, ask_output, put_answer}
use Rattle.beldi_invariant.proofs.Names.{Answer, AsyncAt, Begun, Bool, Caller, Core, Deployment, Done, Effect, End, EndGoes, IsTrue, Knows, Machine, Mark, None, Note, OpenTx, Option, Own, WriteGoes, Inherited, ReadGoes, Invariant, Rows, Run, RunTx, StageOutput, Some, Stage, TxAt, Value, EndState, WriteAt, answer_of, ap, arith, local_steps_of, child_of, eqb-true, eq-eqb, false, is_begin, is_some, is_waited, length-append, own_tx, refl, same_some, sym, takes, true, wants_answer, open_after, ℕ, ◌++◌, ◌<◌, ◌==◌, ◌∙◌, ◌∷◌, ◌≡◌, [], answer_noted, write_goes}
use Rattle.beldi_invariant.proofs.{OpenOf.own_begin, StageTurns.MachineAt, StageTurns.takes_there, StageTurns.steps_there, StageTurns.at_steps}
use Rattle.beldi_upkeep.specs.Callees.{AllFinished, HasPut, HasTold, RunOwes, open_begin}
use Rattle.beldi_upkeep.proofs.{PastEnds.begin_same, PastEnds.begun_first, PastEnds.ended_before, PastEnds.is_own, PastEnds.open_on, PastEnds.outside, OutputOwes.PastClosed, OutputOwes.OutputOwe}
use Rattle.beldi_call.specs.declared.async_call.AsyncOutput.{AsyncOutput}
use Rattle.beldi_call.specs.declared.call.CallOutput.{CallOutput}
use Rattle.beldi_invokelog.specs.declared.invoke_log.Back.{Back}
use Rattle.beldi_txn.specs.declared.tx.TxGoes.{TxGoes}

abbrev pub is_end : Effect → Bool
is_end (End c) = true
is_end e = false

-- an answer to another effect than a Begin and an End leaves a Begin open
keeps_begin : (n : ℕ) (e : Effect) (a : Answer) (o : OpenTx) → is_begin e ≡ false → is_end e ≡ false → own_begin (open_after n e a (Some (Own o))) ≡ Some o.begin
keeps_begin n e a o begin end = grind arith

module _ (d : Deployment) (c b : Core) (m n : Rows) (h : Invariant d c m) (h2 : Invariant d b n) (r : Run) (g : Begun) (k : Knows d h.histories r g) (owes : RunOwes n r.id g) where
  -- past an answer it is past no more transactions, but its own one at the End of that
  module _ (a : Answer) (wanted : IsTrue (wants_answer g.machine.effect)) (apart : is_begin g.machine.effect ≡ false)
      (ends : (o : OpenTx) (commit : Bool) → g.tx ≡ Some (Own o) → g.machine.effect ≡ End commit → AllFinished n (own_tx r.id r.func o)) where
    abbrev s : Machine × Option RunTx
    s = takes d g.machine g.tx a

    pub past_closed : PastClosed d h2.histories n r (takes d g.machine g.tx a) g.caller
    past_closed stands t passed home i x body there in_it = by_open g.tx refl
      where
        at : MachineAt d r.func k.instance (k.answers ++ a ∷ []) (takes d g.machine g.tx a)
        at = takes_there d r.func k.instance k.func k.answers (g.machine, g.tx) (record { machine = k.machine; open_there = k.run_open }) a wanted

        begun : t.begin < g.machine.steps
        begun =
            let e = ended_before d b n h2 r.id r.func k.instance k.func (k.answers ++ a ∷ []) (takes d g.machine g.tx a) at g.caller stands t passed home i x body there in_it in
            let f = begun_first d b n h2 r.id r.func k.instance k.func (k.answers ++ a ∷ []) (takes d g.machine g.tx a) at g.caller stands t passed home i x body there in_it in
            let l = steps_there d r.func k.instance k.func (k.answers ++ a ∷ []) (takes d g.machine g.tx a) at in
            let u = length-append k.answers (a ∷ []) in
            let v = at_steps k in omega (arith, e, f, l, u, v)

        before : (open_begin g.tx ≡ Some t.begin → ⊥) → is_some x.finish ≡ true
        before ended = owes.closed t (record { own = passed.own; begun = begun; ended = ended }) home i x body there in_it

        out : k.instance.enclosing ≡ None
        out = outside d b n h2 r.id r.func k.instance k.func (k.answers ++ a ∷ []) (takes d g.machine g.tx a) at g.caller stands t passed home i x body there in_it

        -- it would be open still
        open_still : (o : OpenTx) → g.tx ≡ Some (Own o) → o.begin ≡ t.begin → is_end g.machine.effect ≡ false → ⊥
        open_still o tx same none = passed.ended (begin_same (local_steps_of d r.id (takes d g.machine g.tx a)).1 ∙ open_on d r.func k.instance k.func out r.id g.machine.steps (k.answers ++ a ∷ []) (takes d g.machine g.tx a) t.begin at
            (ap (λ z. own_begin (open_after g.machine.steps g.machine.effect a z)) tx ∙ keeps_begin g.machine.steps g.machine.effect a o apart none ∙ ap Some same))

        its : (o : OpenTx) → g.tx ≡ Some (Own o) → o.begin ≡ t.begin → (e : Effect) → g.machine.effect ≡ e → is_some x.finish ≡ true
        its o tx same (End commit) is = ends o commit tx is home i x body there
            (in_it ∙ ap Some (is_own d b n h2 r.id r.func k.instance k.func (k.answers ++ a ∷ []) (takes d g.machine g.tx a) at g.caller stands t passed home i x body there in_it ∙ ap (λ z. record { intent = r.id; begin = z; func = r.func }) (sym same)))
        its o tx same e is = absurd (open_still o tx same (ap is_end is))

        by_open : (o : Option RunTx) → g.tx ≡ o → is_some x.finish ≡ true
        by_open None tx = before (λ e. let clash = sym (ap open_begin tx) ∙ e in cc)
        by_open (Some (Inherited u)) tx = before (λ e. let clash = sym (ap open_begin tx) ∙ e in cc)
        by_open (Some (Own o)) tx = by_test (o.begin == t.begin) refl
          where
            by_test : (q : Bool) → (o.begin == t.begin) ≡ q → is_some x.finish ≡ true
            by_test true e = its o tx (eqb-true o.begin t.begin e) g.machine.effect refl
            by_test false e = before (λ z. let clash = sym e ∙ eq-eqb o.begin t.begin (same_some (sym (ap open_begin tx) ∙ z)) in cc)

  -- ---- by what it says
  abbrev Owe : StageOutput → Type 0
  Owe s = OutputOwe d h2.histories n r g s

  -- an effect that is neither a Begin nor an End
  module _ (answers : (a : Answer) → PastClosed d h2.histories n r (takes d g.machine g.tx a) g.caller) where
    pub ask_owes : (v : Option Value) → Owe (ask_output v)
    ask_owes None = (tt, tt)
    ask_owes (Some v) = answers (Answer.Value v)

    pub walk_owes : (changes : ℕ) (w : _) → Owe (walk_output changes w)
    walk_owes changes (ReadGoes.On i) = (tt, tt)
    walk_owes changes ReadGoes.Stays = tt
    walk_owes changes (ReadGoes.Got v) = (tt, tt)
    walk_owes changes (ReadGoes.Held o) = tt

    done_owes : (first : Bool) (a : Option Answer) → Owe (done_output first a)
    done_owes first None = tt
    done_owes first (Some a) = answers a

    write_owes : (e : Effect) (w : _) → Owe (write_output e w)
    write_owes e (WriteGoes.On at) = (tt, tt)
    write_owes e WriteGoes.Stays = tt
    write_owes e (WriteGoes.Done x first) = done_owes first (answer_noted e x)
    write_owes e WriteGoes.NotOwner = tt
    write_owes e (WriteGoes.Held w) = tt
    write_owes e WriteGoes.Worn = tt

    pub put_owes : (e : Effect) (at : WriteAt) (x : Option Note) (t : _) → Owe (put_output e at x t)
    put_owes e at None t = tt
    put_owes e at (Some x) t = write_owes e (write_goes x at t)

    put_answer_owes : (a : TxAt) → Owe (put_answer a)
    put_answer_owes (TxAt.Keep v) = answers (Answer.Value v)
    put_answer_owes a = tt

    pub tx_owes : (a : TxAt) (x : _) → Owe (tx_output a x)
    tx_owes a (TxGoes.On b) = (tt, tt)
    tx_owes a TxGoes.Stays = tt
    tx_owes a TxGoes.Put = put_answer_owes a
    tx_owes a (TxGoes.Died z) = answers (Answer.Aborted z)
    tx_owes a (TxGoes.Held o) = tt
    tx_owes a TxGoes.Worn = tt
    tx_owes a (TxGoes.Value v) = answers (Answer.Value v)
    tx_owes a TxGoes.Done = answers Done

    pub call_owes : (o : Option RunTx) (step : ℕ) (s : _) → Owe (call_answer r.id o step s)
    call_owes o step (CallOutput.Opened first) = tt
    call_owes o step CallOutput.NotYet = tt
    call_owes o step (CallOutput.Done x) = answers (answer_of x)

    -- it goes to the note only where the callee has its row
    pub async_owes : (at : AsyncAt) (s : _) → (s ≡ AsyncOutput.Going → HasPut (Stage.Async AsyncAt.Note) g.machine.effect (child_of r.id g.machine.steps) n) → Owe (async_answer at s)
    async_owes at (AsyncOutput.Opened first) put = (tt, tt)
    async_owes at AsyncOutput.Going put = (tt, put refl)
    async_owes AsyncAt.Note AsyncOutput.Done put = answers Done
    async_owes AsyncAt.Open AsyncOutput.Done put = answers Done
    async_owes AsyncAt.Register AsyncOutput.Done put = answers Done

  -- ---- a return
  -- who waits is told nothing
  waited_told : (z : Option Caller) → is_waited z ≡ true → HasTold Stage.Close z n
  waited_told None w = tt
  waited_told (Some z) w = λ idle. let clash = sym idle ∙ w in cc

  pub back_owes : (x : _) → is_waited g.caller ≡ true → Owe (back_output g.tx x)
  back_owes Back.Set w = (waited_told g.caller w, tt)
  back_owes Back.AlreadySet w = (waited_told g.caller w, tt)
  back_owes Back.Absent w = (waited_told g.caller w, tt)

  -- ---- the end of a transaction
  pub decided_owes : (commit : Bool) (x : Mark) (z : EndGoes) → Owe (decided_output commit x z)
  decided_owes commit x (EndGoes.Decided first) = (tt, tt)
  decided_owes commit x (EndGoes.On a) = (tt, tt)
  decided_owes commit x EndGoes.Stays = (tt, tt)
  decided_owes commit x EndGoes.Worn = (tt, tt)
  decided_owes commit x (EndGoes.Passed s) = (tt, tt)
  decided_owes commit x (EndGoes.Callee cs) = (tt, tt)
  decided_owes commit x (EndGoes.Item t y) = (tt, tt)
  decided_owes commit x (EndGoes.Value u) = (tt, tt)
  decided_owes commit x EndGoes.Back = (tt, tt)
  decided_owes commit x EndGoes.Done = (tt, tt)

  pub visit_owes : (commit : Bool) (v : EndState) (z : EndGoes) → (z ≡ EndGoes.Done → PastClosed d h2.histories n r (takes d g.machine g.tx Done) g.caller) → Owe (visit_output commit v z)
  visit_owes commit v EndGoes.Done over = over refl
  visit_owes commit v (EndGoes.Decided first) over = (tt, tt)
  visit_owes commit v (EndGoes.On a) over = (tt, tt)
  visit_owes commit v EndGoes.Stays over = (tt, tt)
  visit_owes commit v EndGoes.Worn over = tt
  visit_owes commit v (EndGoes.Passed s) over = (tt, tt)
  visit_owes commit v (EndGoes.Callee cs) over = (tt, tt)
  visit_owes commit v (EndGoes.Item t y) over = (tt, tt)
  visit_owes commit v (EndGoes.Value u) over = (tt, tt)
  visit_owes commit v EndGoes.Back over = (tt, tt)
