-- A turn of a live run leaves less of its effect.
use Rattle.beldi_bound.proofs.Visiting.{ends_lower, is_end}
use Rattle.std.specs.FinMap as map
use Rattle.std.proofs.Common.{List, ◌≡◌, ℕ, Bool, true, false, is_some, Option, None, Some, refl, ap, sym, ◌∙◌, subst}
use Rattle.beldi_tree.specs.declared.deployment.Deployment.{Deployment}
use Rattle.beldi_lang.specs.declared.effect.Effect.{Effect}
use Rattle.beldi_book.specs.LinearOrder.{count_changes}
use Rattle.beldi_plain.specs.{Item.Item, Operation.op_of, Operation.touched}
use Rattle.beldi_row.specs.{Log.note_at, Table.Rows, declared.notes.Note.Note}
use Rattle.beldi_query.specs.Query.{rows_after}
use Rattle.beldi_chain.specs.Chain.{chain}
use Rattle.beldi_daal.specs.declared.cell.WriteAt.{WriteAt}
use Rattle.beldi_invokelog.specs.InvokeLog.{call_in}
use Rattle.beldi_txn.specs.declared.{end.EndState.EndState, tx.TxAt.TxAt}
use Rattle.beldi_txn.specs.{TxTurn.Fits, Visited.RowsStay}
use Rattle.beldi_call.specs.declared.{async_call.AsyncAt.AsyncAt, call.CallAt.CallAt}
use Rattle.beldi_step.specs.{HostStep.Core, Run.asks_at, Run.cell_op, Run.place_of, Run.run_asks, Run.stage_asks, Run.tx_at, Run.tx_of, declared.run.Begun.Begun, declared.run.Run.Run, declared.run.RunAt.RunAt, declared.run.RunTx.RunTx, declared.run.Stage.Stage}
use Rattle.beldi_histories.specs.Contents.{content_of, head_key, shadow_chain, shadow_of}
use Rattle.beldi_histories.proofs.Cases.{by_cases}
use Rattle.beldi_invariant.specs.{FoundInside.InItem, FoundInside.SeesBoth, FoundInside.SeesPut, OneAnswer.IsBegun, Invariant.AtStage, Invariant.Knows, Invariant.Invariant}
use Rattle.beldi_upkeep.specs.Checked.{is_of_lock, is_own_note, is_shadow_note, next_output, works_on}
use Rattle.beldi_upkeep.proofs.{Notes.knows, Notes.notes_are_own, Notes.shadow_notes_are_own, Notes.shadows_are_free, Still.called_there}
use Rattle.beldi_bound.specs.{Cost.aside_length, Cost.item_length, Ends.Sound, Left.CanWork, Left.Needs, Left.OfLock, Left.OfWrite, Left.OutputLower, Left.aside_there, Left.end_left, Left.item_there, Left.left_at, Left.stage_left}
use Rattle.beldi_bound.proofs.{Facts.GoesOn, Facts.TurnsLower, Stages.stages_lower}

-- ---- the notes that a run may find
of_lock : (n : Option Note) → ((w : Note) → n ≡ Some w → is_of_lock w ≡ true) → OfLock n
of_lock None own = tt
of_lock (Some Note.Got) own = tt
of_lock (Some (Note.Died a)) own = tt
of_lock (Some w) own = let clash = own w refl in cc

of_write : (e : Effect) (n : Option Note) → ((w : Note) → n ≡ Some w → is_shadow_note e w ≡ true) → OfWrite e n
of_write e None own = tt
of_write (Effect.Write t k v) (Some Note.Wrote) own = tt
of_write (Effect.CondWrite t k r o v) (Some (Note.Cond b)) own = tt
of_write e (Some w) own = let clash = own w refl in cc

-- ---- a live run has what its stage needs
module _ (d : Deployment) (c : Core) (m : Rows) (r : Run) (g : Begun) (h : Invariant d c m) (b : IsBegun c r.id r g) (k : Knows d h.histories r g) where
  can_work : (o : RunTx) (e : Effect) (a : TxAt) (t : ℕ) (key : List ℕ) → g.tx ≡ Some o → g.machine.effect ≡ e → works_on e ≡ true → Fits e a
      → let x : Item = record { func = r.func; table = t; key = key } in SeesBoth m (place_of r.id g.machine.steps) (tx_of r.id r.func o) x a → CanWork e a (place_of r.id g.machine.steps) (chain m (head_key x)) (shadow_chain m (tx_of r.id r.func o) x)
  can_work o e a t key in_it is works fits sees =
      let x : Item = record { func = r.func; table = t; key = key } in
      let own_tx = tx_of r.id r.func o in
      let p = place_of r.id g.machine.steps in
      record {
        item = h.rows.chains x;
        shadow = (h.rows.asides own_tx x).linked;
        unowned = shadows_are_free d c m own_tx x h;
        lock = of_lock (note_at (content_of m x).notes p) (λ w there. own w (notes_are_own d c m r g x w h b (ap works_on is ∙ works) there));
        write = of_write e (note_at (shadow_of m own_tx x).notes p) (λ w there. ap (λ z. is_shadow_note z w) (sym is) ∙ shadow_notes_are_own d c m r g own_tx x w h b there);
        fits = fits;
        sees = sees;
      }
    where
      own : (w : Note) → is_own_note g.tx g.machine.effect w ≡ true → is_of_lock w ≡ true
      own w its = ap (λ z. is_own_note z g.machine.effect w) (sym in_it) ∙ its

  by_write : (e : Effect) (w : WriteAt) → is_some (op_of e) ≡ true → SeesPut m r.func (place_of r.id g.machine.steps) w (cell_op e) → Needs m r.id r.func g.caller None g.machine.steps e (Stage.Write w)
  by_write (Effect.Write t x v) w is sees = (h.rows.chains (record { func = r.func; table = t; key = x }), sees)
  by_write (Effect.CondWrite t x u z v) w is sees = (h.rows.chains (record { func = r.func; table = t; key = x }), sees)
  by_write (Effect.Lock t x) w is sees = (h.rows.chains (record { func = r.func; table = t; key = x }), sees)
  by_write (Effect.Unlock t x) w is sees = (h.rows.chains (record { func = r.func; table = t; key = x }), sees)
  by_write e w is sees = cc

  by_tx : (e : Effect) (o : RunTx) (a : TxAt) → g.machine.effect ≡ e → g.tx ≡ Some o → Fits e a → InItem d m h.plain h.histories r.id r.func o g.machine.steps e a (touched e) → Needs m r.id r.func g.caller (Some o) g.machine.steps e (Stage.Tx a)
  by_tx (Effect.Read t x) o a is in_it fits here = can_work o (Effect.Read t x) a t x in_it is refl fits here.sees
  by_tx (Effect.Write t x v) o a is in_it fits here = can_work o (Effect.Write t x v) a t x in_it is refl fits here.sees
  by_tx (Effect.CondWrite t x u z v) o a is in_it fits here = can_work o (Effect.CondWrite t x u z v) a t x in_it is refl fits here.sees
  by_tx e o a is in_it fits here = absurd fits

  by_stage : (s : Stage) (e : Effect) (o : Option RunTx) → is_end s ≡ false → g.machine.effect ≡ e → g.tx ≡ o → AtStage m h.plain c.book k s e o → Needs m r.id r.func g.caller o g.machine.steps e s
  by_stage Stage.Ask (Effect.Read t x) None apart is in_it here = tt
  by_stage (Stage.Walk n) (Effect.Read t x) None apart is in_it here = (h.rows.chains (record { func = r.func; table = t; key = x }), here)
  by_stage (Stage.Keep v version) (Effect.Read t x) None apart is in_it here = tt
  by_stage (Stage.Write w) e None apart is in_it here = by_write e w here.0 here.1
  by_stage (Stage.Tx a) e (Some o) apart is in_it here = by_tx e o a is in_it here.0 here.1
  by_stage (Stage.Async AsyncAt.Open) (Effect.Async f a) None apart is in_it here = tt
  by_stage (Stage.Async AsyncAt.Register) (Effect.Async f a) None apart is in_it here = tt
  by_stage (Stage.Async AsyncAt.Note) (Effect.Async f a) None apart is in_it here = (here.0, ap (λ z. is_some (call_in z)) (called_there d c m r g h b k (here.1 refl)).1)
  by_stage (Stage.Call w) (Effect.Call f a) None apart is in_it here = tt
  by_stage (Stage.Call w) (Effect.Call f a) (Some o) apart is in_it here = tt
  by_stage Stage.Back (Effect.Return x) None apart is in_it here = tt
  by_stage Stage.Back (Effect.Return x) (Some o) apart is in_it here = tt
  by_stage Stage.Notify (Effect.Return x) None apart is in_it here = tt
  by_stage Stage.Close (Effect.Return x) None apart is in_it here = tt
  by_stage Stage.Close (Effect.Return x) (Some o) apart is in_it here = tt
  by_stage (Stage.Decide w) e o apart is in_it here = cc
  by_stage (Stage.End v) e o apart is in_it here = cc
  by_stage s e o apart is in_it here = absurd here

pub has_needs : (d : Deployment) (c : Core) (m : Rows) (i : ℕ) (r : Run) (g : Begun) → Sound d c m → map.get c.runs i ≡ Some r → r.at ≡ RunAt.Begins g → is_end g.stage ≡ false → Needs m r.id r.func g.caller g.tx g.machine.steps g.machine.effect g.stage
has_needs d c m i r g sound live begun apart =
    let h = sound.upkeep.invariant in
    let b : IsBegun c r.id r g = record { number = i; live = live; same_id = refl; begun = begun } in
    let k = knows d c m h r g b in
    by_stage d c m r g h b k.0 g.stage g.machine.effect g.tx apart refl refl k.1.here

-- ---- its turn
-- what is left at a stage that is no end looks at no visit
pub same_left : (c s : ℕ) (there aside : Bool) (v w : EndState → ℕ) (e : Effect) (g : Stage) → is_end g ≡ false → stage_left c s there aside v e g ≡ stage_left c s there aside w e g
same_left c s there aside v w e (Stage.Decide x) apart = cc
same_left c s there aside v w e (Stage.End x) apart = cc
same_left c s there aside v w e (Stage.Call CallAt.Open) apart = refl
same_left c s there aside v w e (Stage.Call CallAt.Look) apart = refl
same_left c s there aside v w e (Stage.Async AsyncAt.Open) apart = refl
same_left c s there aside v w e (Stage.Async AsyncAt.Register) apart = refl
same_left c s there aside v w e (Stage.Async AsyncAt.Note) apart = refl
same_left c s there aside v w e g apart = refl

lowers_by : (d : Deployment) (c : Core) (m e : Rows) (i : ℕ) (r : Run) (g : Begun) → Sound d c m → GoesOn (rows_after (run_asks r) c.now m) e → map.get c.runs i ≡ Some r → r.at ≡ RunAt.Begins g → is_end g.stage ≡ false
    → OutputLower (left_at e (rows_after (run_asks r) c.now m) r.func r.id g.tx g.machine.steps g.machine.effect) (left_at e m r.func r.id g.tx g.machine.steps g.machine.effect g.stage) (next_output c m r g)
lowers_by d c m e i r g sound goes live begun apart =
    let f = g.machine.effect in
    let step = g.machine.steps in
    let q = stage_asks r.id r.func g.caller g.tx step f g.stage in
    let n = rows_after q c.now m in
    let asked : run_asks r ≡ q = ap (λ (s : RunAt). asks_at r s) begun in
    let v = end_left e n r.func r.id g.tx step in
    let x = item_length e r.func f in
    let y = aside_length e r.func (tx_at r.id r.func g.tx) f in
    let same = same_left x y (item_there m r.func f) (aside_there m r.func r.id g.tx f) v (end_left e m r.func r.id g.tx step) f g.stage apart in
    subst (λ z. OutputLower (left_at e (rows_after z c.now m) r.func r.id g.tx step f) (left_at e m r.func r.id g.tx step f g.stage) (next_output c m r g)) (sym asked)
    (subst (λ z. OutputLower (left_at e n r.func r.id g.tx step f) z (next_output c m r g)) same (stages_lower v e m c.now r.id r.func g.caller g.tx (count_changes c.book) step f g.stage (has_needs d c m i r g sound live begun apart) (subst (λ z. RowsStay (rows_after z c.now m) e) asked goes.keys)))

pub turns_lower : TurnsLower
turns_lower d c m e i r g sound goes live begun = by_cases (is_end g.stage) (λ is. ends_lower d c m e i r g sound goes live begun is) (λ apart. lowers_by d c m e i r g sound goes live begun apart)
