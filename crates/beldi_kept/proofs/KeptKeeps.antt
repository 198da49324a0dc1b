-- An event keeps the invariant.
use Rattle.std.specs.FinMap as map
use Rattle.std.specs.Prelude.{Result}
use Rattle.std.specs.declared.alloc.AllocError.{AllocError}
use Rattle.std.proofs.Common.{◌≡◌, ℕ, ◌≤◌, Bool, true, false, List, Option, Some, None, refl, ap, ◌∙◌, subst, arith}
use Rattle.beldi_tree.specs.declared.deployment.Deployment.{Deployment}
use Rattle.beldi_row.specs.Table.{Rows}
use Rattle.beldi_step.specs.{HostStep.Core, HostStep.asks, Run.run_asks, declared.event.Event.Event, declared.event.EventReply.EventReply, declared.run.Begun.Begun, declared.run.Run.Run, declared.run.RunAt.TheVariants.Begins, declared.run.RunAt.TheVariants.Looks, declared.run.RunAt.TheVariants.Registers, declared.run.Stage.Stage}
use Rattle.beldi_step.specs.declared.run.RunAt as standing
use Rattle.beldi_txn.specs.Closed.{ClosedArePassed}
use Rattle.beldi_upkeep.specs.{Checked.is_visit, WorksFor.is_visiting}
use Rattle.beldi_value.specs.declared.{id.IntentId.IntentId, place.Caller.Caller, place.Place.Place, place.TxId.TxId}
use Rattle.beldi_lang.specs.declared.effect.Effect.{Effect}
use Rattle.beldi_plain.specs.Operation.{touched}
use Rattle.beldi_daal.specs.declared.cell.WriteAt.{WriteAt}
use Rattle.beldi_lock.specs.declared.lock.LockAt.{LockAt}
use Rattle.beldi_txn.specs.{declared.tx.TxAt.TxAt, Tx.asks_of, Tx.item_of}
use Rattle.beldi_step.specs.Run.{OnCell, asks_at, cell_op, place_of, put_asks, stage_asks, tx_of}
use Rattle.beldi_step.specs.declared.run.RunTx.{RunTx}
use Rattle.beldi_kept.specs.{KeptAhead.StaysAhead, KeptAhead.StaysAtStage, KeptAhead.StaysForPut, KeptAhead.StaysForTx, KeptRows.HasKept, KeptLaws.AnswersAreOfKept, KeptLaws.CursorIsFree, KeptLaws.EventsKeep, KeptLaws.NoRowComesBack}
use Rattle.beldi_kept.proofs.{Events.Goal, Events.answer, Events.step, Events.turns_alike, Gone.is_done, Less.stays_on, Onward.ahead_after, Step.by_rest, Step.elsewhere, Step.has_kept, Step.is_later, Step.moment_rises, Step.rows_stay, Step.same_latest, ItemStages.IsAt, ItemStages.asks_is, ItemStages.before as recorded_at, ItemStages.item_turns, ItemStages.lock_turns, ItemStages.put_turns, ItemStages.stage_here, ItemStages.walk_turns, Turn.asks_item, Turn.same_turn, Visits.visit_turns}

-- ---- stages that ask for no row of an item
abbrev is_outside : Stage → Bool
is_outside (Stage.Walk row) = false
is_outside (Stage.Write at) = false
is_outside (Stage.Tx a) = false
is_outside (Stage.End v) = false
is_outside s = true

asks_off : (id : IntentId) (func : ℕ) (c : Option Caller) (o : Option RunTx) (step : ℕ) (e : Effect) (s : Stage) → is_outside s ≡ true → asks_item (stage_asks id func c o step e s) ≡ false
asks_off id func c o step e Stage.Ask out = refl
asks_off id func c o step e (Stage.Keep v seen) out = refl
asks_off id func c o step e (Stage.Decide w) out = grind arith
asks_off id func c o step e (Stage.Call at) out = grind arith
asks_off id func c o step e (Stage.Async at) out = grind arith
asks_off id func c o step e Stage.Back out = grind arith
asks_off id func c o step e Stage.Notify out = grind arith
asks_off id func c o step e Stage.Close out = grind arith
asks_off id func c o step e s out = cc

-- .. and stages of an operation inside a transaction that do
abbrev on_item : TxAt → Bool
on_item (TxAt.Lock (LockAt.Item at)) = true
on_item (TxAt.Item row) = true
on_item a = false

inside_off : (home : ℕ) (p : Place) (x : TxId) (e : Effect) (a : TxAt) (q : Option (ℕ × List ℕ)) → on_item a ≡ false → asks_item (asks_of home p x e a q) ≡ false
inside_off home p x e a None off = refl
inside_off home p x e TxAt.Log (Some q) off = refl
inside_off home p x e (TxAt.Lock (LockAt.Lockset y)) (Some q) off = refl
inside_off home p x e (TxAt.Lock (LockAt.Item y)) (Some q) off = cc
inside_off home p x e TxAt.Seek (Some q) off = refl
inside_off home p x e (TxAt.Shadow row) (Some q) off = refl
inside_off home p x e (TxAt.Item row) (Some q) off = cc
inside_off home p x e (TxAt.Keep v) (Some q) off = refl
inside_off home p x e (TxAt.Head v) (Some q) off = refl
inside_off home p x e (TxAt.Write w) (Some q) off = grind arith

pub touch_of : (e : Effect) (q : ℕ × List ℕ) → item_of e ≡ Some q → touched e ≡ Some q
touch_of (Effect.Read t k) q is = is
touch_of (Effect.Write t k v) q is = is
touch_of (Effect.CondWrite t k r o v) q is = is
touch_of e q is = cc

module _ (may_pass : ClosedArePassed) (d : Deployment) (c : Core) (m : Rows) (h : HasKept d c m) (room old new : ℕ) (b : Core) (n : Rows) (x : Result EventReply AllocError) (i : ℕ) (r : Run) (live : map.get c.runs i ≡ Some r) (in_time : c.now ≤ r.deadline) where
  abbrev Turns : Type 0
  Turns = Goal d c m h room old new b n x (Event.Turn i) (asks (run_asks r)) × Goal d c m h room old new b n x (Event.Lost i) (asks (run_asks r))

  -- no row of an item is asked for, and it is no visit
  plainly : asks_item (run_asks r) ≡ false → is_visiting r.at ≡ false → Turns
  plainly other off = turns_alike d c m h room old new b n x i r live (same_turn d c h.gone m h.kept h.less h.upkeep.invariant (λ j gone. is_done d.life c.newest h.latest m h.kept j (h.over j gone)) h.spared i r live in_time other off)

  module _ (g : Begun) (at : r.at ≡ Begins g) where
    ahead : StaysAhead d.life m r (Begins g)
    ahead = subst (StaysAhead d.life m r) at (h.ahead i r live in_time)

    asks_of_stage : (s : Stage) → g.stage ≡ s → (o : Option RunTx) → g.tx ≡ o → run_asks r ≡ stage_asks r.id r.func g.caller o g.machine.steps g.machine.effect s
    asks_of_stage s is o tx = asks_is d c m h room old new b n x i r live in_time g at s is g.machine.effect refl o tx

    here : (s : Stage) → g.stage ≡ s → (e : Effect) → g.machine.effect ≡ e → (o : Option RunTx) → g.tx ≡ o → IsAt d c m h room old new b n x i r live in_time g at s e o (recorded_at d c m h room old new b n x i r live in_time g at).0
    here s is e ends o tx = stage_here d c m h room old new b n x i r live in_time g at s is e ends o tx

    ahead_at : (s : Stage) → g.stage ≡ s → (o : Option RunTx) → g.tx ≡ o → (e : Effect) → g.machine.effect ≡ e → StaysAtStage d.life r.deadline m r.id r.func s e o
    ahead_at s is o tx e ends = subst (λ y. StaysAtStage d.life r.deadline m r.id r.func s y o) ends (subst (StaysAtStage d.life r.deadline m r.id r.func s g.machine.effect) tx (subst (λ y. StaysAtStage d.life r.deadline m r.id r.func y g.machine.effect g.tx) is ahead))

    off_item : (s : Stage) → g.stage ≡ s → is_outside s ≡ true → is_visit s ≡ false → Turns
    off_item s is out off = plainly (ap asks_item (asks_of_stage s is g.tx refl) ∙ asks_off r.id r.func g.caller g.tx g.machine.steps g.machine.effect s out) (ap is_visiting at ∙ ap is_visit is ∙ off)

    walks : (row : ℕ) → g.stage ≡ Stage.Walk row → (e : Effect) → g.machine.effect ≡ e → (o : Option RunTx) → g.tx ≡ o → Turns
    walks row is (Effect.Read t k) ends None tx = walk_turns d c m h room old new b n x i r live in_time g at row t k is ends tx (ahead_at (Stage.Walk row) is None tx (Effect.Read t k) ends)
    walks row is e ends o tx = absurd (here (Stage.Walk row) is e ends o tx)

    puts : (w : WriteAt) → g.stage ≡ Stage.Write w → (o : Option RunTx) → g.tx ≡ o → (q : Option OnCell) → cell_op g.machine.effect ≡ q → Turns
    puts w is None tx (Some q) op = put_turns d c m h room old new b n x i r live in_time g at w g.machine.effect q is refl tx op (subst (StaysForPut d.life r.deadline m r.func w) op (ahead_at (Stage.Write w) is None tx g.machine.effect refl))
    puts w is None tx None op = plainly (ap asks_item (asks_of_stage (Stage.Write w) is None tx) ∙ ap (λ y. asks_item (put_asks r.id r.func g.machine.steps w y)) op) (ap is_visiting at ∙ ap is_visit is)
    puts w is (Some o) tx q op = absurd (here (Stage.Write w) is g.machine.effect refl (Some o) tx)

    inside : (a : TxAt) → g.stage ≡ Stage.Tx a → (o : RunTx) → g.tx ≡ Some o → (q : Option (ℕ × List ℕ)) → item_of g.machine.effect ≡ q → (y : Bool) → on_item a ≡ y → Turns
    inside a is o tx q of false off = plainly (ap asks_item (asks_of_stage (Stage.Tx a) is (Some o) tx) ∙ inside_off r.func (place_of r.id g.machine.steps) (tx_of r.id r.func o) g.machine.effect a (item_of g.machine.effect) off) (ap is_visiting at ∙ ap is_visit is)
    inside a is o tx None of true on = plainly (ap asks_item (asks_of_stage (Stage.Tx a) is (Some o) tx) ∙ ap (λ y. asks_item (asks_of r.func (place_of r.id g.machine.steps) (tx_of r.id r.func o) g.machine.effect a y)) of) (ap is_visiting at ∙ ap is_visit is)
    inside (TxAt.Lock (LockAt.Item w)) is o tx (Some q) of true on = lock_turns d c m h room old new b n x i r live in_time g at g.machine.effect o q refl tx of (touch_of g.machine.effect q of) w is
        (subst (StaysForTx d.life r.deadline m r.func (TxAt.Lock (LockAt.Item w))) of (ahead_at (Stage.Tx (TxAt.Lock (LockAt.Item w))) is (Some o) tx g.machine.effect refl))
    inside (TxAt.Item row) is o tx (Some q) of true on = item_turns d c m h room old new b n x i r live in_time g at g.machine.effect o q refl tx of (touch_of g.machine.effect q of) row is
        (subst (StaysForTx d.life r.deadline m r.func (TxAt.Item row)) of (ahead_at (Stage.Tx (TxAt.Item row)) is (Some o) tx g.machine.effect refl))
    inside a is o tx (Some q) of true on = cc

    in_tx : (a : TxAt) → g.stage ≡ Stage.Tx a → (o : Option RunTx) → g.tx ≡ o → Turns
    in_tx a is (Some o) tx = inside a is o tx (item_of g.machine.effect) refl (on_item a) refl
    in_tx a is None tx = absurd (here (Stage.Tx a) is g.machine.effect refl None tx)

    begun : (s : Stage) → g.stage ≡ s → Turns
    begun (Stage.End v) is = visit_turns may_pass d c m h room old new b n x i r live in_time g at ahead v is
    begun (Stage.Walk row) is = walks row is g.machine.effect refl g.tx refl
    begun (Stage.Write w) is = puts w is g.tx refl (cell_op g.machine.effect) refl
    begun (Stage.Tx a) is = in_tx a is g.tx refl
    begun s is = off_item s is refl refl

  turns : (at : standing.RunAt) → r.at ≡ at → Turns
  turns Looks at = plainly (ap (λ y. asks_item (asks_at r y)) at) (ap is_visiting at)
  turns (Registers y) at = plainly (ap (λ z. asks_item (asks_at r z)) at) (ap is_visiting at)
  turns (Begins g) at = begun g at g.stage refl

pub events_keep : ClosedArePassed → EventsKeep
events_keep may_pass d room old new e c b m n x h s =
    let after = step d c m h room old new b n x e (λ i r live in_time. turns may_pass d c m h room old new b n x i r live in_time r.at refl) s in
    let rises = moment_rises d room old new e c b m n x s in
    let stay = rows_stay d room old new e c b m n x s in
    let ahead = ahead_after d c b m n h after rises room old new e x s in
    (has_kept d c b m n h after rises stay ahead, is_later d c b m n h after rises stay ahead, same_latest d c b m n h after rises stay ahead)

pub cursor_is_free : CursorIsFree
cursor_is_free d c m h k =
    let rests = by_rest d c h.gone m h.kept m k c.taken c.shut h.upkeep h.wanted (stays_on h.gone m h.kept h.less) in
    let at : Core = elsewhere c k c.taken c.shut in
    (has_kept d c at m m h rests (omega arith) (λ q there. there) h.ahead, is_later d c at m m h rests (omega arith) (λ q there. there) h.ahead)

pub no_row_comes_back : ClosedArePassed → NoRowComesBack
no_row_comes_back may_pass d room old new e c b m n x h s = (step d c m h room old new b n x e (λ i r live in_time. turns may_pass d c m h room old new b n x i r live in_time r.at refl) s).goes.none

pub answers_are_of_kept : ClosedArePassed → AnswersAreOfKept
answers_are_of_kept may_pass d room old new e c b m n x h s = answer d c m h room old new b n x e (λ i r live in_time. turns may_pass d c m h room old new b n x i r live in_time r.at refl) s
