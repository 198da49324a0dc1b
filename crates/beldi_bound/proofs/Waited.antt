-- A run that waits has begun, and stands where it stood, in no call that nobody waits for.
use Rattle.std.proofs.Common.{Bool, None, Option, Some, ap, false, is_some, if◌then◌else◌, refl, sym, true, ◌∙◌, ◌≡◌}
use Rattle.beldi_value.specs.declared.{id.IntentId.IntentId, place.Caller.Caller}
use Rattle.beldi_tree.specs.{Names.func_at, declared.deployment.Deployment.Deployment, declared.deployment.Func.Func}
use Rattle.beldi_lang.specs.{Machine.begun as machine_begun, declared.effect.Effect.Effect, declared.machine.Machine.Machine}
use Rattle.beldi_book.specs.LinearOrder.{count_changes}
use Rattle.beldi_row.specs.{Table.Rows, declared.row.Body.Body}
use Rattle.beldi_query.specs.Query.{QueryReply, query_reply}
use Rattle.beldi_intent.specs.Intent.{body_told}
use Rattle.beldi_call.specs.{Async.async_output, declared.async_call.AsyncAt.AsyncAt, declared.async_call.AsyncOutput.AsyncOutput}
use Rattle.beldi_step.specs.{declared.run.Begun.Begun, declared.run.Mark.Mark, declared.run.Run.Run, declared.run.RunAt.RunAt, declared.run.RunTx.RunTx, declared.run.StageOutput.StageOutput, declared.run.Stage.Stage, declared.run.Wait.Wait, HostStep.Core}
use Rattle.beldi_step.specs.Run.{async_answer, async_here_output, asks_at as run_asks_at, local_steps, begin_in, body_registered, first_stage, goes_from, goes_to, stage_asks, stage_output, takes, told_at, turned_by, inherited_tx}
use Rattle.beldi_upkeep.specs.Checked.{next_output, next_turn}
use Rattle.beldi_value.specs.Id.{has_callees}

goes_never : (r : Run) (s : Machine × Option RunTx) (c : Option Caller) (m : Option Mark) (w : Option Stage) → (goes_from r s c m w).wait ≡ None
goes_never r s c m None = refl
goes_never r s c m (Some w) = refl

pub goes_to_never : (d : Deployment) (r : Run) (s : Machine × Option RunTx) (c : Option Caller) (m : Option Mark) → (goes_to d r s c m).wait ≡ None
goes_to_never d r s c m = let z = local_steps d r.id s in goes_never r z c m (first_stage r.id c z.1 z.0.steps z.0.effect)

begins_never : (d : Deployment) (r : Run) (f : Option Func) (b : Option Body) → (begin_in d r f b).wait ≡ None
begins_never d r f None = refl
begins_never d r None (Some b) = refl
begins_never d r (Some f) (Some b) = goes_to_never d r (machine_begun d r.func b.args (is_some b.tx), inherited_tx b.tx) b.parent None

turn_waits : (d : Deployment) (r : Run) (g : Begun) (s : StageOutput) (w : Wait) → (turned_by d r g s).wait ≡ Some w → s ≡ StageOutput.Waits w
turn_waits d r g (StageOutput.On z m) w is = cc
turn_waits d r g StageOutput.Stays w is = cc
turn_waits d r g (StageOutput.Opens m) w is = cc
turn_waits d r g (StageOutput.Waits v) w is = cc
turn_waits d r g (StageOutput.Starts a) w is = let clash = sym (goes_to_never d r (takes d g.machine g.tx a) g.caller None) ∙ is in cc
turn_waits d r g (StageOutput.Answers a m) w is = let clash = sym (goes_to_never d r (takes d g.machine g.tx a) g.caller m) ∙ is in cc
turn_waits d r g (StageOutput.Ends m o) w is = cc

pub record BegunWait (d : Deployment) (c : Core) (m : Rows) (r : Run) (w : Wait) : Type 0 where
  pub begun : Begun
  pub at : r.at ≡ RunAt.Begins begun
  pub output : next_output c m r begun ≡ StageOutput.Waits w
  pub stays : (next_turn d c m r).next ≡ Some r

pub waits_begun : (d : Deployment) (c : Core) (m : Rows) (r : Run) (w : Wait) → (next_turn d c m r).wait ≡ Some w → BegunWait d c m r w
waits_begun d c m r w = by_at r.at refl
  where
    by_at : (a : RunAt) → r.at ≡ a → (told_at d (count_changes c.book) r a (query_reply (run_asks_at r a) c.now m)).wait ≡ Some w → BegunWait d c m r w
    by_at RunAt.Looks at is = let clash = sym (begins_never d r (func_at d r.func) (body_told r.func (query_reply (run_asks_at r RunAt.Looks) c.now m))) ∙ is in cc
    by_at (RunAt.Registers b) at is = let clash = sym (begins_never d r (func_at d r.func) (body_registered r.func b (query_reply (run_asks_at r (RunAt.Registers b)) c.now m))) ∙ is in cc
    by_at (RunAt.Begins g) at is =
        let output : next_output c m r g ≡ StageOutput.Waits w = turn_waits d r g (next_output c m r g) w is in
        record { begun = g; at = at; output = output; stays = ap (λ (z : RunAt). (told_at d (count_changes c.book) r z (query_reply (run_asks_at r z) c.now m)).next) at ∙ ap (λ z. (turned_by d r g z).next) output }

-- nobody waits at such a call
async_never : (at : AsyncAt) (s : AsyncOutput) (w : Wait) → async_answer at s ≡ StageOutput.Waits w → ⊥
async_never at (AsyncOutput.Opened first) w is = cc
async_never at AsyncOutput.Going w is = cc
async_never AsyncAt.Note AsyncOutput.Done w is = cc
async_never AsyncAt.Open AsyncOutput.Done w is = cc
async_never AsyncAt.Register AsyncOutput.Done w is = cc

here_never : (id : IntentId) (e : Effect) (at : AsyncAt) (t : QueryReply) (w : Wait) → async_here_output id e at t ≡ StageOutput.Waits w → ⊥
here_never id (Effect.Async f a) at t w is = by_short (has_callees id) is
  where
    by_short : (b : Bool) → (if b then async_answer at (async_output f at t) else StageOutput.Ends None None) ≡ StageOutput.Waits w → ⊥
    by_short true is = async_never at (async_output f at t) w is
    by_short false is = cc
here_never id e at t w is = cc

pub async_goes : (c : Core) (m : Rows) (r : Run) (g : Begun) (at : AsyncAt) (w : Wait) → g.stage ≡ Stage.Async at → next_output c m r g ≡ StageOutput.Waits w → ⊥
async_goes c m r g at w stage output = here_never r.id g.machine.effect at (query_reply (stage_asks r.id r.func g.caller g.tx g.machine.steps g.machine.effect (Stage.Async at)) c.now m) w
    (sym (ap (λ (s : Stage). stage_output r.id r.func g.caller g.tx (count_changes c.book) g.machine.steps g.machine.effect s (query_reply (stage_asks r.id r.func g.caller g.tx g.machine.steps g.machine.effect s) c.now m)) stage) ∙ output)
