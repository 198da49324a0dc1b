-- Where a turn is refused: an intent that has ended costs something, and a run that is midway and finds no room stands so still.
use Rattle.std.proofs.Common.{◌≡◌, ℕ, ◌&&◌, Bool, true, false, List, Option, Some, None, is_some, IsTrue, Err, if◌then◌else◌, refl, ap, subst, ◌∙◌}
use Rattle.std.specs.Prelude.{not}
use Rattle.std.specs.FinMap as map
use Rattle.beldi_value.specs.{Id.child_of, Id.has_callees, declared.id.IntentId.IntentId, declared.place.Caller.Caller, declared.value.Value.Value}
use Rattle.beldi_tree.specs.declared.deployment.Deployment.{Deployment}
use Rattle.beldi_lang.specs.declared.{effect.Answer.Answer, effect.Effect.Effect, machine.Machine.Machine}
use Rattle.beldi_book.specs.declared.entry.Entry.{Entry}
use Rattle.beldi_plain.specs.Plain.{PlainState}
use Rattle.beldi_row.specs.{Table.Rows, declared.row.Body.Body, declared.row.Row.Row, declared.table.TableErr.TableErr}
use Rattle.beldi_query.specs.{Query.CameOn}
use Rattle.beldi_invokelog.specs.InvokeLog.{invoke_key}
use Rattle.beldi_intent.specs.Intent.{intent_key, look_asks}
use Rattle.beldi_call.specs.{Async.async_asks, declared.async_call.AsyncAt.AsyncAt}
use Rattle.beldi_histories.specs.Histories.{Histories}
use Rattle.beldi_step.specs.{HostStep.Core, HostStep.counted, Run.asks_at, Run.async_here_asks, Run.callee_body, Run.place_of, Run.run_asks, Run.stage_asks, declared.run.Begun.Begun, declared.run.Run.Run, declared.run.RunAt.RunAt, declared.run.RunTx.RunTx, declared.run.Stage.Stage}
use Rattle.beldi_invariant.specs.Invariant.{AtStage, StandsAt}
use Rattle.beldi_bound.specs.{Cost.AreAsked, Ends.Sound}
use Rattle.beldi_bound.proofs.{Ending.knows_it, FirstHistories.ended_costs, Frames.Mid, TurnsPay.AllRefused}
use Rattle.beldi_bound.proofs.Ledger.{IsMidway}

pub record AsyncHere (id : IntentId) (e : Effect) : Type 0 where
  pub func : ℕ
  pub args : Value
  pub is : e ≡ Effect.Async func args
  pub short : has_callees id ≡ true

module _ {d : Deployment} (m : Rows) (p : PlainState) (book : List Entry) {histories : Histories} {id : IntentId} {home : ℕ} {c : Option Caller} {s : Machine} {o : Option RunTx} (k : StandsAt d histories id home c s o) where
  pub async_here : (w : AsyncAt) (e : Effect) (z : Option RunTx) → AtStage m p book k (Stage.Async w) e z → AsyncHere id e
  async_here w (Effect.Async f a) None h = record { func = f; args = a; is = refl; short = h.0 }
  async_here w e z h = absurd h

not_there : (o : Option Row) → IsTrue (not (is_some o) && true) → o ≡ None
not_there None h = refl
not_there (Some r) h = cc

adds_not : (b : Bool) → IsTrue (b && false) → ⊥
adds_not true h = cc
adds_not false h = cc

module _ (d : Deployment) (room : ℕ) (e : Rows) (asked : IntentId → List Answer) (first most : ℕ) (past i : ℕ) (c b : Core) (m : Rows) (r : Run) (g : Begun) where
  abbrev B : ℕ → Value → Body
  B f v = callee_body r.id r.func g.machine.steps f v None false

  by_full : (w : AsyncAt) (f : ℕ) (v : Value) (l k : ℕ) → (w ≡ AsyncAt.Open → ⊥) → g.machine.effect ≡ Effect.Async f v → g.stage ≡ Stage.Async w → CameOn (async_asks r.func (place_of r.id g.machine.steps) (B f v) w) c.now room (Err (TableErr.Full l k)) m m → Mid d room e asked first most past b m i r g
  by_full AsyncAt.Open f v l k later effect stage came = absurd (later refl)
  by_full AsyncAt.Register f v l k later effect stage came = IsMidway.stands f v effect stage came.1.filled (not_there (map.get m (intent_key (child_of r.id g.machine.steps) f)) came.1.more)
  by_full AsyncAt.Note f v l k later effect stage came = absurd (adds_not (not (is_some (map.get m (invoke_key r.func (place_of r.id g.machine.steps))))) came.1.more)

  pub full_mid : Sound d c m → map.get c.runs i ≡ Some r → (l k : ℕ) → CameOn (run_asks r) c.now room (Err (TableErr.Full l k)) m m → (w : AsyncAt) → (w ≡ AsyncAt.Open → ⊥) → r.at ≡ RunAt.Begins g → g.stage ≡ Stage.Async w → Mid d room e asked first most past b m i r g
  full_mid sound live l k came w later at stage =
      let kn = knows_it sound.upkeep.invariant i r g live at in
      let here = async_here m sound.upkeep.invariant.plain c.book kn.0 w g.machine.effect g.tx (subst (λ x. AtStage m sound.upkeep.invariant.plain c.book kn.0 x g.machine.effect g.tx) stage kn.1.here) in
      let asks : run_asks r ≡ async_asks r.func (place_of r.id g.machine.steps) (B here.func here.args) w = ap (asks_at r) at ∙ ap (λ x. stage_asks r.id r.func g.caller g.tx g.machine.steps g.machine.effect x) stage ∙ ap (λ f. async_here_asks r.id r.func g.machine.steps f w) here.is
      ∙ ap (λ t. if t then async_asks r.func (place_of r.id g.machine.steps) (B here.func here.args) w else look_asks r.id r.func) here.short in
      by_full w here.func here.args l k later here.is stage (subst (λ q. CameOn q c.now room (Err (TableErr.Full l k)) m m) asks came)

module _ (d : Deployment) (room : ℕ) (e : Rows) (asked : IntentId → List Answer) (first most : ℕ) (z : Core) (sound_e : Sound d z e) (areas : AreAsked d e asked) where
  pub all_refused : AllRefused d room e asked first most z sound_e areas
  all_refused past i c m r a runs keys sound ledger next live has mine goes = record {
    ended = λ over. ended_costs d c m i r sound live room e asked first most goes over;
    mid = λ l k came g w later at stage was. full_mid d room e asked first most i i c (counted c) m r g sound live l k came w later at stage;
  }
