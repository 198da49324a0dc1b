-- A run that is to close its intent: its body returns, so nothing more is asked of it, no turn of it is spared, and its next turn ends it.
use Rattle.beldi_bound.specs.Ends.{Sound}
use Rattle.beldi_step.specs.declared.run.RunAt.{RunAt}
use Rattle.beldi_step.specs.HostStep.{Core}
use Rattle.beldi_bound.proofs.Frames.{Spare}
use Rattle.beldi_bound.proofs.Going.{goes_same}
use Rattle.std.proofs.Common.{◌≡◌, ℕ, ◌||◌, Bool, true, List, [], ◌∷◌, ◌++◌, append-nil, length, Option, Some, None, is_some, refl, sym, ap, ◌∙◌}
use Rattle.std.specs.FinMap as map
use Rattle.std.specs.Prelude.{not}
use Rattle.beldi_value.specs.declared.{id.IntentId.IntentId, outcome.Outcome.Outcome, place.Caller.Caller, place.TxId.TxId}
use Rattle.beldi_tree.specs.declared.deployment.Deployment.{Deployment}
use Rattle.beldi_lang.specs.declared.{effect.Answer.Answer, effect.Effect.Effect, machine.Machine.Machine}
use Rattle.beldi_book.specs.declared.entry.Entry.{Entry}
use Rattle.beldi_plain.specs.Plain.{PlainState, effect_of}
use Rattle.beldi_plain_laws.specs.Txs.{tx_now}
use Rattle.beldi_row.specs.{Act.act, Act.end_with, Table.Rows, declared.act.Act.Act, declared.row.IntentRow.IntentRow}
use Rattle.beldi_query.specs.{declared.query.Query.Query, Query.rows_after}
use Rattle.beldi_intent.specs.Intent.{is_ended}
use Rattle.beldi_histories.{proofs.RowMaps.set_here, specs.Histories.Histories, specs.Stands.held_answer}
use Rattle.beldi_step.specs.{Run.is_inherited, Run.asks_at, Run.run_asks, Run.stage_asks, declared.run.Begun.Begun, declared.run.Run.Run, declared.run.RunTx.RunTx, declared.run.Stage.Stage}
use Rattle.beldi_invariant.specs.Invariant.{AtStage, StandsAt}
use Rattle.beldi_upkeep.specs.Checked.{body_at, is_close}
use Rattle.beldi_bound.specs.{Cost.AreAsked, Cost.with_answers, SettleWork.has_ended, SettleWork.seat}
use Rattle.beldi_bound.proofs.{Ending.knows_it, Facts.Stands, HistoryAsked.intents_asked, Standing.runs_stand}
use Rattle.beldi_bound.proofs.Ledger.{callee_key, if_free, spare_of, stuck_by}

module _ {d : Deployment} (m : Rows) (p : PlainState) (book : List Entry) {histories : Histories} {id : IntentId} {home : ℕ} {c : Option Caller} {s : Machine} {o : Option RunTx} (k : StandsAt d histories id home c s o) where
  at_close : (e : Effect) (z : Option RunTx) → AtStage m p book k Stage.Close e z → (u : Outcome) × (e ≡ Effect.Return u)
  at_close (Effect.Return u) z h = (u, refl)
  at_close e z h = absurd h

  pub returns : (w : Stage) (e : Effect) (z : Option RunTx) → AtStage m p book k w e z → is_close w ≡ true → (u : Outcome) × (e ≡ Effect.Return u)
  returns Stage.Close e z h close = at_close e z h
  returns w e z h close = cc

close_is : (w : Stage) → is_close w ≡ true → w ≡ Stage.Close
close_is Stage.Close h = refl
close_is w h = cc

-- ---- nothing is asked past a return
none_held : (m : Rows) (id : IntentId) (func step : ℕ) (t : Option TxId) (u : Outcome) → held_answer m id func step t (Effect.Return u) ≡ None
none_held m id func step None u = refl
none_held m id func step (Some t) u = refl

module _ (d : Deployment) (e : Rows) (asked : IntentId → List Answer) (r : Run) (g : Begun) (areas : AreAsked d e asked) (s : Stands d e asked r g) (u : Outcome) (is : g.machine.effect ≡ Effect.Return u) where
  pub last_answers : s.along.answers ≡ asked r.id
  last_answers = by_later s.along.later s.along.all
    where
      by_later : (later : List Answer) → s.along.answers ++ later ≡ asked r.id → s.along.answers ≡ asked r.id
      by_later [] all = sym (append-nil s.along.answers) ∙ all
      by_later (a ∷ rest) all =
          let held = (areas (seat r).home r.id s.row s.body s.there s.has).each s.along.answers a rest all in
          let clash : None ≡ Some a = sym (ap (λ f. held_answer e r.id s.body.func (length s.along.answers) (tx_now d r.id (with_answers s.body s.along.answers)) f) (sym s.along.effect ∙ is) ∙ none_held e r.id s.body.func (length s.along.answers) (tx_now d r.id (with_answers s.body s.along.answers)) u) ∙ held in absurd (no_some clash)
        where
          no_some : {a : Answer} → None ≡ Some a → ⊥
          no_some h = cc

abbrev pub NoneIsSpared : Type 0
NoneIsSpared = (d : Deployment) (room : ℕ) (c : Core) (m e : Rows) (asked : IntentId → List Answer) (first most i : ℕ) (r : Run) (g : Begun) → Sound d c m → AreAsked d e asked → map.get c.runs i ≡ Some r → r.at ≡ RunAt.Begins g → (s : Stands d e asked r g) → is_close g.stage ≡ true
    → Spare d room e asked first most (seat r) ≡ 0

pub none_spared : NoneIsSpared
none_spared d room c m e asked first most i r g sound areas live at s close =
    let k = knows_it sound.upkeep.invariant i r g live at in
    let u = returns m sound.upkeep.invariant.plain c.book k.0 g.stage g.machine.effect g.tx k.1.here close in
    let whole = last_answers d e asked r g areas s u.0 u.1 in
    let effect : effect_of d (with_answers s.body (asked r.id)) ≡ Effect.Return u.0 = ap (λ xs. effect_of d (with_answers s.body xs)) (sym whole) ∙ sym s.along.effect ∙ u.1 in
    ap (λ o. spare_of d room e asked first most (stuck_by d room e asked first most r.id o)) (ap body_at s.there ∙ s.has)
    ∙ ap (λ f. spare_of d room e asked first most (if_free d room e asked first most (callee_key d room e asked first most r.id (length (asked r.id)) f))) effect

-- ---- its row ends
ends_it : (o : Outcome) (stamp : Bool) (now : ℕ) (i : IntentRow) (z : Option Outcome) → i.outcome ≡ z → is_ended (end_with o stamp now i z).0 ≡ true
ends_it o stamp now i None is = refl
ends_it o stamp now i (Some u) is = ap (λ y. is_some y || is_some i.finish) is

abbrev pub ClosesEnd : Type 0
ClosesEnd = (d : Deployment) (c : Core) (m : Rows) (i : ℕ) (r : Run) (g : Begun) → Sound d c m → map.get c.runs i ≡ Some r → r.at ≡ RunAt.Begins g → is_close g.stage ≡ true → has_ended (map.get (rows_after (run_asks r) c.now m) (seat r)) ≡ true

pub closes_end : ClosesEnd
closes_end d c m i r g sound live at close =
    let k = knows_it sound.upkeep.invariant i r g live at in
    let u = returns m sound.upkeep.invariant.plain c.book k.0 g.stage g.machine.effect g.tx k.1.here close in
    let all = intents_asked d c m sound.upkeep in
    let s = runs_stand d c m m all.0 i r g sound (goes_same m) all.1 live at in
    let stamp : Bool = not (is_inherited g.tx) in
    let asks : run_asks r ≡ Query.Act (seat r) (Act.End u.0 stamp) = ap (asks_at r) at ∙ ap (λ w. stage_asks r.id r.func g.caller g.tx g.machine.steps g.machine.effect w) (close_is g.stage close) ∙ ap (λ f. stage_asks r.id r.func g.caller g.tx g.machine.steps f Stage.Close) u.1 in
    ap (λ q. has_ended (map.get (rows_after q c.now m) (seat r))) asks
    ∙ ap has_ended (set_here m (seat r) (act (Act.End u.0 stamp) c.now (map.get m (seat r))).0)
    ∙ ap (λ o. has_ended (act (Act.End u.0 stamp) c.now o).0) s.there
    ∙ ends_it u.0 stamp c.now s.row s.row.outcome refl
