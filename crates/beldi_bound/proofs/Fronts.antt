-- Live runs where all wait: what each waits for, which run of an intent was answered most, and that such a run is late, and so a cause, or
-- stands at the end of the history of its instance.
use Rattle.std.specs.FinMap as map
use Rattle.std.specs.{Cmp.Equal-is, Ordering.is_eq}
use Rattle.std.proofs.Common.{Bool, List, None, Option, Some, [], ap, arith, false, inl, inr, is_some, refl, subst, sym, true, ℕ, ◌==◌, ◌||◌, ◌∙◌, ◌∷◌, ◌≡◌, ◌≤◌, ◌⊎◌}
use Rattle.std.proofs.lemmas.Cmp.{tied_itself}
use Rattle.beldi_value.specs.{Id.has_no_hops, Id.id_cmp, Id.id_exact, Id.id_total, declared.id.IntentId.IntentId, declared.outcome.Outcome.Outcome, declared.place.Owner.Owner, declared.place.TxId.TxId, declared.value.Value.Value}
use Rattle.beldi_tree.specs.declared.deployment.Deployment.{Deployment}
use Rattle.beldi_lang.specs.declared.effect.{Answer.Answer, Effect.Effect}
use Rattle.beldi_plain.specs.Plain.{Instance, PlainState, effect_before}
use Rattle.beldi_book.specs.declared.entry.Entry.{Entry}
use Rattle.beldi_plain_laws.proofs.Maps.{same_some}
use Rattle.beldi_plain_laws.specs.Txs.{tx_at as tx_step}
use Rattle.beldi_row.specs.{Key.RowKey, Table.Rows, declared.row.Body.Body, declared.row.IntentRow.IntentRow, declared.row.Row.Row}
use Rattle.beldi_readlog.specs.ReadLog.{log_key}
use Rattle.beldi_intent.specs.Intent.{is_ended}
use Rattle.beldi_step.specs.{declared.event.EventReply.EventReply, declared.run.Begun.Begun, declared.run.Run.Run, declared.run.RunAt.RunAt, declared.run.RunTx.RunTx, declared.run.Stage.Stage, declared.run.Wait.Wait, HostStep.Core, HostStep.has_run, Run.is_waited, Run.place_of, Run.tx_at}
use Rattle.beldi_histories.specs.{Extends.is_begin, Histories.Histories, Histories.tx_end, Matches.has_ended as tx_has_ended, RowMatching.BodyMatches, RowMatching.CalleeBodyMatches, RowMatching.FinishMatches, RowMatching.IntentMatches, RowMatching.RootMatches, RowMatching.tx_in, Stands.body_of, Stands.held_answer, Stands.key_in}
use Rattle.beldi_histories.proofs.{Cases.by_cases, Cases.by_option, Instances.outcome_kept, Participants.decided_over}
use Rattle.beldi_invariant.specs.Invariant.{AtStage, Inside, Knows, Invariant, StandsAt}
use Rattle.beldi_invariant.proofs.{Cases.by_list, Cases.false_by, Passing.tx_step_is, Standing.held_here, StageTurns.answer_here, StageTurns.effect_here}
use Rattle.beldi_upkeep.specs.{Checked.next_turn, Upkeep.Upkeep}
use Rattle.beldi_upkeep.proofs.{FromInvariant.row_at, Notes.knows}
use Rattle.beldi_bound.specs.{Ends.HasCause, Ends.IsIn, Ends.is_walk, SettleWork.has_ended, SettleWork.seat}
use Rattle.beldi_bound.proofs.{Chain.Greatest, Chain.LiveRun, Chain.greatest, Chain.in_numbers, Chain.live_run, Chain.numbers, Facts.AllWait, Facts.EachHasRun, Facts.WaitsNow, Waits.Called, Waits.Stopped, Waits.Why, Waits.stopped, Waited.waits_begun}

-- ---- no run stands at a Begin
begin_only : (e : Effect) → is_begin e ≡ true → e ≡ Effect.Begin
begin_only e h = grind arith

module _ {d : Deployment} (m : Rows) (p : PlainState) (book : List Entry) {histories : Histories} {id : IntentId} {home : ℕ} {c : _} {s : _} {o : Option RunTx} (k : StandsAt d histories id home c s o) where
  no_begin : (w : Stage) (z : Option RunTx) → AtStage m p book k w Effect.Begin z → ⊥
  no_begin (Stage.Write at) None here = let none = here.0 in cc
  no_begin (Stage.Tx a) (Some x) here = here.0
  no_begin w z here = here

  -- nor does one walk at a call
  no_walk : (w : Stage) (f : ℕ) (v : Value) (z : Option RunTx) → is_walk w ≡ true → AtStage m p book k w (Effect.Call f v) z → ⊥
  no_walk (Stage.Walk r) f v z is here = here
  no_walk w f v z is here = cc

-- ---- the live runs of an intent
abbrev pub is_of : IntentId → Option Run → Bool
is_of id None = false
is_of id (Some r) = is_eq (id_cmp r.id id)

abbrev pub steps_at : RunAt → ℕ
steps_at (RunAt.Begins g) = g.machine.steps
steps_at a = 0

abbrev pub steps_of : Option Run → ℕ
steps_of None = 0
steps_of (Some r) = steps_at r.at

-- ---- the row of an intent that has not ended
ended_none : (f : Option ℕ) (o : Option Outcome) → o ≡ None → is_some f ≡ is_some o → (is_some o || is_some f) ≡ false
ended_none f o none same = grind arith

pub record OpenRow (m : Rows) (k : RowKey) : Type 0 where
  pub row : IntentRow
  pub body : Body
  pub there : map.get m k ≡ Some (Row.Intent row)
  pub has : row.body ≡ Some body
  pub unended : is_ended row ≡ false

module _ (d : Deployment) (c : Core) (m : Rows) (h : Invariant d c m) (id : IntentId) (q : Instance) (made : map.get h.histories id ≡ Some q) (none : q.outcome ≡ None) where
  record IsOpen (r : IntentRow) : Type 0 where
    body : Body
    has : r.body ≡ Some body
    unended : is_ended r ≡ false

  root_open : (r : IntentRow) (b : Option Body) → r.body ≡ b → BodyMatches b r.outcome (Some q) → is_some r.finish ≡ is_some r.outcome → IsOpen r
  root_open r None is f finishes = cc
  root_open r (Some b) is f finishes = record { body = b; has = is; unended = ended_none r.finish r.outcome (sym f.1 ∙ ap (λ (y : Instance). y.outcome) (same_some (sym f.0.made)) ∙ none) finishes }

  callee_open : (home : ℕ) (r : IntentRow) (b : Option Body) → r.body ≡ b → CalleeBodyMatches home b r.outcome (Some q) → FinishMatches (tx_has_ended d h.histories) (tx_in b) r.finish r.outcome → IsOpen r
  callee_open home r None is f finishes = absurd f
  callee_open home r (Some b) is f finishes = record { body = b; has = is; unended = ended_none r.finish r.outcome out (by_tx q.enclosing refl (subst (λ w. FinishMatches (tx_has_ended d h.histories) w r.finish r.outcome) tx_is finishes)) }
    where
      same : f.0.instance ≡ q
      same = same_some (sym f.0.made)

      tx_is : b.tx ≡ q.enclosing
      tx_is = ap (λ (z : Body). z.tx) (f.0.body ∙ ap body_of same)

      out : r.outcome ≡ None
      out = by_option r.outcome (λ e. e) (λ u e. (let clash : None ≡ Some u = sym none ∙ sym (ap (λ (y : Instance). y.outcome) same) ∙ outcome_kept (is_waited b.parent) r.outcome f.0.instance.outcome f.2 u e in cc))

      by_tx : (w : Option TxId) → q.enclosing ≡ w → FinishMatches (tx_has_ended d h.histories) w r.finish r.outcome → is_some r.finish ≡ is_some r.outcome
      by_tx None in_it g = g
      by_tx (Some t) in_it g = false_by (is_some r.finish) (λ there. by_ended t in_it (g there)) ∙ sym (ap is_some out)
        where
          by_ended : (t : TxId) → q.enclosing ≡ Some t → tx_has_ended d h.histories t ≡ true → ⊥
          by_ended t in_it ended = by_option (tx_end d h.histories t) (λ e. (let clash : false ≡ true = sym (ap is_some e) ∙ ended in cc))
              (λ z e. (let clash : true ≡ false = sym (decided_over d h.histories h.well_formed id q t z made in_it e) ∙ ap is_some none in cc))

  row_matches : (t : Bool) (home : ℕ) (o : Option Row) → IntentMatches (tx_has_ended d h.histories) t home o (Some q) → (o ≡ None) ⊎ ((r : IntentRow) × (o ≡ Some (Row.Intent r)) × IsOpen r)
  row_matches true home o f = by_home (home == 0) o f
    where
      by_home : (b : Bool) (o : Option Row) → RootMatches b o (Some q) → (o ≡ None) ⊎ ((r : IntentRow) × (o ≡ Some (Row.Intent r)) × IsOpen r)
      by_home false o f = inl f
      by_home true None f = inl refl
      by_home true (Some (Row.Intent r)) f = inr (r, refl, root_open r r.body refl f.body f.finishes)
      by_home true (Some r) f = absurd f
  row_matches false home None f = inl refl
  row_matches false home (Some (Row.Intent r)) f = inr (r, refl, callee_open home r r.body refl f.body f.finishes)
  row_matches false home (Some r) f = absurd f

  pub row_open : (home : ℕ) → (map.get m (key_in home id) ≡ None) ⊎ OpenRow m (key_in home id)
  row_open home = elim (row_matches (has_no_hops id.hops) home (map.get m (key_in home id)) (subst (IntentMatches (tx_has_ended d h.histories) (has_no_hops id.hops) home (map.get m (key_in home id))) made (row_at d c m h home id (map.get m (key_in home id)) refl))) [
    | inl e ↦ inl e
    | inr z ↦ inr (record { row = z.0; body = z.2.body; there = z.1; has = z.2.has; unended = z.2.unended })
  ]

  pub unended : (home : ℕ) → has_ended (map.get m (key_in home id)) ≡ false
  unended home = elim (row_open home) [ inl e ↦ ap has_ended e | inr z ↦ ap has_ended z.there ∙ z.unended ]

  -- who has a row has a live run
  pub row_run : EachHasRun c m → (home : ℕ) → is_some (map.get m (key_in home id)) ≡ true → has_run c.runs id ≡ true
  row_run each home there = elim (row_open home) [ inl e ↦ absurd (no_row (sym (ap is_some e) ∙ there)) | inr z ↦ each home id z.row z.body z.there z.has z.unended ]
    where
      no_row : false ≡ true → ⊥
      no_row e = cc

-- ---- where all wait
module _ (d : Deployment) (c : Core) (m : Rows) (waiting : List (ℕ × EventReply)) (s : Upkeep d c m) (all : AllWait d c m waiting) where
  abbrev pub h : Invariant d c m
  h = s.invariant

  abbrev pub Cause : Type 0
  Cause = HasCause c m waiting

  pub record Waits (i : ℕ) (r : Run) : Type 0 where
    pub live : map.get c.runs i ≡ Some r
    pub wait : Wait
    pub told : (o : Owner) → wait ≡ Wait.Held o → IsIn (i, EventReply.Held o) waiting
    pub runs : (j : IntentId) → wait ≡ Wait.Result j → has_run c.runs j ≡ true
    pub begun : Begun
    pub at : r.at ≡ RunAt.Begins begun
    pub histories : Knows d h.histories r begun
    pub inside : Inside m h.plain c.book histories begun.stage
    pub stopped_so : Stopped m r.id r.func begun.machine.steps (tx_at r.id r.func begun.tx) begun.machine.effect begun.stage wait

  module _ (i : ℕ) (r : Run) (live : map.get c.runs i ≡ Some r) where
    waits_by : (w : Wait) → (w ≡ Wait.Worn → ⊥) → (next_turn d c m r).wait ≡ Some w → ((o : Owner) → w ≡ Wait.Held o → IsIn (i, EventReply.Held o) waiting) → ((j : IntentId) → w ≡ Wait.Result j → has_run c.runs j ≡ true) → Waits i r
    waits_by w apart is told runs =
        let b = waits_begun d c m r w is in
        let k = knows d c m h r b.begun (record { number = i; live = live; same_id = refl; begun = b.at }) in
        record { live = live; wait = w; told = told; runs = runs; begun = b.begun; at = b.at; histories = k.0; inside = k.1; stopped_so = stopped d c m r b.begun h k.0 w apart k.1.here b.output }

    held_one : (o u : Owner) → Wait.Held o ≡ Wait.Held u → o ≡ u
    held_one o u e = cc

    result_one : (j k : IntentId) → Wait.Result j ≡ Wait.Result k → j ≡ k
    result_one j k e = cc

    by_now : (x : EventReply) → IsIn (i, x) waiting → WaitsNow d c m i x → Cause ⊎ Waits i r
    by_now _ at (WaitsNow.hindered x is) = inl (HasCause.hindered (i, x) at is)
    by_now _ at (WaitsNow.held z o there is) = inr (waits_by (Wait.Held o) (λ e. cc) (subst (λ y. (next_turn d c m y).wait ≡ Some (Wait.Held o)) (same_some (sym there ∙ live)) is) (λ u e. subst (λ y. IsIn (i, EventReply.Held y) waiting) (held_one o u e) at) (λ j e. cc))
    by_now _ at (WaitsNow.not_yet z j there is has) = inr (waits_by (Wait.Result j) (λ e. cc) (subst (λ y. (next_turn d c m y).wait ≡ Some (Wait.Result j)) (same_some (sym there ∙ live)) is) (λ o e. absurd (apart o e)) (λ k e. subst (λ y. has_run c.runs y ≡ true) (result_one j k e) has))
      where
        apart : (o : Owner) → Wait.Result j ≡ Wait.Held o → ⊥
        apart o e = cc

    pub waits : Cause ⊎ Waits i r
    waits = let w = all i r live in by_now w.0 w.1 w.2

  module _ (i : ℕ) (r : Run) (w : Waits i r) where
    apart : is_begin w.begun.machine.effect ≡ false
    apart = by_cases (is_begin w.begun.machine.effect) (λ e. absurd (no_begin m h.plain c.book w.histories w.begun.stage w.begun.tx (subst (λ z. AtStage m h.plain c.book w.histories w.begun.stage z w.begun.tx) (begin_only w.begun.machine.effect e) w.inside.here))) (λ e. e)

    -- the transaction of its step
    pub tx_is : tx_step d r.id w.histories.instance w.begun.machine.steps ≡ tx_at r.id r.func w.begun.tx
    tx_is = tx_step_is w.histories apart

    -- a run whose step has no answer is at the front
    pub front : held_answer m r.id r.func w.begun.machine.steps (tx_at r.id r.func w.begun.tx) w.begun.machine.effect ≡ None → w.histories.later ≡ []
    front none = by_list w.histories.later (λ e. e) (λ a rest e. absurd (answered a rest e))
      where
        answered : (a : Answer) (rest : List Answer) → w.histories.later ≡ a ∷ rest → ⊥
        answered a rest e =
            let k = w.histories in
            let n = w.begun.machine.steps in
            let held : held_answer m r.id k.instance.func n (tx_step d r.id k.instance n) (effect_before d k.instance n) ≡ Some a = held_here d m h.histories h.lock_ahead h.rows h.well_formed r.id k.instance k.made n a (answer_here k (a ∷ rest) e) in
            let clash : None ≡ Some a = sym none ∙ sym (λ j. held_answer m r.id (k.func j) n (tx_is j) (effect_here k j)) ∙ held in cc

  -- ---- the run of an intent that was answered most
  pub record Best (id : IntentId) : Type 0 where
    pub number : ℕ
    pub run : Run
    pub same : run.id ≡ id
    pub its : Waits number run
    pub furthest : (j : ℕ) (r : Run) (g : Begun) → map.get c.runs j ≡ Some r → r.id ≡ id → r.at ≡ RunAt.Begins g → g.machine.steps ≤ its.begun.machine.steps

  pub is_number : (i : ℕ) (r : Run) → map.get c.runs i ≡ Some r → IsIn i (numbers c.last_run)
  is_number i r live = in_numbers c.last_run i (h.runs.numbers i (ap is_some live)).1

  pub best : (id : IntentId) → has_run c.runs id ≡ true → Cause ⊎ Best id
  best id has = by_run (map.get c.runs g.one) refl
    where
      l : LiveRun c.runs id
      l = live_run c.runs id has

      itself : (r : Run) → r.id ≡ id → is_of id (Some r) ≡ true
      itself r e = ap (λ y. is_eq (id_cmp y id)) e ∙ ap is_eq (tied_itself id_total id)

      g : Greatest (λ i. is_of id (map.get c.runs i)) (λ i. steps_of (map.get c.runs i)) (numbers c.last_run) (steps_of (map.get c.runs l.number))
      g = greatest (λ i. is_of id (map.get c.runs i)) (λ i. steps_of (map.get c.runs i)) (numbers c.last_run) l.number (ap (is_of id) l.live ∙ itself l.run l.same)

      by_run : (o : Option Run) → map.get c.runs g.one ≡ o → Cause ⊎ Best id
      by_run None e = (let clash : false ≡ true = sym (ap (is_of id) e) ∙ g.is in cc)
      by_run (Some r) e = elim (waits g.one r e) [
        | inl cause ↦ inl cause
        | inr w ↦ inr (record {
          number = g.one;
          run = r;
          same = id_exact r.id id ((Equal-is (id_cmp r.id id)).0 (sym (ap (is_of id) e) ∙ g.is));
          its = w;
          furthest = λ j z k live same at. subst (λ n. n ≤ w.begun.machine.steps) (ap steps_of live ∙ ap steps_at at) (subst (λ n. steps_of (map.get c.runs j) ≤ n) (ap steps_of e ∙ ap steps_at w.at) (g.each j (is_number j z live) (ap (is_of id) live ∙ itself z same)));
        })
      ]

  -- one that is late is a cause
  pub left_of : (id : IntentId) (b : Best id) → has_ended (map.get m (seat b.run)) ≡ false → is_walk b.its.begun.stage ≡ true → is_some (map.get m (log_key b.run.func (place_of b.run.id b.its.begun.machine.steps))) ≡ true → Cause
  left_of id b open_still walks kept = by_wait b.its.wait refl
    where
      called : (j : IntentId) → Called b.run.id b.its.begun.machine.steps b.its.begun.machine.effect j → ⊥
      called j z = no_walk m h.plain c.book b.its.histories b.its.begun.stage z.func z.args b.its.begun.tx walks (subst (λ e. AtStage m h.plain c.book b.its.histories b.its.begun.stage e b.its.begun.tx) z.call b.its.inside.here)

      by_wait : (w : Wait) → b.its.wait ≡ w → Cause
      by_wait (Wait.Held o) e = HasCause.left (record {
        number = b.number;
        run = b.run;
        owner = o;
        live = b.its.live;
        waits = b.its.told o e;
        late = record { begun = b.its.begun; at = b.its.at; walks = walks; kept = kept };
        unended = open_still;
        furthest = λ j r g live same at. b.furthest j r g live (same ∙ b.same) at;
      })
      by_wait Wait.Worn e = absurd (subst (Why m b.run.id b.its.begun.machine.steps (tx_at b.run.id b.run.func b.its.begun.tx) b.its.begun.machine.effect) e b.its.stopped_so.why)
      by_wait (Wait.Result j) e = absurd (called j (subst (Why m b.run.id b.its.begun.machine.steps (tx_at b.run.id b.run.func b.its.begun.tx) b.its.begun.machine.effect) e b.its.stopped_so.why))

  -- of an intent that has not ended it is one, or at the front
  pub at_front : (id : IntentId) (q : Instance) → map.get h.histories id ≡ Some q → q.outcome ≡ None → (b : Best id) → Cause ⊎ (b.its.histories.later ≡ [])
  at_front id q made none b = elim b.its.stopped_so.unanswered [
    | inl e ↦ inr (front b.number b.run b.its e)
    | inr z ↦ inl (left_of id b (unended d c m h b.run.id q (ap (map.get h.histories) b.same ∙ made) none (seat b.run).home) z.0 z.1)
  ]
