-- A turn of the least live run past a number keeps the ledger, and where it does not wait the total falls by one at least.
use Rattle.beldi_histories.proofs.Begins.{false_true}
use Rattle.beldi_bound.proofs.{Going.events_go_on, StaysFull.events_stay_full}
use Rattle.beldi_bound.proofs.Going.{goes_same, goes_then}
use Rattle.std.specs.FinMap as map
use Rattle.std.proofs.Common.{◌≡◌, ℕ, ◌-◌, ◌^◌, ◌<◌, ◌≤◌, true, false, List, Some, is_some, Ok, Err, refl, sym, ap, subst, ◌∙◌}
use Rattle.beldi_value.specs.{declared.id.IntentId.IntentId}
use Rattle.beldi_tree.specs.declared.deployment.Deployment.{Deployment}
use Rattle.beldi_lang.specs.declared.effect.{Answer.Answer}
use Rattle.beldi_row.specs.{Key.RowKey, Table.Rows, declared.table.TableErr.TableErr}
use Rattle.beldi_query.specs.Query.{CameOn, rows_after}
use Rattle.beldi_call.specs.declared.async_call.AsyncAt.{AsyncAt}
use Rattle.beldi_histories.proofs.Cases.{by_option}
use Rattle.beldi_schedule.specs.Settle.{is_turned_away}
use Rattle.beldi_step.specs.{HostStep.Core, HostStep.EventOn, HostStep.counted, HostStep.ended_run, HostStep.turn_next, Next.next_run, Run.run_asks, declared.event.Event.Event, declared.event.EventReply.EventReply, declared.run.Begun.Begun, declared.run.Run.Run, declared.run.RunAt.RunAt, declared.run.Stage.Stage}
use Rattle.beldi_upkeep.specs.Checked.{has_begun, next_turn}
use Rattle.beldi_bound.specs.{Cost.AreAsked, Ends.Sound, SettleWork.has_ended, SettleWork.seat}
use Rattle.beldi_bound.proofs.{Begun.BegunKnows, Begun.begun_so, Ending.expired, Ending.failed, Ending.waits, Facts.GoesOn, FirstTurns.FirstKnows, FirstTurns.first_so, Numbers.IsLeast, ResultsCome.ResultsCome, Numbers.next_least}
use Rattle.beldi_bound.proofs.Ledger.{Ledger, TurnsPay, find}
use Rattle.beldi_bound.proofs.Frames.{Cost, Covered, Mid}
use Rattle.beldi_bound.proofs.BoundTurns.{FullStays, Paying, Ways, by_event}

module _ (d : Deployment) (room : ℕ) (e : Rows) (asked : IntentId → List Answer) (first most : ℕ) (z : Core) (sound_e : Sound d z e) (areas : AreAsked d e asked) where
  module _ (past i : ℕ) (c : Core) (m : Rows) (r : Run) (a : ℕ) (runs : List (ℕ × ℕ)) (keys : List RowKey) (sound : Sound d c m)
      (ledger : Ledger d room e asked first most past c m runs keys) (next : next_run c past ≡ Some i) (live : map.get c.runs i ≡ Some r) (has : find i runs ≡ Some a) (mine : Covered d room e asked first most past c m keys i r a) where
    -- what is known of the rows where the run is refused ..
    pub record Refused : Type 0 where
      pub ended : has_ended (map.get m (seat r)) ≡ true → 1 ≤ Cost d room e asked first most (seat r)
      pub mid : (l k : ℕ) → CameOn (run_asks r) c.now room (Err (TableErr.Full l k)) m m → (g : Begun) (w : AsyncAt) → (w ≡ AsyncAt.Open → ⊥) → r.at ≡ RunAt.Begins g → g.stage ≡ Stage.Async w → Mid d room e asked first most past c m i r g → Mid d room e asked first most i (counted c) m i r g

    -- .. and where it has its turn
    pub record Turns (alive : r.deadline < c.now → ⊥) (f : ℕ) (rows : GoesOn m (rows_after (run_asks r) c.now m)) (full : FullStays room m (rows_after (run_asks r) c.now m)) (goes : GoesOn (rows_after (run_asks r) c.now m) e) : Type 0 where
      pub firsts_know : has_begun r.at ≡ false → FirstKnows d room e asked first most past i c m r a runs keys sound ledger next live has mine alive f areas rows full goes
      pub begun_know : (g : Begun) (at : r.at ≡ RunAt.Begins g) → BegunKnows d room e asked first most past i c m r a runs keys sound ledger next live has mine alive f areas rows full goes g at

    module _ (old new : ℕ) (b : Core) (n : Rows) (x : EventReply) (sb : Sound d b n) (goes : GoesOn n e) (come : ResultsCome n e) (fewer : new < 2 ^ 64 - 1) (event : EventOn d room old new (Event.Turn i) c m b n (Ok x)) (not_away : is_turned_away x ≡ false) (refused : Refused)
        (turns : (alive : r.deadline < c.now → ⊥) (f : ℕ) (rows : GoesOn m (rows_after (run_asks r) c.now m)) (full : FullStays room m (rows_after (run_asks r) c.now m)) (goes : GoesOn (rows_after (run_asks r) c.now m) e) → ResultsCome (rows_after (run_asks r) c.now m) e → Turns alive f rows full goes) where
      abbrev N : Rows
      N = rows_after (run_asks r) c.now m

      abbrev Went : Rows → Type 0
      Went k = GoesOn m k × FullStays room m k × GoesOn k e × ResultsCome k e

      -- by where the run stands
      turned : (alive : r.deadline < c.now → ⊥) (b2 : Core) (n2 : Rows) → Sound d b2 n2 → Went n2 → (turn_next (counted c) i r (next_turn d c m r)).0 ≡ b2 → n2 ≡ N → Paying d room e asked first most past i c m r runs keys (new - old) (turn_next (counted c) i r (next_turn d c m r)) n2
      turned alive b2 n2 sound2 went b_is n_is = subst (λ k. Paying d room e asked first most past i c m r runs keys (new - old) (turn_next (counted c) i r (next_turn d c m r)) k) (sym n_is) (by_at r.at refl)
        where
          here : Went N
          here = subst Went n_is went

          sb2 : Sound d (turn_next (counted c) i r (next_turn d c m r)).0 N
          sb2 = subst (λ z. Sound d z N) (sym b_is) (subst (λ k. Sound d b2 k) n_is sound2)

          its : Turns alive (new - old) here.0 here.1 here.2
          its = turns alive (new - old) here.0 here.1 here.2 here.3

          at_first : has_begun r.at ≡ false → Paying d room e asked first most past i c m r runs keys (new - old) (turn_next (counted c) i r (next_turn d c m r)) N
          at_first yet = first_so d room e asked first most past i c m r a runs keys sound ledger next live has mine alive (new - old) areas here.0 here.1 here.2 (its.firsts_know yet) yet sb2

          by_at : (x : RunAt) → r.at ≡ x → Paying d room e asked first most past i c m r runs keys (new - old) (turn_next (counted c) i r (next_turn d c m r)) N
          by_at RunAt.Looks at = at_first (ap has_begun at)
          by_at (RunAt.Registers w) at = at_first (ap has_begun at)
          by_at (RunAt.Begins g) at = begun_so d room e asked first most past i c m r a runs keys sound ledger next live has mine alive (new - old) areas here.0 here.1 here.2 g at (its.begun_know g at) sb2

      ways : Ways d room e asked first most past i c m r runs keys (new - old) live Went
      ways = record {
        expired = λ late. expired d room e asked first most past i c m r a runs keys sound ledger next live has mine (ended_run (counted c) i) refl refl refl (new - old) late;
        failed = λ some. failed d room e asked first most past i c m r a runs keys sound ledger next live has mine (ended_run (counted c) i) refl refl refl refused.ended (new - old) some;
        full = λ l k came. waits d room e asked first most past i c m r a runs keys sound ledger next live has mine (counted c) m (new - old) (λ j. refl) refl refl (goes_same m) (λ h. (λ j none. none, h)) (refused.mid l k came);
        told = turned;
      }

      went : Went n
      went = (events_go_on d room old new (Event.Turn i) c b m n (Ok x) event, events_stay_full d room old new (Event.Turn i) c b m n (Ok x) event, goes, come)

      pub pays_so : Paying d room e asked first most past i c m r runs keys (new - old) (b, x) n
      pays_so = by_event d room e asked first most past i c m r runs keys (new - old) live old new fewer b n x not_away sb Went went ways refl event

  -- ---- the statement, from what is known of each turn
  abbrev pub AllRefused : Type 0
  AllRefused = (past i : ℕ) (c : Core) (m : Rows) (r : Run) (a : ℕ) (runs : List (ℕ × ℕ)) (keys : List RowKey) (sound : Sound d c m)
      (ledger : Ledger d room e asked first most past c m runs keys) (next : next_run c past ≡ Some i) (live : map.get c.runs i ≡ Some r) (has : find i runs ≡ Some a) (mine : Covered d room e asked first most past c m keys i r a) → GoesOn m e
      → Refused past i c m r a runs keys sound ledger next live has mine

  abbrev pub AllTurns : Type 0
  AllTurns = (past i : ℕ) (c : Core) (m : Rows) (r : Run) (a : ℕ) (runs : List (ℕ × ℕ)) (keys : List RowKey) (sound : Sound d c m)
      (ledger : Ledger d room e asked first most past c m runs keys) (next : next_run c past ≡ Some i) (live : map.get c.runs i ≡ Some r) (has : find i runs ≡ Some a) (mine : Covered d room e asked first most past c m keys i r a)
      (alive : r.deadline < c.now → ⊥) (f : ℕ) (rows : GoesOn m (rows_after (run_asks r) c.now m)) (full : FullStays room m (rows_after (run_asks r) c.now m)) (goes : GoesOn (rows_after (run_asks r) c.now m) e) → ResultsCome (rows_after (run_asks r) c.now m) e
      → Turns past i c m r a runs keys sound ledger next live has mine alive f rows full goes

module _ (d : Deployment) (room : ℕ) (e : Rows) (asked : IntentId → List Answer) (first most : ℕ)
    (refused : (z : Core) (sound_e : Sound d z e) (areas : AreAsked d e asked) → AllRefused d room e asked first most z sound_e areas)
    (turns : (z : Core) (sound_e : Sound d z e) (areas : AreAsked d e asked) → AllTurns d room e asked first most z sound_e areas) where
  pub turns_pay : TurnsPay d room e asked first most
  turns_pay past old new i c b m n x runs keys z sound sb sound_e areas goes come fewer next event not_away ledger =
      let l = subst (IsLeast c.runs past) next (next_least c past) in
      by_option (map.get c.runs i) (λ none. let clash : false ≡ true = sym (ap is_some none) ∙ l.1 in absurd (false_true clash)) (λ r live.
      let k = ledger.runs_covered i r live in
      pays_so d room e asked first most z sound_e areas past i c m r k.0 runs keys sound ledger next live k.1 k.2 old new b n x sb goes come fewer event not_away
      (refused z sound_e areas past i c m r k.0 runs keys sound ledger next live k.1 k.2 (goes_then (events_go_on d room old new (Event.Turn i) c b m n (Ok x) event) goes))
      (λ alive f rows full along results. turns z sound_e areas past i c m r k.0 runs keys sound ledger next live k.1 k.2 alive f rows full along results))
