-- Each turn pays, where no first turn that finds its body is over.
use Rattle.beldi_bound.proofs.{Going.goes_then}
use Rattle.std.specs.FinMap as map
use Rattle.std.proofs.Common.{◌≡◌, ℕ, ◌<◌, false, List, Some}
use Rattle.beldi_value.specs.declared.id.IntentId.{IntentId}
use Rattle.beldi_tree.specs.declared.deployment.Deployment.{Deployment}
use Rattle.beldi_lang.specs.declared.effect.Answer.{Answer}
use Rattle.beldi_row.specs.{Key.RowKey, Table.Rows}
use Rattle.beldi_query.specs.Query.{rows_after}
use Rattle.beldi_step.specs.{HostStep.Core, Next.next_run, Run.run_asks, declared.run.Run.Run}
use Rattle.beldi_upkeep.{proofs.Started.started_of_it, specs.Checked.NoFirstTurnIsOver, specs.Checked.has_begun}
use Rattle.beldi_bound.specs.{Cost.AreAsked, Ends.Sound, SettleWork.seat}
use Rattle.beldi_bound.proofs.{Facts.GoesOn, FirstHistories.begins_open, FirstHistories.ended_costs, FirstHistories.over_ended, FirstHistories.registers_costs, FirstTurns.FirstKnows, Frames.Covered, Frames.ended_stays, OfHistories.begun_knows, Refusing.all_refused, BoundTurns.FullStays}
use Rattle.beldi_bound.proofs.Ledger.{Ledger, TurnsPay, find}
use Rattle.beldi_bound.proofs.TurnsPay.{AllTurns, turns_pay}

module _ (no_first : NoFirstTurnIsOver) (d : Deployment) (room : ℕ) (e : Rows) (asked : IntentId → List Answer) (first most : ℕ) (areas : AreAsked d e asked) (past i : ℕ) (c : Core) (m : Rows) (r : Run) (a : ℕ) (runs : List (ℕ × ℕ)) (keys : List RowKey) (sound : Sound d c m)
    (ledger : Ledger d room e asked first most past c m runs keys) (next : next_run c past ≡ Some i) (live : map.get c.runs i ≡ Some r) (has : find i runs ≡ Some a) (mine : Covered d room e asked first most past c m keys i r a)
    (alive : r.deadline < c.now → ⊥) (f : ℕ) (rows : GoesOn m (rows_after (run_asks r) c.now m)) (full : FullStays room m (rows_after (run_asks r) c.now m)) (goes : GoesOn (rows_after (run_asks r) c.now m) e) (yet : has_begun r.at ≡ false) where
  pub first_knows : FirstKnows d room e asked first most past i c m r a runs keys sound ledger next live has mine alive f areas rows full goes
  first_knows = record {
    open_still = λ s goes_next. begins_open d c m i r sound live yet s goes_next;
    ended = λ none looks. let over = over_ended d c m i r sound live no_first started_of_it yet none (λ at. let h = looks at in (h.body, h.there, h.func)) in
        (ended_stays rows (seat r) over, ended_costs d c m i r sound live room e asked first most (goes_then rows goes) over);
    registers = λ b at. registers_costs d c m i r sound live room e asked first most goes b at;
  }

module _ (no_first : NoFirstTurnIsOver) (d : Deployment) (room : ℕ) (e : Rows) (asked : IntentId → List Answer) (first most : ℕ) where
  all_turns : (z : Core) (sound_e : Sound d z e) (areas : AreAsked d e asked) → AllTurns d room e asked first most z sound_e areas
  all_turns z sound_e areas past i c m r a runs keys sound ledger next live has mine alive f rows full goes come = record {
    firsts_know = first_knows no_first d room e asked first most areas past i c m r a runs keys sound ledger next live has mine alive f rows full goes;
    begun_know = λ g at. begun_knows d room e asked first most past i c m r a runs keys sound ledger next live has mine alive f areas rows full goes g at z sound_e come;
  }

  pub turns_paid : TurnsPay d room e asked first most
  turns_paid = turns_pay d room e asked first most
      (all_refused d room e asked first most) all_turns
