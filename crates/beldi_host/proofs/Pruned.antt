-- A log collector makes a turn.
use Rattle.std.proofs.Common.{lt-ltb}
use Rattle.beldi_prune.specs.{Collectors.collector_at, Collectors.set_collector, Prune.anew, Prune.prune_asks, Prune.prune_next, Prune.prune_output}
use Rattle.beldi_prune.specs.declared.collector.{GcOutput.GcOutput, LogCollector.LogCollector}
use Rattle.beldi_step.specs.Prunes.{PrunesBy, bar_of, pruned_by, taken}
use Rattle.beldi_query.specs.Walk.{Turned}
use Rattle.beldi_host.proofs.Names.{Core, Deployment, List, None, Option, Pruned, Prunes, Result, Some, TableErr, TableState, ap, counted, false, if◌then◌else◌, most_events, refl, subst, sym, ℕ, ◌<◌, ◌∙◌, ◌≡◌}

-- where the host is neither spent nor shut, the turn of this collector is that of the host
module _ (d : Deployment) (k : ℕ) (c : Core) (few : c.taken < most_events) (unshut : c.shut ≡ false) where
  no_bar : bar_of c ≡ None
  no_bar = ap (λ b. if b then (if c.shut then Some Pruned.Shut else None) else Some Pruned.Spent) (lt-ltb c.taken most_events few) ∙ ap (λ b. if b then Some Pruned.Shut else None) unshut

  is_taken : taken c ≡ counted c
  is_taken = ap (λ b. if b then counted c else c) (lt-ltb c.taken most_events few)

  pub turn_made : (cs : List LogCollector) (old new : TableState) (s : Result GcOutput TableErr) → cs ≡ set_collector c.collectors k (collector_at cs k)
      → (let w : LogCollector = collector_at c.collectors k in Turned (prune_asks d.life w) c.now (prune_next c.newest d.life c.now w) (prune_output w) (anew w) (collector_at cs k) old new s)
      → Prunes d k c (record (counted c) { collectors = cs }) old new (pruned_by s)
  turn_made cs old new s others turned =
      let z : Core = record (counted c) { collectors = cs } in
      subst (λ (o : Option Pruned). PrunesBy o d k (taken c) z old new (pruned_by s)) (sym no_bar)
      (subst (λ (y : Core). PrunesBy None d k y z old new (pruned_by s)) (sym is_taken) (s, collector_at cs k, turned, ap (λ l. record (counted c) { collectors = l }) others, refl))
