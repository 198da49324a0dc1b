-- A turn of a log collector, over rows that are told, and over any table.
use Rattle.std.specs.declared.alloc.AllocError.{AllocError}
use Rattle.std.proofs.Common.{◌≡◌, ◌≤◌, ℕ, Option, Some, None, Result, Ok, Err, refl, ap, sym, ◌∙◌, subst, inl, arith}
use Rattle.beldi_tree.specs.declared.deployment.Deployment.{Deployment}
use Rattle.beldi_row.{specs.Table.HasCause, specs.Table.Rows, specs.Table.TableState, specs.Table.Tells, specs.declared.table.TableErr.TableErr, proofs.Tells.tells_map}
use Rattle.beldi_query.{specs.Query.QueryReply, specs.Walk.Heeds, proofs.Queries.same_rows}
use Rattle.beldi_prune.{specs.Collectors.collector_at, specs.PruneLaws.TurnedOn, proofs.Tables.tables_turned}
use Rattle.beldi_step.specs.{HostStep.Core, Prunes.IsPruned, Prunes.PrunesBy, Prunes.PrunesOnBy, Prunes.PruningsOverAnyTable, Prunes.PruningsOverRows, Prunes.bar_of, Prunes.taken, declared.event.Pruned.Pruned}

-- where a walk heeds what its query came to, its error has a cause
heeds : {W X : Type 0} (f : QueryReply → W) (g : QueryReply → X) (w x : W) (old new : ℕ) (s : Result X TableErr) (t : Result QueryReply TableErr) → Heeds f g w x s t → HasCause old new t → HasCause old new s
heeds f g w x old new (Ok s) t h c = record { later = c.later; failed = λ is. let clash = is in cc }
heeds f g w x old new (Err e) (Ok t) h c = record { later = c.later; failed = λ is. let clash = ap (λ z. Err z) (sym h.1) ∙ is in cc }
heeds f g w x old new (Err e) (Err v) h c = record { later = c.later; failed = λ is. let out : e ≡ TableErr.Failed = cc in c.failed (ap (λ z. Err z) (sym h.1 ∙ out)) }

module _ (d : Deployment) (k : ℕ) (b : Core) (old new : TableState) (r : Result Pruned AllocError) where
  on_rows : (o : Option Pruned) (c : Core) → PrunesBy o d k c b old new r → Tells old.rows new.rows (λ m n. PrunesOnBy o d old.faults new.faults k c m b n r)
  on_rows (Some y) c h =
      tells_map {P = λ m n. n ≡ m} {Q = λ m n. PrunesOnBy (Some y) d old.faults new.faults k c m b n r} old.rows new.rows (λ m n same. (h.0, h.1, same, ap (λ (s : TableState). s.faults) h.2))
      (subst (λ (s : TableState). Tells old.rows s.rows (λ m n. n ≡ m)) (sym h.2) (same_rows old.rows))
  on_rows None c h =
      let w = collector_at c.collectors k in
      tells_map {P = λ m n. TurnedOn c.newest d.life c.now w h.1 m n h.0} {Q = λ m n. PrunesOnBy None d old.faults new.faults k c m b n r} old.rows new.rows
      (λ m n turned. (h.0, h.1, turned, h.3, h.4, heeds _ _ _ _ old.faults new.faults h.0 h.2.0 h.2.1 h.2.2.cause)) (tables_turned c.newest d.life c.now w h.1 old new h.0 h.2)

  on_table : (o : Option Pruned) (c : Core) → PrunesBy o d k c b old new r → IsPruned old new
  on_table (Some y) c h = record {
    room = ap (λ (s : TableState). s.room) h.2;
    calls = inl (ap (λ (s : TableState). s.calls) h.2);
    later = subst (λ (s : TableState). old.faults ≤ s.faults) (sym h.2) (omega arith);
  }
  on_table None c h = record { room = h.2.2.room; calls = h.2.2.calls; later = h.2.2.cause.later }

pub over_rows : PruningsOverRows
over_rows d k c b old new r h = on_rows d k b old new r (bar_of c) (taken c) h

pub over_any_table : PruningsOverAnyTable
over_any_table d k c b old new r h = on_table d k b old new r (bar_of c) (taken c) h
