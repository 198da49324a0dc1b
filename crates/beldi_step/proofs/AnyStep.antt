-- What one step says over rows that are told, and over any table: by the plan, and what its query came to.
use Rattle.std.specs.declared.alloc.AllocError.{AllocError}
use Rattle.std.proofs.Common.{◌≡◌, ◌≤◌, Result, refl, ap, sym, ◌∙◌, subst, inl, arith}
use Rattle.beldi_tree.specs.declared.deployment.Deployment.{Deployment}
use Rattle.beldi_row.{specs.Table.TableState, specs.Table.Tells, proofs.Tells.tells_map}
use Rattle.beldi_query.{specs.Query.CameOn, proofs.Queries.same_rows}
use Rattle.beldi_step.proofs.Plans.{halts_read}
use Rattle.beldi_step.specs.HostStep.{Core, Plan, immediate, asks, reads_all, plan, counted, HaltOn, StepBy, EventBy}
use Rattle.beldi_step.specs.{declared.event.Event.Event, declared.event.EventReply.EventReply, StepLaws.StepsOverRows, StepLaws.StepsOverAnyTable, StepLaws.TableAfter}

module _ (d : Deployment) (e : Event) (c b : Core) (old new : TableState) (r : Result EventReply AllocError) where
  on_rows : (p : Plan) → StepBy d e c p b old new r → Tells old.rows new.rows (λ m n. EventBy d old.room old.faults new.faults e c p m b n r)
  on_rows (immediate k y) h =
      tells_map {P = λ m n. n ≡ m} {Q = λ m n. EventBy d old.room old.faults new.faults e c (immediate k y) m b n r} old.rows new.rows (λ m n same. (h.0, same, ap (λ (s : TableState). s.faults) h.1))
      (subst (λ (s : TableState). Tells old.rows s.rows (λ m n. n ≡ m)) (sym h.1) (same_rows old.rows))
  on_rows (asks q) h =
      tells_map {P = λ m n. CameOn q c.now old.room h.0 m n} {Q = λ m n. EventBy d old.room old.faults new.faults e c (asks q) m b n r} old.rows new.rows (λ m n came. (h.0, h.1, came, h.2.cause)) h.2.rows
  on_rows reads_all h =
      tells_map {P = λ m n. HaltOn h.0 m n} {Q = λ m n. EventBy d old.room old.faults new.faults e c reads_all m b n r} old.rows new.rows (λ m n came. (h.0, h.1, came, h.2.cause)) h.2.rows

  on_table : (k : Core) (p : Plan) → plan d e k ≡ p → StepBy d e c p b old new r → TableAfter d e k old new
  on_table k (immediate z y) is h = record {
    untouched = λ x w same. h.1;
    room = ap (λ (s : TableState). s.room) h.1;
    calls = λ apart. inl (ap (λ (s : TableState). s.calls) h.1);
    later = subst (λ (s : TableState). old.faults ≤ s.faults) (sym h.1) (omega arith);
  }
  on_table k (asks q) is h = record { untouched = λ x w same. let clash = sym is ∙ same in cc; room = h.2.room; calls = λ apart. h.2.calls; later = h.2.cause.later }
  on_table k reads_all is h = record { untouched = λ x w same. let clash = sym is ∙ same in cc; room = h.2.room; calls = λ apart. let clash = sym (halts_read d e k is) ∙ apart in cc; later = h.2.cause.later }

pub over_rows : StepsOverRows
over_rows d e c b old new r h = on_rows d e (counted c) b old new r (plan d e c) h

pub over_any_table : StepsOverAnyTable
over_any_table d e c b old new r h = on_table d e (counted c) b old new r c (plan d e c) refl h
