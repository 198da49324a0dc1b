-- Deadlines are near from the first moment on, and an event keeps them so.
use Rattle.std.specs.FinMap as map
use Rattle.std.specs.declared.alloc.AllocError.{AllocError}
use Rattle.std.proofs.Common.{inl, inr, ℕ, ◌+◌, ◌≤◌, Result, refl, sym, subst, arith}
use Rattle.beldi_value.specs.declared.id.IntentId.{IntentId}
use Rattle.beldi_tree.specs.declared.deployment.Deployment.{Deployment}
use Rattle.beldi_row.specs.Table.{Rows}
use Rattle.beldi_step.specs.HostStep.{Core, EventBy, Plan, asks, immediate, counted, plan, reads_all}
use Rattle.beldi_step.specs.declared.{event.Event.Event, event.EventReply.EventReply}
use Rattle.beldi_histories.specs.Stands.{key_in}
use Rattle.beldi_upkeep.specs.{Deadlines.BeginsNear, Deadlines.IsNear, Deadlines.KeepsNear, WorksFor.finish_in}
use Rattle.beldi_step.proofs.{Given.IsSoon, Given.begins_soon, Given.last_ahead, Given.last_later, Given.no_run, Given.soon_turn, StepRuns.adds_by, StepRuns.after_event}
use Rattle.beldi_upkeep.proofs.{Finishes.came, NewWork.new_work, Workers.ToldSo}

pub begins_near : BeginsNear
begins_near d newest now = record { soon = begins_soon d newest now; near = λ n r i home live. absurd (no_run n r live) }

-- a deadline that was near a finish is so after an event
rows_near : (d : Deployment) (room old new : ℕ) (e : Event) (c b : Core) (m n : Rows) (x : Result EventReply AllocError) (p : Plan) → EventBy d room old new e c p m b n x
    → (deadline : ℕ) → deadline ≤ c.now + d.life → (home : ℕ) (i : IntentId) → IsNear d.life deadline (finish_in (map.get m (key_in home i))) → IsNear d.life deadline (finish_in (map.get n (key_in home i)))
rows_near d room old new e c b m n x (immediate k y) s deadline soon home i near = subst (λ l. IsNear d.life deadline (finish_in (map.get l (key_in home i)))) (sym s.1) near
rows_near d room old new e c b m n x (asks q) s deadline soon home i near = came c.now d.life deadline soon q room s.0 m n s.2 home i near
rows_near d room old new e c b m n x reads_all s deadline soon home i near = subst (λ l. IsNear d.life deadline (finish_in (map.get l (key_in home i)))) (sym s.2.0) near

pub keeps_near : KeepsNear
keeps_near d room old new e c b m n x h seats near s =
    let soon = after_event (IsSoon d c) (ToldSo c m) d e c b near.soon (adds_by (IsSoon d c) (ToldSo c m) d e (counted c) (λ id f. omega arith) (λ i r live t told. soon_turn d c (ToldSo c m) near.soon i r live t)) x room old new m n (λ q. refl) s in
    record {
      soon = λ k r live. let le = soon.runs k r live in let later = last_later c.now b.now d.life soon.later in omega (arith, le, later);
      near = λ k r i home live works.
          let le = soon.runs k r live in
          let ahead = last_ahead c.now d.life in
          rows_near d room old new e (counted c) b m n x (plan d e c) s r.deadline (omega (arith, le, ahead)) home i (elim (new_work d room old new e c b m n x h seats s k r i live works) [
            | inl w ↦ subst (λ t. IsNear d.life t (finish_in (map.get m (key_in home i)))) w.due (near.near w.number w.run i home w.live w.works)
            | inr none ↦ subst (IsNear d.life r.deadline) (sym (none home)) tt
          ]);
    }
