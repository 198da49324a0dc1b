-- All events of a settling bring results so.
use Rattle.beldi_bound.proofs.Soundly.{at_cursor, sound_on}
use Rattle.std.proofs.Common.{ℕ, Ok, refl}
use Rattle.beldi_tree.specs.declared.deployment.Deployment.{Deployment}
use Rattle.beldi_row.specs.Table.{Rows}
use Rattle.beldi_step.specs.{HostStep.Core, Next.reset}
use Rattle.beldi_invariant.{proofs.Moves.with_runs, specs.Invariant.Invariant}
use Rattle.beldi_schedule.specs.{Settle.core_for, Settle.event_of, Settle.next_of, declared.machine.Next.Next, declared.machine.Standing.Standing}
use Rattle.beldi_schedule.specs.Settles.{Settles, State, goes, skips, stands}
use Rattle.beldi_bound.specs.Ends.{Sound}
use Rattle.beldi_bound.proofs.{Coming.events_bring_results, ResultsCome.ResultsCome, ResultsCome.results_same, ResultsCome.results_then}

core_right : (d : Deployment) (m : Rows) (w : Next) (c : Core) → Invariant d c m → Invariant d (core_for w c) m
core_right d m (Next.Turn a i) c h = h
core_right d m (Next.Collect a) c h = h
core_right d m (Next.Reset a) c h = with_runs h (reset c) refl refl h.runs

module _ {d : Deployment} {room budget : ℕ} where
  pub settling_brings : {y v : Standing} {s t : State} → Settles d room budget y s v t → Sound d s.core s.rows → ResultsCome s.rows t.rows
  settling_brings (stands y s) h = results_same s.rows
  settling_brings (goes a s y u v t adv rest) h = results_then
      (events_bring_results d room s.faults u.faults (event_of (next_of s.core a)) (core_for (next_of s.core a) s.core) u.core s.rows u.rows (Ok adv.answer) (core_right d s.rows (next_of s.core a) s.core h.upkeep.invariant) adv.event)
      (settling_brings rest (sound_on h adv))
  settling_brings (skips a s b q v t may rest) h = settling_brings rest (at_cursor q h)
