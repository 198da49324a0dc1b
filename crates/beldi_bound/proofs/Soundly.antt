-- An event of a settling leaves the host sound; and where the intent collector stands is nothing that has to be.
use Rattle.beldi_schedule.specs.Settles.{Settles, goes, skips, stands}
use Rattle.std.specs.Prelude.{Ok}
use Rattle.std.proofs.Common.{List, [], append-nil, refl, sym, ap, slice_get, ◌++◌, ◌∙◌, ◌≡◌, ℕ}
use Rattle.beldi_tree.specs.declared.deployment.Deployment.{Deployment}
use Rattle.beldi_book.specs.declared.entry.Entry.{Entry}
use Rattle.beldi_plain.specs.Replies.{starts_of}
use Rattle.beldi_row.specs.{Key.RowKey, Key.least_key, Table.Rows}
use Rattle.beldi_step.specs.{HostStep.Core, EventContent.bound_of, declared.event.EventReply.EventReply}
use Rattle.beldi_schedule.specs.{Settle.core_for, Settle.event_of, Settle.next_of, Settles.Advances, Settles.State, declared.machine.At.At, declared.machine.Next.Next, declared.machine.Standing.Standing}
use Rattle.beldi_invariant.{proofs.Moves.with_runs, proofs.Starts.starts_bound}
use Rattle.beldi_upkeep.{proofs.Together.keeps_upkeep, specs.Checked.StartsAreOfIt}
use Rattle.beldi_bound.specs.Ends.{Sound}

-- ---- where the intent collector stands
pub at_cursor : {d : Deployment} {c : Core} {m : Rows} (k : RowKey) → Sound d c m → Sound d (record c { cursor = k }) m
at_cursor {d} {c} {m} k h = let u = h.upkeep in record {
  upkeep = record { invariant = with_runs u.invariant (record c { cursor = k }) refl refl u.invariant.runs; seats = u.seats; owe = record { each = u.owe.each }; past = u.past; passes = record { each = u.passes.each }; near = record { soon = u.near.soon; near = u.near.near }; started = u.started };
  rules = h.rules;
  starts = h.starts;
}

pub sound_for : {d : Deployment} {c : Core} {m : Rows} (n : Next) → Sound d c m → Sound d (core_for n c) m
sound_for {d} {c} {m} (Next.Turn a i) h = h
sound_for {d} {c} {m} (Next.Collect a) h = h
sound_for {d} {c} {m} (Next.Reset a) h = at_cursor least_key h

-- ---- no event of a settling binds a root
none_bound : (n : Next) (x : EventReply) → bound_of (event_of n) x ≡ []
none_bound (Next.Turn a i) (EventReply.Bound t j) = refl
none_bound (Next.Turn a i) x = refl
none_bound (Next.Collect a) (EventReply.Bound t j) = refl
none_bound (Next.Collect a) x = refl
none_bound (Next.Reset a) (EventReply.Bound t j) = refl
none_bound (Next.Reset a) x = refl

-- so the book starts what it started
starts_stay : (d : Deployment) (old new : List Entry) → starts_of new ≡ starts_of old → StartsAreOfIt d old → StartsAreOfIt d new
starts_stay d old new same h t f s = h t f (record { number = s.number; args = s.args; there = ap (λ xs. slice_get xs s.number) (sym same) ∙ s.there })

pub sound_on : {d : Deployment} {room budget : ℕ} {a : At} {s u : State} {z : Standing} → Sound d s.core s.rows → Advances d room budget a s u z → Sound d u.core u.rows
sound_on {d} {room} {budget} {a} {s} {u} {z} h adv =
    let n = next_of s.core a in
    let k = sound_for n h in
    let bound = starts_bound d room s.faults u.faults (event_of n) (core_for n s.core) u.core s.rows u.rows (Ok adv.answer) adv.event in
    record {
      upkeep = keeps_upkeep d room s.faults u.faults (event_of n) (core_for n s.core) u.core s.rows u.rows (Ok adv.answer) k.upkeep adv.event;
      rules = h.rules;
      starts = starts_stay d (core_for n s.core).book u.core.book (bound ∙ ap (λ xs. starts_of (core_for n s.core).book ++ xs) (none_bound n adv.answer) ∙ append-nil _) k.starts;
    }

-- all events of a settling
pub sound_then : {d : Deployment} {room budget : ℕ} {y z : Standing} {s t : State} → Settles d room budget y s z t → Sound d s.core s.rows → Sound d t.core t.rows
sound_then (stands z s) h = h
sound_then (goes a s z u y t first rest) h = sound_then rest (sound_on h first)
sound_then (skips a s b q y t may rest) h = sound_then rest (at_cursor q h)
