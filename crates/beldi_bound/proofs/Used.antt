-- A budget is used up only by as many turns.
use Rattle.std.proofs.Common.{Bool, None, Option, Some, false, if◌then◌else◌, refl, subst, sym, true, ℕ, ◌+◌, ◌≡◌, ◌≤◌}
use Rattle.std.specs.Prelude.{nat_le}
use Rattle.std.proofs.lemmas.Bool.{leb-true}
use Rattle.beldi_tree.specs.declared.deployment.Deployment.{Deployment}
use Rattle.beldi_step.specs.{HostStep.Core, Next.next_run, declared.event.EventReply.EventReply}
use Rattle.beldi_schedule.specs.Settle.{away, begun, counted, counts, end_of, ends_round, first_at, go_on, on_reply_of, on_ic_reply, is_turned_away, is_waiting, next_of, parked, round_over, on_turn_reply}
use Rattle.beldi_schedule.specs.{Settles.Settles, Settles.State, Settles.goes, Settles.skips, Settles.stands, declared.machine.At.At, declared.machine.Next.Next, declared.machine.Settled.Settled, declared.machine.Standing.Standing, declared.machine.Standing.TheVariants.Working, declared.machine.Standing.TheVariants.Over}

module _ (budget : ℕ) where
  abbrev IsUsed : Standing → Type 0
  IsUsed (Over (Settled.Unsettled n)) = budget ≤ n
  IsUsed z = Unit {0}

  used_go_on : (s : At) → IsUsed (go_on budget s)
  used_go_on s = (elim (nat_le budget s.turns) as (λ b. nat_le budget s.turns ≡ b → IsUsed (if b then Over (Settled.Unsettled s.turns) else Working s)) [
    | true ↦ λ e. leb-true budget s.turns e
    | false ↦ λ e. tt
  ]) refl

  used_if : (b : Bool) (x y : Standing) → IsUsed x → IsUsed y → IsUsed (if b then x else y)
  used_if true x y h k = h
  used_if false x y h k = k

  used_away : (n : ℕ) (x : EventReply) → IsUsed (Over (away n x))
  used_away n EventReply.Shut = tt
  used_away n x = tt

  used_turn : (s : At) (i : ℕ) (x : EventReply) → IsUsed (on_turn_reply budget s i x)
  used_turn s i x = used_if (is_turned_away x) (Over (away s.turns x)) (if is_waiting x then Working (parked s i x) else counted budget s) (used_away s.turns x)
      (used_if (is_waiting x) (Working (parked s i x)) (counted budget s) tt (used_go_on (record s { turns = s.turns + 1; moved = true })))

  used_end : (s : At) (live : Option ℕ) → IsUsed (Over (end_of s live))
  used_end s None = tt
  used_end s (Some i) = tt

  used_round : (live : Option ℕ) (s : At) (o : Option Bool) → IsUsed (round_over live s o)
  used_round live s None = used_end s live
  used_round live s (Some true) = tt
  used_round live s (Some false) = used_end s live

  used_ic : (live : Option ℕ) (s : At) (x : EventReply) → IsUsed (on_ic_reply budget live s x)
  used_ic live s x = used_if (is_turned_away x) (Over (away s.turns x)) (if ends_round x then round_over live s s.round else if counts x then counted budget (record s { round = Some true }) else Working s) (used_away s.turns x)
      (used_if (ends_round x) (round_over live s s.round) (if counts x then counted budget (record s { round = Some true }) else Working s) (used_round live s s.round)
      (used_if (counts x) (counted budget (record s { round = Some true })) (Working s) (used_go_on (record s { turns = s.turns + 1; moved = true; round = Some true })) tt))

  used_heard : (c : Core) (n : Next) (x : EventReply) → IsUsed (on_reply_of budget c n x)
  used_heard c (Next.Turn s i) x = used_turn s i x
  used_heard c (Next.Collect s) x = used_ic (next_run c 0) s x
  used_heard c (Next.Reset s) x = used_ic (next_run c 0) (begun s) x

  used_then : {d : Deployment} {room : ℕ} {y z : Standing} {s t : State} → Settles d room budget y s z t → IsUsed y → IsUsed z
  used_then (stands z s) h = h
  used_then (goes a s z u y t first rest) h = used_then rest (subst IsUsed (sym first.next) (used_heard u.core (next_of s.core a) first.answer))
  used_then (skips a s b q y t may rest) h = used_then rest tt

pub budget_used : (d : Deployment) (room budget : ℕ) (s t : State) (n : ℕ) → Settles d room budget (go_on budget first_at) s (Over (Settled.Unsettled n)) t → budget ≤ n
budget_used d room budget s t n h = used_then budget h (used_go_on budget first_at)
