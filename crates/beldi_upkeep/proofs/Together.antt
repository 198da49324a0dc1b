-- All of it together.
use Rattle.beldi_invariant.proofs.Events.{begins, keeps_invariant}
use Rattle.beldi_step.specs.HostStep.{first_core}
use Rattle.beldi_upkeep.specs.Upkeep.{BeginsUpkept, KeepsUpkeep}
use Rattle.beldi_upkeep.proofs.{Nearness.begins_near, Nearness.keeps_near, Past.keeps_past, Past.past_begins, Roots.no_root as no_root_at_first, Started.roots_stay_started, Upkept.keeps_seats, Upkept.seats_begin}

pub begins_upkept : BeginsUpkept
begins_upkept d now = record { invariant = begins d now; seats = (seats_begin now).0; owe = (seats_begin now).1; past = (past_begins now).0; passes = (past_begins now).1; near = begins_near d 0 now; started = (no_root_at_first d (first_core 0 now)).1 }

pub keeps_upkeep : KeepsUpkeep
keeps_upkeep d room old new e c b m n r h s =
    let k = keeps_seats d room old new e c b m n r h.invariant h.seats h.owe s in
    let p = keeps_past d room old new e c b m n r h.invariant h.past h.passes s in
    record {
      invariant = keeps_invariant d room old new e c b m n r h.invariant s;
      seats = k.0;
      owe = k.1;
      past = p.0;
      passes = p.1;
      near = keeps_near d room old new e c b m n r h.invariant h.seats h.near s;
      started = roots_stay_started d room old new e c b m n r h.invariant h.started s;
    }
