use Rattle.beldi_gateway.proofs.Names.{Moves, [], length, take, ◌-◌, ◌≤◌}
use Rattle.beldi_gateway.proofs.send.send.Given as goal

abbrev pub invariant-loop-at : goal.invariant-loop-at
invariant-loop-at g l =
    let n = g.N.Link in
    record {
      within : l.at ≤ length l.bytes;
      later : n.faults l.fn.link ≤ n.faults l.link;
      refusals : n.refusals l.fn.link ≤ n.refusals l.link;
      moves : Moves [] (take l.at l.bytes) (n.seen l.fn.link) (n.seen l.link);
    }

abbrev pub decreases-loop-at : goal.decreases-loop-at
decreases-loop-at g l = length l.bytes - l.at
