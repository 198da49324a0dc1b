use Rattle.beldi_gateway.proofs.Names.{Gathers, length, ◌-◌, ◌≤◌}
use Rattle.beldi_gateway.proofs.gather.fill.Given as goal

abbrev pub invariant-loop-body : goal.invariant-loop-body
invariant-loop-body g l =
    let n = g.N.Link in
    record {
      later : n.faults l.fn.link ≤ n.faults l.link;
      refusals : n.refusals l.fn.link ≤ n.refusals l.link;
      gathers : Gathers (n.seen l.fn.link) (n.seen l.link) l.fn.body.items l.body.items;
    }

abbrev pub decreases-loop-body : goal.decreases-loop-body
decreases-loop-body g l = l.size - length l.body.items
