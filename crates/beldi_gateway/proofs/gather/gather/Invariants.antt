use Rattle.beldi_gateway.proofs.Names.{Moves, [], length, scan_on, start, ◌-◌, ◌≡◌, ◌≤◌}
use Rattle.beldi_gateway.proofs.gather.gather.Given as goal

abbrev pub invariant-loop-scan : goal.invariant-loop-scan
invariant-loop-scan g l =
    let n = g.N.Link in
    record {
      later : n.faults l.fn.link ≤ n.faults l.link;
      refusals : n.refusals l.fn.link ≤ n.refusals l.link;
      moves : Moves l.bytes.items [] (n.seen l.fn.link) (n.seen l.link);
      scan : l.scan ≡ scan_on start l.bytes.items;
      short : length l.bytes.items ≤ 16384;
      size : l.scan.size ≤ length l.bytes.items;
      lines : l.scan.lines ≤ length l.bytes.items;
    }

abbrev pub decreases-loop-scan : goal.decreases-loop-scan
decreases-loop-scan g l = 16384 - length l.bytes.items
