use Rattle.std.proofs.Common.{◌≤◌, length}
use Rattle.beldi_outside.specs.Outside.{Observed, WrotePrefix}
use Rattle.beldi_outside.proofs.transfer.write_all.Given as goal

abbrev pub invariant-loop-rest : goal.invariant-loop-rest
invariant-loop-rest g l =
    let k = g.K.Sink in
    record {
      later : k.faults l.fn.sink ≤ k.faults l.sink;
      bytes : Observed (k.held l.fn.sink) (k.held l.sink) (WrotePrefix l.bytes l.rest);
    }

abbrev pub decreases-loop-rest : goal.decreases-loop-rest
decreases-loop-rest g l = length l.rest
