use Rattle.std.proofs.Common.{List, ℕ, ◌≤◌}
use Rattle.beldi_session.specs.Session.{Writes}
use Rattle.beldi_serve.specs.ServedConnections.{Passes, sight}
use Rattle.beldi_serve.proofs.Serving.{SoFar}
use Rattle.beldi_serve.proofs.connections.serve.Given as goal

abbrev pub invariant-loop-number : goal.invariant-loop-number
invariant-loop-number g l =
    let k = g.K.Sink in
    let n = g.N.Link in
    record {
      told : (w : List ℕ) × Writes (k.held l.fn.sink) (k.held l.sink) w × Passes (SoFar g.C.Clock.tells l.number w) (sight l.fn.desk.host (n.seen l.fn.link) l.fn.clock) (sight l.desk.host (n.seen l.link) l.clock);
      later : k.faults l.fn.sink ≤ k.faults l.sink;
      refusals : n.refusals l.fn.link ≤ n.refusals l.link;
    }
