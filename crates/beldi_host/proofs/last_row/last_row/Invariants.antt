use Rattle.beldi_host.proofs.{LastRows.Follows, HostSteps.Surveying}
use Rattle.beldi_chain.specs.Chain.{chain}
use Rattle.beldi_host.proofs.last_row.last_row.Given as goal

abbrev pub invariant-loop : goal.invariant-loop
invariant-loop g l =
    let t = g.T.Table in
    Surveying (λ m. Follows (chain m l.head) l.row) (t.state l.fn.table) (t.state l.table)
