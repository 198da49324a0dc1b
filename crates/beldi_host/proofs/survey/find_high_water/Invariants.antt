use Rattle.beldi_host.proofs.Names.{◌≤◌, ◌^◌}
use Rattle.beldi_host.proofs.HostSteps.{Marks, Surveying}
use Rattle.beldi_host.proofs.survey.find_high_water.Given as goal

abbrev pub invariant-loop : goal.invariant-loop
invariant-loop g l =
    let t = g.T.Table in
    Surveying (Marks l.ticket l.moment l.at) (t.state l.fn.table) (t.state l.table) × (l.moment ≤ 2 ^ 62)
