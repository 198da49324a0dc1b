use Rattle.beldi_host.proofs.HostSteps.{Listed, Surveying}
use Rattle.beldi_host.proofs.survey.list_tables.Given as goal

abbrev pub invariant-loop : goal.invariant-loop
invariant-loop g l =
    let t = g.T.Table in
    Surveying (Listed l.code l.text l.at) (t.state l.fn.table) (t.state l.table)
