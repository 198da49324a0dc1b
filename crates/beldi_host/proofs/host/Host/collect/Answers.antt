use Rattle.std.proofs.Common.{rules}
use Rattle.beldi_step.specs.Prunes.{pruned_by}
use Rattle.beldi_host.proofs.Names.{AllocError, Core, Deployment, Pruned, Prunes, Result, core_of, counted, most_events, subst, sym, ◌<◌}
use Rattle.beldi_host.proofs.Pruned.{turn_made}
use Rattle.beldi_host.proofs.host.Host.collect.Goals as goal

pub returns-clause-prunes : goal.returns-clause-prunes
returns-clause-prunes g c =
    let h = c.args.self.now in
    let old = g.T.Table.state h.table in
    let new = g.T.Table.state c.turn-said.new.table in
    let z : Core = record (counted (core_of h)) { collectors = c.turn-said.new.self } in
    let few : (core_of h).taken < most_events = search rules in
    let turn = c.turn-said.ensures in
    subst (λ (r : Result Pruned AllocError). Prunes h.code c.args.number (core_of h) z old new r) (sym c.pruned.ensures)
    (subst (λ (d : Deployment). Prunes d c.args.number (core_of h) z old new (pruned_by c.turn-said.result)) c.code.ensures.same
    (turn_made c.code.result.now c.args.number (core_of h) few c.if-self.false c.turn-said.new.self old new c.turn-said.result turn.others turn.turned))
