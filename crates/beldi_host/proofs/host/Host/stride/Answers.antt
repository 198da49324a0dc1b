use Rattle.std.proofs.Common.{rules}
use Rattle.beldi_host.proofs.Names.{IfSome, core_in, core_of, most_events, subst, sym, ◌+◌, ◌<◌, ◌≡◌, ◌≤◌}
use Rattle.beldi_host.specs.HostStride.{Strides}
use Rattle.beldi_host.proofs.Strides.{strides_keep, strides_so}
use Rattle.beldi_host.proofs.host.Host.stride.Goals as goal

pub returns-else-turns-most-clause-strides : goal.returns-else-turns-most-clause-strides
returns-else-turns-most-clause-strides g c =
    let old = c.args.self.now in
    let t = g.T.Table.state old.table in
    let n = c.in-Some.turns in
    let some : 0 < n = search rules in
    let fits : (core_of old).taken + n ≤ most_events = search rules in
    subst (λ z. IfSome t.rows (Strides old.code t.room t.faults c.args.run n (core_of old) z)) (sym c.stride.ensures) (strides_so old.code c.args.run c.min-most.result (core_of old) t n c.in-Some.row some fits c.in-Some.ensures)

pub returns-else-turns-most-clause-right : goal.returns-else-turns-most-clause-right
returns-else-turns-most-clause-right g c =
    let old = c.args.self.now in
    let t = g.T.Table.state old.table in
    strides_keep c.an_event_keeps_the_collectors_safe.ensures old.code t.room t.faults c.args.run c.in-Some.turns (core_of old) (core_in c.stride.new.self) t.rows (returns-else-turns-most-clause-strides g c)
