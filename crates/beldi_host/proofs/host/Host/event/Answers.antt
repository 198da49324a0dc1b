use Rattle.beldi_host.proofs.{Names.core_of, Names.rules, HostInvariant.event_keeps, HostInvariant.event_stays, HostInvariant.never_gone, HostInvariant.ends_late}
use Rattle.beldi_host.proofs.host.Host.event.Goals as goal

pub returns-clause-right : goal.returns-clause-right
returns-clause-right g c =
    let t = g.T.Table in
    let h = c.args.self.now in
    let k = c.carry_out.new.self in
    event_keeps h.code c.args.event (core_of h) (core_of k) (t.state h.table) (t.state k.table) c.carry_out.result c.carry_out.ensures.step c.an_event_keeps_the_collectors_safe.ensures k.code c.carry_out.ensures.code

pub returns-clause-answers_stay : goal.returns-clause-answers_stay
returns-clause-answers_stay g c = search (rules, event_stays)

pub returns-clause-has_rows : goal.returns-clause-has_rows
returns-clause-has_rows g c = search (rules, never_gone)

pub returns-clause-in_time : goal.returns-clause-in_time
returns-clause-in_time g c = search (rules, ends_late)
