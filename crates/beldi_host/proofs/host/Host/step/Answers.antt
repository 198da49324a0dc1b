use Rattle.beldi_host.proofs.Names.{Deployment, Err, Stepped, core_in, core_of, counted, no_memory, plan, reads, subst}
use Rattle.beldi_host.proofs.host.Host.step.Goals as goal

pub returns-in-Err-clause-step : goal.returns-in-Err-clause-step
returns-in-Err-clause-step g c =
    let h = c.args.self.now in
    let s = g.T.Table.state h.table in
    let w = Err c.in-Err.why in
    subst (λ (d : Deployment). Stepped d c.args.event (core_in h.core) (core_in c.plan.new.self) s s w) c.code.ensures.same
    (no_memory c.code.result.now c.args.event (core_in h.core) (core_in c.plan.new.self) w s c.in-Err.ensures)

pub returns-in-Ok-ReadsAll-clause-step : goal.returns-in-Ok-ReadsAll-clause-step
returns-in-Ok-ReadsAll-clause-step g c =
    let h = c.args.self.now in
    let k = c.halt.new.self in
    let old = g.T.Table.state h.table in
    let new = g.T.Table.state k.table in
    let d = c.code.result.now in
    let f = c.in-Ok-ReadsAll in
    subst (λ (x : Deployment). Stepped x c.args.event (core_of h) (core_of k) old new c.halt.result) c.code.ensures.same
    (reads d c.args.event (counted (core_of h)) (core_in c.plan.new.self) (core_of k) (plan d c.args.event (core_of h)) old new c.halt.result (rw f.field-0-is at f.ensures) c.halt.ensures.step)
