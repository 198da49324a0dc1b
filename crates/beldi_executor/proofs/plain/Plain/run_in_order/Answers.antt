use Rattle.beldi_executor.proofs.Names.{Deployment, Did, Err, Ok, arith, rules, subst, ◌∙◌}
use Rattle.beldi_executor.proofs.ExecutorRuns.{goes_on, stops, within}
use Rattle.beldi_executor.proofs.plain.Plain.run_in_order.Goals as goal

pub returns-in-Err-clause-ran : goal.returns-in-Err-clause-ran
returns-in-Err-clause-ran c =
    let p = c.args.self.now in
    let q = c.loop-at.self.state in
    let r = c.carry_out.new.self.state in
    let e = c.in-Some.entry.now in
    let did = subst (λ (d : Deployment). Did d e q r (Err c.in-Err.why)) c.loop-at.invariant.0 c.in-Err.ensures.did in
    stops p.code p.state q r c.args.order.now.entries c.loop-at.at e c.in-Err.why (search rules) c.loop-at.invariant.1 did

pub unreachable-requires : goal.unreachable-requires
unreachable-requires c = within c.args.order.now.entries c.loop-at.at (omega arith) (search rules)

pub loop-at-preserved : goal.loop-at-preserved
loop-at-preserved c =
    let p = c.args.self.now in
    let q = c.loop-at.self.state in
    let r = c.carry_out.new.self.state in
    let e = c.in-Some.entry.now in
    let did = subst (λ (d : Deployment). Did d e q r (Ok c.in-Ok.field-0)) c.loop-at.invariant.0 c.in-Ok.ensures.did in
    (c.carry_out.ensures.code ∙ c.loop-at.invariant.0, goes_on p.code p.state q r c.args.order.now.entries c.loop-at.at e c.in-Ok.field-0 (search rules) c.loop-at.invariant.1 did)
