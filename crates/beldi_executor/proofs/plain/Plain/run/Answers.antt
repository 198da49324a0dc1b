use Rattle.beldi_executor.proofs.Names.{Err, OutOfMemory, PlainErr, Ran, Result, linear, rules, subst, sym, ◌≡◌}
use Rattle.beldi_executor.proofs.ExecutorRuns.{none_done}
use Rattle.beldi_executor.proofs.plain.Plain.run.Goals as goal

pub returns-in_err-order-clause-ran : goal.returns-in_err-order-clause-ran
returns-in_err-order-clause-ran c =
    let p = c.args.self.now in
    let es = linear c.args.book.now.entries in
    let same : c.from_residual.result ≡ Err OutOfMemory = search rules in
    subst (λ (r : Result (Unit {0}) PlainErr). Ran p.code es p.state p.state r) (sym same) (none_done p.code p.state es)
