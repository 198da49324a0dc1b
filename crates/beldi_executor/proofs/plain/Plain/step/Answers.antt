use Rattle.beldi_executor.proofs.Names.{DidStep, Err, Executor, IntentId, IsFree, NotEnabled, OtherEffect, PlainState, ap, rules, subst, sym, ◌∙◌}
use Rattle.beldi_executor.proofs.Bars.{not_built}
use Rattle.beldi_executor.proofs.plain.Plain.step.Goals as goal

pub returns-then-not-is_made-clause-did : goal.returns-then-not-is_made-clause-did
returns-then-not-is_made-clause-did c =
    let d = c.args.self.now.code in
    let p = c.args.self.now.state in
    let m = c.in-Ok.machine in
    let ready = subst (λ (i : IntentId). IsFree d p i m) c.in_ok-id.ensures c.in-Ok.ensures.stands in
    let same = ap (λ (x : Executor). x.state) (c.keep.ensures ∙ c.in-Ok.ensures.same) in
    subst (λ (q : PlainState). DidStep d c.args.id.now p q (Err (NotEnabled OtherEffect))) (sym same) (not_built d p c.args.id.now m ready (search rules))
