use Rattle.beldi_executor.proofs.Names.{Begins, Deployment, Err, Executor, IntentId, IsKept, Ok, CommittedSo, StandsAtBegin, ap, subst, sym, ◌∙◌}
use Rattle.beldi_executor.proofs.{Bars.no_commit, ExecutorKept.transacted}
use Rattle.beldi_executor.proofs.plain.Plain.commit_tx.Goals as goal

pub returns-in-Err-clause-did : goal.returns-in-Err-clause-did
returns-in-Err-clause-did c =
    let d = c.args.self.now.code in
    let p = c.args.self.now.state in
    no_commit d p c.begin.new.self.state c.args.id.now c.in-Err.why
    (subst (λ (i : IntentId). StandsAtBegin d p i (Err c.in-Err.why)) c.in_ok-id.ensures c.in-Err.ensures.stands)
    (ap (λ (x : Executor). x.state) c.begin.ensures.same)

pub invariant_of-self-2 : goal.invariant_of-self-2
invariant_of-self-2 c =
    let id = c.in_ok-id.id in
    let state = c.self-2.inside.state in
    let b = subst (λ (x : Executor). Begins x.code x.state id c.in-Ok.machine) (sym (c.self-2.view_is ∙ c.begin.ensures.same)) c.in-Ok.ensures.stands in
    let q = b.free.ready.instance in
    let owner = c.in_ok-owner.owner in
    let done = subst (λ (d : Deployment). CommittedSo d state id q c.commit_tx.new.self (Ok owner)) c.code.ensures.same (c.in_ok-owner.ensures q b.free.ready.made) in
    transacted c.self-2.inside.code.now state c.commit_tx.new.self c.self-2.inside.machines c.keep.new.self id owner.machine c.self-2.invariant done.3 done.0
    (subst (λ (i : IntentId). IsKept c.self-2.inside.machines c.keep.new.self i owner.machine) done.1 c.keep.ensures)
