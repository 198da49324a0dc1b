use Rattle.beldi_executor.proofs.Names.{Deployment, Effect, Executor, Follows, IsFree, IsNumber, Made, Ok, ap, is_some, subst, sym, waits_at, wants_answer, ◌∙◌}
use Rattle.beldi_executor.proofs.ExecutorKept.{step_stands}
use Rattle.beldi_executor.proofs.plain.Plain.make.Goals as goal

pub invariant_of-self-2 : goal.invariant_of-self-2
invariant_of-self-2 c =
    let d = c.self.inside.code.now in
    let state = c.self.inside.state in
    let free : IsFree d state c.args.id c.args.machine = subst (λ (x : Executor). IsFree x.code x.state c.args.id c.args.machine) (sym c.self.view_is) c.requires.0 in
    let q = free.ready.instance in
    let number : IsNumber c.steps.result q c.wants.result.now = λ w. c.steps.ensures.number d q.func q.args (is_some q.enclosing) q.answers (free.ready.stands.1 (sym (ap wants_answer c.wants.ensures.effect) ∙ w)) in
    let idle = ap (waits_at state.made c.args.id q) (c.wants.ensures.effect ∙ free.ready.stands.0) ∙ free.free in
    let made = subst (λ (e : Effect). Made state c.make-made.new.self c.args.id q e (Ok c.in-Ok.next)) c.wants.ensures.effect (c.in-Ok.ensures q free.ready.made number idle) in
    step_stands d state c.make-made.new.self c.self.inside.machines c.follow.new.self c.args.id c.args.machine c.in-Ok.next c.self.invariant free made
    (subst (λ (d : Deployment). Follows d c.self.inside.machines c.follow.new.self c.args.id c.args.machine c.in-Ok.next) c.code.ensures.same c.follow.ensures)
