use Rattle.beldi_executor.proofs.{Names.Executor, Names.IfSome, Names.IsReady, Names.subst, ExecutorKept.rest_stand, ExecutorKept.taken_so}
use Rattle.beldi_executor.proofs.plain.Plain.take.Goals as goal

pub invariant_of-self : goal.invariant_of-self
invariant_of-self c = rest_stand c.self.inside.code.now c.self.inside.state.made c.self.inside.machines c.take.new.self c.args.id.now c.self.invariant c.take.ensures.rest

pub returns-clause-stands : goal.returns-clause-stands
returns-clause-stands c =
    subst (λ (x : Executor). IfSome c.take.result (λ m. IsReady x.code x.state c.args.id.now m)) c.self.view_is
    (taken_so c.self.inside.code.now c.self.inside.state c.self.inside.machines c.args.id.now c.take.result c.self.invariant c.take.ensures.machine)
