use Rattle.beldi_executor.proofs.{Names.Executor, Names.IsReady, Names.subst, Names.sym, ExecutorKept.back_stand}
use Rattle.beldi_executor.proofs.plain.Plain.keep.Goals as goal

pub invariant_of-self : goal.invariant_of-self
invariant_of-self c =
    let ready = subst (λ (x : Executor). IsReady x.code x.state c.args.id c.args.machine) (sym c.self.view_is) c.requires in
    back_stand c.self.inside.code.now c.self.inside.state c.self.inside.machines c.keep.new.self c.args.id c.args.machine c.self.invariant ready c.keep.ensures
