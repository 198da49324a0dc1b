use Rattle.beldi_executor.proofs.{Names.rules, ExecutorKept.started}
use Rattle.beldi_executor.proofs.plain.Plain.start.Goals as goal

pub invariant_of-self-2 : goal.invariant_of-self-2
invariant_of-self-2 c = started c.self.inside.code.now c.self.inside.state c.set_instance.new.self c.self.inside.machines c.root-id.result c.new.result c.self.invariant (search rules) c.in_ok-set_instance.ensures.ok
