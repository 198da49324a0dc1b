use Rattle.beldi_executor.proofs.{Names.rules, ExecutorKept.none_stand}
use Rattle.beldi_executor.proofs.plain.Plain.new.Goals as goal

pub invariant_of-result : goal.invariant_of-result
invariant_of-result c = none_stand c.args.code.now c.new.result.made c.new-2.result (search rules)
