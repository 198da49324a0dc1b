use Rattle.beldi_executor.proofs.{Names.rules, Made.none_long}
use Rattle.beldi_executor.proofs.Names.map
use Rattle.beldi_executor.proofs.instances.Instances.new.Goals as goal

pub invariant_of-result : goal.invariant_of-result
invariant_of-result c = none_long (map.from_entries c.new.result.entries) (search rules)
