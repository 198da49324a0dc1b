use Rattle.beldi_invariant.proofs.Starts.{instances_go_on}
use Rattle.beldi_invariant.proofs.laws.instances_go_on.Goals as goal

pub returns : goal.returns
returns c = instances_go_on
