use Rattle.beldi_step.proofs.CalledInside.{stays_inherited}
use Rattle.beldi_step.proofs.laws.a_run_stays_in_its_transaction.Goals as goal

pub returns : goal.returns
returns c = stays_inherited
