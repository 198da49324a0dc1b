use Rattle.beldi_upkeep.proofs.NewWork.{new_work}
use Rattle.beldi_upkeep.proofs.work.no_run_begins_to_work_for_the_finished.Goals as goal

pub returns : goal.returns
returns c = new_work
