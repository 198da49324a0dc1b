use Rattle.beldi_upkeep.proofs.NewWork.{work_bound}
use Rattle.beldi_upkeep.proofs.work.whom_a_run_works_for_is_bound.Goals as goal

pub returns : goal.returns
returns c = work_bound
