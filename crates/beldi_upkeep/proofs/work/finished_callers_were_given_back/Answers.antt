use Rattle.beldi_upkeep.proofs.GivenBack.{given_back}
use Rattle.beldi_upkeep.proofs.work.finished_callers_were_given_back.Goals as goal

pub returns : goal.returns
returns c = given_back
