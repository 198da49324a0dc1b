use Rattle.beldi_upkeep.proofs.Asking.{asks_for_work}
use Rattle.beldi_upkeep.proofs.work.runs_ask_for_rows_of_their_work.Goals as goal

pub returns : goal.returns
returns c = asks_for_work
