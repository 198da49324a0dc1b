use Rattle.beldi_invokelog.proofs.InvokedCalls.{results_set}
use Rattle.beldi_invokelog.proofs.laws.a_result_is_set_once.Goals as goal

pub returns : goal.returns
returns c = results_set
