use Rattle.beldi_invokelog.proofs.InvokedCalls.{results_told}
use Rattle.beldi_invokelog.proofs.laws.a_result_is_told.Goals as goal

pub returns : goal.returns
returns c = results_told
