use Rattle.beldi_daal.proofs.Logged.{writes_are_logged}
use Rattle.beldi_daal.proofs.laws.a_chain_is_a_logged_cell.Goals as goal

pub returns : goal.returns
returns c = writes_are_logged
