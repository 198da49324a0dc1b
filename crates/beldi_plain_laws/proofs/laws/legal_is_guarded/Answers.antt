use Rattle.beldi_plain_laws.proofs.LockHeld.{legal_is_guarded}
use Rattle.beldi_plain_laws.proofs.laws.legal_is_guarded.Goals as goal

pub returns : goal.returns
returns c = legal_is_guarded
