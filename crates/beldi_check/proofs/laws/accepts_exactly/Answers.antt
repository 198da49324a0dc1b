use Rattle.beldi_check.proofs.Keeps.{accepts_exactly}
use Rattle.beldi_check.proofs.laws.accepts_exactly.Goals as goal

pub returns : goal.returns
returns c = accepts_exactly
