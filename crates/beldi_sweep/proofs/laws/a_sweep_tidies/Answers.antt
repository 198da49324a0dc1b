use Rattle.beldi_sweep.proofs.{Cells.cells_done, Loop.tidies}
use Rattle.beldi_sweep.proofs.laws.a_sweep_tidies.Goals as goal

pub returns : goal.returns
returns c = λ newest life now turns m t old sound trimmed long e. tidies newest life now (cells_done newest life now) turns m t old sound trimmed long e
