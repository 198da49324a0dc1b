use Rattle.beldi_sweep.proofs.{Cells.cells_done, Loop.trims}
use Rattle.beldi_sweep.proofs.laws.a_sweep_trims.Goals as goal

pub returns : goal.returns
returns c = λ newest life now turns m t old sound e. trims newest life now (cells_done newest life now) turns m t old sound e
