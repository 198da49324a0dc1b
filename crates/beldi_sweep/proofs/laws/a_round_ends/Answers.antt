use Rattle.beldi_sweep.proofs.Ending.{rounds_end}
use Rattle.beldi_sweep.proofs.laws.a_round_ends.Goals as goal

pub returns : goal.returns
returns c = rounds_end
