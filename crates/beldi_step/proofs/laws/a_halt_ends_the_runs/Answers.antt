use Rattle.beldi_step.proofs.Shut.{halts_end}
use Rattle.beldi_step.proofs.laws.a_halt_ends_the_runs.Goals as goal

pub returns : goal.returns
returns c = halts_end
