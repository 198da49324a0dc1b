use Rattle.beldi_step.proofs.Shut.{shuts_at_halt}
use Rattle.beldi_step.proofs.laws.a_failed_halt_shuts.Goals as goal

pub returns : goal.returns
returns c = shuts_at_halt
