use Rattle.beldi_step.proofs.Given.{no_run_past}
use Rattle.beldi_step.proofs.laws.no_live_run_is_past_a_life_from_now.Goals as goal

pub returns : goal.returns
returns c = no_run_past
