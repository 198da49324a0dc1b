use Rattle.beldi_step.proofs.PastDeadline.{expires}
use Rattle.beldi_step.proofs.laws.a_run_expires_past_its_deadline.Goals as goal

pub returns : goal.returns
returns c = expires
