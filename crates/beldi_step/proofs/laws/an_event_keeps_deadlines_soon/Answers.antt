use Rattle.beldi_step.proofs.Given.{keeps_soon}
use Rattle.beldi_step.proofs.laws.an_event_keeps_deadlines_soon.Goals as goal

pub returns : goal.returns
returns c = keeps_soon
