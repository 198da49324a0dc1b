use Rattle.beldi_step.proofs.CalledInside.{makes_no_entry}
use Rattle.beldi_step.proofs.laws.a_run_inside_makes_no_entry.Goals as goal

pub returns : goal.returns
returns c = makes_no_entry
