use Rattle.beldi_kept.proofs.KeptKeeps.{events_keep}
use Rattle.beldi_kept.proofs.laws.an_event_keeps_it.Goals as goal

pub returns : goal.returns
returns c = events_keep c.the_closed_are_passed.ensures
