use Rattle.beldi_kept.proofs.Collecting.{events_keep_safe}
use Rattle.beldi_kept.proofs.safe.an_event_keeps_the_collectors_safe.Goals as goal

pub returns : goal.returns
returns c = events_keep_safe c.the_closed_are_passed.ensures
