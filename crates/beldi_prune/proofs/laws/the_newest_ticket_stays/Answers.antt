use Rattle.beldi_prune.proofs.PruneNewest.{newest_stays}
use Rattle.beldi_prune.proofs.laws.the_newest_ticket_stays.Goals as goal

pub returns : goal.returns
returns c = newest_stays
