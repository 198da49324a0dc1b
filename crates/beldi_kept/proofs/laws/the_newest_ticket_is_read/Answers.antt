use Rattle.beldi_kept.proofs.KeptNewest.{newest_is}
use Rattle.beldi_kept.proofs.laws.the_newest_ticket_is_read.Goals as goal

pub returns : goal.returns
returns c = newest_is
