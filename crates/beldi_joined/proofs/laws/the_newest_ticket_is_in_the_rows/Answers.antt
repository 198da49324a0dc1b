use Rattle.beldi_invariant.proofs.NewestTicket.{newest_named}
use Rattle.beldi_joined.proofs.laws.the_newest_ticket_is_in_the_rows.Goals as goal

pub returns : goal.returns
returns c = newest_named
