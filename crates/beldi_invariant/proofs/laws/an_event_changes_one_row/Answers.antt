use Rattle.beldi_invariant.proofs.OneEvent.{one_row}
use Rattle.beldi_invariant.proofs.laws.an_event_changes_one_row.Goals as goal

pub returns : goal.returns
returns c = one_row
