use Rattle.beldi_invariant.proofs.OneEvent.{book_grew}
use Rattle.beldi_invariant.proofs.laws.an_event_writes_what_it_tells.Goals as goal

pub returns : goal.returns
returns c = book_grew
