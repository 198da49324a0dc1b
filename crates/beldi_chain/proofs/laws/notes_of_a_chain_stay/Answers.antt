use Rattle.beldi_chain.proofs.Grows.{notes_stay}
use Rattle.beldi_chain.proofs.laws.notes_of_a_chain_stay.Goals as goal

pub returns : goal.returns
returns c = notes_stay
