use Rattle.beldi_links.proofs.Grows.{grown_are_frozen}
use Rattle.beldi_links.proofs.laws.grown_rows_with_a_next_stay.Goals as goal

pub returns : goal.returns
returns c = grown_are_frozen
