use Rattle.beldi_bound.proofs.Promised.{settles_as_promised}
use Rattle.beldi_bound.proofs.laws.settlings_are_as_promised.Goals as goal

pub returns : goal.returns
returns c = settles_as_promised c.no_first_turn_is_over.ensures
