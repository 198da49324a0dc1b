use Rattle.beldi_joined.proofs.Settlings.{settles_after}
use Rattle.beldi_joined.proofs.laws.settlings_after_sessions_are_as_promised.Goals as goal

pub returns : goal.returns
returns c = settles_after c.settlings_are_as_promised.ensures
