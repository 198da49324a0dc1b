use Rattle.beldi_invariant.proofs.Deaths.{deaths_have_holders}
use Rattle.beldi_invariant.proofs.laws.a_death_has_a_holder.Goals as goal

pub returns : goal.returns
returns c = deaths_have_holders
