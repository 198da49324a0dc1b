use Rattle.beldi_joined.proofs.Reopened.{reopened_invariant}
use Rattle.beldi_joined.proofs.laws.a_reopened_host_has_the_invariant.Goals as goal

pub returns : goal.returns
returns c = reopened_invariant
