use Rattle.beldi_kept.proofs.Removals.{unbound_may_go}
use Rattle.beldi_kept.proofs.laws.unbound_roots_may_go.Goals as goal

pub returns : goal.returns
returns c = unbound_may_go
