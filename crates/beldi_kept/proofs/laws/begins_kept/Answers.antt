use Rattle.beldi_kept.proofs.Begins.{begins_kept}
use Rattle.beldi_kept.proofs.laws.begins_kept.Goals as goal

pub returns : goal.returns
returns c = begins_kept
