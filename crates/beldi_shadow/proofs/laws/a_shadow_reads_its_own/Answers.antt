use Rattle.beldi_shadow.proofs.Shadowed.{shadows_read_their_own}
use Rattle.beldi_shadow.proofs.laws.a_shadow_reads_its_own.Goals as goal

pub returns : goal.returns
returns c = shadows_read_their_own
