use Rattle.beldi_splice.proofs.Alike.{reads_go_further}
use Rattle.beldi_splice.proofs.laws.reads_go_further.Goals as goal

pub returns : goal.returns
returns c = reads_go_further
