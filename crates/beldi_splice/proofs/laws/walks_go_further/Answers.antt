use Rattle.beldi_splice.proofs.Alike.{walks_go_further}
use Rattle.beldi_splice.proofs.laws.walks_go_further.Goals as goal

pub returns : goal.returns
returns c = walks_go_further
