use Rattle.beldi_splice.proofs.Alike.{more_are_gone}
use Rattle.beldi_splice.proofs.laws.more_may_be_gone.Goals as goal

pub returns : goal.returns
returns c = more_are_gone
