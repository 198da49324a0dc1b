use Rattle.beldi_splice.proofs.Alike.{nobody_gone_none_less}
use Rattle.beldi_splice.proofs.laws.while_nobody_is_gone_all_rows_are_there.Goals as goal

pub returns : goal.returns
returns c = nobody_gone_none_less
