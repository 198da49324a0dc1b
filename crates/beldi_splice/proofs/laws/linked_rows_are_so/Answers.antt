use Rattle.beldi_splice.proofs.Alike.{linked_are_so}
use Rattle.beldi_splice.proofs.laws.linked_rows_are_so.Goals as goal

pub returns : goal.returns
returns c = linked_are_so
