use Rattle.beldi_prune.proofs.Adrift.{only_passed}
use Rattle.beldi_prune.proofs.laws.only_passed_rows_are_to_dangle.Goals as goal

pub returns : goal.returns
returns c = only_passed
