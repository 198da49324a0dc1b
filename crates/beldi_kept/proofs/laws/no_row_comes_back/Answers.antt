use Rattle.beldi_kept.proofs.KeptKeeps.{no_row_comes_back}
use Rattle.beldi_kept.proofs.laws.no_row_comes_back.Goals as goal

pub returns : goal.returns
returns c = no_row_comes_back c.the_closed_are_passed.ensures
