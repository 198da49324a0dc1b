use Rattle.beldi_kept.proofs.Begins.{looks_find_old}
use Rattle.beldi_kept.proofs.laws.looks_find_the_old.Goals as goal

pub returns : goal.returns
returns c = looks_find_old
