use Rattle.beldi_plain_laws.proofs.Growth.{change_last}
use Rattle.beldi_plain_laws.proofs.laws.changes_come_last.Goals as goal

pub returns : goal.returns
returns c = change_last
