use Rattle.beldi_plain_laws.proofs.Growth.{kept_late}
use Rattle.beldi_plain_laws.proofs.laws.late_reads_belong.Goals as goal

pub returns : goal.returns
returns c = kept_late
