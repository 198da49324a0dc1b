use Rattle.beldi_plain_laws.proofs.Guard.{guards_left}
use Rattle.beldi_plain_laws.proofs.laws.late_reads_leave_guards.Goals as goal

pub returns : goal.returns
returns c = guards_left
