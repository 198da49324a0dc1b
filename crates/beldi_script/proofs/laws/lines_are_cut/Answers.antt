use Rattle.beldi_script.proofs.ScriptLines.{are_cut}
use Rattle.beldi_script.proofs.laws.lines_are_cut.Goals as goal

pub returns : goal.returns
returns c = are_cut
