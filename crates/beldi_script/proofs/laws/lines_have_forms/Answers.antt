use Rattle.beldi_script.proofs.Formed.{lines_have_forms}
use Rattle.beldi_script.proofs.laws.lines_have_forms.Goals as goal

pub returns : goal.returns
returns c = lines_have_forms
