use Rattle.beldi_gateway.proofs.Forms.{paths_have_forms}
use Rattle.beldi_gateway.proofs.laws.paths_have_forms.Goals as goal

pub returns : goal.returns
returns c = paths_have_forms
