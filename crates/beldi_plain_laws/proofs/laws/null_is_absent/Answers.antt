use Rattle.beldi_plain_laws.proofs.Nulls.{no_null}
use Rattle.beldi_plain_laws.proofs.laws.null_is_absent.Goals as goal

pub returns : goal.returns
returns c = no_null
