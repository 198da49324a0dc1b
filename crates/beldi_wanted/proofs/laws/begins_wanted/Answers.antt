use Rattle.beldi_wanted.proofs.WantedKept.{begins_wanted}
use Rattle.beldi_wanted.proofs.laws.begins_wanted.Goals as goal

pub returns : goal.returns
returns c = begins_wanted
