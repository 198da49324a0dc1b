use Rattle.beldi_upkeep.proofs.Upkept.{seats_begin}
use Rattle.beldi_upkeep.proofs.callees.begins_seated.Goals as goal

pub returns : goal.returns
returns c = seats_begin
