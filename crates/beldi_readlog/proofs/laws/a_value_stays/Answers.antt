use Rattle.beldi_readlog.proofs.Once.{values_stay}
use Rattle.beldi_readlog.proofs.laws.a_value_stays.Goals as goal

pub returns : goal.returns
returns c = values_stay
