use Rattle.beldi_joined.proofs.After.{upkept_behind}
use Rattle.beldi_joined.proofs.laws.a_host_stays_upkept_behind.Goals as goal

pub returns : goal.returns
returns c = upkept_behind
