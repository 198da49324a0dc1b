use Rattle.beldi_joined.proofs.Reopened.{opened_upkept}
use Rattle.beldi_joined.proofs.laws.an_opened_host_is_upkept_behind.Goals as goal

pub returns : goal.returns
returns c = opened_upkept
