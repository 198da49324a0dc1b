use Rattle.beldi_joined.proofs.Reopened.{reopened_upkept}
use Rattle.beldi_joined.proofs.laws.a_reopened_host_is_upkept.Goals as goal

pub returns : goal.returns
returns c = reopened_upkept
