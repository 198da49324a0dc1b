use Rattle.beldi_joined.proofs.Reopened.{opened_safe}
use Rattle.beldi_joined.proofs.laws.an_opened_host_is_safe_behind.Goals as goal

pub returns : goal.returns
returns c = λ d x m now h. opened_safe d x m h now
