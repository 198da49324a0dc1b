use Rattle.beldi_readlog.proofs.Once.{put_once}
use Rattle.beldi_readlog.proofs.laws.a_value_is_put_once.Goals as goal

pub returns : goal.returns
returns c = put_once
