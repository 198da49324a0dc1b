use Rattle.beldi_readlog.proofs.Once.{get_gives}
use Rattle.beldi_readlog.proofs.laws.what_was_given_is_given.Goals as goal

pub returns : goal.returns
returns c = get_gives
