use Rattle.beldi_lock.proofs.Firsts.{locksets_follow}
use Rattle.beldi_lock.proofs.laws.the_next_lockset_is_found.Goals as goal

pub returns : goal.returns
returns c = locksets_follow
