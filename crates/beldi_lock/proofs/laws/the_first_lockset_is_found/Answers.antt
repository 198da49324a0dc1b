use Rattle.beldi_lock.proofs.Firsts.{locksets_begin}
use Rattle.beldi_lock.proofs.laws.the_first_lockset_is_found.Goals as goal

pub returns : goal.returns
returns c = locksets_begin
