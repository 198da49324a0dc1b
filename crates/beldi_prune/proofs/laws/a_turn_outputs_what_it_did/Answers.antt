use Rattle.beldi_prune.proofs.PruneOutput.{say_what_they_did}
use Rattle.beldi_prune.proofs.laws.a_turn_outputs_what_it_did.Goals as goal

pub returns : goal.returns
returns c = say_what_they_did
