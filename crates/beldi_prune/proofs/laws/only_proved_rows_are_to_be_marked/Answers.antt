use Rattle.beldi_prune.proofs.Proved.{only_proved}
use Rattle.beldi_prune.proofs.laws.only_proved_rows_are_to_be_marked.Goals as goal

pub returns : goal.returns
returns c = only_proved
