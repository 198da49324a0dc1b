use Rattle.beldi_prune.proofs.Passed.{only_marked}
use Rattle.beldi_prune.proofs.laws.only_marked_rows_are_led_past.Goals as goal

pub returns : goal.returns
returns c = only_marked
