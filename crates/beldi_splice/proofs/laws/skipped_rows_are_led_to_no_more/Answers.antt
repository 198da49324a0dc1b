use Rattle.beldi_splice.proofs.Pruned.{skipped_are_unled}
use Rattle.beldi_splice.proofs.laws.skipped_rows_are_led_to_no_more.Goals as goal

pub returns : goal.returns
returns c = skipped_are_unled
