use Rattle.beldi_kept.proofs.Collecting.{safe_at_cursor}
use Rattle.beldi_kept.proofs.safe.the_cursor_is_nothing_to_collectors.Goals as goal

pub returns : goal.returns
returns c = safe_at_cursor
