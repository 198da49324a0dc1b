use Rattle.std.proofs.Common.{rules, length}
use Rattle.beldi_row.proofs.Room.{full_at_eight}
use Rattle.beldi_row.proofs.notes.Log.is_full.Goals as goal

pub returns : goal.returns
returns c = full_at_eight _ (length c.args.self.now) (search rules)
