use Rattle.beldi_row.proofs.Room.{at_most}
use Rattle.beldi_row.proofs.notes.Log.as_slice.Goals as goal

pub returns-clause-few : goal.returns-clause-few
returns-clause-few c = at_most c.self.inside.entries.items c.args.self.now c.self.view_is c.self.invariant.0
