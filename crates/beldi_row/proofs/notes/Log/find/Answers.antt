use Rattle.std.proofs.Common.{subst, sym}
use Rattle.beldi_row.{specs.Log.NotedAt, proofs.Found.note_found}
use Rattle.beldi_row.proofs.notes.Log.find.Goals as goal

pub returns-clause-note : goal.returns-clause-note
returns-clause-note c = subst (NotedAt c.args.self.now c.args.place.now) (sym c.index_of.ensures) (note_found c.args.self.now c.args.place.now)
