use Rattle.sqlite.specs.Held.{state}
use Rattle.beldi_blobs.proofs.Making.{makes}
use Rattle.beldi_blobs.proofs.calls.make.Goals as goal

pub returns-in-Ok : goal.returns-in-Ok
returns-in-Ok g c = λ clean empty. makes (state g.S.Store c.args.conn.now) (state g.S.Store c.create.new.conn) c.in-Ok.field-0 empty (c.in-Ok.ensures clean)
