use Rattle.sqlite.specs.Held.{state}
use Rattle.beldi_blobs.proofs.Called.{remove_keeps}
use Rattle.beldi_blobs.proofs.Removing.{removes}
use Rattle.beldi_blobs.proofs.calls.remove.Goals as goal

pub returns-in-Ok : goal.returns-in-Ok
returns-in-Ok g c = λ clean opened table. removes (state g.S.Store c.args.conn.now) (state g.S.Store c.delete.new.conn) c.args.key.now c.in-Ok.field-0 table (c.in-Ok.ensures clean)

pub returns-in-Err : goal.returns-in-Err
returns-in-Err g c = λ clean opened table. remove_keeps (state g.S.Store c.args.conn.now) (state g.S.Store c.delete.new.conn) c.args.key.now c.in-Err.error (c.in-Err.ensures clean) opened table
