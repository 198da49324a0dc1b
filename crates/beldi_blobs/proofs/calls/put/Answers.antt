use Rattle.sqlite.specs.Held.{state}
use Rattle.beldi_blobs.proofs.Called.{put_keeps}
use Rattle.beldi_blobs.proofs.Putting.{puts}
use Rattle.beldi_blobs.proofs.calls.put.Goals as goal

pub returns-in-Ok : goal.returns-in-Ok
returns-in-Ok g c = λ clean opened table. puts (state g.S.Store c.args.conn.now) (state g.S.Store c.write.new.conn) c.args.key.now c.args.value.now c.in-Ok.field-0 table (c.in-Ok.ensures clean)

pub returns-in-Err : goal.returns-in-Err
returns-in-Err g c = λ clean opened table. put_keeps (state g.S.Store c.args.conn.now) (state g.S.Store c.write.new.conn) c.args.key.now c.args.value.now c.in-Err.error (c.in-Err.ensures clean) opened table
