use Rattle.std.proofs.Common.{Ok, Err}
use Rattle.sqlite.specs.Held.{state}
use Rattle.beldi_blobs.proofs.Called.{next_keeps}
use Rattle.beldi_blobs.proofs.Finding.{nexts, nexts_none}
use Rattle.beldi_blobs.proofs.calls.find_above.Goals as goal

pub returns-in-Ok-clause-kept : goal.returns-in-Ok-clause-kept
returns-in-Ok-clause-kept g c = λ clean. next_keeps (state g.S.Store c.args.conn.now) (state g.S.Store c.read_above.new.conn) c.args.key.now (Ok c.in-Ok.row) (c.in-Ok.ensures clean)

pub returns-in-Ok-clause-found : goal.returns-in-Ok-clause-found
returns-in-Ok-clause-found g c = λ clean table. nexts (state g.S.Store c.args.conn.now) (state g.S.Store c.read_above.new.conn) c.args.key.now c.in-Ok.row table (c.in-Ok.ensures clean)

pub returns-in-Err-QueryReturnedNoRows-clause-kept : goal.returns-in-Err-QueryReturnedNoRows-clause-kept
returns-in-Err-QueryReturnedNoRows-clause-kept g c = λ clean. next_keeps (state g.S.Store c.args.conn.now) (state g.S.Store c.read_above.new.conn) c.args.key.now (Err c.in-Err-QueryReturnedNoRows.field-0) (c.in-Err-QueryReturnedNoRows.ensures clean)

pub returns-in-Err-QueryReturnedNoRows-clause-found : goal.returns-in-Err-QueryReturnedNoRows-clause-found
returns-in-Err-QueryReturnedNoRows-clause-found g c = λ clean table. nexts_none (state g.S.Store c.args.conn.now) (state g.S.Store c.read_above.new.conn) c.args.key.now table (rw c.in-Err-QueryReturnedNoRows.field-0-is at (c.in-Err-QueryReturnedNoRows.ensures clean))

pub returns-in-Err : goal.returns-in-Err
returns-in-Err g c = record { kept = λ clean. next_keeps (state g.S.Store c.args.conn.now) (state g.S.Store c.read_above.new.conn) c.args.key.now (Err c.in-Err.error) (c.in-Err.ensures clean); found = λ clean table. tt }
