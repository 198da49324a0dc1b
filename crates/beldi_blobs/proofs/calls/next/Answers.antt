use Rattle.sqlite.specs.Held.{state}
use Rattle.beldi_blobs.proofs.Answered.{entry_told}
use Rattle.beldi_blobs.proofs.calls.next.Goals as goal

pub returns-in-Ok-clause-found : goal.returns-in-Ok-clause-found
returns-in-Ok-clause-found g c = λ clean table. entry_told (state g.S.Store c.args.conn.now) c.args.key.now c.in-Ok.row c.read_entry.result (c.in-Ok.ensures.found clean table) c.read_entry.ensures
