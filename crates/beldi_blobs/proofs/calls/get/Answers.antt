use Rattle.sqlite.specs.Held.{state}
use Rattle.beldi_blobs.proofs.Answered.{value_told}
use Rattle.beldi_blobs.proofs.calls.get.Goals as goal

pub returns-in-Ok-clause-found : goal.returns-in-Ok-clause-found
returns-in-Ok-clause-found g c = λ clean table. value_told (state g.S.Store c.args.conn.now) c.args.key.now c.in-Ok.row c.read_value.result (c.in-Ok.ensures.found clean table) c.read_value.ensures
