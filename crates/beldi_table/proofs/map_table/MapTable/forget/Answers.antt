use Rattle.beldi_table.{proofs.Changes.gone, proofs.Indexes.removed}
use Rattle.beldi_table.proofs.map_table.MapTable.forget.Goals as goal

pub invariant_of-self : goal.invariant_of-self
invariant_of-self c = let old = c.args.self.now in record { indexed = removed c.args.key.now old.rows c.remove.new.self old.open_keys c.forget_if.new.keys old.indexed c.remove.ensures.updates.0 c.forget_if.ensures }

pub returns-clause-rows : goal.returns-clause-rows
returns-clause-rows c = gone c.args.key.now c.args.self.now.rows c.remove.new.self c.remove.ensures.updates.0
