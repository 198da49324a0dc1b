use Rattle.beldi_executor.proofs.ByTable.{items_put, items_same}
use Rattle.beldi_executor.proofs.items.Items.put.Goals as goal

pub returns-clause-ok : goal.returns-clause-ok
returns-clause-ok c = items_put c.self.inside.tables c.put.new.self c.args.self.now (record { func = c.args.func; table = c.args.table }) c.args.key c.args.value c.put.result c.self.view_is c.put.ensures.ok

pub returns-clause-err : goal.returns-clause-err
returns-clause-err c = items_same c.self.inside.tables c.put.new.self c.args.self.now (record { func = c.args.func; table = c.args.table }) c.args.key c.put.result c.self.view_is c.put.ensures.err
