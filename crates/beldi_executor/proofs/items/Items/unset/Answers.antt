use Rattle.beldi_executor.proofs.ByTable.{items_unset}
use Rattle.beldi_executor.proofs.items.Items.unset.Goals as goal

pub returns : goal.returns
returns c = items_unset c.self.inside.tables c.unset.new.self c.args.self.now (record { func = c.args.func; table = c.args.table }) c.args.key.now c.self.view_is c.unset.ensures
