use Rattle.beldi_executor.proofs.{Names.ap, Names.items_of, Names.◌∙◌, ByTable.items_empty}
use Rattle.beldi_executor.proofs.items.Items.new.Goals as goal

pub returns : goal.returns
returns c = ap items_of c.new.ensures ∙ items_empty
