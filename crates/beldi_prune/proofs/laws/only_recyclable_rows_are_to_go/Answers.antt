use Rattle.beldi_prune.proofs.Gone.{only_recyclable}
use Rattle.beldi_prune.proofs.laws.only_recyclable_rows_are_to_go.Goals as goal

pub returns : goal.returns
returns c = only_recyclable
