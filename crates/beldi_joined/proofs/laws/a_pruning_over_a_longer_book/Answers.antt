use Rattle.beldi_joined.proofs.RaisedPrunes.{prunes_behind}
use Rattle.beldi_joined.proofs.laws.a_pruning_over_a_longer_book.Goals as goal

pub returns : goal.returns
returns c = prunes_behind
