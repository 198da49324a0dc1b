use Rattle.beldi_value.proofs.Ages.{not_itself, further, one_way, either}
use Rattle.beldi_value.proofs.laws.ages_are_ordered.Goals as goal

pub returns : goal.returns
returns c = record { itself = not_itself; further = further; one_way = one_way; either = either }
