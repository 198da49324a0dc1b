use Rattle.beldi_links.proofs.Meets.{noted_is_noted}
use Rattle.beldi_links.proofs.laws.notes_on_the_way_are_the_chains.Goals as goal

pub returns : goal.returns
returns c = noted_is_noted
