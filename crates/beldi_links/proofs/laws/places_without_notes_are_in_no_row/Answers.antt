use Rattle.beldi_links.proofs.Meets.{none_noted}
use Rattle.beldi_links.proofs.laws.places_without_notes_are_in_no_row.Goals as goal

pub returns : goal.returns
returns c = none_noted
