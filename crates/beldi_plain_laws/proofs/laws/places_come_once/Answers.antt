use Rattle.beldi_plain_laws.proofs.Rises.{places_come_once}
use Rattle.beldi_plain_laws.proofs.laws.places_come_once.Goals as goal

pub returns : goal.returns
returns c = places_come_once
