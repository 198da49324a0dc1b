use Rattle.beldi_wanted.proofs.WantedKept.{keeps_wanted}
use Rattle.beldi_wanted.proofs.laws.an_event_keeps_spares_wanted.Goals as goal

pub returns : goal.returns
returns c = keeps_wanted
