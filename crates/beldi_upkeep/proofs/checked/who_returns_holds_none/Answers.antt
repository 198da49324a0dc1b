use Rattle.beldi_upkeep.proofs.Frees.{returns_hold_none}
use Rattle.beldi_upkeep.proofs.checked.who_returns_holds_none.Goals as goal

pub returns : goal.returns
returns c = returns_hold_none
