use Rattle.beldi_txn.proofs.{Names.sym, Levels.back_none}
use Rattle.beldi_txn.proofs.end.EndState.back.Goals as goal

pub returns-in-None : goal.returns-in-None
returns-in-None c = back_none c.args.self.now _ c.in-None.ensures.left (sym c.in-None.ensures.last)
