use Rattle.beldi_txn.proofs.{Names.ap, Names.sym, Names.◌∙◌, Levels.func_of, Levels.func_is}
use Rattle.beldi_txn.proofs.call_path.CallPath.func.Goals as goal

pub returns-in-Some : goal.returns-in-Some
returns-in-Some c = let x = c.args.tx.now in ap (func_of x.func) c.in-Some.ensures ∙ sym (func_is (x.intent, x.func) c.args.self.now)

pub returns-in-None : goal.returns-in-None
returns-in-None c = let x = c.args.tx.now in ap (func_of x.func) c.in-None.ensures ∙ sym (func_is (x.intent, x.func) c.args.self.now)
