use Rattle.beldi_txn.proofs.{Names.ap, Names.length, Names.slice_get, Names.◌-◌, Names.◌∙◌, Levels.last_is}
use Rattle.beldi_txn.proofs.call_path.CallPath.last.Goals as goal

pub returns : goal.returns
returns c = c.last.ensures.value ∙ ap (λ cs. slice_get cs (length cs - 1)) (c.as_slice.ensures.value ∙ c.self.view_is) ∙ last_is c.args.self.now
