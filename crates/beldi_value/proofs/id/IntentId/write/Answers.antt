use Rattle.beldi_value.proofs.{Names.arith, Names.subst, IdTexts.AreSteps, IdTexts.reads}
use Rattle.beldi_value.proofs.id.IntentId.write.Goals as goal

pub returns-clause-again : goal.returns-clause-again
returns-clause-again c = λ some. reads c.args.self.now some (omega arith) (subst AreSteps c.as_slice.ensures.items c.write_hops.ensures.small) c.as_slice.ensures.few
