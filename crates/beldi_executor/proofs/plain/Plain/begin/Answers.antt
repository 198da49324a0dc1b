use Rattle.beldi_executor.proofs.Bars.{no_begin}
use Rattle.beldi_executor.proofs.plain.Plain.begin.Goals as goal

pub returns-in-Err-clause-stands : goal.returns-in-Err-clause-stands
returns-in-Err-clause-stands c = no_begin c.args.self.now.code c.args.self.now.state c.args.id.now c.in-Err.why c.in-Err.ensures.stands
