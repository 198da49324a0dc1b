use Rattle.beldi_value.proofs.Marks.{found, missing}
use Rattle.beldi_value.proofs.cut.cut_at.Goals as goal

pub returns-in-Some-clause-front : goal.returns-in-Some-clause-front
returns-in-Some-clause-front c = (found c.args.mark c.args.bytes.now c.in-Some.at c.in-Some.ensures).front

pub returns-in-Some-clause-rest : goal.returns-in-Some-clause-rest
returns-in-Some-clause-rest c = (found c.args.mark c.args.bytes.now c.in-Some.at c.in-Some.ensures).rest

pub returns-in-None-clause-front : goal.returns-in-None-clause-front
returns-in-None-clause-front c = (missing c.args.mark c.args.bytes.now c.in-None.ensures).front

pub returns-in-None-clause-rest : goal.returns-in-None-clause-rest
returns-in-None-clause-rest c = (missing c.args.mark c.args.bytes.now c.in-None.ensures).rest
