use Rattle.beldi_value.proofs.{Names.arith, Within.int_within}
use Rattle.beldi_value.proofs.limits.int_is_within.Goals as goal

pub returns : goal.returns
returns c = int_within c.args.number (omega arith)
