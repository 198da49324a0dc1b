use Rattle.std.proofs.Common.{◌-◌, drop, length-drop, arith}
use Rattle.beldi_bytes.proofs.ByteLists.{short_record}
use Rattle.beldi_bytes.proofs.value_out.rises.Goals as goal

pub returns : goal.returns
returns c = λ is. c.loop-i.invariant (short_record (drop (c.loop-i.i - 1) c.args.fields.now) (omega (arith, length-drop (c.loop-i.i - 1) c.args.fields.now)))
