use Rattle.beldi_bytes.proofs.Texts.{next_char, all_chars, no_char}
use Rattle.beldi_bytes.proofs.key_in.read_chars.Goals as goal

pub returns-in-Err : goal.returns-in-Err
returns-in-Err c = no_char _ _ c.loop-value.text c.in-Err.why c.loop-value.invariant c.in-Err.ensures

pub returns-in-None : goal.returns-in-None
returns-in-None c = (all_chars _ _ _ c.loop-value.text c.in-Ok.value c.loop-value.invariant c.in-Ok.ensures.0 c.in-None.is, tt)

pub loop-value-preserved : goal.loop-value-preserved
loop-value-preserved c = rw c.in-Ok-or_drop.ensures.ok (next_char _ _ _ c.loop-value.text c.in-Ok.value c.in-Some.byte c.loop-value.invariant c.in-Ok.ensures.0 c.in-Some.is)
