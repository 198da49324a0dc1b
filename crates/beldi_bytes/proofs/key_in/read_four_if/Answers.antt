use Rattle.beldi_bytes.specs.Coding.{Any, truth_bytes, option_bytes}
use Rattle.beldi_bytes.specs.KeyBytes.{four}
use Rattle.beldi_bytes.proofs.Refused.{refused, option_flag}
use Rattle.beldi_bytes.proofs.key_in.read_four_if.Goals as goal

pub returns-in-Err : goal.returns-in-Err
returns-in-Err c = refused truth_bytes Any (option_bytes four) Any _ _ c.in-Err.why c.in-Err.ensures (λ o s i e. option_flag four _ o s e)
