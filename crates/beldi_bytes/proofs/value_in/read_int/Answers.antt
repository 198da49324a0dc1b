use Rattle.beldi_bytes.specs.Coding.{Any, truth_bytes}
use Rattle.beldi_bytes.specs.RowBytes.{int_bytes, IsInt}
use Rattle.beldi_bytes.proofs.Refused.{refused, int_flag}
use Rattle.beldi_bytes.proofs.value_in.read_int.Goals as goal

pub returns-in-Err : goal.returns-in-Err
returns-in-Err c = refused truth_bytes Any int_bytes IsInt _ _ c.in-Err.why c.in-Err.ensures (λ z s i e. int_flag _ z s e)
