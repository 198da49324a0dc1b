use Rattle.beldi_bytes.specs.Coding.{Any, IfThere, truth_bytes, option_bytes}
use Rattle.beldi_bytes.specs.RowBytes.{caller_bytes, IsCaller}
use Rattle.beldi_bytes.proofs.Refused.{refused, option_flag}
use Rattle.beldi_bytes.proofs.part_in.read_caller_if.Goals as goal

pub returns-in-Err : goal.returns-in-Err
returns-in-Err c = refused truth_bytes Any (option_bytes caller_bytes) (IfThere IsCaller) _ _ c.in-Err.why c.in-Err.ensures (λ x s i e. option_flag caller_bytes _ x s e)
