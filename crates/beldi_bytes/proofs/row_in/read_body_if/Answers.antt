use Rattle.beldi_bytes.specs.Coding.{Any, IfThere, truth_bytes, option_bytes}
use Rattle.beldi_bytes.specs.RowBytes.{body_bytes, IsBody}
use Rattle.beldi_bytes.proofs.Refused.{refused, option_flag}
use Rattle.beldi_bytes.proofs.row_in.read_body_if.Goals as goal

pub returns-in-Err : goal.returns-in-Err
returns-in-Err c = refused truth_bytes Any (option_bytes body_bytes) (IfThere IsBody) _ _ c.in-Err.why c.in-Err.ensures (λ x s i e. option_flag body_bytes _ x s e)
