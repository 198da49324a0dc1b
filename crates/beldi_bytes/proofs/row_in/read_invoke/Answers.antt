use Rattle.beldi_bytes.specs.Coding.{Any, truth_bytes, option_bytes}
use Rattle.beldi_bytes.specs.KeyBytes.{two}
use Rattle.beldi_bytes.specs.RowBytes.{outcome_bytes, invoke_bytes, IsInvoke}
use Rattle.beldi_bytes.proofs.Exact.{two_exact, option_exact}
use Rattle.beldi_bytes.proofs.RowExact.{outcome_exact}
use Rattle.beldi_bytes.proofs.Refused.{refused, behind}
use Rattle.beldi_bytes.proofs.row_in.read_invoke.Goals as goal

pub returns-in-Err-truth : goal.returns-in-Err-truth
returns-in-Err-truth c = refused truth_bytes Any invoke_bytes IsInvoke _ _ c.in-Err-truth.why c.in-Err-truth.ensures (λ x s i e. (x.registered, s, tt, behind (option_bytes outcome_bytes) (option_exact outcome_bytes outcome_exact) _ _ _ _ _ c.in-Ok-read_outcome_if.ensures.0 (behind two two_exact _ _ _ _ _ c.in-Ok.ensures.0 e)))
