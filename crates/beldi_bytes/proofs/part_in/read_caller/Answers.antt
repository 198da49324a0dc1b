use Rattle.beldi_bytes.specs.Coding.{Any, truth_bytes}
use Rattle.beldi_bytes.specs.KeyBytes.{two, place_bytes}
use Rattle.beldi_bytes.specs.RowBytes.{caller_bytes, IsCaller}
use Rattle.beldi_bytes.proofs.Exact.{two_exact, place_exact}
use Rattle.beldi_bytes.proofs.Refused.{refused, behind}
use Rattle.beldi_bytes.proofs.part_in.read_caller.Goals as goal

pub returns-in-Err-two : goal.returns-in-Err-two
returns-in-Err-two c = refused two Any caller_bytes IsCaller _ _ c.in-Err-two.why c.in-Err-two.ensures (λ x s i e. (x.func, truth_bytes x.waits s, tt, behind place_bytes place_exact _ _ _ _ _ c.in-Ok.ensures.0 e))

pub returns-in-Err-truth : goal.returns-in-Err-truth
returns-in-Err-truth c = refused truth_bytes Any caller_bytes IsCaller _ _ c.in-Err-truth.why c.in-Err-truth.ensures (λ x s i e. (x.waits, s, tt, behind two two_exact _ _ _ _ _ c.in-Ok-two.ensures.0 (behind place_bytes place_exact _ _ _ _ _ c.in-Ok.ensures.0 e)))
