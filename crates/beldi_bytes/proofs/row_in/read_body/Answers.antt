use Rattle.beldi_bytes.specs.Coding.{IfThere, option_bytes}
use Rattle.beldi_bytes.specs.KeyBytes.{two, tx_bytes, IsTx}
use Rattle.beldi_bytes.specs.RowBytes.{value_bytes, caller_bytes, body_bytes, IsCaller, IsBody}
use Rattle.beldi_bytes.proofs.Exact.{two_exact, option_exact, tx_exact}
use Rattle.beldi_bytes.proofs.RowExact.{value_exact}
use Rattle.beldi_bytes.proofs.Refused.{refused, behind}
use Rattle.beldi_bytes.proofs.row_in.read_body.Goals as goal

pub returns-in-Err-read_tx_if : goal.returns-in-Err-read_tx_if
returns-in-Err-read_tx_if c = refused (option_bytes tx_bytes) (IfThere IsTx) body_bytes IsBody _ _ c.in-Err-read_tx_if.why c.in-Err-read_tx_if.ensures (λ x s i e. (x.tx, option_bytes caller_bytes x.parent s, i.1, behind value_bytes value_exact _ _ _ _ _ c.in-Ok-read_part.ensures.0 (behind two two_exact _ _ _ _ _ c.in-Ok.ensures.0 e)))

pub returns-in-Err-read_caller_if : goal.returns-in-Err-read_caller_if
returns-in-Err-read_caller_if c = refused (option_bytes caller_bytes) (IfThere IsCaller) body_bytes IsBody _ _ c.in-Err-read_caller_if.why c.in-Err-read_caller_if.ensures (λ x s i e. (x.parent, s, i.2, behind (option_bytes tx_bytes) (option_exact tx_bytes tx_exact) _ _ _ _ _ c.in-Ok-read_tx_if.ensures.0 (behind value_bytes value_exact _ _ _ _ _ c.in-Ok-read_part.ensures.0 (behind two two_exact _ _ _ _ _ c.in-Ok.ensures.0 e))))
