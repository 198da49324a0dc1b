use Rattle.beldi_bytes.specs.Coding.{Any, IfThere, truth_bytes, option_bytes}
use Rattle.beldi_bytes.specs.KeyBytes.{tx_bytes, IsTx}
use Rattle.beldi_bytes.proofs.Refused.{refused, option_flag}
use Rattle.beldi_bytes.proofs.part_in.read_tx_if.Goals as goal

pub returns-in-Err : goal.returns-in-Err
returns-in-Err c = refused truth_bytes Any (option_bytes tx_bytes) (IfThere IsTx) _ _ c.in-Err.why c.in-Err.ensures (λ x s i e. option_flag tx_bytes _ x s e)
