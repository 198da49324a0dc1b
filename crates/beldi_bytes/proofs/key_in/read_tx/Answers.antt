use Rattle.beldi_bytes.specs.Coding.{Any}
use Rattle.beldi_bytes.specs.KeyBytes.{two, four, id_bytes, tx_bytes, IsTx}
use Rattle.beldi_bytes.proofs.Exact.{four_exact, id_exact}
use Rattle.beldi_bytes.proofs.Refused.{refused, behind}
use Rattle.beldi_bytes.proofs.key_in.read_tx.Goals as goal

pub returns-in-Err-four : goal.returns-in-Err-four
returns-in-Err-four c = refused four Any tx_bytes IsTx _ _ c.in-Err-four.why c.in-Err-four.ensures (λ x s i e. (x.begin, two x.func s, tt, behind id_bytes id_exact _ _ _ _ _ c.in-Ok.ensures.0 (e)))

pub returns-in-Err-two : goal.returns-in-Err-two
returns-in-Err-two c = refused two Any tx_bytes IsTx _ _ c.in-Err-two.why c.in-Err-two.ensures (λ x s i e. (x.func, s, tt, behind four four_exact _ _ _ _ _ c.in-Ok-four.ensures.0 (behind id_bytes id_exact _ _ _ _ _ c.in-Ok.ensures.0 (e))))
