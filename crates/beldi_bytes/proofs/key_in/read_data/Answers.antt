use Rattle.beldi_bytes.specs.Coding.{Any}
use Rattle.beldi_bytes.specs.KeyBytes.{two, four, text_bytes, kind_bytes, IsKind}
use Rattle.beldi_bytes.proofs.Exact.{two_exact, text_exact}
use Rattle.beldi_bytes.proofs.Tagged.{data_in}
use Rattle.beldi_bytes.proofs.Refused.{refused, behind}
use Rattle.beldi_bytes.proofs.key_in.read_data.Goals as goal

pub returns-in-Err-four : goal.returns-in-Err-four
returns-in-Err-four c = refused four Any kind_bytes IsKind _ _ c.in-Err-four.why c.in-Err-four.ensures (λ x s i e. let d = data_in _ x s i e in (d.2, s, tt, behind text_bytes text_exact _ _ _ _ _ c.in-Ok-read_text.ensures.0 (behind two two_exact _ _ _ _ _ c.in-Ok.ensures.0 (d.4))))
