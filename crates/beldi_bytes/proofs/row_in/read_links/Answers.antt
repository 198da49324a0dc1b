use Rattle.beldi_bytes.specs.Coding.{Any, IfThere, truth_bytes, option_bytes}
use Rattle.beldi_bytes.specs.KeyBytes.{four}
use Rattle.beldi_bytes.specs.RowBytes.{eight, IsMoment}
use Rattle.beldi_bytes.specs.BytesReading.{links_bytes, AreLinks}
use Rattle.beldi_bytes.proofs.Exact.{four_exact, truth_exact, option_exact}
use Rattle.beldi_bytes.proofs.Refused.{refused, behind}
use Rattle.beldi_bytes.proofs.row_in.read_links.Goals as goal

pub returns-in-Err-truth : goal.returns-in-Err-truth
returns-in-Err-truth c =
    refused truth_bytes Any links_bytes AreLinks _ _ c.in-Err-truth.why c.in-Err-truth.ensures (λ l s i e. (l.1, option_bytes eight l.2 s, tt, behind (option_bytes four) (option_exact four four_exact) _ _ _ _ _ c.in-Ok.ensures.0 e))

pub returns-in-Err-read_moment_if : goal.returns-in-Err-read_moment_if
returns-in-Err-read_moment_if c = refused (option_bytes eight) (IfThere IsMoment) links_bytes AreLinks _ _ c.in-Err-read_moment_if.why c.in-Err-read_moment_if.ensures (λ l s i e.
    (l.2, s, i, behind truth_bytes truth_exact _ _ _ _ _ c.in-Ok-truth.ensures.0 (behind (option_bytes four) (option_exact four four_exact) _ _ _ _ _ c.in-Ok.ensures.0 e)))
