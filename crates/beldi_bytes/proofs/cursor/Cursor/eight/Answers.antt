use Rattle.std.proofs.Common.{◌/◌, ◌%◌}
use Rattle.beldi_bytes.specs.Coding.{Any}
use Rattle.beldi_bytes.specs.KeyBytes.{four}
use Rattle.beldi_bytes.specs.RowBytes.{eight}
use Rattle.beldi_bytes.proofs.Exact.{four_exact}
use Rattle.beldi_bytes.proofs.Refused.{refused, behind}
use Rattle.beldi_bytes.proofs.cursor.Cursor.eight.Goals as goal

pub returns-in-Err : goal.returns-in-Err
returns-in-Err c = refused four Any eight Any _ _ c.in-Err.why c.in-Err.ensures (λ n s i e. (n / 4294967296, four (n % 4294967296) s, tt, e))

pub returns-in-Err-four : goal.returns-in-Err-four
returns-in-Err-four c = refused four Any eight Any _ _ c.in-Err-four.why c.in-Err-four.ensures (λ n s i e. (n % 4294967296, s, tt, behind four four_exact _ _ _ _ _ c.in-Ok.ensures.0 e))
