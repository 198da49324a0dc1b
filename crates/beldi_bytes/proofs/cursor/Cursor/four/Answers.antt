use Rattle.std.proofs.Common.{◌/◌, ◌%◌}
use Rattle.beldi_bytes.specs.Coding.{Any}
use Rattle.beldi_bytes.specs.KeyBytes.{two, four}
use Rattle.beldi_bytes.proofs.Exact.{two_exact}
use Rattle.beldi_bytes.proofs.Refused.{refused, behind}
use Rattle.beldi_bytes.proofs.cursor.Cursor.four.Goals as goal

pub returns-in-Err : goal.returns-in-Err
returns-in-Err c = refused two Any four Any _ _ c.in-Err.why c.in-Err.ensures (λ n s i e. (n / 65536, two (n % 65536) s, tt, e))

pub returns-in-Err-two : goal.returns-in-Err-two
returns-in-Err-two c = refused two Any four Any _ _ c.in-Err-two.why c.in-Err-two.ensures (λ n s i e. (n % 65536, s, tt, behind two two_exact _ _ _ _ _ c.in-Ok.ensures.0 e))
