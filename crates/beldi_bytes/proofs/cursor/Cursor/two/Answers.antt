use Rattle.std.proofs.Common.{◌/◌, ◌%◌, ◌∷◌}
use Rattle.beldi_bytes.specs.Coding.{one, Any}
use Rattle.beldi_bytes.specs.KeyBytes.{two}
use Rattle.beldi_bytes.proofs.Exact.{one_exact}
use Rattle.beldi_bytes.proofs.Refused.{refused, behind}
use Rattle.beldi_bytes.proofs.cursor.Cursor.two.Goals as goal

pub returns-in-Err : goal.returns-in-Err
returns-in-Err c = refused one Any two Any _ _ c.in-Err.why c.in-Err.ensures (λ n s i e. (n / 256, n % 256 ∷ s, tt, e))

pub returns-in-Err-byte : goal.returns-in-Err-byte
returns-in-Err-byte c = refused one Any two Any _ _ c.in-Err-byte.why c.in-Err-byte.ensures (λ n s i e. (n % 256, s, tt, behind one one_exact _ _ _ _ _ c.in-Ok.ensures.0 e))
