use Rattle.beldi_bytes.specs.Coding.{IfThere, option_bytes}
use Rattle.beldi_bytes.specs.KeyBytes.{id_bytes, place_bytes, IsId}
use Rattle.beldi_bytes.specs.RowBytes.{cause_bytes, IsCause}
use Rattle.beldi_bytes.proofs.Exact.{place_exact}
use Rattle.beldi_bytes.proofs.Refused.{refused, behind}
use Rattle.beldi_bytes.proofs.part_in.read_cause.Goals as goal

pub returns-in-Err-read_holder : goal.returns-in-Err-read_holder
returns-in-Err-read_holder c = refused (option_bytes id_bytes) (IfThere IsId) cause_bytes IsCause _ _ c.in-Err-read_holder.why c.in-Err-read_holder.ensures (λ x s i e. (x.holder, s, i.1, behind place_bytes place_exact _ _ _ _ _ c.in-Ok.ensures.0 e))
