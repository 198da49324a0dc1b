use Rattle.beldi_bytes.specs.Coding.{Any}
use Rattle.beldi_bytes.specs.KeyBytes.{four, id_bytes, place_bytes, IsPlace}
use Rattle.beldi_bytes.proofs.Exact.{id_exact}
use Rattle.beldi_bytes.proofs.Refused.{refused, behind}
use Rattle.beldi_bytes.proofs.key_in.read_place.Goals as goal

pub returns-in-Err-four : goal.returns-in-Err-four
returns-in-Err-four c = refused four Any place_bytes IsPlace _ _ c.in-Err-four.why c.in-Err-four.ensures (λ x s i e. (x.step, s, tt, behind id_bytes id_exact _ _ _ _ _ c.in-Ok.ensures.0 (e)))
