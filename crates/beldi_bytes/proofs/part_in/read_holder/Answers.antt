use Rattle.beldi_bytes.specs.Coding.{Any, IfThere, truth_bytes, option_bytes}
use Rattle.beldi_bytes.specs.KeyBytes.{id_bytes, IsId}
use Rattle.beldi_bytes.proofs.Refused.{refused, option_flag}
use Rattle.beldi_bytes.proofs.part_in.read_holder.Goals as goal

pub returns-in-Err : goal.returns-in-Err
returns-in-Err c = refused truth_bytes Any (option_bytes id_bytes) (IfThere IsId) _ _ c.in-Err.why c.in-Err.ensures (λ x s i e. option_flag id_bytes _ x s e)
