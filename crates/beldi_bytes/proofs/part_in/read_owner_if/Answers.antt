use Rattle.beldi_bytes.specs.Coding.{Any, IfThere, truth_bytes, option_bytes}
use Rattle.beldi_bytes.specs.RowBytes.{owner_bytes, IsOwner}
use Rattle.beldi_bytes.proofs.Refused.{refused, option_flag}
use Rattle.beldi_bytes.proofs.part_in.read_owner_if.Goals as goal

pub returns-in-Err : goal.returns-in-Err
returns-in-Err c = refused truth_bytes Any (option_bytes owner_bytes) (IfThere IsOwner) _ _ c.in-Err.why c.in-Err.ensures (λ x s i e. option_flag owner_bytes _ x s e)
