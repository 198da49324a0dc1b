use Rattle.beldi_bytes.specs.Coding.{Any, truth_bytes}
use Rattle.beldi_bytes.specs.RowBytes.{owner_bytes, IsOwner}
use Rattle.beldi_bytes.proofs.Refused.{refused, owner_flag}
use Rattle.beldi_bytes.proofs.part_in.read_owner.Goals as goal

pub returns-in-Err : goal.returns-in-Err
returns-in-Err c = refused truth_bytes Any owner_bytes IsOwner _ _ c.in-Err.why c.in-Err.ensures (λ x s i e. owner_flag _ x s e)
