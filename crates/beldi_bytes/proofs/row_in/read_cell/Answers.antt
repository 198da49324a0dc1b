use Rattle.beldi_bytes.specs.Coding.{IfThere, truth_bytes, option_bytes}
use Rattle.beldi_bytes.specs.KeyBytes.{four}
use Rattle.beldi_bytes.specs.RowBytes.{eight, value_bytes, owner_bytes, log_bytes, cell_bytes, IsOwner, IsLog}
use Rattle.beldi_bytes.specs.BytesReading.{links_bytes, AreLinks, IsCellInTime}
use Rattle.beldi_bytes.proofs.Exact.{option_exact}
use Rattle.beldi_bytes.proofs.RowExact.{value_exact, owner_exact, log_exact}
use Rattle.beldi_bytes.proofs.Refused.{refused, behind}
use Rattle.beldi_bytes.proofs.row_in.read_cell.Goals as goal

pub returns-in-Err-read_owner_if : goal.returns-in-Err-read_owner_if
returns-in-Err-read_owner_if c = refused (option_bytes owner_bytes) (IfThere IsOwner) cell_bytes IsCellInTime _ _ c.in-Err-read_owner_if.why c.in-Err-read_owner_if.ensures (λ x s i e. (x.owner, log_bytes x.log (option_bytes four x.next (truth_bytes x.marked (option_bytes eight x.dangled s))), i.0.1, behind value_bytes value_exact _ _ _ _ _ c.in-Ok.ensures.0 e))

pub returns-in-Err-read_log : goal.returns-in-Err-read_log
returns-in-Err-read_log c = refused log_bytes IsLog cell_bytes IsCellInTime _ _ c.in-Err-read_log.why c.in-Err-read_log.ensures (λ x s i e. (x.log, option_bytes four x.next (truth_bytes x.marked (option_bytes eight x.dangled s)), i.0.2, behind (option_bytes owner_bytes) (option_exact owner_bytes owner_exact) _ _ _ _ _ c.in-Ok-read_owner_if.ensures.0 (behind value_bytes value_exact _ _ _ _ _ c.in-Ok.ensures.0 e)))

pub returns-in-Err-read_links : goal.returns-in-Err-read_links
returns-in-Err-read_links c = refused links_bytes AreLinks cell_bytes IsCellInTime _ _ c.in-Err-read_links.why c.in-Err-read_links.ensures (λ x s i e. ((x.next, x.marked, x.dangled), s, i.1, behind log_bytes log_exact _ _ _ _ _ c.in-Ok-read_log.ensures.0 (behind (option_bytes owner_bytes) (option_exact owner_bytes owner_exact) _ _ _ _ _ c.in-Ok-read_owner_if.ensures.0 (behind value_bytes value_exact _ _ _ _ _ c.in-Ok.ensures.0 e))))
