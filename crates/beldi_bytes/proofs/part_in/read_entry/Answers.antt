use Rattle.beldi_bytes.specs.KeyBytes.{place_bytes}
use Rattle.beldi_bytes.specs.RowBytes.{note_bytes, entry_bytes, IsNote, IsEntry}
use Rattle.beldi_bytes.proofs.Exact.{place_exact}
use Rattle.beldi_bytes.proofs.Refused.{refused, behind}
use Rattle.beldi_bytes.proofs.part_in.read_entry.Goals as goal

pub returns-in-Err-read_note : goal.returns-in-Err-read_note
returns-in-Err-read_note c = refused note_bytes IsNote entry_bytes IsEntry _ _ c.in-Err-read_note.why c.in-Err-read_note.ensures (λ x s i e. (x.1, s, i.1, behind place_bytes place_exact _ _ _ _ _ c.in-Ok.ensures.0 e))
