use Rattle.std.proofs.Common.{[], length, sym, ap, ◌∙◌}
use Rattle.beldi_bytes.specs.RowBytes.{row_then}
use Rattle.beldi_bytes.proofs.RowExact.{row_exact}
use Rattle.beldi_bytes.proofs.Refused.{behind}
use Rattle.beldi_bytes.proofs.row_in.read_row.Goals as goal

pub returns-in-Ok-2 : goal.returns-in-Ok-2
returns-in-Ok-2 c = λ r i m e.
    let none = behind row_then row_exact _ r _ _ [] c.in-Ok.ensures.0 (c.new-from.ensures ∙ sym e) in
    c.if-len-eq0.false (c.len.ensures ∙ ap length none)
