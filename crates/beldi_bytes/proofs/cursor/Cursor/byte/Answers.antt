use Rattle.std.proofs.Common.{◌∙◌}
use Rattle.beldi_bytes.proofs.Refused.{none_left}
use Rattle.beldi_bytes.proofs.cursor.Cursor.byte.Goals as goal

pub returns-then-is_empty : goal.returns-then-is_empty
returns-then-is_empty c = λ n s i e. none_left _ n s c.if-is_empty.ensures (c.self.view_is ∙ e)
