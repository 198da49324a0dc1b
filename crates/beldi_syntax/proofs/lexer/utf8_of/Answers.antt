use Rattle.beldi_syntax.proofs.Pieces.{utf8_is_told}
use Rattle.beldi_syntax.proofs.lexer.utf8_of.Goals as goal

pub returns : goal.returns
returns c = utf8_is_told c.args.bytes.now c.from_bytes.result c.from_bytes.ensures
