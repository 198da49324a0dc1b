use Rattle.beldi_syntax.proofs.Names.{json_read, no_json, sym, view}
use Rattle.beldi_syntax.proofs.lexer.json_of.Goals as goal

pub returns-in-Ok : goal.returns-in-Ok
returns-in-Ok c = sym (json_read c.args.piece.now (view c.in-Ok.json) c.in-Ok.ensures.ok.0 c.in-Ok.ensures.ok.1)

pub returns-in-Err-2 : goal.returns-in-Err-2
returns-in-Err-2 c = sym (no_json c.args.piece.now (c.in-Err.ensures.err (λ m. cc (c.is_memory.ensures.1 m))))
