use Rattle.beldi_syntax.proofs.{Names.◌∙◌, Pieces.no_fault, Pieces.a_fault}
use Rattle.beldi_syntax.proofs.reading.utf8_fault.Goals as goal

pub returns-in-Ok : goal.returns-in-Ok
returns-in-Ok c = no_fault c.args.text.now c.in-Ok.ensures.cases.1

pub returns-in-Err : goal.returns-in-Err
returns-in-Err c = a_fault c.args.text.now c.split_at.result.0.now c.valid_up_to.result c.line_past.result c.in-Err.ensures.cases.0 (c.valid_up_to.ensures ∙ c.in-Err.ensures.valid_len) c.split_at.ensures.front c.line_past.ensures
