use Rattle.beldi_value.proofs.{Names.view, JsonText.json_read, JsonText.no_json}
use Rattle.beldi_value.proofs.read.json_of.Goals as goal

pub returns-in-Ok-clause-read : goal.returns-in-Ok-clause-read
returns-in-Ok-clause-read c = json_read c.args.bytes.now (view c.in-Ok.json) c.in-Ok.ensures.ok.0 c.in-Ok.ensures.ok.1

pub returns-in-Err-2-clause-read : goal.returns-in-Err-2-clause-read
returns-in-Err-2-clause-read c = no_json c.args.bytes.now (c.in-Err.ensures.err (λ m. cc (c.is_memory.ensures.1 m)))
