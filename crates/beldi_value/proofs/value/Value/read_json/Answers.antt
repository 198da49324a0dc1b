use Rattle.beldi_value.proofs.{Names.ReadsValue, Names.read_of, Names.rules, Within.answer_within}
use Rattle.beldi_value.proofs.value.Value.read_json.Goals as goal

pub returns-in-Ok-converted-clause-within : goal.returns-in-Ok-converted-clause-within
returns-in-Ok-converted-clause-within c =
    let read : ReadsValue (read_of c.args.bytes.now) c.if_small.result = search rules in
    answer_within c.args.bytes.now c.if_small.result read
