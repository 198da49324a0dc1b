use Rattle.beldi_gateway.proofs.{Names.rules, Responses.compose_parts}
use Rattle.beldi_gateway.proofs.response.compose.Goals as goal

pub returns : goal.returns
returns c =
    compose_parts c.args.status c.args.allow.now c.args.body.now c.from_string-text.result c.phrase.result.now c.as_str.result.now
    c.push_text.new.self c.push_text-2.new.self c.push_text-3.new.self c.push_text-4.new.self c.push_text-5.new.self
    (search rules) c.phrase.ensures (search rules) c.in_ok-push_text.ensures.ok c.in_ok-push_text-2.ensures.ok c.in_ok-push_text-3.ensures.ok c.in_ok-push_text-4.ensures.ok c.in_ok-push_text-5.ensures.ok
