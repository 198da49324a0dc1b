use Rattle.beldi_gateway.proofs.{Names.allow_text, Names.body_of, Names.rules, Names.status_of, Responses.composed_same}
use Rattle.beldi_gateway.proofs.response.Response.text.Goals as goal

pub returns : goal.returns
returns c =
    composed_same c.compose.result c.status.result (status_of c.args.self.now) c.as_str.result.now (allow_text c.args.self.now) c.as_str-2.result.now (body_of c.args.self.now)
    c.status.ensures (search rules) (search rules) c.compose.ensures
