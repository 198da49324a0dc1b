use Rattle.beldi_query.specs.Query.{query_reply_of}
use Rattle.beldi_turn.proofs.RunTurns.{begin_so}
use Rattle.beldi_turn.proofs.turn.begin.Goals as goal

pub returns-in-Some-clause-begun : goal.returns-in-Some-clause-begun
returns-in-Some-clause-begun c = begin_so c.args.code.now c.args.run.now c.find.new.run c.begin_body.new.run (query_reply_of c.args.heard) c.in_ok-find.field-0 c.in-Some.body c.begin_body.result c.in_ok-find.ensures.found.1 c.in_ok-find.ensures.found.0 c.in-Some.is c.begin_body.ensures.begun
