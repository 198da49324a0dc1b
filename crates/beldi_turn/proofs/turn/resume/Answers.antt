use Rattle.std.proofs.Common.{refl}
use Rattle.beldi_query.specs.Query.{query_reply_of}
use Rattle.beldi_turn.proofs.RunTurns.{told_so, marked_so}
use Rattle.beldi_turn.proofs.turn.resume.Goals as goal

pub returns-in-Ok-clause-turns : goal.returns-in-Ok-clause-turns
returns-in-Ok-clause-turns c =
    told_so c.args.code.now c.args.changes c.args.run.now c.follow.new.run c.in-Begins.begun c.hear.new.begun c.in-Ok.output (query_reply_of c.args.heard) c.follow.result c.in-Begins.is c.in-Ok.ensures.ok c.in-Ok.ensures.left
    (c.follow.ensures.turns c.hear.new.begun refl)

pub returns-in-Err-clause-turns : goal.returns-in-Err-clause-turns
returns-in-Err-clause-turns c =
    marked_so c.args.code.now c.args.changes c.args.run.now c.in-Begins.begun c.in-Err.mark (query_reply_of c.args.heard) c.in-Begins.is c.in-Err.ensures.err
