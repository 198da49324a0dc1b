use Rattle.beldi_query.specs.Query.{query_reply_of}
use Rattle.beldi_stage.proofs.Ended.{visits_mark}
use Rattle.beldi_stage.proofs.tx_stage.hear_end.Goals as goal

pub returns-in-Err-clause-err : goal.returns-in-Err-clause-err
returns-in-Err-clause-err c = λ v. visits_mark c.args.id.now c.args.func c.args.step c.args.effect.now v c.args.tx.now (query_reply_of c.args.heard)
