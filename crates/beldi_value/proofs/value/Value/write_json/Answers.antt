use Rattle.beldi_value.proofs.{Names.datum_of, Results.so, ReadAgain.read_again}
use Rattle.beldi_value.proofs.value.Value.write_json.Goals as goal

pub returns-clause-again : goal.returns-clause-again
returns-clause-again c = so c.put.result _ _ (read_again (datum_of c.args.self.now)) c.put.ensures.formed
