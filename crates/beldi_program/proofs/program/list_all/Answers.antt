use Rattle.beldi_program.proofs.Services.{lists}
use Rattle.beldi_program.proofs.program.list_all.Goals as goal

pub returns : goal.returns
returns g c =
    let k = g.K.Sink in
    let w = c.write_listings-listed in
    lists k.held k.faults c.args.host w.new.host c.args.sink.now w.new.sink c.close.result c.listed_end.result c.new-waiting.result w.new.waiting w.result c.new-waiting.ensures c.close.ensures.table w.ensures.empty w.ensures.does c.listed_end.ensures
