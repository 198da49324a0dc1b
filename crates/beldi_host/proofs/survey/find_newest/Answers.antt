use Rattle.beldi_host.proofs.Names.{Err, TableErr, ap}
use Rattle.beldi_host.proofs.HostNewest.{newest_came, newest_lost}
use Rattle.beldi_host.proofs.survey.find_newest.Goals as goal

pub returns-in-Ok : goal.returns-in-Ok
returns-in-Ok g c = let t = g.T.Table in newest_came (t.state c.args.table.now) (t.state c.find_high_water.new.table) c.in-Ok.left c.in-Ok.ensures

pub returns-in-Err-OutOfMemory : goal.returns-in-Err-OutOfMemory
returns-in-Err-OutOfMemory g c = let t = g.T.Table in let f = c.in-Err-OutOfMemory in newest_lost (t.state c.args.table.now) (t.state c.find_high_water.new.table) f.field-0 TableErr.OutOfMemory tt (λ e. cc) f.ensures

pub returns-in-Err-Failed : goal.returns-in-Err-Failed
returns-in-Err-Failed g c = let t = g.T.Table in let f = c.in-Err-Failed in newest_lost (t.state c.args.table.now) (t.state c.find_high_water.new.table) f.field-0 TableErr.Failed tt (λ e. ap Err f.field-0-is) f.ensures
