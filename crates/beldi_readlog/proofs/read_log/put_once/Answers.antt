use Rattle.std.proofs.Common.{rules, refl, Err}
use Rattle.beldi_row.specs.declared.table.TableErr.TheVariants.{OutOfMemory}
use Rattle.beldi_query.proofs.Queries.{unasked}
use Rattle.beldi_readlog.specs.ReadLog.{keep_asks}
use Rattle.beldi_readlog.proofs.read_log.put_once.Goals as goal

pub returns : goal.returns
returns g c = (Err OutOfMemory, (refl, search rules), unasked (keep_asks c.args.home c.args.at.now c.args.value) c.args.now (g.T.Table.state c.args.table.now))

pub returns-2 : goal.returns-2
returns-2 g c = (Err OutOfMemory, (refl, search rules), unasked (keep_asks c.args.home c.args.at.now c.args.value) c.args.now (g.T.Table.state c.args.table.now))
