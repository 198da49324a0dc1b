use Rattle.std.proofs.Common.{refl, Err}
use Rattle.beldi_row.specs.declared.table.TableErr.TheVariants.{OutOfMemory}
use Rattle.beldi_query.proofs.Queries.{unasked}
use Rattle.beldi_readlog.specs.ReadLog.{given_asks}
use Rattle.beldi_readlog.proofs.read_log.get.Goals as goal

pub returns-in_default : goal.returns-in_default
returns-in_default g c = (Err OutOfMemory, (refl, refl), unasked (given_asks c.args.home c.args.at.now) c.args.now (g.T.Table.state c.args.table.now))
