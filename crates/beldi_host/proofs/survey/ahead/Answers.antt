use Rattle.std.proofs.Common.{rules}
use Rattle.beldi_host.proofs.Openings.{told_first, told_none}
use Rattle.beldi_host.proofs.survey.ahead.Goals as goal

pub returns-in-None : goal.returns-in-None
returns-in-None g c = told_none (g.T.Table.state c.args.table.now).rows c.args.cursor.now c.root_in.result c.in-None.ensures

pub returns-then-lt-2 : goal.returns-then-lt-2
returns-then-lt-2 g c = told_first (g.T.Table.state c.args.table.now).rows c.args.cursor.now c.root_in-before.result c.in-First.key c.in-First.ensures (search rules)
