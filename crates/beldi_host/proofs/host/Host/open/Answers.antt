use Rattle.beldi_host.proofs.{Names.arith, Names.refl, Names.rules, HostNewest.newest_at, HostInvariant.opened, HostInvariant.opened_rows}
use Rattle.beldi_host.proofs.host.Host.open.Goals as goal

pub returns-in-Ok-clause-ok : goal.returns-in-Ok-clause-ok
returns-in-Ok-clause-ok g c =
    let old = (g.T.Table.state c.args.table).rows in
    let new = (g.T.Table.state c.prepare.new.table).rows in
    let most = c.max.ensures in
    record {
      rows = opened_rows _ c.in-Ok.left.ticket c.in-Ok.left.moment c.args.now old new (search rules) c.in-Ok.ensures.rows;
      core = search rules;
      later_moment = omega (arith, most);
      code_kept = refl;
      room_set = search rules;
      later = c.prepare.ensures.later;
    }

pub returns-in-Ok-clause-right : goal.returns-in-Ok-clause-right
returns-in-Ok-clause-right g c =
    let old = (g.T.Table.state c.args.table).rows in
    let new = (g.T.Table.state c.prepare.new.table).rows in
    opened c.args.code _ c.args.now old new (opened_rows _ c.in-Ok.left.ticket c.in-Ok.left.moment c.args.now old new (search rules) c.in-Ok.ensures.rows)

pub returns-in-Ok-clause-newest : goal.returns-in-Ok-clause-newest
returns-in-Ok-clause-newest g c = newest_at c.in-Ok.left.ticket c.in-Ok.left.moment (g.T.Table.state c.args.table).rows (g.T.Table.state c.prepare.new.table).rows c.in-Ok.ensures.rows
