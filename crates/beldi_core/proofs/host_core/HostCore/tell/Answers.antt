use Rattle.beldi_core.proofs.{Names.core_in, Plans.plain_turn}
use Rattle.beldi_core.proofs.host_core.HostCore.tell.Goals as goal

pub returns-in-Some-clause-tells : goal.returns-in-Some-clause-tells
returns-in-Some-clause-tells c = plain_turn (core_in c.args.self.now) c.args.run c.args.copies c.args.output c.in-Some.over c.in-Some.ensures
