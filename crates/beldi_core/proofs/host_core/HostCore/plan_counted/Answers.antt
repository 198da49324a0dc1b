use Rattle.beldi_core.proofs.{Names.core_in, Plans.planned_as}
use Rattle.beldi_core.proofs.host_core.HostCore.plan_counted.Goals as goal

pub returns-in-Ticket : goal.returns-in-Ticket
returns-in-Ticket c = planned_as c.args.code.now _ (core_in c.args.self.now) (core_in c.plan_ticket.new.self) _ _ _ c.in-Ticket.is (c.plan_ticket.ensures c.args.code.now)

pub returns-in-Lost : goal.returns-in-Lost
returns-in-Lost c = planned_as c.args.code.now _ (core_in c.args.self.now) (core_in c.plan_lost.new.self) _ _ _ c.in-Lost.is (c.plan_lost.ensures c.args.code.now)

pub returns-in-Ic : goal.returns-in-Ic
returns-in-Ic c = planned_as c.args.code.now _ (core_in c.args.self.now) (core_in c.plan_ic.new.self) _ _ _ c.in-Ic.is (c.plan_ic.ensures c.args.code.now)
