use Rattle.beldi_session.proofs.{Names.actions_of, Names.ap, Names.sight, SessionCalls.does_no_action}
use Rattle.beldi_session.proofs.session.say.Goals as goal

pub returns-in-Blank : goal.returns-in-Blank
returns-in-Blank g c = λ held faults. does_no_action (actions_of c.args.line) (ap actions_of c.in-Blank.is) (sight c.args.host.now c.args.out.now held faults)
