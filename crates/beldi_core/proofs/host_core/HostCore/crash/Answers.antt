use Rattle.beldi_core.proofs.Names.{ap, core_in, declined_reply, option_copied, rules, sym, ◌∙◌}
use Rattle.beldi_core.proofs.Plans.{idle}
use Rattle.beldi_core.proofs.Names.map
use Rattle.beldi_core.proofs.host_core.HostCore.crash.Goals as goal

pub returns-in_default : goal.returns-in_default
returns-in_default c = idle (core_in c.args.self.now) c.args.run (map.get c.args.self.now.runs.runs c.args.run) (declined_reply c.no_run.result) (sym c.get.ensures ∙ ap option_copied c.in_default.is) (search rules)
