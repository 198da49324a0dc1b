use Rattle.beldi_core.proofs.Names.{ap, core_in, option_copied, rules, sym, ◌∙◌}
use Rattle.beldi_core.proofs.RunMaps.{walk_told}
use Rattle.beldi_core.proofs.host_core.HostCore.walking.Goals as goal

pub returns-in-Ok : goal.returns-in-Ok
returns-in-Ok c = walk_told (core_in c.args.self.now) c.args.run c.in-Some.found.now c.in-Ok.walk (sym c.get.ensures ∙ ap option_copied c.in-Some.is) (search rules) (search rules) (search rules)
