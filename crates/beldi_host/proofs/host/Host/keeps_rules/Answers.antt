use Rattle.beldi_check.proofs.Keeps.{accepts_exactly}
use Rattle.beldi_host.proofs.host.Host.keeps_rules.Goals as goal

-- src/host.rt:89:5
pub returns-clause-rules : goal.returns-clause-rules
returns-clause-rules g c = (accepts_exactly c.args.self.now.code).0 c.code-code.ensures.checked
