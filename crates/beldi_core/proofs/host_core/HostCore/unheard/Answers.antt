use Rattle.beldi_core.proofs.{Names.core_in, Names.rules, Names.query_reply_of, Plans.unheard}
use Rattle.beldi_core.proofs.host_core.HostCore.unheard.Goals as goal

pub returns : goal.returns
returns c = unheard c.args.code.now (core_in c.args.self.now) _ c.resume.new.self.runs c.args.run (query_reply_of c.args.heard) c.args.copies c.resume.result c.told_mark-mark.result (search rules) c.requires.copies c.told_mark-mark.ensures (search rules)
