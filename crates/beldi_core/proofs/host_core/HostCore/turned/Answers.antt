use Rattle.beldi_core.proofs.{Names.Core, Names.core_in, Names.reply_in, Names.rules, Names.query_reply_of, Plans.told_turn}
use Rattle.beldi_core.proofs.host_core.HostCore.turned.Goals as goal

pub returns-in-Ok-clause-follows : goal.returns-in-Ok-clause-follows
returns-in-Ok-clause-follows c =
    let core = core_in c.args.self.now in
    let now : Core = record core { runs = c.resume.new.self.runs; last_run = c.resume.new.self.given } in
    told_turn c.args.code.now core now (core_in c.tell.new.self) c.resume.new.self.runs c.args.run (query_reply_of c.args.heard) c.args.copies c.in-Ok.output (reply_in c.tell.new.told c.tell.result) (search rules) c.requires.copies (search rules) c.tell.ensures.tells
