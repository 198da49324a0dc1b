use Rattle.beldi_core.proofs.{Names.Core, Names.core_in, Names.rules, Plans.tells}
use Rattle.beldi_core.proofs.host_core.HostCore.tell_all.Goals as goal

pub returns-else-is_err : goal.returns-else-is_err
returns-else-is_err c =
    let core = core_in c.args.self.now in
    let now : Core = record core { book = c.write.new.book.entries } in
    tells core now (core_in c.follow-seen.new.self) c.args.run c.args.copies c.args.output c.follow-seen.result (search rules) c.follow-seen.ensures.ok (search rules)
