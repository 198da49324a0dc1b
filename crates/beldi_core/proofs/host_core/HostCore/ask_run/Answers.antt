use Rattle.beldi_core.proofs.Names.{ap, core_in, declined_reply, option_copied, rules, sym, ◌∙◌}
use Rattle.beldi_core.proofs.Plans.{idle_turn, turn_without_memory, ended_core}
use Rattle.beldi_core.proofs.host_core.HostCore.ask_run.Goals as goal

pub returns-in_default : goal.returns-in_default
returns-in_default c = idle_turn (core_in c.args.self.now) c.args.run (declined_reply c.no_run.result) (sym c.get.ensures ∙ ap option_copied c.in_default.is) (search rules)

pub returns-in-Err : goal.returns-in-Err
returns-in-Err c =
    let core = core_in c.args.self.now in
    turn_without_memory core _ c.args.run c.in-Some.found.now c.in-Err.why (sym c.get.ensures ∙ ap option_copied c.in-Some.is) (search rules)
    (ended_core core (record core { book = c.asked.new.book.entries }) c.args.run c.remove-in-Err.new.self (λ j. record core { book = c.asked.ensures.entries j }) c.remove-in-Err.ensures)
