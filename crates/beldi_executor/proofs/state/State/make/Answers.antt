use Rattle.beldi_executor.proofs.{Names.ap, Names.bar_made, Names.is_none, Names.kind_of, Names.sym, Names.◌∙◌, Made.acted_so, Made.acts_other, Made.room}
use Rattle.beldi_executor.proofs.state.State.make.Goals as goal

pub returns-in_default : goal.returns-in_default
returns-in_default c = λ q here n free.
    acted_so c.args.self.now c.act.new.self c.args.id.now q c.args.effect.now c.act.result (acts_other c.args.effect.now c.in_default.not-Call c.in_default.not-Async c.in_default.not-Return) here (c.act.ensures q here)

pub call-requires : goal.call-requires
call-requires c = room c.args.id.now (sym (ap (λ e. is_none (bar_made (kind_of c.args.id.now e))) c.in-Call.is) ∙ c.requires)

pub send-requires : goal.send-requires
send-requires c = room c.args.id.now (sym (ap (λ e. is_none (bar_made (kind_of c.args.id.now e))) c.in-Async.is) ∙ c.requires)
