use Rattle.beldi_executor.proofs.{Names.PlainState, Names.ap, Names.refl, Names.◌∙◌, Made.sends_so, Made.unsent}
use Rattle.beldi_executor.proofs.Names.map
use Rattle.beldi_executor.proofs.state.State.send.Goals as goal

pub returns-in-Ok-answer : goal.returns-in-Ok-answer
returns-in-Ok-answer c = λ q here step free.
    let made : PlainState = record { items = c.self.inside.items; made = c.self.inside.made } in (
      sends_so c.args.self.now made c.args.id.now q c.args.func c.args.args.now c.answer.new.self here (c.self.view_is ∙ c.in-Ok.ensures.ok q here step) c.in-Ok-answer.ensures.ok,
      refl,
    )

pub returns : goal.returns
returns c = λ q here step free.
    let made : PlainState = record { items = c.self.inside.items; made = c.self.inside.made } in
    unsent c.args.self.now made c.args.id.now q c.args.step c.args.func c.args.args.now c.forget.new.self free step (c.self.view_is ∙ c.in-Ok.ensures.ok q here step)
    (c.forget.ensures ∙ ap (λ m. map.remove m c.in_ok-callee.callee) c.in-Err-answer.ensures.err ∙ ap (map.remove made.made) c.in_ok-callee.ensures)
