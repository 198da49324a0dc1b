use Rattle.beldi_executor.proofs.Names.{Gave, Ok, PlainState, ap, at_one, ended, subst, ◌∙◌}
use Rattle.beldi_executor.proofs.Returned.{left}
use Rattle.beldi_executor.proofs.Names.map
use Rattle.beldi_executor.proofs.state.State.leave.Goals as goal

pub returns-in-Err : goal.returns-in-Err
returns-in-Err c = λ t p q x h g callee. g.draft

pub returns-in-Err-give : goal.returns-in-Err-give
returns-in-Err-give c = λ t p q x h g callee. c.in-Err-give.ensures t p q h g callee.wants

pub returns : goal.returns
returns c = λ t p q x h g callee.
    let o = c.args.outcome.now in
    let m = c.give.new.self in
    let s : PlainState = record { items = c.self.inside.items; made = c.end.new.self } in
    let gave = subst (λ y. Gave c.args.code.now t p q c.args.self.now h c.args.caller y m (Ok c.in-Ok-give.caller)) c.in-Ok.ensures.1 (c.in-Ok-give.ensures t p q h g callee.wants) in
    left c.args.code.now t p q c.args.self.now m s h c.args.id.now x o c.args.caller c.in-Ok-give.caller g callee gave
    (ap (λ (n : PlainState). n.items) c.self.view_is)
    (c.end.ensures
    ∙ ap (λ o. at_one c.self.inside.made c.args.id.now (λ q. ended q o) (map.get c.self.inside.made c.args.id.now)) c.in-Ok.ensures.0
    ∙ ap (λ (n : PlainState). at_one n.made c.args.id.now (λ q. ended q o) (map.get n.made c.args.id.now)) c.self.view_is)
