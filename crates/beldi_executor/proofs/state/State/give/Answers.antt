use Rattle.beldi_executor.proofs.Names.{IsDraft, PlainState, answered, ap, at_one, subst, sym, ◌∙◌, ◌≡◌}
use Rattle.beldi_executor.proofs.CallStacks.{gives_so, gave}
use Rattle.beldi_executor.proofs.Names.map
use Rattle.beldi_executor.proofs.state.State.give.Goals as goal

pub returns : goal.returns
returns c = λ t p q h g w.
    let id = c.args.active.id in
    let r = c.args.self.now in
    let s : PlainState = record { items = c.self.inside.items; made = c.answer_with.new.self } in
    let made : s.made ≡ at_one r.made id (λ x. answered x c.args.answer) (map.get r.made id) =
    c.in-Ok.ensures.ok
    ∙ ap (λ (t : PlainState). at_one t.made id (λ x. answered x c.args.answer) (map.get t.made id)) c.self.view_is in
    gave c.args.code.now t p q r h c.args.active c.args.answer g s c.resume.result w
    (gives_so r s id g.acts.instance c.args.answer g.acts.made (ap (λ (t : PlainState). t.items) c.self.view_is) made)
    c.resume.ensures

pub returns-in-Err : goal.returns-in-Err
returns-in-Err c = λ t p q h g w.
    let s : PlainState = record { items = c.self.inside.items; made = c.answer_with.new.self } in
    let same : s ≡ c.args.self.now = (λ i. record { items = c.self.inside.items; made = c.in-Err.ensures.err i }) ∙ c.self.view_is in
    subst (λ (n : PlainState). IsDraft t p q n h) (sym same) g.draft
