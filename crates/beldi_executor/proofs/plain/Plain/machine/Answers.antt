use Rattle.beldi_executor.proofs.Names.{Executor, IsNumber, PlainState, ap, is_some, sym, waits_at, wants_answer, ◌∙◌}
use Rattle.beldi_executor.proofs.plain.Plain.machine.Goals as goal

pub returns-clause-stands : goal.returns-clause-stands
returns-clause-stands c =
    let id = c.args.id.now in
    let r = c.in_ok-machine.ensures.stands in
    let q = r.instance in
    let e = c.wants.result.now in
    let same = ap (λ (x : Executor). x.state) (c.self.view_is ∙ c.open.ensures.same) in
    let number : IsNumber c.steps.result q e = λ w. c.steps.ensures.number c.args.self.now.code q.func q.args (is_some q.enclosing) q.answers (r.stands.1 (sym (ap wants_answer c.wants.ensures.effect) ∙ w)) in
    record {
      ready = r;
      free =
          ap (waits_at c.args.self.now.state.made id q) (sym r.stands.0 ∙ sym c.wants.ensures.effect)
          ∙ ap (λ (p : PlainState). waits_at p.made id q e) (sym same)
          ∙ sym (c.in-Ok.ensures q number)
          ∙ c.if-waits.false;
    }
