use Rattle.beldi_host.proofs.Names.{Event, Stepped, core_of, is_turn, subst, sym, ◌∙◌}
use Rattle.beldi_host.proofs.host.Host.carry_out.Goals as goal

pub returns-in-Some-clause-step : goal.returns-in-Some-clause-step
returns-in-Some-clause-step g c =
    let t = g.T.Table in
    let h = c.args.self.now in
    let k = c.whole_turn.new.self in
    subst (λ (e : Event). Stepped h.code e (core_of h) (core_of k) (t.state h.table) (t.state k.table) c.whole_turn.result)
    (sym (is_turn c.args.event c.in-Some.run' (sym c.in-Some.is ∙ c.turn_in.ensures))) c.whole_turn.ensures.step
